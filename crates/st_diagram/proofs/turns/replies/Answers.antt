use Rattle.std.proofs.Common.{string_bytes, ◌∙◌}
use Rattle.st_diagram.specs.Sequence.{reply_line}
use Rattle.st_diagram.proofs.TextLemmas.{one_index_more}
use Rattle.st_diagram.proofs.turns.replies.Goals as goal

-- the line of one request more
pub loop-tag-preserved : goal.loop-tag-preserved
loop-tag-preserved c =
    one_index_more reply_line c.loop-tag.tag-index c.args.replied.now (record { machine = record { slot = 0; serial = 0 }; request = 0 })
    (string_bytes c.args.text) (string_bytes c.loop-tag.text) c.as_str.result.now (string_bytes c.push_str.new.self)
    c.loop-tag-test.true c.loop-tag.invariant (c.as_str.ensures.value ∙ c.in_ok-line.ensures.ok) c.in_ok-push_str.ensures.bytes

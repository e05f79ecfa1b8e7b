use Rattle.std.proofs.Common.{string_bytes, ◌∙◌, sym, append-nil}
use Rattle.st_diagram.specs.Sequence.{head_with, entry_lines}
use Rattle.st_diagram.proofs.TextLemmas.{one_piece_more}
use Rattle.st_diagram.proofs.sequencing.sequence.Goals as goal

-- the first words, and no entry's line yet
pub loop-entry-init : goal.loop-entry-init
loop-entry-init g c = c.in_ok-text.ensures.ok ∙ sym (append-nil (head_with c.args.label.now))

-- the lines of one entry more
pub loop-entry-preserved : goal.loop-entry-preserved
loop-entry-preserved g c =
    one_piece_more (entry_lines (g.N.DiagramNames.state_is c.args.names.now) (g.N.DiagramNames.content_is c.args.names.now))
    c.loop-entry.entry-index c.args.entries.now c.entry-item.result (head_with c.args.label.now) (string_bytes c.loop-entry.text)
    c.as_str.result.now (string_bytes c.push_str.new.self)
    c.loop-entry-test.true c.entry-item.is c.loop-entry.invariant (c.as_str.ensures.value ∙ c.in_ok-lines.ensures) c.in_ok-push_str.ensures.bytes

use Rattle.std.proofs.Common.{◌≡◌, ◌≤◌, None, length, string_bytes, slice_get, option_copied, sym, ap, ◌∙◌, arith}
use Rattle.st_diagram.specs.Marks.{mark_of}
use Rattle.st_diagram.proofs.TextLemmas.{one_found_more, missing_is_past}
use Rattle.st_events.proofs.Given.{given}
use Rattle.st_diagram.proofs.marks.marks.Goals.{in-Some+in_ok-push_str, in_default}
use Rattle.st_diagram.proofs.marks.marks.Goals as goal

-- one mark more: each index has an action
pub loop-index-preserved : goal.loop-index-preserved
loop-index-preserved g c = elim c.match-get.branch [
  | in-Some+in_ok-push_str w ↦ (
    ap string_bytes w.text-is ∙ one_found_more mark_of c.loop-index.index c.args.actions.now w.in-Some.action.now
        c.args.word.now (string_bytes c.loop-index.text) w.mark.result.now (string_bytes w.push_str.new.self)
        (sym w.in-Some.ensures.element) c.loop-index.invariant.0 w.mark.ensures w.in_ok-push_str.ensures.bytes,
    c.loop-index.invariant.1,
  )
  | in_default w ↦
      let missing : slice_get c.args.actions.now c.loop-index.index ≡ None = sym c.get.ensures.element ∙ ap option_copied w.in_default.is in
      let past : length c.args.actions.now ≤ c.loop-index.index = missing_is_past c.args.actions.now c.loop-index.index missing in
      absurd (omega arith)
]

-- the layout is a hypothesis
pub len-index-end-requires : goal.len-index-end-requires
len-index-end-requires g c = search given

pub get-requires : goal.get-requires
get-requires g c = search given

use Rattle.std.proofs.Common.{ap, ◌∙◌, arith}
use Rattle.std.proofs.lemmas.List.{take_all}
use Rattle.st_actions.specs.Joined.{is_set_by}
use Rattle.st_actions.specs.Noted.{is_noted, room}
use Rattle.st_actions.proofs.JoinLemmas.{one_more_noted, is_there}
use Rattle.st_events.proofs.Given.{given}
use Rattle.st_actions.proofs.joining.timers_of.Goals as goal
use Rattle.st_actions.proofs.joining.timers_of.Goals.{in-Some, in_default}

pub loop-index-preserved : goal.loop-index-preserved
loop-index-preserved g c =
    let kept = c.loop-index.invariant in
    elim c.match-get.branch [
      | in-Some w ↦ record {
        noted = λ timer. ap (is_noted timer) w.noted-is
            ∙ one_more_noted timer c.args.settings.now c.loop-index.index w.in-Some.setting.now _ _ w.in-Some.ensures.element (kept.noted timer) (w.note.ensures.noted timer);
        room = omega (arith, kept.room, w.note.ensures.room, ap room w.noted-is);
      }
      | in_default w ↦
          absurd (is_there c.args.settings.now c.loop-index.index (omega (arith, c.loop-index-test.true, c.len-count.ensures.length)) w.in_default.ensures.element)
    ]

pub returns-clause-noted : goal.returns-clause-noted
returns-clause-noted g c timer =
    c.loop-index.invariant.noted timer
    ∙ ap (is_set_by timer) (take_all c.loop-index.index c.args.settings.now (omega (arith, c.loop-index-test.false, c.len-count.ensures.length)))

-- the list is the caller's, and so is its layout
pub get-requires : goal.get-requires
get-requires g c = search given

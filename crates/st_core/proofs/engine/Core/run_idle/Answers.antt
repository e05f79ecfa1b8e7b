use Rattle.std.proofs.Common.{◌≡◌, true, [], refl, arith}
use Rattle.st_agenda.proofs.NothingLemmas.{inserted_nothing}
use Rattle.st_outbox.proofs.OutboxLemmas.{with_sent-nothing}
use Rattle.st_outbox.specs.Outbox.{first_outbox}
use Rattle.st_core.specs.Start.{first_state, with_begun}
use Rattle.st_core.specs.Transition.{has_numbers}
use Rattle.st_core.proofs.StartLemmas.{started_is}
use Rattle.st_core.proofs.StateLemmas.{begun_keeps}
use Rattle.st_core.proofs.TransitionLemmas.{both_true, none_wanted, no_message_wanted}
use Rattle.st_core.proofs.engine.Core.run_idle.Goals as goal

-- the machine runs
pub returns : goal.returns
returns g c =
    record {
      start = λ called same_calls same_actions.
          let machine = first_state c.args.opening.id c.args.state c.args.data c.args.opening.now c.args.opening.first in
          let enough : has_numbers machine called ≡ true =
          rw same_actions (both_true (none_wanted c.args.opening.first (omega (arith, c.requires.greatest))) (no_message_wanted 1 (omega arith))) in
          let same : with_begun machine [] ≡ machine = rw (inserted_nothing machine.schedule, with_sent-nothing c.args.opening.id first_outbox) refl in
          started_is _ c.args.opening.module machine called enough
          (rw (same_actions, same, c.new.ensures, c.new-2.ensures, c.new-3.ensures) refl)
          (rw (c.into_report-report.ensures, c.requires.empty.replied, c.requires.empty.inserted, c.requires.empty.set, c.requires.empty.sent, same_calls, same_actions) refl);
    }

-- it can come about
pub invariant_of-core : goal.invariant_of-core
invariant_of-core g c =
    let kept = begun_keeps {C = g.row.M-Content.Denot} c.args.opening.id c.args.opening.now c.args.opening.first [] [] [] c.requires.moment tt (omega (arith, c.requires.greatest)) (omega arith) in
    rw (c.new.ensures, c.new-2.ensures, c.new-3.ensures)
    (rw (inserted_nothing (first_state c.args.opening.id c.args.state c.args.data c.args.opening.now c.args.opening.first).schedule, with_sent-nothing c.args.opening.id first_outbox) at kept)

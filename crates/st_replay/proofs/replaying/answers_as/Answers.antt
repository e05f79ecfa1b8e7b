use Rattle.st_replay.proofs.ReplayLemmas.{did_entry}
use Rattle.st_replay.proofs.replaying.answers_as.Goals as goal

pub returns : goal.returns
returns g c =
    let did =
    did_entry _ _ _ c.args.entry.now _ _ _ _ c.in_ok-command.ensures c.step-answer.ensures.does c.step-answer.ensures.unchanged
    c.compared.ensures.same c.compared.ensures.refusals in
    record { same = did.0; next = did.1; unchanged = did.2 }

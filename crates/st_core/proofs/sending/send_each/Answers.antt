use Rattle.std.proofs.Common.{◌≡◌, [], sym, arith}
use Rattle.std.proofs.lemmas.List.{nil_from_length}
use Rattle.st_actions.specs.Plan.{sends_of}
use Rattle.st_outbox.proofs.OutboxLemmas.{with_sent-nothing}
use Rattle.st_core.proofs.sending.send_each.Goals as goal

-- there is nothing to be sent
pub returns-else-count-gt0 : goal.returns-else-count-gt0
returns-else-count-gt0 g c =
    let none : sends_of c.args.actions.now ≡ [] = nil_from_length (sends_of c.args.actions.now) (omega (arith, c.requires.count, c.if-count-gt0.false)) in
    rw none (sym (with_sent-nothing c.args.sender c.args.outgoing.now.outbox))

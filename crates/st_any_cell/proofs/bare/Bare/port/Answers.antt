use Rattle.std.proofs.Common.{refl, ◌∙◌}
use Rattle.st_cell.proofs.TellingLemmas.{one_port_more}
use Rattle.st_any_cell.proofs.bare.Bare.port.Goals as goal

-- there was no memory for the count
pub returns-then-is_err-clause-number : goal.returns-then-is_err-clause-number
returns-then-is_err-clause-number g c = tt

pub returns-then-is_err-clause-opened : goal.returns-then-is_err-clause-opened
returns-then-is_err-clause-opened g c = tt

pub returns-then-is_err-clause-refusals : goal.returns-then-is_err-clause-refusals
returns-then-is_err-clause-refusals g c = refl

pub returns-then-is_err-clause-unchanged : goal.returns-then-is_err-clause-unchanged
returns-then-is_err-clause-unchanged g c = rw (c.push.ensures.items, c.if-is_err.ensures.negation) refl

-- the port was opened
pub returns-clause-number : goal.returns-clause-number
returns-clause-number g c =
    c.len.ensures ∙ (c.push.new.self.ok.0
    ∙ one_port_more c.push.new.self.items c.args.self.now.ports.items c.args.self.now.ports.items (rw c.if-is_err.ensures.negation at c.push.ensures.items) refl)

pub returns-clause-opened : goal.returns-clause-opened
returns-clause-opened g c = rw (c.push.ensures.items, c.if-is_err.ensures.negation) refl

pub returns-clause-refusals : goal.returns-clause-refusals
returns-clause-refusals g c = tt

pub returns-clause-unchanged : goal.returns-clause-unchanged
returns-clause-unchanged g c = tt

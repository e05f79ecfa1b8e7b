use Rattle.std.proofs.Common.{refl, ap, ◌∙◌, length, arith}
use Rattle.st_cell.proofs.journaled.Journaled.new.Goals as goal

-- the journal is empty, with a place
pub returns-clause-begun : goal.returns-clause-begun
returns-clause-begun g c =
    rw (c.new-2.ensures, c.in-Ok-snapshot.ensures.snapshot, c.in-Ok.ensures.items, c.new-3.ensures.items, c.snapshot.ensures.unchanged) refl

pub returns-clause-room : goal.returns-clause-room
returns-clause-room g c runs =
    let items = ap length c.in-Ok.ensures.items in
    let capacity = c.in-Ok.ensures.capacity in
    omega (arith, items, capacity)

pub returns-clause-lawful : goal.returns-clause-lawful
returns-clause-lawful g c = c.a_machine_is_lawful.ensures

pub returns-clause-refusals : goal.returns-clause-refusals
returns-clause-refusals g c = tt

pub returns-clause-returned : goal.returns-clause-returned
returns-clause-returned g c = tt

-- there was no memory for the journal
pub returns-in_default-clause-begun : goal.returns-in_default-clause-begun
returns-in_default-clause-begun g c = tt

pub returns-in_default-clause-room : goal.returns-in_default-clause-room
returns-in_default-clause-room g c = tt

pub returns-in_default-clause-lawful : goal.returns-in_default-clause-lawful
returns-in_default-clause-lawful g c = c.a_machine_is_lawful.ensures

pub returns-in_default-clause-refusals : goal.returns-in_default-clause-refusals
returns-in_default-clause-refusals g c = ap (λ refused. refused.refusal) c.new.ensures

pub returns-in_default-clause-returned : goal.returns-in_default-clause-returned
returns-in_default-clause-returned g c = ap (λ refused. refused.value) c.new.ensures

-- or none for the base
pub returns-in-Err-clause-begun : goal.returns-in-Err-clause-begun
returns-in-Err-clause-begun g c = tt

pub returns-in-Err-clause-room : goal.returns-in-Err-clause-room
returns-in-Err-clause-room g c = tt

pub returns-in-Err-clause-lawful : goal.returns-in-Err-clause-lawful
returns-in-Err-clause-lawful g c = c.a_machine_is_lawful.ensures

pub returns-in-Err-clause-refusals : goal.returns-in-Err-clause-refusals
returns-in-Err-clause-refusals g c = ap (λ refused. refused.refusal) c.new-in-Err.ensures ∙ c.in-Err.ensures.refusals

pub returns-in-Err-clause-returned : goal.returns-in-Err-clause-returned
returns-in-Err-clause-returned g c = ap (λ refused. refused.value) c.new-in-Err.ensures ∙ c.snapshot.ensures.unchanged

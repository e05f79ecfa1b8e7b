use Rattle.std.proofs.Common.{◌≡◌, ap, ◌∙◌}
use Rattle.st_core.specs.Run.{step_of}
use Rattle.st_doors.specs.Doors.{DoorMachine, KeptDoor, door_callbacks, kept_told_by, source_of}
use Rattle.st_doors.specs.Entries.{DoorCellState, ScheduledDoor, door_in, machine_in, past_in}
use Rattle.st_doors.proofs.CellLemmas.{cell-after, cell-still, door-still, door-told}
use Rattle.st_doors.proofs.DoorLemmas.{if_ok, on_err, on_ok}
use Rattle.st_doors.proofs.door_cell.DoorCell.tell.Goals as goal

-- the history stays whole where it is put by, and a command leaves its entry in it
pub make_ready-requires : goal.make_ready-requires
make_ready-requires c = rw c.deref_mut.ensures.value c.self.invariant.whole

pub invariant_of-self : goal.invariant_of-self
invariant_of-self c =
    cell-still (past_in c.make_ready.new.past) (past_in c.self.inside.past) c.self.inside.cell.value c.make_ready.new.cell c.self.invariant
    (rw c.deref_mut.ensures.value at c.make_ready.ensures.history) (rw c.deref_mut.ensures.value at c.make_ready.ensures.same) (rw c.deref_mut.ensures.value at c.make_ready.ensures.ports)

pub invariant_of-self-2 : goal.invariant_of-self-2
invariant_of-self-2 c =
    let past = past_in c.make_ready.new.past in
    let before = past_in c.self.inside.past in
    let old : DoorCellState = c.self.inside.cell.value in
    let mid : DoorCellState = c.make_ready.new.cell in
    let new : DoorCellState = c.tell.new.cell in
    cell-after c.tell.result past before old mid new (source_of c.args.command) c.args.command c.self.invariant
    (rw c.deref_mut.ensures.value at c.make_ready.ensures.history) (rw c.deref_mut.ensures.value at c.make_ready.ensures.same) (rw c.deref_mut.ensures.value at c.make_ready.ensures.ports) (rw c.deref_mut-2.ensures.value at c.tell.ensures.ports) (rw c.deref_mut-2.ensures.value at c.tell.ensures.told) (rw c.deref_mut-2.ensures.value at c.tell.ensures.unchanged)

pub returns-clause-answer : goal.returns-clause-answer
returns-clause-answer c =
    let machine : machine_in c.make_ready.new.cell ≡ c.args.self.now.machine =
    ap (λ (scheduled : ScheduledDoor). scheduled.core.machine) (rw c.deref_mut.ensures.value at c.make_ready.ensures.same) ∙ ap (λ (door : KeptDoor). door.machine) c.self.view_is in
    if_ok _ _ c.tell.result (λ said says. says ∙ ap (λ (machine : DoorMachine). (step_of door_callbacks machine c.args.command).0) machine) (rw c.deref_mut-2.ensures.value at c.tell.ensures.answer)

pub returns-clause-told : goal.returns-clause-told
returns-clause-told c =
    let past = past_in c.make_ready.new.past in
    let before = past_in c.self.inside.past in
    let old : DoorCellState = c.self.inside.cell.value in
    let mid : DoorCellState = c.make_ready.new.cell in
    let new : DoorCellState = c.tell.new.cell in
    on_ok _ _ c.tell.result (λ told. door-told past before old mid new (source_of c.args.command) c.args.command c.self.invariant (rw c.deref_mut.ensures.value at c.make_ready.ensures.history) (rw c.deref_mut.ensures.value at c.make_ready.ensures.same) told
    ∙ ap (kept_told_by (source_of c.args.command) c.args.command) c.self.view_is) (rw c.deref_mut-2.ensures.value at c.tell.ensures.told)

pub returns-clause-unchanged : goal.returns-clause-unchanged
returns-clause-unchanged c =
    let past = past_in c.make_ready.new.past in
    let before = past_in c.self.inside.past in
    let old : DoorCellState = c.self.inside.cell.value in
    let mid : DoorCellState = c.make_ready.new.cell in
    let new : DoorCellState = c.tell.new.cell in
    on_err _ _ c.tell.result (λ same. ap (door_in past) same ∙ (door-still past before old mid (rw c.deref_mut.ensures.value at c.make_ready.ensures.history) (rw c.deref_mut.ensures.value at c.make_ready.ensures.same) ∙ c.self.view_is)) (rw c.deref_mut-2.ensures.value at c.tell.ensures.unchanged)

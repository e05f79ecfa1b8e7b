use Rattle.std.proofs.Common.{◌≡◌, ◌∙◌, ap, sym}
use Rattle.st_due.specs.Machines.{Noted}
use Rattle.st_doors.specs.Notes.{noted_at}
use Rattle.st_doors.proofs.NotesLemmas.{awake-back, by_serial-back, first-ready, none-ready}
use Rattle.st_doors.proofs.due_doors.first_ready.Goals as goal

-- the first that is awake is ready
pub returns-in-Some-ready_place-clause-first : goal.returns-in-Some-ready_place-clause-first
returns-in-Some-ready_place-clause-first c =
    first-ready c.loop-machine.awake.machines c.args.doors.now c.in-Some.machine c.in-Some-ready_place.place c.loop-machine.invariant.awake (sym c.take_first.ensures.first ∙ c.in-Some.is)
    c.loop-machine.invariant.order c.loop-machine.invariant.by_serial c.serials_rise.ensures c.in-Some-ready_place.ensures.place c.in-Some-ready_place.ensures.ready

pub returns-in-Some-ready_place-clause-awake : goal.returns-in-Some-ready_place-clause-awake
returns-in-Some-ready_place-clause-awake c =
    let put_back : c.note.new.self.machines ≡ noted_at c.in-Some.machine c.in-Some.machine.serial c.take_first.new.queue.machines = ap (λ (noted : Noted). noted.machines) c.note.ensures in
    awake-back c.loop-machine.awake.machines c.note.new.self.machines c.args.doors.now c.in-Some.machine c.loop-machine.invariant.awake (sym c.take_first.ensures.first ∙ c.in-Some.is)
    (rw c.take_first.ensures.others at put_back)

pub returns-in-Some-ready_place-clause-by_serial : goal.returns-in-Some-ready_place-clause-by_serial
returns-in-Some-ready_place-clause-by_serial c =
    let put_back : c.note.new.self.machines ≡ noted_at c.in-Some.machine c.in-Some.machine.serial c.take_first.new.queue.machines = ap (λ (noted : Noted). noted.machines) c.note.ensures in
    by_serial-back c.loop-machine.awake.machines c.note.new.self.machines c.in-Some.machine (rw c.take_first.ensures.others at put_back) c.loop-machine.invariant.by_serial

-- no door is awake
pub returns-clause-none : goal.returns-clause-none
returns-clause-none c = none-ready c.loop-machine.awake.machines c.args.doors.now c.loop-machine.invariant.awake (sym c.take_first.ensures.first ∙ c.in_default.is)

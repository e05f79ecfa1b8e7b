use Rattle.std.specs.HashMap.{spare}
use Rattle.std.proofs.Common.{sym}
use Rattle.st_due.proofs.PlacesLemmas.{sound_left, forgotten, not_there}
use Rattle.st_due.proofs.due_queue.DueQueue.forget.Goals as goal

pub returns-in_default : goal.returns-in_default
returns-in_default c =
    let inside = c.self.inside in
    rw (← c.self.view_is) (not_there c.args.machine inside.moments.entries inside.tournament (spare inside.moments) inside.ready c.self.invariant
    c.swap_remove_full.new.self.entries c.in_default.ensures.value c.in_default.ensures.unchanged)

pub invariant_of-self-2 : goal.invariant_of-self-2
invariant_of-self-2 c =
    let inside = c.self.inside in
    let taken = c.swap_remove_full.ensures in
    sound_left c.args.machine inside.moments.entries inside.tournament (spare inside.moments) inside.ready c.self.invariant
    c.swap_remove_full.new.self.entries c.set.new.self c.set-2.new.self (spare c.swap_remove_full.new.self) c.in-Some.place c.len-last.result c.due_at.result
    (sym c.in-Some.ensures.index) taken.entries taken.unique c.in-Some.ensures.len c.len-last.ensures.len c.due_at.ensures c.set.ensures c.set-2.ensures taken.room.0

pub returns : goal.returns
returns c =
    let inside = c.self.inside in
    let taken = c.swap_remove_full.ensures in
    rw (← c.self.view_is) (forgotten c.args.machine inside.moments.entries inside.tournament (spare inside.moments) inside.ready c.self.invariant
    c.swap_remove_full.new.self.entries c.set.new.self c.set-2.new.self (spare c.swap_remove_full.new.self) c.in-Some.place c.len-last.result c.due_at.result
    (sym c.in-Some.ensures.index) taken.entries taken.unique c.in-Some.ensures.len c.len-last.ensures.len c.due_at.ensures c.set.ensures c.set-2.ensures taken.room.0)

use Rattle.std.proofs.Common.{sym, ◌∙◌, arith}
use Rattle.std.specs.HashMap.{spare}
use Rattle.std.proofs.lemmas.Bool.{not-true, not-false}
use Rattle.st_due.proofs.PlacesLemmas.{may_put, place_fits, some_ready, sound_new, sound_again, noted_new, noted_again}
use Rattle.st_due.proofs.due_queue.DueQueue.note.Goals as goal

pub put-place-requires : goal.put-place-requires
put-place-requires c =
    let inside = c.self.inside in
    may_put c.args.machine inside.moments.entries inside.tournament (spare inside.moments) inside.ready c.self.invariant (rw (← c.self.view_is) at c.requires)

pub set-requires : goal.set-requires
set-requires c =
    let inside = c.self.inside in
    rw c.put-place.ensures.place (place_fits c.args.machine inside.moments.entries inside.tournament (spare inside.moments) inside.ready c.self.invariant (rw (← c.self.view_is) at c.requires))

pub overflow_sub-self : goal.overflow_sub-self
overflow_sub-self c =
    let inside = c.self.inside in
    some_ready c.args.machine inside.moments.entries inside.tournament (spare inside.moments) inside.ready c.self.invariant (rw (← c.self.view_is) at c.requires)
    (not-true _ (sym c.put-place.ensures.new ∙ c.if-new.true))

pub invariant_of-self : goal.invariant_of-self
invariant_of-self c =
    let inside = c.self.inside in
    let put = c.put-place.ensures in
    sound_new c.args.machine inside.moments.entries inside.tournament (spare inside.moments) inside.ready c.self.invariant c.args.moment
    c.put-place.new.moments.entries c.set.new.self (spare c.put-place.new.moments) c.put-place.result.0 (rw (← c.self.view_is) at c.requires)
    put.place put.entries put.unique c.set.ensures (not-true _ (sym put.new ∙ c.if-new.true)) (rw c.if-new.true at put.spare)

pub invariant_of-self-else-new : goal.invariant_of-self-else-new
invariant_of-self-else-new c =
    let inside = c.self.inside in
    let put = c.put-place.ensures in
    sound_again c.args.machine inside.moments.entries inside.tournament (spare inside.moments) inside.ready c.self.invariant c.args.moment
    c.put-place.new.moments.entries c.set.new.self (spare c.put-place.new.moments) c.put-place.result.0 (rw (← c.self.view_is) at c.requires)
    put.place put.entries put.unique c.set.ensures (not-false _ (sym put.new ∙ c.if-new.false)) (omega (arith, rw c.if-new.false at put.spare))

pub returns-then-new : goal.returns-then-new
returns-then-new c =
    let inside = c.self.inside in
    let put = c.put-place.ensures in
    rw (← c.self.view_is) (noted_new c.args.machine inside.moments.entries inside.tournament (spare inside.moments) inside.ready c.self.invariant c.args.moment
    c.put-place.new.moments.entries c.set.new.self (spare c.put-place.new.moments) c.put-place.result.0 (rw (← c.self.view_is) at c.requires)
    put.place put.entries put.unique c.set.ensures (not-true _ (sym put.new ∙ c.if-new.true)))

pub returns-else-new : goal.returns-else-new
returns-else-new c =
    let inside = c.self.inside in
    let put = c.put-place.ensures in
    rw (← c.self.view_is) (noted_again c.args.machine inside.moments.entries inside.tournament (spare inside.moments) inside.ready c.self.invariant c.args.moment
    c.put-place.new.moments.entries c.set.new.self (spare c.put-place.new.moments) c.put-place.result.0 (rw (← c.self.view_is) at c.requires)
    put.place put.entries put.unique c.set.ensures (not-false _ (sym put.new ∙ c.if-new.false)))

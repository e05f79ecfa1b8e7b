use Rattle.std.proofs.Common.{◌≡◌, ◌++◌, ◌-◌, arith, ap, sym, ◌∙◌, length}
use Rattle.std.specs.Option.{option_to_list, option_flatten}
use Rattle.st_events.specs.Places.{present}
use Rattle.st_events.proofs.PlacesLemmas.{full-take, present-fewer, none_where_empty, empty_gives_none, none_keeps}
use Rattle.st_events.proofs.small_list.SmallList.pop.Goals as goal
use Rattle.st_events.proofs.small_list.SmallList.pop.Goals.{in-Some, in-None}

pub invariant_of-self : goal.invariant_of-self
invariant_of-self g c = (
  omega (arith, c.self.invariant.0, c.pop.ensures.capacity),
  rw c.pop.ensures.rest (full-take (length c.self.inside.elements.items - 1) c.self.inside.elements.items c.self.invariant.1),
)

module _ (g : _) (c : goal.Joined-pop g) where
  -- what is answered is what stood at the place that was taken out
  flat : c.match-pop.result ≡ option_flatten c.pop.result
  flat = elim c.match-pop.branch [
    | in-Some w ↦ w.result-is ∙ sym (ap option_flatten w.in-Some.is)
    | in-None w ↦ w.result-is ∙ sym (ap option_flatten w.in-None.is)
  ]

  taken : c.args.self.now ≡ present c.pop.new.self.items ++ option_to_list c.match-pop.result
  taken = rw (flat, ← c.self.view_is) (present-fewer c.self.inside.elements.items c.pop.new.self.items c.pop.result c.pop.ensures.items)

pub returns-clause-popped : goal.returns-clause-popped
returns-clause-popped g c = taken g c

pub returns-clause-end : goal.returns-clause-end
returns-clause-end g c = (
  λ none. rw (← c.self.view_is) (none_where_empty _ c.pop.new.self.items c.pop.result c.self.invariant.1 c.pop.ensures.items c.pop.ensures.variant.1 (rw (← flat g c) none)),
  λ empty. empty_gives_none _ (present c.pop.new.self.items) c.match-pop.result (taken g c) empty,
)

pub returns-clause-unchanged : goal.returns-clause-unchanged
returns-clause-unchanged g c = none_keeps _ (present c.pop.new.self.items) c.match-pop.result (taken g c)

use Rattle.std.proofs.Common.{◌≡◌, ℕ, ◌-◌, ◌+◌, List, [], ◌∷◌, Some, refl, arith, ap, ◌∙◌, length, length-append}
use Rattle.st_events.specs.Building.{Building}
use Rattle.st_events.specs.Places.{present}
use Rattle.st_events.proofs.PlacesLemmas.{present-more, full-more}
use Rattle.st_events.proofs.small_list_builder.SmallListBuilder.push.Goals as goal

-- one of the reserved places is taken
less_room : (used more before after : ℕ) → more ≡ used + 1 → after ≡ before → after - more ≡ before - used - 1
less_room used more before after longer same = omega (arith, longer, same)

abbrev the_building : {T : Type 0} → List T → ℕ → Building T
the_building items reserved = record { items = items; reserved = reserved }

same_building : {T : Type 0} (old new : List T) (before after : ℕ) → new ≡ old → after ≡ before
    → the_building new after ≡ the_building old before
same_building old new before after items reserved = rw (items, reserved) refl

-- one of the reserved places is left
pub push_reserved-requires : goal.push_reserved-requires
push_reserved-requires g c =
    let reserved = ap (λ building. building.reserved) c.self.view_is in
    (omega arith, omega (arith, c.requires, reserved))

pub invariant_of-self : goal.invariant_of-self
invariant_of-self g c = (
  omega (arith, c.self.invariant.0, c.push_reserved.ensures.capacity),
  rw c.push_reserved.ensures.items (full-more c.self.inside.elements.items c.args.element c.self.invariant.1),
)

pub returns : goal.returns
returns g c =
    let old = c.self.inside.elements in
    let new = c.push_reserved.new.self in
    let longer = ap length c.push_reserved.ensures.items ∙ length-append old.items (Some c.args.element ∷ []) in
    record {
      pushed = rw (← c.self.view_is) (same_building _ _ _ _
          (ap present c.push_reserved.ensures.items ∙ present-more old.items (Some c.args.element))
          (less_room (length old.items) (length new.items) old.capacity new.capacity longer c.push_reserved.ensures.capacity));
    }

use Rattle.std.proofs.Common.{◌≡◌, ◌<◌, ◌≤◌, ℕ, false, true, length, refl, sym, ◌∙◌, arith}
use Rattle.std.proofs.lemmas.List.{set_past}
use Rattle.st_events.proofs.PlacesLemmas.{held-at, held-past}
use Rattle.st_events.proofs.small_list.replace_in.Goals as goal

not_below : (n m : ℕ) → (n < m → false ≡ true) → m ≤ n
not_below n m none = grind (arith, none)

-- the place is there
pub returns-in-Some-clause-replaced : goal.returns-in-Some-clause-replaced
returns-in-Some-clause-replaced g c =
    c.replace.ensures.value ∙ held-at c.args.places.now.items c.args.index c.in-Some.place.now (c.in-Some.ensures.variant.0 refl) c.in-Some.ensures.value

pub returns-in-Some-clause-put_in : goal.returns-in-Some-clause-put_in
returns-in-Some-clause-put_in g c = rw c.replace.ensures.after refl

-- there are not so many places
pub returns-in-None-clause-replaced : goal.returns-in-None-clause-replaced
returns-in-None-clause-replaced g c =
    held-past c.args.places.now.items c.args.index (not_below c.args.index (length c.args.places.now.items) c.in-None.ensures.variant.1)

pub returns-in-None-clause-put_in : goal.returns-in-None-clause-put_in
returns-in-None-clause-put_in g c =
    sym (set_past c.args.places.now.items c.args.index _ (not_below c.args.index (length c.args.places.now.items) c.in-None.ensures.variant.1))

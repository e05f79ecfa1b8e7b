use Rattle.st_doors.specs.Doors.{has_name}
use Rattle.st_doors.specs.Late.{caught_up}
use Rattle.std.proofs.Common.{◌≡◌, Bool, List, [], ◌∷◌, None, map, refl, inl, inr}
use Rattle.std.specs.List.{find}
use Rattle.std.proofs.lemmas.Bool.{cases_Bool}
use Rattle.st_doors.proofs.DoorLemmas.{IsFirst-map}
use Rattle.st_doors.proofs.LateDoorsLemmas.{some_more, none_more}
use Rattle.st_doors.proofs.late_doors.LateDoors.place_of.Goals as goal

find-map : {X Y : Type 0} (f : X → Y) (test : Y → Bool) (xs : List X) → find (λ x. test (f x)) xs ≡ None → find test (map f xs) ≡ None
find-map f test [] h = refl
find-map f test (x ∷ xs) h = elim (cases_Bool (test (f x))) [
  | inl passes ↦ let some = rw passes at h in cc
  | inr fails ↦ let rest = rw fails at h in rw fails (find-map f test xs rest)
]

-- a late tick leaves the names
pub returns-clause-place : goal.returns-clause-place
returns-clause-place c = some_more _ _ c.place_of.result
    (λ place first. rw (← c.self.view_is) (IsFirst-map (caught_up c.self.inside.late) (has_name c.args.name.now) c.self.inside.doors place first)) c.place_of.ensures.place

pub returns-clause-missing : goal.returns-clause-missing
returns-clause-missing c = none_more _ _ c.place_of.result
    (λ none. rw (← c.self.view_is) (find-map (caught_up c.self.inside.late) (has_name c.args.name.now) c.self.inside.doors none)) c.place_of.ensures.missing

-- A machine found by the place of its id, and changed there.
use Rattle.std.proofs.Common.{◌≡◌, ℕ, zero, suc, ◌<◌, ◌≤◌, true, false, inl, inr, List, [], ◌∷◌, length, map, slice_set, slice_index_or, nat_lt, Some, None, IfSome, sym, refl, ap, ◌∙◌, arith}
use Rattle.std.specs.Prelude.{Option}
use Rattle.std.specs.List.{position_or_len}
use Rattle.std.proofs.lemmas.Bool.{cases_Bool, ltb-false}
use Rattle.std.proofs.lemmas.List.Quantifiers.{position-Some}
use Rattle.st_events.specs.declared.token.Token.{Token}
use Rattle.st_events.specs.declared.machine_id.MachineId.{MachineId}
use Rattle.st_scheduled.specs.ScheduledMachine.{ScheduledMachine, same_id, id_of, is_callers}
use Rattle.st_pool_core.specs.PoolState.{machine_of, place_of, changed_for, is_with_callers}
use Rattle.st_scheduled.proofs.TokensCompared.{same_id_self}
use Rattle.st_pool_core.proofs.IdLemmas.{changed_same}
use Rattle.st_pool_core.proofs.MachineLookups.{found_id}

module _ {M S D C : Type 0} where
  -- at this place stands the first machine of an id
  abbrev pub IsPlaceOf : MachineId → List (ScheduledMachine M S D C) → ℕ → Type 0
  IsPlaceOf id [] place = ⊥
  IsPlaceOf id (one ∷ others) zero = same_id id (id_of one) ≡ true
  IsPlaceOf id (one ∷ others) (suc place) = (same_id id (id_of one) ≡ false) × IsPlaceOf id others place

  is_place : (id : MachineId) (machines : List (ScheduledMachine M S D C)) (place : ℕ) (d : MachineId) → place < length (map id_of machines)
      → same_id id (slice_index_or (map id_of machines) place d) ≡ true
      → ((k : ℕ) → k < place → same_id id (slice_index_or (map id_of machines) k d) ≡ false) → IsPlaceOf id machines place
  is_place id [] place d within here before = absurd (omega (arith, within))
  is_place id (one ∷ others) zero d within here before = here
  is_place id (one ∷ others) (suc place) d within here before =
      (before 0 (omega arith), is_place id others place d (omega (arith, within)) here (λ k less. before (suc k) (omega (arith, less))))

  -- the place of an id is that of its first machine
  pub place_is : (id : MachineId) (machines : List (ScheduledMachine M S D C)) (place : ℕ) → place_of id machines ≡ Some place → IsPlaceOf id machines place
  place_is id machines place at =
      let parts = position-Some (same_id id) (map id_of machines) place id at in
      is_place id machines place id parts.0 parts.1 parts.2

  missed : (id : MachineId) (machines : List (ScheduledMachine M S D C)) → length (map id_of machines) ≤ position_or_len (same_id id) (map id_of machines)
      → machine_of id machines ≡ None
  missed id [] h = refl
  missed id (one ∷ others) h = elim (cases_Bool (same_id id (id_of one))) [
    | inl passes ↦ let less = rw passes at h in absurd (omega (arith, less))
    | inr fails ↦ let more = rw fails at h in rw fails (missed id others (omega (arith, more)))
  ]

  -- where there is no place, there is no such machine
  pub no_place : (id : MachineId) (machines : List (ScheduledMachine M S D C)) → place_of id machines ≡ None → machine_of id machines ≡ None
  no_place id machines at = elim (cases_Bool (nat_lt (position_or_len (same_id id) (map id_of machines)) (length (map id_of machines)))) [
    | inl less ↦ let some = rw less at at in cc
    | inr more ↦ missed id machines (ltb-false _ _ more)
  ]

  -- such a place lies within the list
  pub place_within : (id : MachineId) (machines : List (ScheduledMachine M S D C)) (place : ℕ) → IsPlaceOf id machines place → place < length machines
  place_within id [] place h = absurd h
  place_within id (one ∷ others) zero h = omega arith
  place_within id (one ∷ others) (suc place) h = let rest : place < length others = place_within id others place h.1 in omega arith

  -- the machine at that place is the one of the id
  pub machine_at : (id : MachineId) (machines : List (ScheduledMachine M S D C)) (place : ℕ) (old : ScheduledMachine M S D C) → IsPlaceOf id machines place
      → old ≡ slice_index_or machines place old → machine_of id machines ≡ Some old
  machine_at id [] place old h is = absurd h
  machine_at id (one ∷ others) zero old h is = rw h (ap Some (sym is))
  machine_at id (one ∷ others) (suc place) old h is = rw h.0 (machine_at id others place old h.1 is)

  -- what is written at that place is what the machine of the id becomes
  pub changed_there : (id : MachineId) (machines : List (ScheduledMachine M S D C)) (place : ℕ) (f : ScheduledMachine M S D C → ScheduledMachine M S D C)
      (old new : ScheduledMachine M S D C) → IsPlaceOf id machines place → old ≡ slice_index_or machines place old → new ≡ f old
      → slice_set machines place new ≡ changed_for id f machines
  changed_there id [] place f old new h is after = absurd h
  changed_there id (one ∷ others) zero f old new h is after = rw h (ap (λ (x : ScheduledMachine M S D C). x ∷ others) (after ∙ ap f is))
  changed_there id (one ∷ others) (suc place) f old new h is after =
      rw h.0 (ap (λ (xs : List (ScheduledMachine M S D C)). one ∷ xs) (changed_there id others place f old new h.1 is after))

  -- the machine at that place written there again changes nothing
  pub set_same : (id : MachineId) (machines : List (ScheduledMachine M S D C)) (place : ℕ) (old : ScheduledMachine M S D C) → IsPlaceOf id machines place
      → old ≡ slice_index_or machines place old → slice_set machines place old ≡ machines
  set_same id machines place old h is = changed_there id machines place (λ (one : ScheduledMachine M S D C). old) old old h is refl
      ∙ changed_same id machines old (machine_at id machines place old h is)

  -- the machine of an id has that id
  found_same : (id : MachineId) (machines : List (ScheduledMachine M S D C)) (m : ScheduledMachine M S D C) → machine_of id machines ≡ Some m
      → same_id id (id_of m) ≡ true
  found_same id machines m found = rw (found_id id machines m found) (same_id_self id)

  -- whether its token is with callers is whether its machine says so
  pub callers_found : (token : Token) (machines : List (ScheduledMachine M S D C)) (m : ScheduledMachine M S D C) → machine_of token.machine machines ≡ Some m
      → is_callers token.wake m.token ≡ is_with_callers machines token
  callers_found token machines m found = rw (found, found_same token.machine machines m found) refl

  -- where there is no such machine, none becomes another
  pub none_changed : (id : MachineId) (machines : List (ScheduledMachine M S D C)) (f : ScheduledMachine M S D C → ScheduledMachine M S D C)
      → machine_of id machines ≡ None → changed_for id f machines ≡ machines
  none_changed id [] f h = refl
  none_changed id (one ∷ others) f h = elim (cases_Bool (same_id id (id_of one))) [
    | inl passes ↦ let some = rw passes at h in cc
    | inr fails ↦ let rest = rw fails at h in rw fails (ap (λ (xs : List (ScheduledMachine M S D C)). one ∷ xs) (none_changed id others f rest))
  ]

  -- a machine becomes one of the same id: the ids stay
  ids_set : (machines : List (ScheduledMachine M S D C)) (place : ℕ) (old new : ScheduledMachine M S D C)
      → old ≡ slice_index_or machines place old → id_of new ≡ id_of old → place < length machines → map id_of (slice_set machines place new) ≡ map id_of machines
  ids_set [] place old new is id within = absurd (omega (arith, within))
  ids_set (one ∷ others) zero old new is id within = ap (λ (x : MachineId). x ∷ map id_of others) (id ∙ ap id_of is)
  ids_set (one ∷ others) (suc place) old new is id within =
      ap (λ (xs : List MachineId). id_of one ∷ xs) (ids_set others place old new is id (omega (arith, within)))

  pub ids_stay : (keys : List MachineId) (machines : List (ScheduledMachine M S D C)) (place : ℕ) (old new : ScheduledMachine M S D C)
      → keys ≡ map id_of machines → old ≡ slice_index_or machines place old → id_of new ≡ id_of old → place < length machines
      → keys ≡ map id_of (slice_set machines place new)
  ids_stay keys machines place old new same is id within = same ∙ sym (ids_set machines place old new is id within)

-- what follows from what is there
pub if_some : {T : Type 0} (Q : T → Type 0) (o : Option T) → ((x : T) → o ≡ Some x → Q x) → IfSome o Q
if_some Q (Some x) f = f x refl
if_some Q None f = tt

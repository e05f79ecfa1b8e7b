-- A pool as it begins: its workers, its machines, their ids and their tokens.
use Rattle.std.proofs.Common.{◌≡◌, ℕ, zero, suc, ◌+◌, ◌<◌, Bool, true, false, inl, inr, List, [], ◌∷◌, ◌++◌, length, map, take, slice_index_or, None, sym, refl, ap, ◌∙◌, arith, append-nil, append_assoc}
use Rattle.std.specs.Prelude.{not}
use Rattle.std.proofs.Math.Seq.{take-suc}
use Rattle.std.proofs.lemmas.List.{map-append}
use Rattle.indexmap.specs.IndexSet.{insert_key}
use Rattle.std.specs.List.{AllByRecursion, IsDistinct, list_any}
use Rattle.std.proofs.lemmas.Bool.{cases_Bool}
use Rattle.st_events.specs.declared.machine_id.MachineId.{MachineId}
use Rattle.st_events.specs.declared.token.Token.{Token}
use Rattle.st_core.specs.MachineState.{Machine}
use Rattle.st_pool_core.specs.Opening.{core_id, idle_workers}
use Rattle.st_scheduled.specs.ScheduledMachine.{ScheduledMachine, same_id, id_of, callers_token}
use Rattle.st_pool_core.specs.PoolState.{OneEach, machine_of, with_callers_in}
use Rattle.st_pool_core.specs.Queues.{WorkerState}
use Rattle.st_scheduled.specs.Serving.{scheduled_at_first}
use Rattle.st_scheduled.proofs.TokensCompared.{same_id_self, ids_same}

-- one more idle worker
idle_next : (count : ℕ) → idle_workers count ++ record { queue = []; hand = None } ∷ [] ≡ idle_workers (suc count)
idle_next zero = refl
idle_next (suc count) = ap (λ (workers : List WorkerState). record { queue = []; hand = None } ∷ workers) (idle_next count)

pub idle_more : (count next : ℕ) → next ≡ suc count → idle_workers count ++ record { queue = []; hand = None } ∷ [] ≡ idle_workers next
idle_more count next is = rw is (idle_next count)

module _ {M S D C : Type 0} where
  -- the ids of a pool's machines are those of the machines that were handed in
  pub first_ids : (cores : List (Machine M S D C)) → map id_of (map scheduled_at_first cores) ≡ map core_id cores
  first_ids [] = refl
  first_ids (core ∷ cores) = ap (λ (ids : List MachineId). core_id core ∷ ids) (first_ids cores)

  -- where no id is this one, no machine has it
  none_of : (id : MachineId) (cores : List (Machine M S D C)) → AllByRecursion (λ y. same_id id y ≡ false) (map core_id cores)
      → machine_of id (map scheduled_at_first cores) ≡ None
  none_of id [] h = refl
  none_of id (core ∷ cores) h = rw h.0 (none_of id cores h.1)

  -- where no two ids are one, no two machines have one id
  pub distinct_each : (cores : List (Machine M S D C)) → IsDistinct same_id (map core_id cores) → OneEach (map scheduled_at_first cores)
  unfolding IsDistinct
  distinct_each [] h = tt
  distinct_each (core ∷ cores) h = (none_of (core_id core) cores h.0, distinct_each cores h.1)

  -- the ids of the machines up to a place, and that of the machine there, which is a new one
  pub ids_next : (cores : List (Machine M S D C)) (place : ℕ) (core : Machine M S D C) (keys new : List MachineId) → place < length cores
      → core ≡ slice_index_or cores place core → keys ≡ map core_id (take place cores) → list_any (same_id (core_id core)) keys ≡ false
      → new ≡ insert_key same_id keys (core_id core) → new ≡ map core_id (take (place + 1) cores)
  ids_next cores place core keys new within is so_far absent after =
      let next : place + 1 ≡ suc place = omega arith in
      after ∙ rw (absent, so_far, next, take-suc cores place core within, ← is) (sym (map-append core_id (take place cores) (core ∷ [])))

  -- the machine at a place is found by its id
  found_at : (id : MachineId) (cores : List (Machine M S D C)) (place : ℕ) (core : Machine M S D C) → place < length cores
      → core ≡ slice_index_or cores place core → same_id id (core_id core) ≡ true → machine_of id (map scheduled_at_first cores) ≡ None → ⊥
  found_at id [] place core within is same none = absurd (omega (arith, within))
  found_at id (first ∷ cores) zero core within is same none = let here = rw (rw is at same) at none in cc
  found_at id (first ∷ cores) (suc place) core within is same none = elim (cases_Bool (same_id id (core_id first))) [
    | inl passes ↦ let here = rw passes at none in cc
    | inr fails ↦ found_at id cores place core (omega (arith, within)) is same (rw fails at none)
  ]

  -- an id that stands before is of two machines
  pub twice : (cores : List (Machine M S D C)) (place : ℕ) (core : Machine M S D C) → place < length cores → core ≡ slice_index_or cores place core
      → list_any (same_id (core_id core)) (map core_id (take place cores)) ≡ true → OneEach (map scheduled_at_first cores) → ⊥
  twice [] place core within is there each = absurd (omega (arith, within))
  twice (first ∷ cores) zero core within is there each = cc
  twice (first ∷ cores) (suc place) core within is there each = elim (cases_Bool (same_id (core_id core) (core_id first))) [
    | inl passes ↦
        let same : same_id (core_id first) (core_id core) ≡ true = rw (ids_same (core_id core) (core_id first) passes) (same_id_self (core_id first)) in
        found_at (core_id first) cores place core (omega (arith, within)) is same each.0
    | inr fails ↦ twice cores place core (omega (arith, within)) is (rw fails at there) each.1
  ]

  -- the token of one machine more, if callers have it
  with_callers_last : (machines : List (ScheduledMachine M S D C)) (one : ScheduledMachine M S D C)
      → with_callers_in (machines ++ one ∷ []) ≡ with_callers_in machines ++ callers_token one.token (id_of one)
  with_callers_last [] one = append-nil (callers_token one.token (id_of one))
  with_callers_last (first ∷ machines) one =
      ap (λ (tokens : List Token). callers_token first.token (id_of first) ++ tokens) (with_callers_last machines one)
      ∙ sym (append_assoc (callers_token first.token (id_of first)) (with_callers_in machines) (callers_token one.token (id_of one)))

  -- the tokens of the machines up to a place, and that of the machine there
  pub callers_next : (machines : List (ScheduledMachine M S D C)) (place : ℕ) (one : ScheduledMachine M S D C) (tokens more : List Token) → place < length machines
      → one ≡ slice_index_or machines place one → tokens ≡ with_callers_in (take place machines) → more ≡ callers_token one.token (id_of one)
      → tokens ++ more ≡ with_callers_in (take (place + 1) machines)
  callers_next machines place one tokens more within is so_far own =
      let next : place + 1 ≡ suc place = omega arith in
      rw (so_far, own, next, take-suc machines place one within, ← is) (sym (with_callers_last (take place machines) one))

-- what is not so is so not
pub not_false : (b : Bool) → not b ≡ false → b ≡ true
not_false true h = refl
not_false false h = let same : true ≡ false = h in cc

pub not_true : (b : Bool) → not b ≡ true → b ≡ false
not_true true h = let same : false ≡ true = h in cc
not_true false h = refl

-- The machines of the entries in the order in which they are due; and what stands at each place.
use Rattle.std.proofs.Common.{◌≡◌, ℕ, zero, suc, ◌+◌, ◌-◌, ◌<◌, ◌≤◌, Bool, true, false, not, cond, ◌⊎◌, inl, inr, if◌then◌else◌, List, [], ◌∷◌, length, take, set, get_or, remove, slice_get, position, refl, sym, ap, subst, ◌∙◌, true≢false, arith}
use Rattle.std.specs.Prelude.{Option, Some, None, is_some, nat_le}
use Rattle.std.specs.List.{IsDistinct, AllByRecursion, swap_remove, position_or_len}
use Rattle.std.specs.Map.{keys_of, lookup}
use Rattle.std.specs.Option.{option_map}
use Rattle.std.proofs.Math.Numerals.{one-add}
use Rattle.std.proofs.lemmas.Bool.{cases_eq, lt-leb, le-leb}
use Rattle.std.proofs.lemmas.List.{nil_from_length, length-take-le, length-set, get_or-set_same, get_or-set_other}
use Rattle.std.proofs.lemmas.List.Quantifiers.{position-Some}
use Rattle.std.proofs.lemmas.Option.{slice_get_past, none-some, same_Some}
use Rattle.indexmap.specs.IndexMap.{insert_entry, swap_remove_entry}
use Rattle.indexmap.proofs.MapLemmas.{swap_remove_entry-found}
use Rattle.st_events.specs.declared.machine_id.MachineId.{MachineId}
use Rattle.st_due.specs.declared.due_machine.DueMachine.{DueMachine}
use Rattle.st_due.specs.Machines.{Noted, same_machine, before, put, moment_of, without, first_moment, due_by, left_by, with_noted, without_noted, InOrder, OnceEach}
use Rattle.st_due.specs.Places.{due_of, ordered, AreAt, IsSound}
use Rattle.st_due.specs.Tournament.{earlier, earliest, node_at}
use Rattle.st_due.proofs.OrderLemmas.{same_machines, same_machine_self, put_comm, length_put, moment_put_other, moment_put_same, once_each_put, in_order_put, without_none, without_put_same, without_put_other}

abbrev Entries : Type 0
Entries = List (MachineId × ℕ)

-- ---- what holds of machines that are there once each
module _ (machine : MachineId) where
  absent_by : (entries : Entries) → AllByRecursion (λ other. same_machine machine other ≡ false) (keys_of entries) → moment_of machine (ordered entries) ≡ None
  absent_by [] h = refl
  absent_by (entry ∷ entries) h = moment_put_other machine (due_of entry) (ordered entries) h.0 ∙ absent_by entries h.1

-- the first is not among the others
pub first_absent : (entry : MachineId × ℕ) (entries : Entries) → IsDistinct same_machine (keys_of (entry ∷ entries)) → moment_of entry.0 (ordered entries) ≡ None
unfolding IsDistinct
first_absent entry entries each = absent_by entry.0 entries each.0

others_distinct : (entry : MachineId × ℕ) (entries : Entries) → IsDistinct same_machine (keys_of (entry ∷ entries)) → IsDistinct same_machine (keys_of entries)
unfolding IsDistinct
others_distinct entry entries each = each.1

pub in_order : (entries : Entries) → IsDistinct same_machine (keys_of entries) → InOrder (ordered entries)
in_order [] each = tt
in_order (entry ∷ entries) each =
    in_order_put (due_of entry) (ordered entries) (first_absent entry entries each) (in_order entries (others_distinct entry entries each))

pub once_each : (entries : Entries) → IsDistinct same_machine (keys_of entries) → OnceEach (ordered entries)
once_each [] each = tt
once_each (entry ∷ entries) each =
    once_each_put (due_of entry) (ordered entries) (first_absent entry entries each) (once_each entries (others_distinct entry entries each))

pub length_ordered : (entries : Entries) → length (ordered entries) ≡ length entries
length_ordered [] = refl
length_ordered (entry ∷ entries) = length_put (due_of entry) (ordered entries) ∙ ap suc (length_ordered entries)

pub moment_ordered : (machine : MachineId) (entries : Entries) → IsDistinct same_machine (keys_of entries)
    → moment_of machine (ordered entries) ≡ lookup (same_machine machine) entries
moment_ordered machine [] each = refl
moment_ordered machine (entry ∷ entries) each =
    by (same_machine machine entry.0) refl (first_absent entry entries each) (moment_ordered machine entries (others_distinct entry entries each))
  where
    by : (b : Bool) → same_machine machine entry.0 ≡ b → moment_of entry.0 (ordered entries) ≡ None
        → moment_of machine (ordered entries) ≡ lookup (same_machine machine) entries
        → moment_of machine (put (due_of entry) (ordered entries)) ≡ cond b (Some entry.1) (lookup (same_machine machine) entries)
    by true e none h =
        let absent : moment_of machine (ordered entries) ≡ None =
        subst (λ (other : MachineId). moment_of other (ordered entries) ≡ None) (sym (same_machines machine entry.0 e)) none in
        moment_put_same machine (due_of entry) (ordered entries) e absent
    by false e none h = moment_put_other machine (due_of entry) (ordered entries) e ∙ h

-- ---- a machine is noted
pub ordered_inserted : (machine : MachineId) (moment : ℕ) (entries : Entries) → IsDistinct same_machine (keys_of entries)
    → ordered (insert_entry same_machine entries machine moment) ≡ put (due_of (machine, moment)) (without machine (ordered entries))
ordered_inserted machine moment [] each = refl
ordered_inserted machine moment (entry ∷ entries) each =
    by (same_machine machine entry.0) refl (first_absent entry entries each) (in_order entries (others_distinct entry entries each))
    (ordered_inserted machine moment entries (others_distinct entry entries each))
  where
    by : (b : Bool) → same_machine machine entry.0 ≡ b → moment_of entry.0 (ordered entries) ≡ None → InOrder (ordered entries)
        → ordered (insert_entry same_machine entries machine moment) ≡ put (due_of (machine, moment)) (without machine (ordered entries))
        → ordered (if b then (entry.0, moment) ∷ entries else entry ∷ insert_entry same_machine entries machine moment)
        ≡ put (due_of (machine, moment)) (without machine (put (due_of entry) (ordered entries)))
    by true e none order h =
        let same = same_machines machine entry.0 e in
        let absent : moment_of machine (ordered entries) ≡ None =
        subst (λ (other : MachineId). moment_of other (ordered entries) ≡ None) (sym same) none in
        let left = without_put_same machine (due_of entry) (ordered entries) e ∙ without_none machine (ordered entries) absent in
        ap (λ (other : MachineId). put (due_of (other, moment)) (ordered entries)) (sym same) ∙ ap (put (due_of (machine, moment))) (sym left)
    by false e none order h =
        ap (put (due_of entry)) h ∙ (put_comm (due_of entry) (due_of (machine, moment)) (without machine (ordered entries))
        ∙ ap (put (due_of (machine, moment))) (sym (without_put_other machine (due_of entry) (ordered entries) e order)))

-- ---- a machine leaves, and the last takes its place
-- the first entry that passes is at this place
module _ (test : MachineId → Bool) where
  abbrev pub IsFirstAt : Entries → ℕ → Type 0
  IsFirstAt [] place = ⊥
  IsFirstAt (entry ∷ entries) zero = test entry.0 ≡ true
  IsFirstAt (entry ∷ entries) (suc place) = (test entry.0 ≡ false) × IsFirstAt entries place

  first_by_place : (entries : Entries) (place : ℕ) (d : MachineId) → place < length (keys_of entries) → test (get_or (keys_of entries) place d) ≡ true
      → ((k : ℕ) → k < place → test (get_or (keys_of entries) k d) ≡ false) → IsFirstAt entries place
  first_by_place [] place d within here earlier = absurd (omega (arith, within))
  first_by_place (entry ∷ entries) zero d within here earlier = here
  first_by_place (entry ∷ entries) (suc place) d within here earlier =
      (earlier 0 (omega arith), first_by_place entries place d (omega (arith, within)) here (λ k less. earlier (suc k) (omega (arith, less))))

  pub first_at : (entries : Entries) (place : ℕ) (d : MachineId) → position test (keys_of entries) ≡ Some place → IsFirstAt entries place
  first_at entries place d found =
      let parts = position-Some test (keys_of entries) place d found in first_by_place entries place d parts.0 parts.1 parts.2

  pub first_within : (entries : Entries) (place : ℕ) → IsFirstAt entries place → place < length entries
  first_within [] place h = absurd h
  first_within (entry ∷ entries) zero h = omega arith
  first_within (entry ∷ entries) (suc place) h = omega (arith, first_within entries place h.1)

ordered_removed : (machine : MachineId) (entries : Entries) (place : ℕ) → IsFirstAt (same_machine machine) entries place → IsDistinct same_machine (keys_of entries)
    → ordered (remove entries place) ≡ without machine (ordered entries)
ordered_removed machine [] place h each = absurd h
ordered_removed machine (entry ∷ entries) zero h each =
    let absent : moment_of machine (ordered entries) ≡ None =
    subst (λ (other : MachineId). moment_of other (ordered entries) ≡ None) (sym (same_machines machine entry.0 h)) (first_absent entry entries each) in
    sym (without_put_same machine (due_of entry) (ordered entries) h ∙ without_none machine (ordered entries) absent)
ordered_removed machine (entry ∷ entries) (suc place) h each =
    ap (put (due_of entry)) (ordered_removed machine entries place h.1 (others_distinct entry entries each))
    ∙ sym (without_put_other machine (due_of entry) (ordered entries) h.0 (in_order entries (others_distinct entry entries each)))

-- the last, put in beside those before it
ordered_last : (entries : Entries) (m : ℕ) (d : MachineId × ℕ) → length entries ≡ suc m → put (due_of (get_or entries m d)) (ordered (take m entries)) ≡ ordered entries
ordered_last [] m d long = absurd (omega (arith, long))
ordered_last (entry ∷ entries) zero d long =
    let none : entries ≡ [] = nil_from_length entries (omega (arith, long)) in
    ap (λ (t : Entries). put (due_of entry) (ordered t)) (sym none)
ordered_last (entry ∷ entries) (suc m) d long =
    put_comm (due_of (get_or entries m d)) (due_of entry) (ordered (take m entries))
    ∙ ap (put (due_of entry)) (ordered_last entries m d (omega (arith, long)))

ordered_trimmed : (entries : Entries) (m place : ℕ) (d : MachineId × ℕ) → length entries ≡ suc m → place < length entries
    → ordered (take m (set entries place (get_or entries m d))) ≡ ordered (remove entries place)
ordered_trimmed [] m place d long within = absurd (omega (arith, long))
ordered_trimmed (entry ∷ entries) zero zero d long within =
    let none : entries ≡ [] = nil_from_length entries (omega (arith, long)) in
    ap ordered (sym none)
ordered_trimmed (entry ∷ entries) zero (suc place) d long within = absurd (omega (arith, long, within))
ordered_trimmed (entry ∷ entries) (suc m) zero d long within = ordered_last entries m d (omega (arith, long))
ordered_trimmed (entry ∷ entries) (suc m) (suc place) d long within =
    ap (put (due_of entry)) (ordered_trimmed entries m place d (omega (arith, long)) (omega (arith, within)))

pub ordered_swapped : (machine : MachineId) (entries : Entries) (place : ℕ) (d : MachineId × ℕ) → IsFirstAt (same_machine machine) entries place
    → IsDistinct same_machine (keys_of entries) → ordered (swap_remove entries place d) ≡ without machine (ordered entries)
ordered_swapped machine entries place d first each =
    let within = first_within (same_machine machine) entries place first in
    ordered_trimmed entries (length entries - 1) place d (omega (arith, within)) within ∙ ordered_removed machine entries place first each

-- ---- what stands at a place
-- so many of the first entries
get_taken : (entries : Entries) (m p : ℕ) → length entries ≡ suc m → (p ≡ m → ⊥) → slice_get (take m entries) p ≡ slice_get entries p
get_taken [] m p long last = absurd (omega (arith, long))
get_taken (entry ∷ entries) zero zero long last = absurd (last refl)
get_taken (entry ∷ entries) zero (suc p) long last = sym (slice_get_past entries p (omega (arith, long)))
get_taken (entry ∷ entries) (suc m) zero long last = refl
get_taken (entry ∷ entries) (suc m) (suc p) long last = get_taken entries m p (omega (arith, long)) (λ e. last (ap suc e))

get_trimmed : (entries : Entries) (m place p : ℕ) (new : MachineId × ℕ) → length entries ≡ suc m → (p ≡ place → ⊥) → (p ≡ m → ⊥)
    → slice_get (take m (set entries place new)) p ≡ slice_get entries p
get_trimmed [] m place p new long other last = absurd (omega (arith, long))
get_trimmed (entry ∷ entries) zero place zero new long other last = absurd (last refl)
get_trimmed (entry ∷ entries) zero place (suc p) new long other last = sym (slice_get_past entries p (omega (arith, long)))
get_trimmed (entry ∷ entries) (suc m) zero zero new long other last = absurd (other refl)
get_trimmed (entry ∷ entries) (suc m) zero (suc p) new long other last = get_taken entries m p (omega (arith, long)) (λ e. last (ap suc e))
get_trimmed (entry ∷ entries) (suc m) (suc place) zero new long other last = refl
get_trimmed (entry ∷ entries) (suc m) (suc place) (suc p) new long other last =
    get_trimmed entries m place p new (omega (arith, long)) (λ e. other (ap suc e)) (λ e. last (ap suc e))

module _ (entries : Entries) (place : ℕ) (d : MachineId × ℕ) where
  -- the entries once the last has taken the place of the one that left
  abbrev left : Entries
  left = swap_remove entries place d

  -- the machine that has come to that place
  abbrev moved : List (Option DueMachine) → List (Option DueMachine)
  moved places = set places place (option_map due_of (slice_get left place))

  short : length entries - 1 ≤ length entries → length left ≤ length entries - 1
  short h =
      let all = length-set entries place (get_or entries (length entries - 1) d) in
      omega (arith, length-take-le (length entries - 1) (set entries place (get_or entries (length entries - 1) d)) (omega (arith, all)))

  -- each machine is at its place again
  pub at_swapped : (m : ℕ) (places : List (Option DueMachine)) → place < length entries → length entries ≡ suc m
      → length entries ≤ length places → AreAt entries places → AreAt left (set (moved places) m None)
  at_swapped m places within long fits at p = by (cases_eq p m) (cases_eq p place)
    where
      by : (p ≡ m) ⊎ (p ≡ m → ⊥) → (p ≡ place) ⊎ (p ≡ place → ⊥) → node_at (set (moved places) m None) p ≡ option_map due_of (slice_get left p)
      by (inl e) other =
          let there : m < length (moved places) = omega (arith, long, fits, length-set places place (option_map due_of (slice_get left place))) in
          let here : node_at (set (moved places) m None) p ≡ None = ap (node_at (set (moved places) m None)) e ∙ get_or-set_same (moved places) m None None there in
          here ∙ ap (option_map due_of) (sym (slice_get_past left p (omega (arith, short (omega arith), e, long))))
      by (inr last) (inl e) =
          let here : node_at (moved places) p ≡ option_map due_of (slice_get left place) =
          ap (node_at (moved places)) e ∙ get_or-set_same places place (option_map due_of (slice_get left place)) None (omega (arith, within, fits)) in
          get_or-set_other (moved places) m p None None last ∙ (here ∙ ap (λ k. option_map due_of (slice_get left k)) (sym e))
      by (inr last) (inr other) =
          let stays : slice_get left p ≡ slice_get entries p =
          get_trimmed entries (length entries - 1) place p (get_or entries (length entries - 1) d) (omega (arith, long)) other (λ e. last (omega (arith, e, long))) in
          get_or-set_other (moved places) m p None None last ∙ (get_or-set_other places place p (option_map due_of (slice_get left place)) None other
          ∙ (at p ∙ ap (option_map due_of) (sym stays)))

-- ---- an entry more, or another moment
module _ (machine : MachineId) (moment : ℕ) where
  -- the place of the entry
  abbrev pub place_in : Entries → ℕ
  place_in entries = position_or_len (same_machine machine) (keys_of entries)

  get_inserted : (entries : Entries) → slice_get (insert_entry same_machine entries machine moment) (place_in entries) ≡ Some (machine, moment)
  get_inserted [] = refl
  get_inserted (entry ∷ entries) = by (same_machine machine entry.0) refl (get_inserted entries)
    where
      by : (b : Bool) → same_machine machine entry.0 ≡ b → slice_get (insert_entry same_machine entries machine moment) (place_in entries) ≡ Some (machine, moment)
          → slice_get (if b then (entry.0, moment) ∷ entries else entry ∷ insert_entry same_machine entries machine moment) (cond (not b) (1 + place_in entries) 0) ≡ Some (machine, moment)
      by true e h = ap (λ (other : MachineId). Some (other, moment)) (sym (same_machines machine entry.0 e))
      by false e h = ap (slice_get (entry ∷ insert_entry same_machine entries machine moment)) (one-add (place_in entries)) ∙ h

  get_inserted_other : (entries : Entries) (p : ℕ) → (p ≡ place_in entries → ⊥) → slice_get (insert_entry same_machine entries machine moment) p ≡ slice_get entries p
  get_inserted_other [] zero other = absurd (other refl)
  get_inserted_other [] (suc p) other = refl
  get_inserted_other (entry ∷ entries) zero other = by (same_machine machine entry.0) other
    where
      by : (b : Bool) → (0 ≡ cond (not b) (1 + place_in entries) 0 → ⊥)
          → slice_get (if b then (entry.0, moment) ∷ entries else entry ∷ insert_entry same_machine entries machine moment) 0 ≡ Some entry
      by true o = absurd (o refl)
      by false o = refl
  get_inserted_other (entry ∷ entries) (suc p) other = by (same_machine machine entry.0) other (get_inserted_other entries p)
    where
      by : (b : Bool) → (suc p ≡ cond (not b) (1 + place_in entries) 0 → ⊥)
          → ((p ≡ place_in entries → ⊥) → slice_get (insert_entry same_machine entries machine moment) p ≡ slice_get entries p)
          → slice_get (if b then (entry.0, moment) ∷ entries else entry ∷ insert_entry same_machine entries machine moment) (suc p) ≡ slice_get entries p
      by true o h = refl
      by false o h = h (λ e. o (omega (arith, e)))

  pub at_inserted : (entries : Entries) (places : List (Option DueMachine)) → place_in entries < length places → AreAt entries places
      → AreAt (insert_entry same_machine entries machine moment) (set places (place_in entries) (Some (due_of (machine, moment))))
  at_inserted entries places within at p = by (cases_eq p (place_in entries))
    where
      by : (p ≡ place_in entries) ⊎ (p ≡ place_in entries → ⊥)
          → node_at (set places (place_in entries) (Some (due_of (machine, moment)))) p ≡ option_map due_of (slice_get (insert_entry same_machine entries machine moment) p)
      by (inl e) =
          ap (node_at (set places (place_in entries) (Some (due_of (machine, moment))))) e
          ∙ (get_or-set_same places (place_in entries) (Some (due_of (machine, moment))) None within
          ∙ (ap (option_map due_of) (sym (get_inserted entries)) ∙ ap (λ k. option_map due_of (slice_get (insert_entry same_machine entries machine moment) k)) (sym e)))
      by (inr other) =
          get_or-set_other places (place_in entries) p (Some (due_of (machine, moment))) None other
          ∙ (at p ∙ ap (option_map due_of) (sym (get_inserted_other entries p other)))

-- ---- the first of all
-- the first of a list
abbrev pub first_of : List DueMachine → Option DueMachine
first_of [] = None
first_of (one ∷ others) = Some one

first_put : (one : DueMachine) (machines : List DueMachine) → earlier (Some one) (first_of machines) ≡ first_of (put one machines)
first_put one [] = refl
first_put one (first ∷ machines) = by (before one first)
  where
    by : (b : Bool) → (if b then Some one else Some first) ≡ first_of (if b then one ∷ first ∷ machines else first ∷ put one machines)
    by true = refl
    by false = refl

pub earliest_is_first : (places : List (Option DueMachine)) (entries : Entries) → AreAt entries places → length entries ≤ length places
    → earliest places ≡ first_of (ordered entries)
earliest_is_first [] [] at fits = refl
earliest_is_first [] (entry ∷ entries) at fits = absurd (omega (arith, fits))
earliest_is_first (place ∷ places) [] at fits =
    let none : place ≡ None = at 0 in
    ap (λ (one : Option DueMachine). earlier one (earliest places)) none ∙ earliest_is_first places [] (λ p. at (suc p)) (omega arith)
earliest_is_first (place ∷ places) (entry ∷ entries) at fits =
    let here : place ≡ Some (due_of entry) = at 0 in
    ap (λ (one : Option DueMachine). earlier one (earliest places)) here
    ∙ (ap (earlier (Some (due_of entry))) (earliest_is_first places entries (λ p. at (suc p)) (omega (arith, fits)))
    ∙ first_put (due_of entry) (ordered entries))

-- ---- what the calls answer
pub first_moment_is : (machines : List DueMachine) → first_moment machines ≡ option_map (λ (one : DueMachine). one.moment) (first_of machines)
first_moment_is [] = refl
first_moment_is (one ∷ others) = refl

-- none is there
pub due_none : (now : ℕ) (machines : List DueMachine) → first_of machines ≡ None → (due_by now machines ≡ None) × (left_by now machines ≡ machines)
due_none now [] none = (refl, refl)
due_none now (one ∷ others) none = absurd (none-some one (sym none))

-- the first is not due
pub due_later : (now : ℕ) (machines : List DueMachine) (first : DueMachine) → first_of machines ≡ Some first → now < first.moment
    → (due_by now machines ≡ None) × (left_by now machines ≡ machines)
due_later now [] first is later = absurd (none-some first is)
due_later now (one ∷ others) first is later =
    let same : one ≡ first = same_Some one first is in
    let not_yet : nat_le one.moment now ≡ false = lt-leb one.moment now (subst (λ (due : DueMachine). now < due.moment) (sym same) later) in
    (rw not_yet refl, rw not_yet refl)

-- the first is due
pub due_now : (now : ℕ) (machines : List DueMachine) (first : DueMachine) → first_of machines ≡ Some first → first.moment ≤ now → OnceEach machines
    → (due_by now machines ≡ Some first) × (left_by now machines ≡ without first.machine machines)
due_now now [] first is due each = absurd (none-some first is)
due_now now (one ∷ others) first is due each =
    let same : one ≡ first = same_Some one first is in
    let come : nat_le one.moment now ≡ true = le-leb one.moment now (subst (λ (one : DueMachine). one.moment ≤ now) (sym same) due) in
    let left : without one.machine (one ∷ others) ≡ others = rw (same_machine_self one.machine) (without_none one.machine others each.0) in
    (rw come (ap Some same), rw come (sym left ∙ ap (λ (one' : DueMachine). without one'.machine (one ∷ others)) same))

pub noted_is : (old : Noted) (machines : List DueMachine) → machines ≡ old.machines → old ≡ record old { machines = machines }
noted_is old machines e = λ i. record old { machines = sym e i }

-- ---- what is kept stays sound
-- a machine that is there has a place among the others, one that is not there has the next
place_there : (machine : MachineId) (entries : Entries) → position_or_len (same_machine machine) (keys_of entries) ≤ length entries
place_there machine [] = omega arith
place_there machine (entry ∷ entries) = by (same_machine machine entry.0) (place_there machine entries)
  where
    by : (b : Bool) → position_or_len (same_machine machine) (keys_of entries) ≤ length entries
        → cond (not b) (1 + position_or_len (same_machine machine) (keys_of entries)) 0 ≤ suc (length entries)
    by true h = omega arith
    by false h = omega (arith, h)

place_among : (machine : MachineId) (entries : Entries) → is_some (lookup (same_machine machine) entries) ≡ true
    → position_or_len (same_machine machine) (keys_of entries) < length entries
place_among machine [] there = absurd (true≢false (sym there))
place_among machine (entry ∷ entries) there = by (same_machine machine entry.0) there (place_among machine entries)
  where
    by : (b : Bool) → is_some (cond b (Some entry.1) (lookup (same_machine machine) entries)) ≡ true
        → (is_some (lookup (same_machine machine) entries) ≡ true → position_or_len (same_machine machine) (keys_of entries) < length entries)
        → cond (not b) (1 + position_or_len (same_machine machine) (keys_of entries)) 0 < suc (length entries)
    by true t h = omega arith
    by false t h = omega (arith, h t)

length_inserted : (machine : MachineId) (moment : ℕ) (entries : Entries)
    → length (insert_entry same_machine entries machine moment) ≡ (if is_some (lookup (same_machine machine) entries) then length entries else suc (length entries))
length_inserted machine moment [] = refl
length_inserted machine moment (entry ∷ entries) = by (same_machine machine entry.0) (lookup (same_machine machine) entries) (length_inserted machine moment entries)
  where
    by : (b : Bool) (found : Option ℕ) → length (insert_entry same_machine entries machine moment) ≡ (if is_some found then length entries else suc (length entries))
        → length (if b then (entry.0, moment) ∷ entries else entry ∷ insert_entry same_machine entries machine moment)
        ≡ (if is_some (cond b (Some entry.1) found) then suc (length entries) else suc (suc (length entries)))
    by true found h = refl
    by false (Some old) h = ap suc h
    by false None h = ap suc h

-- ---- what is kept is sound after a note
module _ (machine : MachineId) (entries : Entries) (places : List (Option DueMachine)) (spare ready : ℕ) (sound : IsSound entries places spare ready) where
  -- whether the machine is there
  there_is : is_some (moment_of machine (ordered entries)) ≡ is_some (lookup (same_machine machine) entries)
  there_is = ap is_some (moment_ordered machine entries sound.once_each)

  pub may_put : (is_some (moment_of machine (ordered entries)) ≡ true) ⊎ (0 < ready) → (is_some (lookup (same_machine machine) entries) ≡ true) ⊎ (0 < spare)
  may_put (inl there) = inl (sym there_is ∙ there)
  may_put (inr more) = inr (omega (arith, more, sound.room))

  pub place_fits : (is_some (moment_of machine (ordered entries)) ≡ true) ⊎ (0 < ready) → position_or_len (same_machine machine) (keys_of entries) < length places
  place_fits (inl there) = omega (arith, place_among machine entries (sym there_is ∙ there), sound.fits)
  place_fits (inr more) = omega (arith, place_there machine entries, more, sound.fits)

  -- one that is not there takes a place that was reserved
  pub some_ready : (is_some (moment_of machine (ordered entries)) ≡ true) ⊎ (0 < ready) → is_some (lookup (same_machine machine) entries) ≡ false → 0 < ready
  some_ready (inl there) none = absurd (true≢false (sym there ∙ (there_is ∙ none)))
  some_ready (inr more) none = more

  module _ (moment : ℕ) (new : Entries) (after : List (Option DueMachine)) (left place : ℕ) (may : (is_some (moment_of machine (ordered entries)) ≡ true) ⊎ (0 < ready))
      (where_it_is : place ≡ position_or_len (same_machine machine) (keys_of entries)) (put_in : new ≡ insert_entry same_machine entries machine moment)
      (each : IsDistinct same_machine (keys_of new)) (set_to : after ≡ set places place (Some (due_of (machine, moment)))) where
    at_noted : AreAt new after
    at_noted =
        let there = at_inserted machine moment entries places (place_fits may) sound.at in
        subst (λ (es : Entries). AreAt es after) (sym put_in) (subst (λ (all : List (Option DueMachine)). AreAt (insert_entry same_machine entries machine moment) all)
        (sym (set_to ∙ ap (λ k. set places k (Some (due_of (machine, moment)))) where_it_is)) there)

    as_long : length after ≡ length places
    as_long = ap length set_to ∙ length-set places place (Some (due_of (machine, moment)))

    pub sound_new : is_some (lookup (same_machine machine) entries) ≡ false → spare ≤ left + 1 → IsSound new after left (ready - 1)
    sound_new none enough =
        let more = some_ready may none in
        let long : length new ≡ suc (length entries) = ap length put_in ∙ (length_inserted machine moment entries ∙ ap (λ b. if b then length entries else suc (length entries)) none) in
        record { once_each = each; at = at_noted; fits = omega (arith, more, long, as_long, sound.fits); room = omega (arith, more, enough, sound.room) }

    pub sound_again : is_some (lookup (same_machine machine) entries) ≡ true → spare ≤ left → IsSound new after left ready
    sound_again there enough =
        let long : length new ≡ length entries = ap length put_in ∙ (length_inserted machine moment entries ∙ ap (λ b. if b then length entries else suc (length entries)) there) in
        record { once_each = each; at = at_noted; fits = omega (arith, long, as_long, sound.fits); room = omega (arith, enough, sound.room) }

    noted_by : (reserved : ℕ) (b : Bool) → is_some (lookup (same_machine machine) entries) ≡ b → reserved ≡ (if b then ready else ready - 1)
        → ◌≡◌ {A = Noted} (record { machines = ordered new; reserved = reserved }) (with_noted (record { machines = ordered entries; reserved = ready }) machine moment)
    noted_by reserved b is room =
        let machines = ap ordered put_in ∙ ordered_inserted machine moment entries sound.once_each in
        let count = room ∙ ap (λ t. if t then ready else ready - 1) (sym (there_is ∙ is)) in
        λ i. record { machines = machines i; reserved = count i }

    pub noted_new : is_some (lookup (same_machine machine) entries) ≡ false
        → ◌≡◌ {A = Noted} (record { machines = ordered new; reserved = ready - 1 }) (with_noted (record { machines = ordered entries; reserved = ready }) machine moment)
    noted_new is = noted_by (ready - 1) false is refl

    pub noted_again : is_some (lookup (same_machine machine) entries) ≡ true
        → ◌≡◌ {A = Noted} (record { machines = ordered new; reserved = ready }) (with_noted (record { machines = ordered entries; reserved = ready }) machine moment)
    noted_again is = noted_by ready true is refl

  -- ---- and after a machine has left
  module _ (new : Entries) (moved after : List (Option DueMachine)) (left place last : ℕ) (came : Option DueMachine)
      (found : position (same_machine machine) (keys_of entries) ≡ Some place) (taken : new ≡ swap_remove_entry (same_machine machine) entries)
      (each : IsDistinct same_machine (keys_of new)) (fewer : length new + 1 ≡ length entries) (end : last ≡ length new)
      (comes : came ≡ option_map due_of (slice_get new place)) (first_set : moved ≡ set places place came) (then_set : after ≡ set moved last None) (enough : spare ≤ left) where
    first_here : IsFirstAt (same_machine machine) entries place
    first_here = first_at (same_machine machine) entries place machine found

    swapped : new ≡ swap_remove entries place (machine, 0)
    swapped = taken ∙ swap_remove_entry-found (same_machine machine) entries place (machine, 0) found

    at_left : AreAt new after
    at_left =
        let within = first_within (same_machine machine) entries place first_here in
        let long : length entries ≡ suc last = omega (arith, fewer, end) in
        let there = at_swapped entries place (machine, 0) last places within long (omega (arith, sound.fits)) sound.at in
        let places_are : after ≡ set (set places place (option_map due_of (slice_get new place))) last None =
        then_set ∙ ap (λ (all : List (Option DueMachine)). set all last None) (first_set ∙ ap (set places place) comes) in
        subst (λ (all : List (Option DueMachine)). AreAt new all) (sym places_are)
        (subst (λ (es : Entries). AreAt es (set (set places place (option_map due_of (slice_get es place))) last None)) (sym swapped) there)

    pub sound_left : IsSound new after left ready
    sound_left =
        let long : length after ≡ length places = ap length then_set ∙ (length-set moved last None ∙ (ap length first_set ∙ length-set places place came)) in
        record { once_each = each; at = at_left; fits = omega (arith, long, fewer, sound.fits); room = omega (arith, enough, sound.room) }

    pub forgotten : ◌≡◌ {A = Noted} (record { machines = ordered new; reserved = ready }) (without_noted (record { machines = ordered entries; reserved = ready }) machine)
    forgotten =
        let machines = ap ordered swapped ∙ ordered_swapped machine entries place (machine, 0) first_here sound.once_each in
        λ i. record { machines = machines i; reserved = ready }

  -- where it is not there nothing leaves
  pub not_there : (new : Entries) → None ≡ lookup (same_machine machine) entries → new ≡ entries
      → ◌≡◌ {A = Noted} (record { machines = ordered new; reserved = ready }) (without_noted (record { machines = ordered entries; reserved = ready }) machine)
  not_there new none same =
      let machines = ap ordered same ∙ sym (without_none machine (ordered entries) (moment_ordered machine entries sound.once_each ∙ sym none)) in
      λ i. record { machines = machines i; reserved = ready }

-- ---- the machines are put at their places one after another
-- those before a place are at theirs, and behind it is none
pub record AreSoFar (entries : Entries) (places : List (Option DueMachine)) (place : ℕ) : Type 0 where
  pub there : (p : ℕ) → p < place → node_at places p ≡ option_map due_of (slice_get entries p)
  pub none : (p : ℕ) → place ≤ p → node_at places p ≡ None

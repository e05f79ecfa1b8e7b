-- Slots: where a timer's stands, and what becomes of the places and the rows with a hole, with one slot more and
-- without the holes.
use Rattle.std.proofs.Common.{◌≡◌, ℕ, zero, suc, ◌+◌, ◌<◌, ◌≤◌, Bool, true, false, not, cond, if◌then◌else◌, List, [], ◌∷◌, ◌++◌, map, length, take, set, get_or, nat_lt, refl, sym, ap, ◌∙◌, arith, append-nil, length-append}
use Rattle.std.specs.List.{filter, slice_get, position, position_or_len}
use Rattle.std.specs.Prelude.{Option, Some, None, is_some, IfSome}
use Rattle.std.specs.Option.{option_map, option_or}
use Rattle.std.proofs.lemmas.List.{length-set, take_more, take_all, length-take-le}
use Rattle.std.proofs.lemmas.Option.{slice_get-get_or}
use Rattle.std.proofs.lemmas.Bool.Decides.{nat_tests}
use Rattle.st_events.specs.declared.timer.Timer.{Timer}
use Rattle.st_events.specs.Timers.{same_timer}
use Rattle.st_events.proofs.ComparedLemmas.{same_timer_self, same_timer_flips, timers_same}
use Rattle.st_timer_map.specs.declared.bucket.Bucket.{Bucket}
use Rattle.st_timer_map.specs.Rows.{value_of, without_timer, OnceEach}
use Rattle.st_timer_map.specs.Slots.{row_of, is_for, rows_of, place_of, with_hole, slot_at, value_in, marked_slot, marked_at}
use Rattle.st_timer_map.proofs.RowLemmas.{not_first, without_none, marked_row}

-- ---- options of places
some_next : (place : Option ℕ) → is_some (option_map suc place) ≡ is_some place
some_next None = refl
some_next (Some place) = refl

pub none_if_not : {X : Type 0} (o : Option X) → is_some o ≡ false → o ≡ None
none_if_not None h = refl
none_if_not (Some x) h = cc

within_by : (b : Bool) (place : Option ℕ) (n : ℕ) → IfSome place (λ p. p < n) → IfSome (if b then Some 0 else option_map suc place) (λ p. p < suc n)
within_by true place n h = omega arith
within_by false None n h = tt
within_by false (Some place) n h = omega arith

lt_next : (n m : ℕ) → nat_lt (1 + n) (suc m) ≡ nat_lt n m
lt_next n m = grind (arith, nat_tests)

counted_if : (c : Bool) (n : ℕ) → cond c (Some (1 + n)) None ≡ option_map suc (cond c (Some n) None)
counted_if true n = ap Some (omega arith)
counted_if false n = refl

walked_by : (b : Bool) (n m : ℕ) → cond (nat_lt (cond (not b) (1 + n) 0) (suc m)) (Some (cond (not b) (1 + n) 0)) None
    ≡ (if b then Some 0 else option_map suc (cond (nat_lt n m) (Some n) None))
walked_by true n m = let first : nat_lt 0 (suc m) ≡ true = grind (arith, nat_tests) in rw first refl
walked_by false n m = rw (lt_next n m) (counted_if (nat_lt n m) n)

next_if : (b : Bool) (place : Option ℕ) → option_map suc (if b then None else place) ≡ (if b then None else option_map suc place)
next_if true place = refl
next_if false place = refl

more_by : (b c : Bool) (place : Option ℕ) (n : ℕ)
    → (if b then Some 0 else option_map suc (option_or place (if c then Some n else None)))
    ≡ option_or (if b then Some 0 else option_map suc place) (if c then Some (suc n) else None)
more_by true c place n = refl
more_by false true None n = refl
more_by false false None n = refl
more_by false c (Some place) n = refl

or_none : (place : Option ℕ) → option_or place None ≡ place
or_none None = refl
or_none (Some place) = refl

both_if : (c : Bool) (x place : Option ℕ) → (if c then x else (if c then None else place)) ≡ (if c then x else place)
both_if true x place = refl
both_if false x place = refl

there_by : (b : Bool) (place : Option ℕ) → is_some place ≡ true → is_some (if b then Some 0 else option_map suc place) ≡ true
there_by true place h = refl
there_by false place h = some_next place ∙ h

-- ---- what is written over and what was place_in before
pub told_more : (c : Bool) (n : ℕ) (place old : Option ℕ) → (if c then Some n else option_or place old) ≡ option_or (if c then Some n else place) old
told_more true n place old = refl
told_more false n place old = refl

pub told_all : (place old : Option ℕ) → is_some old ≡ is_some place → option_or place old ≡ place
told_all None None h = refl
told_all None (Some n) h = cc
told_all (Some place) old h = refl

pub told_still : (place old : Option ℕ) → is_some old ≡ true → is_some (option_or place old) ≡ true
told_still None old h = h
told_still (Some place) old h = refl

none_twice : (c : Bool) → ◌≡◌ {A = Option ℕ} None (if c then None else None)
none_twice true = refl
none_twice false = refl

module _ {V : Type 0} where
  -- ---- one place further
  slot_at_next : (slot : Option (Bucket V)) (slots : List (Option (Bucket V))) (place : Option ℕ)
      → slot_at (slot ∷ slots) (option_map suc place) ≡ slot_at slots place
  slot_at_next slot slots None = refl
  slot_at_next slot slots (Some place) = refl

  hole_next : (slot : Option (Bucket V)) (slots : List (Option (Bucket V))) (place : Option ℕ)
      → with_hole (slot ∷ slots) (option_map suc place) ≡ slot ∷ with_hole slots place
  hole_next slot slots None = refl
  hole_next slot slots (Some place) = refl

  marked_next : (marked : V → V) (slot : Option (Bucket V)) (slots : List (Option (Bucket V))) (place : Option ℕ)
      → marked_at marked (slot ∷ slots) (option_map suc place) ≡ slot ∷ marked_at marked slots place
  marked_next marked slot slots None = refl
  marked_next marked slot slots (Some place) = refl

  -- ---- where a timer's slot stands
  value_by : (b : Bool) (slot : Bucket V) (slots : List (Option (Bucket V))) (place : Option ℕ) (rest : Option V)
      → value_in (slot_at slots place) ≡ rest
      → value_in (slot_at (Some slot ∷ slots) (if b then Some 0 else option_map suc place)) ≡ (if b then Some slot.value else rest)
  value_by true slot slots place rest h = refl
  value_by false slot slots place rest h = ap value_in (slot_at_next (Some slot) slots place) ∙ h

  -- there stands the timer's value
  pub value_there : (timer : Timer) (slots : List (Option (Bucket V))) → value_in (slot_at slots (place_of timer slots)) ≡ value_of timer (rows_of slots)
  value_there timer [] = refl
  value_there timer (None ∷ slots) = ap value_in (slot_at_next None slots (place_of timer slots)) ∙ value_there timer slots
  value_there timer (Some slot ∷ slots) =
      value_by (same_timer timer slot.timer) slot slots (place_of timer slots) (value_of timer (rows_of slots)) (value_there timer slots)

  known_by : (b : Bool) (slot : Bucket V) (place : Option ℕ) (rest : Option V) → is_some place ≡ is_some rest
      → is_some (if b then Some 0 else option_map suc place) ≡ is_some (if b then Some slot.value else rest)
  known_by true slot place rest h = refl
  known_by false slot place rest h = some_next place ∙ h

  -- it has a place where it has a value
  pub known : (timer : Timer) (slots : List (Option (Bucket V))) → is_some (place_of timer slots) ≡ is_some (value_of timer (rows_of slots))
  known timer [] = refl
  known timer (None ∷ slots) = some_next (place_of timer slots) ∙ known timer slots
  known timer (Some slot ∷ slots) =
      known_by (same_timer timer slot.timer) slot (place_of timer slots) (value_of timer (rows_of slots)) (known timer slots)

  -- where it has no value, it has no place
  pub no_place : (timer : Timer) (slots : List (Option (Bucket V))) → value_of timer (rows_of slots) ≡ None → place_of timer slots ≡ None
  no_place timer slots h = none_if_not (place_of timer slots) (known timer slots ∙ ap is_some h)

  pub place_within : (timer : Timer) (slots : List (Option (Bucket V))) → IfSome (place_of timer slots) (λ place. place < length slots)
  place_within timer [] = tt
  place_within timer (slot ∷ slots) = within_by (is_for timer slot) (place_of timer slots) (length slots) (place_within timer slots)

  pub within_length : (timer : Timer) (slots : List (Option (Bucket V))) (place : Option ℕ) (n : ℕ) → place ≡ place_of timer slots
      → n ≡ length slots → IfSome place (λ place. place < n)
  within_length timer slots place n e long = rw (e, long) (place_within timer slots)

  -- a walk finds it
  pub walked : (timer : Timer) (slots : List (Option (Bucket V))) → position (is_for timer) slots ≡ place_of timer slots
  walked timer [] = refl
  walked timer (slot ∷ slots) =
      walked_by (is_for timer slot) (position_or_len (is_for timer) slots) (length slots)
      ∙ ap (λ place. if is_for timer slot then Some 0 else option_map suc place) (walked timer slots)

  -- ---- with a hole
  removed_by : (b : Bool) (timer : Timer) (slot : Bucket V) (slots : List (Option (Bucket V))) (place : Option ℕ) → same_timer timer slot.timer ≡ b
      → value_of slot.timer (rows_of slots) ≡ None → rows_of (with_hole slots place) ≡ without_timer timer (rows_of slots)
      → rows_of (with_hole (Some slot ∷ slots) (if b then Some 0 else option_map suc place))
      ≡ (if not b then row_of slot ∷ without_timer timer (rows_of slots) else without_timer timer (rows_of slots))
  removed_by true timer slot slots place e none h =
      let same : timer ≡ slot.timer = timers_same timer slot.timer e in
      let absent : value_of timer (rows_of slots) ≡ None = rw same none in
      sym (without_none timer (rows_of slots) absent)
  removed_by false timer slot slots place e none h = rw (hole_next (Some slot) slots place) (ap (λ t. row_of slot ∷ t) h)

  -- with a hole in its place the timer's row is gone
  pub removed : (timer : Timer) (slots : List (Option (Bucket V))) → OnceEach (rows_of slots)
      → rows_of (with_hole slots (place_of timer slots)) ≡ without_timer timer (rows_of slots)
  removed timer [] each = refl
  removed timer (None ∷ slots) each = rw (hole_next None slots (place_of timer slots)) (removed timer slots each)
  removed timer (Some slot ∷ slots) each =
      removed_by (same_timer timer slot.timer) timer slot slots (place_of timer slots) refl each.0 (removed timer slots each.1)

  left_here : (c : Bool) (timer other : Timer) (slot : Bucket V) (slots : List (Option (Bucket V))) → same_timer timer slot.timer ≡ true
      → same_timer timer other ≡ c → value_of slot.timer (rows_of slots) ≡ None
      → option_map suc (place_of other slots) ≡ (if c then None else (if same_timer other slot.timer then Some 0 else option_map suc (place_of other slots)))
  left_here true timer other slot slots e f none =
      let same : slot.timer ≡ other = sym (timers_same timer slot.timer e) ∙ timers_same timer other f in
      let absent : value_of other (rows_of slots) ≡ None = rw (← same) none in
      ap (option_map suc) (no_place other slots absent)
  left_here false timer other slot slots e f none =
      let same : timer ≡ slot.timer = timers_same timer slot.timer e in
      let apart : same_timer other slot.timer ≡ false = rw (← same) (same_timer_flips other timer ∙ f) in
      rw apart refl

  left_further : (c : Bool) (timer other : Timer) (slot : Bucket V) (slots : List (Option (Bucket V))) → same_timer timer slot.timer ≡ false
      → same_timer timer other ≡ c
      → (if same_timer other slot.timer then Some 0 else option_map suc (if c then None else place_of other slots))
      ≡ (if c then None else (if same_timer other slot.timer then Some 0 else option_map suc (place_of other slots)))
  left_further true timer other slot slots e f =
      let same : timer ≡ other = timers_same timer other f in
      let apart : same_timer other slot.timer ≡ false = rw (← same) e in
      rw apart refl
  left_further false timer other slot slots e f = refl

  left_by : (b : Bool) (timer other : Timer) (slot : Bucket V) (slots : List (Option (Bucket V))) (place : Option ℕ) → same_timer timer slot.timer ≡ b
      → value_of slot.timer (rows_of slots) ≡ None
      → place_of other (with_hole slots place) ≡ (if same_timer timer other then None else place_of other slots)
      → place_of other (with_hole (Some slot ∷ slots) (if b then Some 0 else option_map suc place))
      ≡ (if same_timer timer other then None else place_of other (Some slot ∷ slots))
  left_by true timer other slot slots place e none h = left_here (same_timer timer other) timer other slot slots e refl none
  left_by false timer other slot slots place e none h =
      rw (hole_next (Some slot) slots place, h) (left_further (same_timer timer other) timer other slot slots e refl)

  -- with a hole in its place the timer has none; the others keep theirs
  pub places_left : (timer other : Timer) (slots : List (Option (Bucket V))) → OnceEach (rows_of slots)
      → place_of other (with_hole slots (place_of timer slots)) ≡ (if same_timer timer other then None else place_of other slots)
  places_left timer other [] each = none_twice (same_timer timer other)
  places_left timer other (None ∷ slots) each =
      rw (hole_next None slots (place_of timer slots), places_left timer other slots each) (next_if (same_timer timer other) (place_of other slots))
  places_left timer other (Some slot ∷ slots) each =
      left_by (same_timer timer slot.timer) timer other slot slots (place_of timer slots) refl each.0 (places_left timer other slots each.1)

  pub length_hole : (slots : List (Option (Bucket V))) (place : Option ℕ) → length (with_hole slots place) ≡ length slots
  length_hole slots None = refl
  length_hole slots (Some place) = length-set slots place None

  -- ---- with one slot more
  pub rows_more : (slots : List (Option (Bucket V))) (slot : Option (Bucket V)) → rows_of (slots ++ slot ∷ []) ≡ rows_of slots ++ rows_of (slot ∷ [])
  rows_more [] slot = refl
  rows_more (None ∷ slots) slot = rows_more slots slot
  rows_more (Some first ∷ slots) slot = ap (λ t. row_of first ∷ t) (rows_more slots slot)

  pub place_more : (timer : Timer) (slots : List (Option (Bucket V))) (slot : Option (Bucket V))
      → place_of timer (slots ++ slot ∷ []) ≡ option_or (place_of timer slots) (if is_for timer slot then Some (length slots) else None)
  place_more timer [] slot = refl
  place_more timer (first ∷ slots) slot =
      rw (place_more timer slots slot) (more_by (is_for timer first) (is_for timer slot) (place_of timer slots) (length slots))

  pub place_more_hole : (timer : Timer) (slots : List (Option (Bucket V))) → place_of timer (slots ++ None ∷ []) ≡ place_of timer slots
  place_more_hole timer [] = refl
  place_more_hole timer (first ∷ slots) = rw (place_more_hole timer slots) refl

  put_by : (c : Bool) (timer other : Timer) (slots : List (Option (Bucket V))) → same_timer timer other ≡ c → place_of timer slots ≡ None
      → option_or (place_of other slots) (if c then Some (length slots) else None) ≡ (if c then Some (length slots) else place_of other slots)
  put_by true timer other slots e none =
      let same : timer ≡ other = timers_same timer other e in
      let absent : place_of other slots ≡ None = rw (← same) none in
      rw absent refl
  put_by false timer other slots e none = or_none (place_of other slots)

  -- a slot goes last for a timer that had none; the others keep their places
  pub place_put : (slot : Bucket V) (other : Timer) (slots : List (Option (Bucket V))) → place_of slot.timer slots ≡ None
      → place_of other (slots ++ Some slot ∷ []) ≡ (if same_timer slot.timer other then Some (length slots) else place_of other slots)
  place_put slot other slots none =
      place_more other slots (Some slot)
      ∙ (rw (same_timer_flips other slot.timer) (put_by (same_timer slot.timer other) slot.timer other slots refl none))

  none_here : (timer : Timer) (slots : List (Option (Bucket V))) → OnceEach (rows_of slots) → place_of timer (with_hole slots (place_of timer slots)) ≡ None
  none_here timer slots each = places_left timer timer slots each ∙ (rw (same_timer_self timer) refl)

  -- a timer is put: a hole in its old place, and its slot at the end
  pub places_put : (timer other : Timer) (value : V) (slots : List (Option (Bucket V))) → OnceEach (rows_of slots)
      → place_of other (with_hole slots (place_of timer slots) ++ Some (record { timer = timer; value = value }) ∷ [])
      ≡ (if same_timer timer other then Some (length slots) else place_of other slots)
  places_put timer other value slots each =
      place_put (record { timer = timer; value = value }) other (with_hole slots (place_of timer slots)) (none_here timer slots each)
      ∙ (rw (places_left timer other slots each, length_hole slots (place_of timer slots))
      (both_if (same_timer timer other) (Some (length slots)) (place_of other slots)))

  pub rows_put : (timer : Timer) (value : V) (slots : List (Option (Bucket V))) → OnceEach (rows_of slots)
      → rows_of (with_hole slots (place_of timer slots) ++ Some (record { timer = timer; value = value }) ∷ [])
      ≡ without_timer timer (rows_of slots) ++ (timer, value) ∷ []
  rows_put timer value slots each =
      rows_more (with_hole slots (place_of timer slots)) (Some (record { timer = timer; value = value }))
      ∙ ap (λ rows. rows ++ (timer, value) ∷ []) (removed timer slots each)

  -- ---- without the holes
  pub rows_closed : (slots : List (Option (Bucket V))) → rows_of (filter is_some slots) ≡ rows_of slots
  rows_closed [] = refl
  rows_closed (None ∷ slots) = rows_closed slots
  rows_closed (Some slot ∷ slots) = ap (λ t. row_of slot ∷ t) (rows_closed slots)

  pub length_closed : (slots : List (Option (Bucket V))) → length (filter is_some slots) ≡ length (rows_of slots)
  length_closed [] = refl
  length_closed (None ∷ slots) = length_closed slots
  length_closed (Some slot ∷ slots) = ap suc (length_closed slots)

  pub known_closed : (timer : Timer) (slots : List (Option (Bucket V))) → is_some (place_of timer slots) ≡ is_some (place_of timer (filter is_some slots))
  known_closed timer slots = known timer slots ∙ (sym (rw (rows_closed slots) at (known timer (filter is_some slots))))

  -- ---- a slot at a place
  other_at : (timer : Timer) (slots : List (Option (Bucket V))) (place : ℕ) (slot : Bucket V) → value_of timer (rows_of slots) ≡ None
      → slice_get slots place ≡ Some (Some slot) → same_timer timer slot.timer ≡ false
  other_at timer [] place slot h at = cc
  other_at timer (None ∷ slots) zero slot h at = cc
  other_at timer (Some first ∷ slots) zero slot h at =
      let same : first ≡ slot = cc in rw (← same) (not_first timer (row_of first) (rows_of slots) h).0
  other_at timer (None ∷ slots) (suc place) slot h at = other_at timer slots place slot h at
  other_at timer (Some first ∷ slots) (suc place) slot h at =
      other_at timer slots place slot (not_first timer (row_of first) (rows_of slots) h).1 at

  -- none before it is of its timer
  pub none_before : (slots : List (Option (Bucket V))) (place : ℕ) (slot : Bucket V) → OnceEach (rows_of slots)
      → slice_get slots place ≡ Some (Some slot) → place_of slot.timer (take place slots) ≡ None
  none_before [] place slot each at = cc
  none_before (first ∷ slots) zero slot each at = refl
  none_before (None ∷ slots) (suc place) slot each at = ap (option_map suc) (none_before slots place slot each at)
  none_before (Some first ∷ slots) (suc place) slot each at =
      let apart : same_timer slot.timer first.timer ≡ false =
      same_timer_flips slot.timer first.timer ∙ other_at first.timer slots place slot each.0 at in
      rw apart (ap (option_map suc) (none_before slots place slot each.1 at))

  -- its timer has a place
  pub there : (slots : List (Option (Bucket V))) (place : ℕ) (slot : Bucket V) → slice_get slots place ≡ Some (Some slot)
      → is_some (place_of slot.timer slots) ≡ true
  there [] place slot at = cc
  there (None ∷ slots) zero slot at = cc
  there (Some first ∷ slots) zero slot at =
      let same : first ≡ slot = cc in rw (same, same_timer_self slot.timer) refl
  there (first ∷ slots) (suc place) slot at = there_by (is_for slot.timer first) (place_of slot.timer slots) (there slots place slot at)

  -- ---- a value is marked
  marked_none : (marked : V → V) (timer : Timer) (rows : List (Timer × V)) → value_of timer rows ≡ None → map (marked_row marked timer) rows ≡ rows
  marked_none marked timer [] h = refl
  marked_none marked timer (row ∷ rows) h =
      let parts = not_first timer row rows h in
      rw parts.0 (ap (λ t. row ∷ t) (marked_none marked timer rows parts.1))

  marked_by : (b : Bool) (marked : V → V) (timer : Timer) (slot : Bucket V) (slots : List (Option (Bucket V))) (place : Option ℕ)
      → same_timer timer slot.timer ≡ b → value_of slot.timer (rows_of slots) ≡ None
      → rows_of (marked_at marked slots place) ≡ map (marked_row marked timer) (rows_of slots)
      → rows_of (marked_at marked (Some slot ∷ slots) (if b then Some 0 else option_map suc place))
      ≡ (slot.timer, if b then marked slot.value else slot.value) ∷ map (marked_row marked timer) (rows_of slots)
  marked_by true marked timer slot slots place e none h =
      let same : timer ≡ slot.timer = timers_same timer slot.timer e in
      let absent : value_of timer (rows_of slots) ≡ None = rw same none in
      ap (λ t. (slot.timer, marked slot.value) ∷ t) (sym (marked_none marked timer (rows_of slots) absent))
  marked_by false marked timer slot slots place e none h = rw (marked_next marked (Some slot) slots place) (ap (λ t. row_of slot ∷ t) h)

  pub rows_marked : (marked : V → V) (timer : Timer) (slots : List (Option (Bucket V))) → OnceEach (rows_of slots)
      → rows_of (marked_at marked slots (place_of timer slots)) ≡ map (marked_row marked timer) (rows_of slots)
  rows_marked marked timer [] each = refl
  rows_marked marked timer (None ∷ slots) each = rw (marked_next marked None slots (place_of timer slots)) (rows_marked marked timer slots each)
  rows_marked marked timer (Some slot ∷ slots) each =
      marked_by (same_timer timer slot.timer) marked timer slot slots (place_of timer slots) refl each.0 (rows_marked marked timer slots each.1)

  places_set : (marked : V → V) (other : Timer) (slots : List (Option (Bucket V))) (place : ℕ)
      → place_of other (set slots place (marked_slot marked (get_or slots place None))) ≡ place_of other slots
  places_set marked other [] place = refl
  places_set marked other (None ∷ slots) zero = refl
  places_set marked other (Some slot ∷ slots) zero = refl
  places_set marked other (first ∷ slots) (suc place) =
      ap (λ here. if is_for other first then Some 0 else option_map suc here) (places_set marked other slots place)

  -- no place changes
  pub places_marked : (marked : V → V) (other : Timer) (slots : List (Option (Bucket V))) (place : Option ℕ)
      → place_of other (marked_at marked slots place) ≡ place_of other slots
  places_marked marked other slots None = refl
  places_marked marked other slots (Some place) = places_set marked other slots place

  -- ---- a walk over all slots
  -- with the next slot, the timer in it has this place
  pub place_further : (other : Timer) (slots : List (Option (Bucket V))) (place : ℕ) (item : Option (Bucket V)) (slot : Bucket V) → OnceEach (rows_of slots)
      → place < length slots → item ≡ get_or slots place item → item ≡ Some slot
      → place_of other (take (place + 1) slots) ≡ (if same_timer slot.timer other then Some place else place_of other (take place slots))
  place_further other slots place item slot each within at is =
      let found : slice_get slots place ≡ Some (Some slot) = slice_get-get_or slots place item within ∙ ap Some (sym at ∙ is) in
      let more : take (place + 1) slots ≡ take place slots ++ Some slot ∷ [] = take_more slots place item within ∙ ap (λ t. take place slots ++ t ∷ []) (sym at ∙ is) in
      let long : length (take place slots) ≡ place = length-take-le place slots (omega arith) in
      ap (place_of other) more ∙ (place_put slot other (take place slots) (none_before slots place slot each found)
      ∙ ap (λ n. if same_timer slot.timer other then Some n else place_of other (take place slots)) long)

  -- with the next slot, which is a hole, no place changes
  pub place_further_hole : (other : Timer) (slots : List (Option (Bucket V))) (place : ℕ) (item : Option (Bucket V)) → place < length slots
      → item ≡ get_or slots place item → item ≡ None → place_of other (take (place + 1) slots) ≡ place_of other (take place slots)
  place_further_hole other slots place item within at is =
      let more : take (place + 1) slots ≡ take place slots ++ None ∷ [] = take_more slots place item within ∙ ap (λ t. take place slots ++ t ∷ []) (sym at ∙ is) in
      ap (place_of other) more ∙ place_more_hole other (take place slots)

  pub places_all : (other : Timer) (slots : List (Option (Bucket V))) (place : ℕ) → length slots ≤ place → place_of other (take place slots) ≡ place_of other slots
  places_all other slots place h = ap (place_of other) (take_all place slots h)

  -- ---- so many rows as are there so far
  pub rows_further : (slots : List (Option (Bucket V))) (place : ℕ) (item : Option (Bucket V)) (slot : Bucket V) → place < length slots
      → item ≡ get_or slots place item → item ≡ Some slot → rows_of (take (place + 1) slots) ≡ rows_of (take place slots) ++ row_of slot ∷ []
  rows_further slots place item slot within at is =
      let more : take (place + 1) slots ≡ take place slots ++ Some slot ∷ [] = take_more slots place item within ∙ ap (λ t. take place slots ++ t ∷ []) (sym at ∙ is) in
      ap rows_of more ∙ rows_more (take place slots) (Some slot)

  pub rows_further_hole : (slots : List (Option (Bucket V))) (place : ℕ) (item : Option (Bucket V)) → place < length slots
      → item ≡ get_or slots place item → item ≡ None → rows_of (take (place + 1) slots) ≡ rows_of (take place slots)
  rows_further_hole slots place item within at is =
      let more : take (place + 1) slots ≡ take place slots ++ None ∷ [] = take_more slots place item within ∙ ap (λ t. take place slots ++ t ∷ []) (sym at ∙ is) in
      ap rows_of more ∙ (rows_more (take place slots) None ∙ append-nil (rows_of (take place slots)))

  rows_within : (n : ℕ) (slots : List (Option (Bucket V))) → length (rows_of (take n slots)) ≤ length (rows_of slots)
  rows_within zero [] = omega arith
  rows_within (suc n) [] = omega arith
  rows_within zero (slot ∷ slots) = omega arith
  rows_within (suc n) (None ∷ slots) = rows_within n slots
  rows_within (suc n) (Some slot ∷ slots) = omega (arith, rows_within n slots)

  -- those before a slot are fewer than all
  pub fewer_before : (slots : List (Option (Bucket V))) (place : ℕ) (item : Option (Bucket V)) (slot : Bucket V) → place < length slots
      → item ≡ get_or slots place item → item ≡ Some slot → length (rows_of (take place slots)) < length (rows_of slots)
  fewer_before slots place item slot within at is =
      let more = ap length (rows_further slots place item slot within at is) in
      omega (arith, rows_within (place + 1) slots, more, length-append (rows_of (take place slots)) (row_of slot ∷ []))

  pub there_at : (slots : List (Option (Bucket V))) (place : ℕ) (item : Option (Bucket V)) (slot : Bucket V) → place < length slots
      → item ≡ get_or slots place item → item ≡ Some slot → is_some (place_of slot.timer slots) ≡ true
  there_at slots place item slot within at is =
      there slots place slot (slice_get-get_or slots place item within ∙ ap Some (sym at ∙ is))

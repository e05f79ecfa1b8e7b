-- Rows by timer: those without a timer's, and with one more.
use Rattle.std.proofs.Common.{◌≡◌, ◌<◌, ◌≤◌, ◌⊎◌, inl, inr, ℕ, suc, ◌+◌, ◌*◌, Bool, true, false, not, if◌then◌else◌, List, [], ◌∷◌, ◌++◌, map, length, refl, sym, ap, ◌∙◌, arith}
use Rattle.std.specs.Prelude.{Some, None, is_some}
use Rattle.st_events.specs.declared.timer.Timer.{Timer}
use Rattle.st_events.specs.Timers.{same_timer}
use Rattle.st_events.proofs.ComparedLemmas.{same_timer_flips, no_first, timers_same}
use Rattle.st_timer_map.specs.Rows.{value_of, without_timer, OnceEach}

module _ {V : Type 0} where
  -- ---- a timer that is not there
  -- the first is not of it, and neither is one of the others
  pub not_first : (timer : Timer) (row : Timer × V) (rows : List (Timer × V)) → value_of timer (row ∷ rows) ≡ None
      → (same_timer timer row.0 ≡ false) × (value_of timer rows ≡ None)
  not_first timer row rows h = no_first (same_timer timer row.0) row.1 (value_of timer rows) h

  pub without_none : (timer : Timer) (rows : List (Timer × V)) → value_of timer rows ≡ None → without_timer timer rows ≡ rows
  without_none timer [] h = refl
  without_none timer (row ∷ rows) h =
      let parts = not_first timer row rows h in
      rw parts.0 (ap (λ t. row ∷ t) (without_none timer rows parts.1))

  -- ---- fewer rows
  without_keeps_by : (b : Bool) (timer : Timer) (row : Timer × V) (rest : List (Timer × V)) → same_timer timer row.0 ≡ false
      → value_of timer rest ≡ None → value_of timer (if b then row ∷ rest else rest) ≡ None
  without_keeps_by true timer row rest other h = rw other h
  without_keeps_by false timer row rest other h = h

  -- a timer that is not there is not there among fewer
  without_keeps : (timer other : Timer) (rows : List (Timer × V)) → value_of other rows ≡ None → value_of other (without_timer timer rows) ≡ None
  without_keeps timer other [] h = refl
  without_keeps timer other (row ∷ rows) h =
      let parts = not_first other row rows h in
      without_keeps_by (not (same_timer timer row.0)) other row (without_timer timer rows) parts.0 (without_keeps timer other rows parts.1)

  once_each_without_by : (b : Bool) (row : Timer × V) (rest : List (Timer × V)) → value_of row.0 rest ≡ None → OnceEach rest
      → OnceEach (if b then row ∷ rest else rest)
  once_each_without_by true row rest none each = (none, each)
  once_each_without_by false row rest none each = each

  pub once_each_without : (timer : Timer) (rows : List (Timer × V)) → OnceEach rows → OnceEach (without_timer timer rows)
  once_each_without timer [] each = tt
  once_each_without timer (row ∷ rows) each =
      once_each_without_by (not (same_timer timer row.0)) row (without_timer timer rows)
      (without_keeps timer row.0 rows each.0) (once_each_without timer rows each.1)

  gone_by : (b : Bool) (timer : Timer) (row : Timer × V) (rest : List (Timer × V)) → same_timer timer row.0 ≡ b → value_of timer rest ≡ None
      → value_of timer (if not b then row ∷ rest else rest) ≡ None
  gone_by true timer row rest e h = h
  gone_by false timer row rest e h = rw e h

  pub gone : (timer : Timer) (rows : List (Timer × V)) → value_of timer (without_timer timer rows) ≡ None
  gone timer [] = refl
  gone timer (row ∷ rows) = gone_by (same_timer timer row.0) timer row (without_timer timer rows) refl (gone timer rows)

  -- ---- one row more
  none_more : (timer : Timer) (rows : List (Timer × V)) (row : Timer × V) → value_of timer rows ≡ None → same_timer timer row.0 ≡ false
      → value_of timer (rows ++ row ∷ []) ≡ None
  none_more timer [] row h other = rw other refl
  none_more timer (first ∷ rows) row h other =
      let parts = not_first timer first rows h in rw parts.0 (none_more timer rows row parts.1 other)

  once_each_more : (rows : List (Timer × V)) (row : Timer × V) → OnceEach rows → value_of row.0 rows ≡ None → OnceEach (rows ++ row ∷ [])
  once_each_more [] row each none = (refl, tt)
  once_each_more (first ∷ rows) row each none =
      let parts = not_first row.0 first rows none in
      let other = same_timer_flips first.0 row.0 ∙ parts.0 in
      (none_more first.0 rows row each.0 other, once_each_more rows row each.1 parts.1)

  -- where a timer is put, it is there once
  pub once_each_put : (timer : Timer) (value : V) (rows : List (Timer × V)) → OnceEach rows
      → OnceEach (without_timer timer rows ++ (timer, value) ∷ [])
  once_each_put timer value rows each =
      once_each_more (without_timer timer rows) (timer, value) (once_each_without timer rows each) (gone timer rows)

  -- ---- how many
  counted_by : (b : Bool) (timer : Timer) (row : Timer × V) (rows : List (Timer × V)) → same_timer timer row.0 ≡ b → value_of row.0 rows ≡ None
      → length (without_timer timer rows) + (if is_some (value_of timer rows) then 1 else 0) ≡ length rows
      → length (if not b then row ∷ without_timer timer rows else without_timer timer rows)
      + (if is_some (if b then Some row.1 else value_of timer rows) then 1 else 0) ≡ length (row ∷ rows)
  counted_by true timer row rows e none h =
      let same : timer ≡ row.0 = timers_same timer row.0 e in
      let absent : value_of timer rows ≡ None = rw same none in
      omega (arith, ap length (without_none timer rows absent))
  counted_by false timer row rows e none h = omega (arith, h)

  -- without a timer that is there, there is one row less
  pub counted_without : (timer : Timer) (rows : List (Timer × V)) → OnceEach rows
      → length (without_timer timer rows) + (if is_some (value_of timer rows) then 1 else 0) ≡ length rows
  counted_without timer [] each = omega arith
  counted_without timer (row ∷ rows) each =
      counted_by (same_timer timer row.0) timer row rows refl each.0 (counted_without timer rows each.1)

  pub one_less : (timer : Timer) (rows : List (Timer × V)) → OnceEach rows → is_some (value_of timer rows) ≡ true
      → length (without_timer timer rows) + 1 ≡ length rows
  one_less timer rows each there = rw there at (counted_without timer rows each)

  pub none_less : (timer : Timer) (rows : List (Timer × V)) → OnceEach rows → is_some (value_of timer rows) ≡ false
      → length (without_timer timer rows) ≡ length rows
  none_less timer rows each there = let counted = rw there at (counted_without timer rows each) in omega (arith, counted)

  -- where a timer that is put is not there, one more is reserved for
  pub room_left : (timer : Timer) (rows : List (Timer × V)) (reserved : ℕ) → is_some (value_of timer rows) ≡ false
      → (is_some (value_of timer rows) ≡ true) ⊎ (0 < reserved) → 0 < reserved
  room_left timer rows reserved h (inl k) = let never : false ≡ true = sym h ∙ k in cc
  room_left timer rows reserved h (inr k) = k

  -- a timer that is there, or that is reserved for, leaves room
  pub fewer_than : (timer : Timer) (rows : List (Timer × V)) (live reserved capacity : ℕ) → (is_some (value_of timer rows) ≡ true) ⊎ (0 < reserved)
      → live ≡ length rows → 2 * (live + reserved) ≤ capacity → length rows < capacity
  fewer_than timer [] live reserved capacity (inl there) counted fits = cc
  fewer_than timer (row ∷ rows) live reserved capacity (inl there) counted fits = omega (arith, counted, fits)
  fewer_than timer rows live reserved capacity (inr more) counted fits = omega (arith, more, counted, fits)

  -- ---- a value is marked
  abbrev pub marked_row : (V → V) → Timer → Timer × V → Timer × V
  marked_row marked timer row = (row.0, if same_timer timer row.0 then marked row.1 else row.1)

  marked_absent : (marked : V → V) (timer other : Timer) (rows : List (Timer × V)) → value_of other rows ≡ None
      → value_of other (map (marked_row marked timer) rows) ≡ None
  marked_absent marked timer other [] h = refl
  marked_absent marked timer other (row ∷ rows) h =
      let parts = not_first other row rows h in rw parts.0 (marked_absent marked timer other rows parts.1)

  pub once_each_marked : (marked : V → V) (timer : Timer) (rows : List (Timer × V)) → OnceEach rows → OnceEach (map (marked_row marked timer) rows)
  once_each_marked marked timer [] each = tt
  once_each_marked marked timer (row ∷ rows) each =
      (marked_absent marked timer row.0 rows each.0, once_each_marked marked timer rows each.1)

  pub counted_marked : (marked : V → V) (timer : Timer) (rows : List (Timer × V)) → length (map (marked_row marked timer) rows) ≡ length rows
  counted_marked marked timer [] = refl
  counted_marked marked timer (row ∷ rows) = ap suc (counted_marked marked timer rows)

-- Lists moved, one behind another, to a list in the making.
use Rattle.std.proofs.Common.{◌≡◌, ℕ, zero, suc, ◌+◌, ◌≤◌, ◌<◌, Bool, true, false, cond, Some, None, List, [], ◌∷◌, ◌++◌, refl, sym, ap, ◌∙◌, length, take, max, arith}
use Rattle.std.specs.Prelude.{if◌then◌else◌, ◌||◌, not, filter, slice_get}
use Rattle.std.proofs.Math.Bool.{or_comm}
use Rattle.std.proofs.lemmas.List.Folds.{list_any_more}
use Rattle.std.proofs.lemmas.Option.{slice_get_within, get_or_from_slice_get}
use Rattle.st_events.specs.Building.{Building}
use Rattle.st_events.specs.declared.setting.Setting.{Setting}
use Rattle.st_events.specs.declared.timer.Timer.{Timer}
use Rattle.st_events.specs.Timers.{same_timer}
use Rattle.st_actions.specs.Joined.{is_setting_of, is_set_by, remaining_of, with_elements}

module _ {X : Type 0} where
  -- what is reserved is enough for the second list behind the first
  pub reserved_behind : (begun between : Building X) (moved : List X) (first second : ℕ) → begun ≡ record { items = []; reserved = max 4 (first + second) }
      → length moved ≤ first → between ≡ with_elements begun moved → second ≤ between.reserved
  reserved_behind begun between moved first second got few same =
      omega (arith, few, ap (λ b. b.reserved) got, ap (λ b. b.reserved) same)

  -- the first list stands before the second
  pub both_moved : (begun between ended : Building X) (first second result : List X) (reserved : ℕ) → begun ≡ record { items = []; reserved = reserved }
      → between ≡ with_elements begun first → ended ≡ with_elements between second → result ≡ ended.items → result ≡ first ++ second
  both_moved begun between ended first second result reserved got one two same =
      same ∙ (ap (λ b. b.items) two ∙ ap (λ items. items ++ second) (ap (λ b. b.items) one ∙ ap (λ (b : Building X). b.items ++ first) got))

module _ {C : Type 0} where
  one_or_none : (setting : Setting C) (settings remaining : List (Setting C)) (asked : Bool) → length remaining ≤ length settings
      → length (if asked then remaining else setting ∷ remaining) ≤ length (setting ∷ settings)
  one_or_none setting settings remaining true few = omega (arith, few)
  one_or_none setting settings remaining false few = omega (arith, few)

  -- no setting is added
  pub no_more_remain : (settings later : List (Setting C)) → length (remaining_of settings later) ≤ length settings
  no_more_remain [] later = omega arith
  no_more_remain (setting ∷ settings) later = one_or_none setting settings (remaining_of settings later) (is_set_by setting.timer later) (no_more_remain settings later)

  one_or_same : (setting : Setting C) (filtered remaining : List (Setting C)) (stays asked : Bool) → stays ≡ not asked → filtered ≡ remaining
      → cond stays (setting ∷ filtered) filtered ≡ (if asked then remaining else setting ∷ remaining)
  one_or_same setting filtered remaining stays true same_test same = rw (same_test, same) refl
  one_or_same setting filtered remaining stays false same_test same = rw (same_test, same) refl

  -- the settings whose timers no later one sets are those that pass this test
  remaining_pass : (stays : Setting C → Bool) (settings later : List (Setting C))
      → ((setting : Setting C) → stays setting ≡ not (is_set_by setting.timer later)) → filter stays settings ≡ remaining_of settings later
  remaining_pass stays [] later same = refl
  remaining_pass stays (setting ∷ settings) later same =
      one_or_same setting (filter stays settings) (remaining_of settings later) (stays setting) (is_set_by setting.timer later) (same setting) (remaining_pass stays settings later same)

  -- what was moved is what remains
  pub remaining_moved : (begun ended : Building (Setting C)) (stays : Setting C → Bool) (settings later : List (Setting C))
      → ((setting : Setting C) → stays setting ≡ not (is_set_by setting.timer later)) → ended ≡ with_elements begun (filter stays settings)
      → ended ≡ with_elements begun (remaining_of settings later)
  remaining_moved begun ended stays settings later same moved = moved ∙ ap (with_elements begun) (remaining_pass stays settings later same)

  -- the timer of one setting more is noted
  pub one_more_noted : (timer : Timer) (settings : List (Setting C)) (index : ℕ) (setting : Setting C) (before after : Bool)
      → Some setting ≡ slice_get settings index → before ≡ is_set_by timer (take index settings)
      → after ≡ (same_timer timer setting.timer || before) → after ≡ is_set_by timer (take (index + 1) settings)
  one_more_noted timer settings index setting before after found noted same =
      let within = slice_get_within settings index setting (sym found) in
      let read = get_or_from_slice_get settings index setting setting (sym found) in
      let more = list_any_more (λ (one : Setting C). is_setting_of timer one) settings index setting within in
      same ∙ (ap (λ b. same_timer timer setting.timer || b) noted
      ∙ (or_comm (same_timer timer setting.timer) (is_set_by timer (take index settings)) ∙ sym (rw read at more)))

module _ {X : Type 0} where
  -- there is an element at each index
  pub is_there : (elements : List X) (index : ℕ) → index < length elements → None ≡ slice_get elements index → ⊥
  is_there [] index within none = omega (arith, within)
  is_there (element ∷ elements) zero within none = cc
  is_there (element ∷ elements) (suc index) within none = is_there elements index (omega (arith, within)) none

-- How many numbers actions take.
use Rattle.std.proofs.Common.{◌≡◌, ℕ, ◌+◌, ◌-◌, ◌<◌, ◌≤◌, ◌^◌, Bool, true, false, List, [], ◌∷◌, refl, sym, ◌∙◌, arith, ◌⊎◌, inl, inr}
use Rattle.std.specs.Prelude.{nat_le}
use Rattle.std.proofs.lemmas.Bool.Decides.{leb_tells}
use Rattle.st_events.specs.declared.asked.Asked.{Asked}
use Rattle.st_events.specs.declared.asked.Asked.TheVariants.{Set, Cancel, Update}
use Rattle.st_events.specs.declared.setting.Setting.{Setting}
use Rattle.st_events.specs.declared.timer.Timer.{Timer}
use Rattle.st_actions.specs.Counted.{taken_always, updates_by, starts_in, updates_in}
use Rattle.st_timeouts.specs.declared.running.Running.{Running}
use Rattle.st_agenda.specs.Timing.{taken_by, numbers_taken}

module _ {C : Type 0} where
  none_by : (running : List (Running C)) (timer : Timer) (wanted : Asked C) → updates_by wanted ≡ 0 → taken_by running timer wanted ≡ taken_always wanted
  none_by running timer (Set time content) none = refl
  none_by running timer Cancel none = refl
  none_by running timer (Update content) none = cc

  -- without an update they take those that they take in any case
  pub without_updates : (running : List (Running C)) (settings : List (Setting C)) → updates_in settings ≡ 0 → numbers_taken running settings ≡ starts_in settings
  without_updates running [] none = refl
  without_updates running (setting ∷ settings) none =
      let first = none_by running setting.timer setting.asked (omega (arith, none)) in
      let rest = without_updates running settings (omega (arith, none)) in
      omega (arith, first, rest)

-- two tests that say the same
by_tests : (one other : Bool) (a b c d : ℕ) → ((one ≡ true) × (a ≤ b)) ⊎ ((one ≡ false) × (b < a)) → ((other ≡ true) × (c ≤ d)) ⊎ ((other ≡ false) × (d < c))
    → (a ≤ b → c ≤ d) → (c ≤ d → a ≤ b) → one ≡ other
by_tests one other a b c d (inl h) (inl k) there back = h.0 ∙ sym k.0
by_tests one other a b c d (inl h) (inr k) there back = let more = there h.1 in absurd (omega (arith, more, k.1))
by_tests one other a b c d (inr h) (inl k) there back = let more = back k.1 in absurd (omega (arith, more, h.1))
by_tests one other a b c d (inr h) (inr k) there back = h.0 ∙ sym k.0

-- so many numbers are left where the next one is known
pub enough_left : (next left numbers taken : ℕ) → next ≤ 2 ^ 63 → left ≡ 2 ^ 63 - next → numbers ≡ taken → nat_le numbers left ≡ nat_le (next + taken) (2 ^ 63)
enough_left next left numbers taken bounded rest same =
    by_tests (nat_le numbers left) (nat_le (next + taken) (2 ^ 63)) numbers left (next + taken) (2 ^ 63)
    (leb_tells numbers left) (leb_tells (next + taken) (2 ^ 63))
    (λ fits. omega (arith, fits, bounded, rest, same)) (λ fits. omega (arith, fits, bounded, rest, same))

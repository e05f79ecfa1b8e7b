-- How many numbers settings take at most.
use Rattle.std.proofs.Common.{◌≤◌, Bool, true, false, if◌then◌else◌, List, [], ◌∷◌, length, arith}
use Rattle.std.specs.Prelude.{is_some}
use Rattle.st_events.specs.declared.asked.Asked.{Asked}
use Rattle.st_events.specs.declared.asked.Asked.TheVariants as asked
use Rattle.st_events.specs.declared.setting.Setting.{Setting}
use Rattle.st_events.specs.declared.time.Time.TheVariants.{After, Infinity}
use Rattle.st_events.specs.declared.timer.Timer.{Timer}
use Rattle.st_timeouts.specs.declared.running.Running.{Running}
use Rattle.st_timeouts.specs.Running.{running_of}
use Rattle.st_agenda.specs.Timing.{taken_by, numbers_taken}

one_or_none : (runs : Bool) → (if runs then 0 else 1) ≤ 1
one_or_none true = omega arith
one_or_none false = omega arith

module _ {C : Type 0} (running : List (Running C)) where
  one_at_most : (timer : Timer) (wanted : Asked C) → taken_by running timer wanted ≤ 1
  one_at_most timer (asked.Set Infinity content) = omega arith
  one_at_most timer (asked.Set (After time) content) = omega arith
  one_at_most timer asked.Cancel = omega arith
  one_at_most timer (asked.Update content) = one_or_none (is_some (running_of timer running))

  -- one each
  pub few_numbers : (settings : List (Setting C)) → numbers_taken running settings ≤ length settings
  few_numbers [] = omega arith
  few_numbers (setting ∷ settings) =
      let one = one_at_most setting.timer setting.asked in
      let rest = few_numbers settings in
      omega (arith, one, rest)

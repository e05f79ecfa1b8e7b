-- One expiry after another, and one setting after another.
use Rattle.std.proofs.Common.{◌≡◌, ℕ, suc, ◌+◌, ◌<◌, ◌≤◌, ◌^◌, ◌⊎◌, inl, inr, Option, Some, None, List, [], ◌∷◌, ◌++◌, arith, ap, refl, sym, ◌∙◌, length, take, get_or}
use Rattle.std.specs.Prelude.{slice_get}
use Rattle.std.specs.Option.{option_to_list}
use Rattle.std.proofs.Math.Seq.{take-suc}
use Rattle.std.proofs.lemmas.List.{take_all}
use Rattle.std.proofs.lemmas.Option.{slice_get_cases}
use Rattle.st_events.specs.declared.action.Action.{Action}
use Rattle.st_events.specs.declared.setting.Setting.{Setting}
use Rattle.st_events.specs.Timers.{AskedOnce}
use Rattle.st_timeouts.specs.declared.running.Running.{Running}
use Rattle.st_actions.specs.Taking.{all_settings_of}
use Rattle.st_agenda.specs.Timing.{numbers_taken, expiring_by}
use Rattle.st_agenda.specs.declared.schedule.Schedule.{Schedule}
use Rattle.st_agenda.specs.Agenda.{Agenda, with_all_expired, set_in, all_set_in}
use Rattle.st_agenda.proofs.LawfulSetting.{asked_next, numbers_same}

module _ {C : Type 0} where
  -- what expires of a schedule
  abbrev due_of : ℕ → Schedule C → List (Running C)
  due_of now schedule = expiring_by now schedule.pending schedule.running

  -- so many have expired; those that are left are to come
  pub record ExpiredSoFar (now : ℕ) (old : Schedule C) (agenda : Agenda C) (place end : ℕ) : Type 0 where
    pub left : length (due_of now agenda.schedule) + place ≡ end
    pub reserved : length (due_of now agenda.schedule) ≤ agenda.staged
    pub all : with_all_expired (due_of now agenda.schedule) agenda.schedule ≡ with_all_expired (due_of now old) old

  -- none has expired yet
  pub expired_none_yet : (now : ℕ) (old : Schedule C) (agenda : Agenda C) (count : ℕ) → agenda.schedule ≡ old → count ≡ length (due_of now old) → count ≤ agenda.staged
      → ExpiredSoFar now old agenda 0 count
  expired_none_yet now old agenda count same counted staged = record {
    left = rw same (omega (arith, counted));
    reserved = rw same (omega (arith, counted, staged));
    all = rw same refl;
  }

  -- some settings are done; those that are left are to be done
  pub record SetSoFar (now : ℕ) (old : Schedule C) (settings : List (Setting C)) (agenda : Agenda C) (left : List (Setting C)) : Type 0 where
    pub all : all_set_in now agenda.schedule left ≡ all_set_in now old settings
    pub once : AskedOnce left
    pub reserved : length left ≤ agenda.reserved
    pub numbers : agenda.schedule.next_number + numbers_taken agenda.schedule.running left ≤ 2 ^ 63

  module _ (now : ℕ) (old : Schedule C) (settings : List (Setting C)) (agenda : Agenda C) (left rest : List (Setting C)) (found : Option (Setting C))
      (taken : left ≡ option_to_list found ++ rest) (kept : SetSoFar now old settings agenda left) where
    -- no setting was at this place
    pub set_none_more : found ≡ None → SetSoFar now old settings agenda rest
    set_none_more none =
        let same : left ≡ rest = taken ∙ ap (λ (o : Option (Setting C)). option_to_list o ++ rest) none in rw (← same) kept

    -- one was, and it is done
    module _ (setting : Setting C) (one : found ≡ Some setting) where
      split : left ≡ setting ∷ rest
      split = taken ∙ ap (λ (o : Option (Setting C)). option_to_list o ++ rest) one

      pub set_one_more : (after : Agenda C) → after.schedule ≡ set_in now agenda.schedule setting → agenda.reserved ≤ after.reserved + 1
          → SetSoFar now old settings after rest
      set_one_more after set reserved =
          let once : AskedOnce (setting ∷ rest) = rw split at kept.once in
          let next = ap (λ (schedule : Schedule C). schedule.next_number) set ∙ asked_next now agenda.schedule setting.timer setting.asked in
          let others = ap (λ (schedule : Schedule C). numbers_taken schedule.running rest) set ∙ numbers_same now agenda.schedule setting.timer setting.asked rest once.0 in
          let numbers = ap (numbers_taken agenda.schedule.running) split in
          let all : all_set_in now agenda.schedule left ≡ all_set_in now (set_in now agenda.schedule setting) rest = ap (λ (some : List (Setting C)). all_set_in now agenda.schedule some) split in
          record {
            all = ap (λ (schedule : Schedule C). all_set_in now schedule rest) set ∙ (sym all ∙ kept.all);
            once = once.1;
            reserved = omega (arith, ap length split, kept.reserved, reserved);
            numbers = omega (arith, next, others, numbers, kept.numbers);
          }

  -- where none is before the end, none is left
  pub none_left : (actions : List (Action C)) (end : ℕ) → length actions ≡ end → all_settings_of (take end actions) ≡ [] → all_settings_of actions ≡ []
  none_left actions end many none = let whole : take end actions ≡ actions = take_all end actions (omega (arith, many)) in rw whole at none

-- nothing was found and something was: that cannot be
pub none_not_some : {A : Type 0} (found : Option A) (a : A) → found ≡ None → found ≡ Some a → ⊥
none_not_some found a none some = cc

pub some_injective : {A : Type 0} {a b : A} → Some a ≡ Some b → a ≡ b
some_injective h = cc

module _ {C : Type 0} (settings : List (Setting C)) (index : ℕ) where
  -- one more setting
  pub more_settings : (setting : Setting C) → slice_get settings index ≡ Some setting
      → take (index + 1) settings ≡ take index settings ++ setting ∷ []
  more_settings setting found = more (slice_get_cases settings index).1 where
    more : ((x : Setting C) × (index < length settings) × (slice_get settings index ≡ Some x) × (get_or settings index x ≡ x))
        ⊎ ((length settings ≤ index) × (slice_get settings index ≡ None))
        → take (index + 1) settings ≡ take index settings ++ setting ∷ []
    more (inl (x, within, there, read)) =
        let same : x ≡ setting = some_injective (sym there ∙ found) in
        let one_more : index + 1 ≡ suc index = omega arith in
        rw one_more (take-suc settings index x within ∙ ap (λ (one : Setting C). take index settings ++ one ∷ []) (read ∙ same))
    more (inr (past, nothing)) = absurd (none_not_some (slice_get settings index) setting nothing found)

  -- there are so many
  pub one_more_there : index < length settings → slice_get settings index ≡ None → ⊥
  one_more_there within nothing = there (slice_get_cases settings index).1 where
    there : ((x : Setting C) × (index < length settings) × (slice_get settings index ≡ Some x) × (get_or settings index x ≡ x))
        ⊎ ((length settings ≤ index) × (slice_get settings index ≡ None))
        → ⊥
    there (inl (x, inside, found, read)) = none_not_some (slice_get settings index) x nothing found
    there (inr (past, none)) = omega (arith, within, past)

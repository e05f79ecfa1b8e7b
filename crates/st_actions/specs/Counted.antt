-- What was counted of a list of actions.
use Rattle.std.specs.Prelude.{◌≡◌, ℕ, ◌+◌, Bool, List, [], ◌∷◌, length}
use Rattle.std.specs.Option.{unwrap_or}
use Rattle.st_events.specs.declared.action.Action.{Action}
use Rattle.st_events.specs.declared.asked.Asked.{Asked}
use Rattle.st_events.specs.declared.asked.Asked.TheVariants.{Set, Cancel, Update}
use Rattle.st_events.specs.declared.setting.Setting.{Setting}
use Rattle.st_events.specs.declared.time.Time.{Time}
use Rattle.st_events.specs.declared.time.Time.TheVariants.{After, Infinity}
use Rattle.st_actions.specs.declared.counts.Counts.{Counts}
use Rattle.st_actions.specs.Plan.{replies_of, inserts_of, sends_of, postpone_or}
use Rattle.st_actions.specs.Taking.{all_settings_of}

-- how many numbers a time takes: one where a time-out begins
abbrev pub number_taken : Time → ℕ
number_taken Infinity = 0
number_taken (After time) = 1

module _ {C : Type 0} where
  -- how many numbers it takes in any case that this is asked of a timer: one where a time-out begins
  abbrev pub taken_always : Asked C → ℕ
  taken_always (Set time content) = number_taken time
  taken_always Cancel = 0
  taken_always (Update content) = 0

  -- how many updates it is: one takes a number only where its timer does not run
  abbrev pub updates_by : Asked C → ℕ
  updates_by (Set time content) = 0
  updates_by Cancel = 0
  updates_by (Update content) = 1

  -- how many numbers settings take in any case
  abbrev pub starts_in : List (Setting C) → ℕ
  starts_in [] = 0
  starts_in (setting ∷ settings) = taken_always setting.asked + starts_in settings

  -- how many of them are updates
  abbrev pub updates_in : List (Setting C) → ℕ
  updates_in [] = 0
  updates_in (setting ∷ settings) = updates_by setting.asked + updates_in settings

-- there are so many replies, events to be inserted, settings, updates among these, and things to be sent; inserts and
-- settings take so many numbers in any case; and the last postpone says this
pub record IsCountOf {C : Type 0} (counts : Counts) (actions : List (Action C)) : Type 0 where
  pub replies : counts.replies ≡ length (replies_of actions)
  pub inserts : counts.inserts ≡ length (inserts_of actions)
  pub settings : counts.settings ≡ length (all_settings_of actions)
  pub updates : counts.updates ≡ updates_in (all_settings_of actions)
  pub sends : counts.sends ≡ length (sends_of actions)
  pub numbers : counts.numbers ≡ length (inserts_of actions) + starts_in (all_settings_of actions)
  pub postpone : (given : Bool) → postpone_or given actions ≡ unwrap_or counts.postpone given

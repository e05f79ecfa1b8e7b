-- Of no timer a plan asks two things.
use Rattle.std.proofs.Common.{◌≡◌, Bool, true, false, ◌||◌, List, [], ◌∷◌, refl}
use Rattle.st_events.specs.declared.action.Action.{Action}
use Rattle.st_events.specs.declared.action.Action.TheVariants.{Reply, Postpone, NextEvent, Set, Cancel, Update, Send, Hibernate}
use Rattle.st_events.specs.declared.asked.Asked.{Asked}
use Rattle.st_events.specs.declared.asked.Asked.TheVariants as asked
use Rattle.st_events.specs.declared.setting.Setting.{Setting}
use Rattle.st_events.specs.declared.timer.Timer.{Timer}
use Rattle.st_events.specs.Timers.{same_timer, is_asked, AskedOnce}
use Rattle.st_actions.specs.Plan.{sets, asked_unless, settings_of}

-- neither of two holds
both_false : (one other : Bool) → one || other ≡ false → (one ≡ false) × (other ≡ false)
both_false true other h = cc
both_false false other h = (refl, h)

module _ {C : Type 0} where
  -- what no action asks, no setting does
  none_by : (later : Bool) (timer other : Timer) (wanted : Asked C) (settings : List (Setting C)) → same_timer timer other ≡ false → is_asked timer settings ≡ false
      → is_asked timer (asked_unless later other wanted settings) ≡ false
  none_by true timer other wanted settings apart none = none
  none_by false timer other wanted settings apart none = rw (apart, none) refl

  none_asked : (timer : Timer) (actions : List (Action C)) → sets timer actions ≡ false → is_asked timer (settings_of actions) ≡ false
  none_asked timer [] none = refl
  none_asked timer (Reply tag content ∷ actions) none = none_asked timer actions none
  none_asked timer (Postpone last ∷ actions) none = none_asked timer actions none
  none_asked timer (NextEvent kind content ∷ actions) none = none_asked timer actions none
  none_asked timer (Set other time content ∷ actions) none =
      let parts = both_false (same_timer timer other) (sets timer actions) none in
      none_by (sets other actions) timer other (asked.Set time content) (settings_of actions) parts.0 (none_asked timer actions parts.1)
  none_asked timer (Cancel other ∷ actions) none =
      let parts = both_false (same_timer timer other) (sets timer actions) none in
      none_by (sets other actions) timer other asked.Cancel (settings_of actions) parts.0 (none_asked timer actions parts.1)
  none_asked timer (Update other content ∷ actions) none =
      let parts = both_false (same_timer timer other) (sets timer actions) none in
      none_by (sets other actions) timer other (asked.Update content) (settings_of actions) parts.0 (none_asked timer actions parts.1)
  none_asked timer (Send target content ∷ actions) none = none_asked timer actions none
  none_asked timer (Hibernate ∷ actions) none = none_asked timer actions none

  once_by : (later : Bool) (timer : Timer) (wanted : Asked C) (settings : List (Setting C)) → (later ≡ false → is_asked timer settings ≡ false) → AskedOnce settings
      → AskedOnce (asked_unless later timer wanted settings)
  once_by true timer wanted settings none once = once
  once_by false timer wanted settings none once = (none refl, once)

  -- of no timer two things are asked
  pub settings_once : (actions : List (Action C)) → AskedOnce (settings_of actions)
  settings_once [] = tt
  settings_once (Reply tag content ∷ actions) = settings_once actions
  settings_once (Postpone last ∷ actions) = settings_once actions
  settings_once (NextEvent kind content ∷ actions) = settings_once actions
  settings_once (Set timer time content ∷ actions) =
      once_by (sets timer actions) timer (asked.Set time content) (settings_of actions) (none_asked timer actions) (settings_once actions)
  settings_once (Cancel timer ∷ actions) = once_by (sets timer actions) timer asked.Cancel (settings_of actions) (none_asked timer actions) (settings_once actions)
  settings_once (Update timer content ∷ actions) =
      once_by (sets timer actions) timer (asked.Update content) (settings_of actions) (none_asked timer actions) (settings_once actions)
  settings_once (Send target content ∷ actions) = settings_once actions
  settings_once (Hibernate ∷ actions) = settings_once actions

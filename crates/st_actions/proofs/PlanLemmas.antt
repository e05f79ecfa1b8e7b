-- One action after another.
use Rattle.std.proofs.Common.{◌≡◌, ◌+◌, Bool, true, false, Option, Some, None, unwrap_or, List, [], ◌∷◌, ◌++◌, refl, sym, ap, ◌∙◌, length, reverse, length-append, append_assoc}
use Rattle.std.specs.Prelude.{◌||◌, if◌then◌else◌}
use Rattle.std.specs.Option.{option_or}
use Rattle.std.proofs.lemmas.List.{reverse-append}
use Rattle.std.proofs.lemmas.List.Folds.{list_any-append}
use Rattle.st_events.specs.declared.tag.Tag.{Tag}
use Rattle.st_events.specs.declared.action.Action.{Action}
use Rattle.st_events.specs.declared.action.Action.TheVariants.{Reply, Postpone, NextEvent, Set, Cancel, Update, Send, Hibernate}
use Rattle.st_events.specs.declared.enter_action.EnterAction.{EnterAction}
use Rattle.st_events.specs.declared.enter_action.EnterAction.TheVariants as enter
use Rattle.st_events.specs.declared.asked.Asked.{Asked}
use Rattle.st_events.specs.declared.asked.Asked.TheVariants as asked
use Rattle.st_events.specs.declared.insert.Insert.{Insert}
use Rattle.st_events.specs.declared.machine_id.MachineId.{MachineId}
use Rattle.st_events.specs.declared.setting.Setting.{Setting}
use Rattle.st_events.specs.declared.timer.Timer.{Timer}
use Rattle.st_events.specs.Timers.{same_timer}
use Rattle.st_events.proofs.ComparedLemmas.{timers_same}
use Rattle.st_actions.specs.declared.planned.Planned.{Planned}
use Rattle.st_actions.specs.Plan.{replies_of, inserts_of, postpone_or, postpone_of, is_set, sets, asked_unless, settings_of, sends_of, plan_of}
use Rattle.st_actions.specs.Joined.{as_actions, enter_plan_of, is_set_by, remaining_of, joined_of}

-- what was last is the first in the other order
last_is_first : {X : Type 0} (old new : List X) (x : X) → old ≡ new ++ x ∷ [] → reverse old ≡ x ∷ reverse new
last_is_first old new x same = ap reverse same ∙ reverse-append new (x ∷ [])

pub one_fewer : {X : Type 0} (old new : List X) (x : X) → old ≡ new ++ x ∷ [] → length old ≡ length new + 1
one_fewer old new x same = ap length same ∙ length-append new (x ∷ [])

-- what was last is taken before what was taken so far
pub taken_before : {X : Type 0} (old new taken all : List X) (x : X) → old ≡ new ++ x ∷ [] → old ++ taken ≡ all → new ++ x ∷ taken ≡ all
taken_before old new taken all x same whole =
    sym (append_assoc new (x ∷ []) taken) ∙ (sym (ap (λ t. t ++ taken) same) ∙ whole)

-- one more at the end is one more at the front in the other order
pub one_before : {X : Type 0} (old new wanted : List X) (x : X) → new ≡ old ++ x ∷ [] → reverse old ≡ wanted → reverse new ≡ x ∷ wanted
one_before old new wanted x same kept = last_is_first new old x same ∙ ap (λ t. x ∷ t) kept

-- the one that was taken first decides
pub first_decides : (postpone : Option Bool) (last given : Bool) → unwrap_or postpone last ≡ unwrap_or (option_or postpone (Some last)) given
first_decides None last given = refl
first_decides (Some decided) last given = refl

-- what is asked of a timer is added unless a later action asks something of it
pub asked_before : {C : Type 0} (timer : Timer) (wanted : Asked C) (old new : List (Setting C)) (noted : Bool) (later : List (Action C))
    → new ≡ asked_unless noted timer wanted old → noted ≡ sets timer later → old ≡ settings_of later
    → new ≡ asked_unless (sets timer later) timer wanted (settings_of later)
asked_before timer wanted old new noted later added known same =
    added ∙ (ap (λ settings. asked_unless noted timer wanted settings) same ∙ ap (λ noted. asked_unless noted timer wanted (settings_of later)) known)

abbrev planned_as : {C : Type 0} → List (Tag × C) → Bool → List (Insert C) → List (Setting C) → List (MachineId × C) → Planned C
planned_as replies postpone inserts settings sends =
    record { replies = replies; postpone = postpone; inserts = inserts; requests = settings; sends = sends }

pub planned_whole : {C : Type 0} (actions : List (Action C)) (replies : List (Tag × C)) (postpone : Bool) (inserts : List (Insert C)) (settings : List (Setting C))
    (sends : List (MachineId × C))
    → replies ≡ replies_of actions → postpone ≡ postpone_of actions → inserts ≡ inserts_of actions → settings ≡ settings_of actions → sends ≡ sends_of actions
    → planned_as replies postpone inserts settings sends ≡ plan_of actions
planned_whole actions replies postpone inserts settings sends same_replies same_postpone same_inserts same_settings same_sends =
    rw (same_replies, same_postpone, same_inserts, same_settings, same_sends) refl

-- ---- the actions of an enter call
module _ {C : Type 0} where
  -- none of them postpones
  enter_postpones_nothing : (given : Bool) (actions : List (EnterAction C)) → postpone_or given (as_actions actions) ≡ given
  enter_postpones_nothing given [] = refl
  enter_postpones_nothing given (enter.Reply tag content ∷ actions) = enter_postpones_nothing given actions
  enter_postpones_nothing given (enter.Set timer time content ∷ actions) = enter_postpones_nothing given actions
  enter_postpones_nothing given (enter.Cancel timer ∷ actions) = enter_postpones_nothing given actions
  enter_postpones_nothing given (enter.Update timer content ∷ actions) = enter_postpones_nothing given actions
  enter_postpones_nothing given (enter.Hibernate ∷ actions) = enter_postpones_nothing given actions

  -- none of them inserts
  enter_inserts_nothing : (actions : List (EnterAction C)) → inserts_of (as_actions actions) ≡ []
  enter_inserts_nothing [] = refl
  enter_inserts_nothing (enter.Reply tag content ∷ actions) = enter_inserts_nothing actions
  enter_inserts_nothing (enter.Set timer time content ∷ actions) = enter_inserts_nothing actions
  enter_inserts_nothing (enter.Cancel timer ∷ actions) = enter_inserts_nothing actions
  enter_inserts_nothing (enter.Update timer content ∷ actions) = enter_inserts_nothing actions
  enter_inserts_nothing (enter.Hibernate ∷ actions) = enter_inserts_nothing actions

  -- none of them sends
  enter_sends_nothing : (actions : List (EnterAction C)) → sends_of (as_actions actions) ≡ []
  enter_sends_nothing [] = refl
  enter_sends_nothing (enter.Reply tag content ∷ actions) = enter_sends_nothing actions
  enter_sends_nothing (enter.Set timer time content ∷ actions) = enter_sends_nothing actions
  enter_sends_nothing (enter.Cancel timer ∷ actions) = enter_sends_nothing actions
  enter_sends_nothing (enter.Update timer content ∷ actions) = enter_sends_nothing actions
  enter_sends_nothing (enter.Hibernate ∷ actions) = enter_sends_nothing actions

  pub enter_planned_whole : (actions : List (EnterAction C)) (replies : List (Tag × C)) (inserts : List (Insert C)) (settings : List (Setting C)) (sends : List (MachineId × C))
      → replies ≡ replies_of (as_actions actions) → inserts ≡ [] → settings ≡ settings_of (as_actions actions) → sends ≡ []
      → planned_as replies false inserts settings sends ≡ enter_plan_of actions
  enter_planned_whole actions replies inserts settings sends same_replies no_inserts same_settings no_sends =
      planned_whole (as_actions actions) replies false inserts settings sends same_replies (sym (enter_postpones_nothing false actions))
      (no_inserts ∙ sym (enter_inserts_nothing actions)) same_settings (no_sends ∙ sym (enter_sends_nothing actions))

-- ---- two lists of actions, one after the other
module _ {C : Type 0} where
  replies-append : (first second : List (Action C)) → replies_of (first ++ second) ≡ replies_of first ++ replies_of second
  replies-append [] second = refl
  replies-append (Reply tag content ∷ first) second = ap (λ replies. (tag, content) ∷ replies) (replies-append first second)
  replies-append (Postpone last ∷ first) second = replies-append first second
  replies-append (NextEvent kind content ∷ first) second = replies-append first second
  replies-append (Set timer time content ∷ first) second = replies-append first second
  replies-append (Cancel timer ∷ first) second = replies-append first second
  replies-append (Update timer content ∷ first) second = replies-append first second
  replies-append (Send target content ∷ first) second = replies-append first second
  replies-append (Hibernate ∷ first) second = replies-append first second

  inserts-append : (first second : List (Action C)) → inserts_of (first ++ second) ≡ inserts_of first ++ inserts_of second
  inserts-append [] second = refl
  inserts-append (Reply tag content ∷ first) second = inserts-append first second
  inserts-append (Postpone last ∷ first) second = inserts-append first second
  inserts-append (NextEvent kind content ∷ first) second =
      ap (λ (inserts : List (Insert C)). record { kind = kind; content = content } ∷ inserts) (inserts-append first second)
  inserts-append (Set timer time content ∷ first) second = inserts-append first second
  inserts-append (Cancel timer ∷ first) second = inserts-append first second
  inserts-append (Update timer content ∷ first) second = inserts-append first second
  inserts-append (Send target content ∷ first) second = inserts-append first second
  inserts-append (Hibernate ∷ first) second = inserts-append first second

  sends-append : (first second : List (Action C)) → sends_of (first ++ second) ≡ sends_of first ++ sends_of second
  sends-append [] second = refl
  sends-append (Reply tag content ∷ first) second = sends-append first second
  sends-append (Postpone last ∷ first) second = sends-append first second
  sends-append (NextEvent kind content ∷ first) second = sends-append first second
  sends-append (Set timer time content ∷ first) second = sends-append first second
  sends-append (Cancel timer ∷ first) second = sends-append first second
  sends-append (Update timer content ∷ first) second = sends-append first second
  sends-append (Send target content ∷ first) second = ap (λ sends. (target, content) ∷ sends) (sends-append first second)
  sends-append (Hibernate ∷ first) second = sends-append first second

  postpone-append : (given : Bool) (first second : List (Action C)) → postpone_or given (first ++ second) ≡ postpone_or (postpone_or given first) second
  postpone-append given [] second = refl
  postpone-append given (Reply tag content ∷ first) second = postpone-append given first second
  postpone-append given (Postpone last ∷ first) second = postpone-append last first second
  postpone-append given (NextEvent kind content ∷ first) second = postpone-append given first second
  postpone-append given (Set timer time content ∷ first) second = postpone-append given first second
  postpone-append given (Cancel timer ∷ first) second = postpone-append given first second
  postpone-append given (Update timer content ∷ first) second = postpone-append given first second
  postpone-append given (Send target content ∷ first) second = postpone-append given first second
  postpone-append given (Hibernate ∷ first) second = postpone-append given first second

  -- something is asked of a timer where one of the actions does so
  set_once : (timer other : Timer) (wanted : Asked C) (actions : List (Action C)) (later same : Bool)
      → sets other actions ≡ later → same_timer timer other ≡ same
      → is_set_by timer (settings_of actions) ≡ sets timer actions
      → is_set_by timer (asked_unless later other wanted (settings_of actions)) ≡ (same || sets timer actions)
  set_once timer other wanted actions true true later same known =
      known ∙ (ap (λ (t : Timer). sets t actions) (timers_same timer other same) ∙ later)
  set_once timer other wanted actions true false later same known = known
  set_once timer other wanted actions false same_bool later same known = rw (same, known) refl

  is_set_by-settings_of : (timer : Timer) (actions : List (Action C)) → is_set_by timer (settings_of actions) ≡ sets timer actions
  is_set_by-settings_of timer [] = refl
  is_set_by-settings_of timer (Reply tag content ∷ actions) = is_set_by-settings_of timer actions
  is_set_by-settings_of timer (Postpone last ∷ actions) = is_set_by-settings_of timer actions
  is_set_by-settings_of timer (NextEvent kind content ∷ actions) = is_set_by-settings_of timer actions
  is_set_by-settings_of timer (Set other time content ∷ actions) =
      set_once timer other (asked.Set time content) actions (sets other actions) (same_timer timer other) refl refl (is_set_by-settings_of timer actions)
  is_set_by-settings_of timer (Cancel other ∷ actions) =
      set_once timer other asked.Cancel actions (sets other actions) (same_timer timer other) refl refl (is_set_by-settings_of timer actions)
  is_set_by-settings_of timer (Update other content ∷ actions) =
      set_once timer other (asked.Update content) actions (sets other actions) (same_timer timer other) refl refl (is_set_by-settings_of timer actions)
  is_set_by-settings_of timer (Send target content ∷ actions) = is_set_by-settings_of timer actions
  is_set_by-settings_of timer (Hibernate ∷ actions) = is_set_by-settings_of timer actions

  -- a setting more in front of both
  setting_first : (setting : Setting C) (rest later whole : List (Setting C)) (in_rest in_later : Bool)
      → is_set_by setting.timer later ≡ in_later
      → whole ≡ remaining_of rest later ++ later
      → (if in_rest || in_later then whole else setting ∷ whole)
      ≡ remaining_of (if in_rest then rest else setting ∷ rest) later ++ later
  setting_first setting rest later whole true in_later asked same = same
  setting_first setting rest later whole false true asked same = rw asked same
  setting_first setting rest later whole false false asked same = rw asked (ap (λ (settings : List (Setting C)). setting ∷ settings) same)

  -- so is what is asked of a timer by one action more
  asked-append : (timer : Timer) (wanted : Asked C) (first second : List (Action C))
      → settings_of (first ++ second) ≡ remaining_of (settings_of first) (settings_of second) ++ settings_of second
      → asked_unless (sets timer (first ++ second)) timer wanted (settings_of (first ++ second))
      ≡ remaining_of (asked_unless (sets timer first) timer wanted (settings_of first)) (settings_of second) ++ settings_of second
  asked-append timer wanted first second same =
      let either = list_any-append (λ (action : Action C). is_set timer action) first second in
      rw either (setting_first (record { timer = timer; asked = wanted }) (settings_of first) (settings_of second) (settings_of (first ++ second))
      (sets timer first) (sets timer second) (is_set_by-settings_of timer second) same)

  settings-append : (first second : List (Action C)) → settings_of (first ++ second) ≡ remaining_of (settings_of first) (settings_of second) ++ settings_of second
  settings-append [] second = refl
  settings-append (Reply tag content ∷ first) second = settings-append first second
  settings-append (Postpone last ∷ first) second = settings-append first second
  settings-append (NextEvent kind content ∷ first) second = settings-append first second
  settings-append (Set timer time content ∷ first) second = asked-append timer (asked.Set time content) first second (settings-append first second)
  settings-append (Cancel timer ∷ first) second = asked-append timer asked.Cancel first second (settings-append first second)
  settings-append (Update timer content ∷ first) second = asked-append timer (asked.Update content) first second (settings-append first second)
  settings-append (Send target content ∷ first) second = settings-append first second
  settings-append (Hibernate ∷ first) second = settings-append first second

  -- what an event's actions ask for, joined with what the enter call's ask for, is what both lists ask for
  pub joined_plans : (actions : List (Action C)) (enter_actions : List (EnterAction C))
      → joined_of (plan_of actions) (enter_plan_of enter_actions) ≡ plan_of (actions ++ as_actions enter_actions)
  joined_plans actions enter_actions =
      let later = as_actions enter_actions in
      planned_whole (actions ++ later) (replies_of actions ++ replies_of later) (postpone_of actions) (inserts_of actions ++ inserts_of later)
      (remaining_of (settings_of actions) (settings_of later) ++ settings_of later) (sends_of actions ++ sends_of later)
      (sym (replies-append actions later))
      (sym (postpone-append false actions later ∙ enter_postpones_nothing (postpone_of actions) enter_actions))
      (sym (inserts-append actions later))
      (sym (settings-append actions later))
      (sym (sends-append actions later))

  -- plans of two lists, joined, are the plan of both
  pub joined_is : (first second joined : Planned C) (actions : List (Action C)) (enter_actions : List (EnterAction C)) → joined ≡ joined_of first second
      → first ≡ plan_of actions → second ≡ enter_plan_of enter_actions → joined ≡ plan_of (actions ++ as_actions enter_actions)
  joined_is first second joined actions enter_actions same same_first same_second =
      same ∙ (ap (λ (one : Planned C). joined_of one second) same_first
      ∙ (ap (λ (other : Planned C). joined_of (plan_of actions) other) same_second ∙ joined_plans actions enter_actions))

pub joined_whole : {C : Type 0} (first second : Planned C) (replies : List (Tag × C)) (inserts : List (Insert C)) (settings : List (Setting C)) (sends : List (MachineId × C))
    → replies ≡ first.replies ++ second.replies → inserts ≡ first.inserts ++ second.inserts
    → settings ≡ remaining_of first.requests second.requests ++ second.requests → sends ≡ first.sends ++ second.sends
    → planned_as replies first.postpone inserts settings sends ≡ joined_of first second
joined_whole first second replies inserts settings sends same_replies same_inserts same_settings same_sends =
    rw (same_replies, same_inserts, same_settings, same_sends) refl

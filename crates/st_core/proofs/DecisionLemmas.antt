-- What actions ask of timers, one action after another.
use Rattle.std.proofs.Common.{◌≡◌, ℕ, zero, suc, ◌+◌, Option, Some, None, List, [], ◌∷◌, ◌++◌, length, length-append, drop, refl, sym, ap, ◌∙◌, append_assoc, append-nil}
use Rattle.std.specs.Prelude.{slice_get}
use Rattle.std.specs.Option.{option_and_then, option_map, option_to_list}
use Rattle.st_events.specs.declared.action.Action.{Action}
use Rattle.st_events.specs.declared.action.Action.TheVariants.{Reply, Postpone, NextEvent, Set, Cancel, Update, Send, Hibernate}
use Rattle.st_events.specs.declared.setting.Setting.{Setting}
use Rattle.st_events.specs.declared.decision.Decision.{Decision}
use Rattle.st_events.specs.declared.timer.Timer.{Timer}
use Rattle.st_actions.specs.Taking.{all_settings_of, as_setting}
use Rattle.st_core.specs.Transition.{decided_by, decisions_of}

module _ {C : Type 0} where
  first_decision : (action : Action C) (actions : List (Action C))
      → decisions_of (all_settings_of (action ∷ actions)) ≡ option_to_list (option_map decided_by (as_setting action)) ++ decisions_of (all_settings_of actions)
  first_decision (Reply tag content) actions = refl
  first_decision (Postpone last) actions = refl
  first_decision (NextEvent kind content) actions = refl
  first_decision (Set timer time content) actions = refl
  first_decision (Cancel timer) actions = refl
  first_decision (Update timer content) actions = refl
  first_decision (Send target content) actions = refl
  first_decision Hibernate actions = refl

  -- those from an index on
  decisions_at : (actions : List (Action C)) (index : ℕ)
      → decisions_of (all_settings_of (drop index actions)) ≡ option_to_list (option_map decided_by (option_and_then as_setting (slice_get actions index))) ++ decisions_of (all_settings_of (drop (suc index) actions))
  decisions_at [] zero = refl
  decisions_at [] (suc index) = refl
  decisions_at (action ∷ actions) zero = first_decision action actions
  decisions_at (action ∷ actions) (suc index) = decisions_at actions index

  decisions_split : (actions : List (Action C)) (index next : ℕ) (found : Option (Timer × Decision)) → next ≡ suc index
      → found ≡ option_map decided_by (option_and_then as_setting (slice_get actions index))
      → decisions_of (all_settings_of (drop index actions)) ≡ option_to_list found ++ decisions_of (all_settings_of (drop next actions))
  decisions_split actions index next found is_next found_is = rw (is_next, found_is) (decisions_at actions index)

  -- something is asked at this index
  pub decision_more : (actions : List (Action C)) (index next : ℕ) (found : Option (Timer × Decision)) (decision : Timer × Decision) (decisions more whole : List (Timer × Decision)) → next ≡ suc index
      → found ≡ option_map decided_by (option_and_then as_setting (slice_get actions index)) → found ≡ Some decision → more ≡ decisions ++ decision ∷ []
      → decisions ++ decisions_of (all_settings_of (drop index actions)) ≡ whole → more ++ decisions_of (all_settings_of (drop next actions)) ≡ whole
  decision_more actions index next found decision decisions more whole is_next found_is there longer known =
      let rest = decisions_of (all_settings_of (drop next actions)) in
      let split : decisions_of (all_settings_of (drop index actions)) ≡ decision ∷ rest =
      decisions_split actions index next found is_next found_is ∙ ap (λ (o : Option (Timer × Decision)). option_to_list o ++ rest) there in
      ap (λ (xs : List (Timer × Decision)). xs ++ rest) longer ∙ (append_assoc decisions (decision ∷ []) rest ∙ (sym (ap (λ (xs : List (Timer × Decision)). decisions ++ xs) split) ∙ known))

  -- nothing is
  pub decision_none : (actions : List (Action C)) (index next : ℕ) (found : Option (Timer × Decision)) (decisions whole : List (Timer × Decision)) → next ≡ suc index
      → found ≡ option_map decided_by (option_and_then as_setting (slice_get actions index)) → found ≡ None
      → decisions ++ decisions_of (all_settings_of (drop index actions)) ≡ whole → decisions ++ decisions_of (all_settings_of (drop next actions)) ≡ whole
  decision_none actions index next found decisions whole is_next found_is none known =
      let rest = decisions_of (all_settings_of (drop next actions)) in
      let split : decisions_of (all_settings_of (drop index actions)) ≡ rest =
      decisions_split actions index next found is_next found_is ∙ ap (λ (o : Option (Timer × Decision)). option_to_list o ++ rest) none in
      sym (ap (λ (xs : List (Timer × Decision)). decisions ++ xs) split) ∙ known

  -- the timers are as many as the settings
  pub as_many_decisions : (settings : List (Setting C)) → length (decisions_of settings) ≡ length settings
  as_many_decisions [] = refl
  as_many_decisions (setting ∷ settings) = ap suc (as_many_decisions settings)

  -- a list of which one more is left is shorter than the whole
  pub one_left : (actions : List (Action C)) (index : ℕ) (found : Option (Timer × Decision)) (decision : Timer × Decision) (decisions whole : List (Timer × Decision))
      → found ≡ option_map decided_by (option_and_then as_setting (slice_get actions index)) → found ≡ Some decision
      → decisions ++ decisions_of (all_settings_of (drop index actions)) ≡ whole → length whole ≡ length decisions + suc (length (decisions_of (all_settings_of (drop (suc index) actions))))
  one_left actions index found decision decisions whole found_is there known =
      let rest = decisions_of (all_settings_of (drop (suc index) actions)) in
      let split : decisions_of (all_settings_of (drop index actions)) ≡ decision ∷ rest =
      decisions_split actions index (suc index) found refl found_is ∙ ap (λ (o : Option (Timer × Decision)). option_to_list o ++ rest) there in
      sym (ap length (sym (ap (λ (xs : List (Timer × Decision)). decisions ++ xs) split) ∙ known)) ∙ length-append decisions (decision ∷ rest)

-- with none after them, they are all
pub all_noted : {T : Type 0} (noted rest whole : List T) → rest ≡ [] → noted ++ rest ≡ whole → noted ≡ whole
all_noted noted rest whole none known = sym (append-nil noted) ∙ (rw none at known)

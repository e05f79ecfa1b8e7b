-- Settings that later ones override leave a list, from its end on.
use Rattle.std.proofs.Common.{◌≡◌, ◌≤◌, ℕ, zero, suc, ◌+◌, Bool, true, false, Option, Some, None, List, [], ◌∷◌, refl, sym, ap, ◌∙◌, take, drop, set, length, is_some, arith}
use Rattle.std.specs.Prelude.{slice_get, ◌||◌, if◌then◌else◌}
use Rattle.std.specs.List.{filter_map}
use Rattle.std.specs.Option.{option_and_then, option_to_list}
use Rattle.std.proofs.lemmas.List.{take-set, length-set, nil_from_length}
use Rattle.st_events.specs.declared.action.Action.{Action}
use Rattle.st_events.specs.declared.action.Action.TheVariants.{Reply, Postpone, NextEvent, Set, Cancel, Update, Send, Hibernate}
use Rattle.st_events.specs.declared.asked.Asked.{Asked}
use Rattle.st_events.specs.declared.asked.Asked.TheVariants as asked
use Rattle.st_events.specs.declared.setting.Setting.{Setting}
use Rattle.st_events.specs.declared.timer.Timer.{Timer}
use Rattle.st_events.specs.Timers.{same_timer}
use Rattle.st_actions.specs.declared.noted_timers.NotedTimers.{NotedTimers}
use Rattle.st_actions.specs.Noted.{is_noted}
use Rattle.st_actions.specs.Plan.{postpone_or, asked_unless, settings_of, sets, is_set}
use Rattle.st_actions.specs.Taking.{all_settings_of, as_setting, timer_set}
use Rattle.st_actions.specs.Once.{overrides}
use Rattle.st_actions.proofs.TakingLemmas.{other_out}

or_none : (b : Bool) → (b || false) ≡ b
or_none true = refl
or_none false = refl

module _ {C : Type 0} where
  -- the list after one step
  abbrev pub kept : NotedTimers → List (Action C) → ℕ → List (Action C)
  kept noted now j = if overrides noted (slice_get now j) then set now j Hibernate else now

  -- ---- the action at an index
  -- what it asks of a timer is overridden where this timer was noted
  pub overrides_is : (o : Option (Action C)) (timer : Timer) (noted : NotedTimers) → option_and_then timer_set o ≡ Some timer → overrides noted o ≡ is_noted timer noted
  overrides_is None timer noted of_it = cc
  overrides_is (Some (Reply tag content)) timer noted of_it = cc
  overrides_is (Some (Postpone last)) timer noted of_it = cc
  overrides_is (Some (NextEvent kind content)) timer noted of_it = cc
  overrides_is (Some (Set other time content)) timer noted of_it = let same : other ≡ timer = cc in rw same refl
  overrides_is (Some (Cancel other)) timer noted of_it = let same : other ≡ timer = cc in rw same refl
  overrides_is (Some (Update other content)) timer noted of_it = let same : other ≡ timer = cc in rw same refl
  overrides_is (Some (Send target content)) timer noted of_it = cc
  overrides_is (Some Hibernate) timer noted of_it = cc

  -- this timer alone is one of which it asks something
  pub sets_is : (o : Option (Action C)) (timer other : Timer) → option_and_then timer_set o ≡ Some timer → sets other (option_to_list o) ≡ same_timer other timer
  sets_is None timer other of_it = cc
  sets_is (Some (Reply tag content)) timer other of_it = cc
  sets_is (Some (Postpone last)) timer other of_it = cc
  sets_is (Some (NextEvent kind content)) timer other of_it = cc
  sets_is (Some (Set one time content)) timer other of_it = let same : one ≡ timer = cc in rw same (or_none (same_timer other timer))
  sets_is (Some (Cancel one)) timer other of_it = let same : one ≡ timer = cc in rw same (or_none (same_timer other timer))
  sets_is (Some (Update one content)) timer other of_it = let same : one ≡ timer = cc in rw same (or_none (same_timer other timer))
  sets_is (Some (Send target content)) timer other of_it = cc
  sets_is (Some Hibernate) timer other of_it = cc

  -- ---- settings
  by_test : (test : Bool) (timer : Timer) (wanted : Asked C) (action : Action C) (now : List (Action C)) (rest : List (Setting C)) → all_settings_of now ≡ rest
      → all_settings_of (action ∷ now) ≡ record { timer = timer; asked = wanted } ∷ all_settings_of now
      → all_settings_of (if test then Hibernate ∷ now else action ∷ now) ≡ asked_unless test timer wanted rest
  by_test true timer wanted action now rest same first = same
  by_test false timer wanted action now rest same first = first ∙ ap (λ (rest : List (Setting C)). record { timer = timer; asked = wanted } ∷ rest) same

  first_kept : (a : Action C) (whole now : List (Action C)) (noted : NotedTimers) → all_settings_of now ≡ settings_of whole
      → ((timer : Timer) → is_noted timer noted ≡ sets timer whole)
      → all_settings_of (if overrides noted (Some a) then Hibernate ∷ now else a ∷ now) ≡ settings_of (a ∷ whole)
  first_kept (Reply tag content) whole now noted same known = same
  first_kept (Postpone last) whole now noted same known = same
  first_kept (NextEvent kind content) whole now noted same known = same
  first_kept (Set timer time content) whole now noted same known =
      rw (known timer) (by_test (sets timer whole) timer (asked.Set time content) (Set timer time content) now (settings_of whole) same refl)
  first_kept (Cancel timer) whole now noted same known = rw (known timer) (by_test (sets timer whole) timer asked.Cancel (Cancel timer) now (settings_of whole) same refl)
  first_kept (Update timer content) whole now noted same known =
      rw (known timer) (by_test (sets timer whole) timer (asked.Update content) (Update timer content) now (settings_of whole) same refl)
  first_kept (Send target content) whole now noted same known = same
  first_kept Hibernate whole now noted same known = same

  drop_choice : (test : Bool) (b : Action C) (now : List (Action C)) (j : ℕ)
      → drop (suc j) (if test then b ∷ set now j Hibernate else b ∷ now) ≡ drop j (if test then set now j Hibernate else now)
  drop_choice true b now j = refl
  drop_choice false b now j = refl

  settings_kept : (whole now : List (Action C)) (j : ℕ) (noted : NotedTimers) → take (suc j) now ≡ take (suc j) whole
      → all_settings_of (drop (suc j) now) ≡ settings_of (drop (suc j) whole) → ((timer : Timer) → is_noted timer noted ≡ sets timer (drop (suc j) whole))
      → all_settings_of (drop j (kept noted now j)) ≡ settings_of (drop j whole)
  settings_kept [] [] zero noted front same known = refl
  settings_kept [] [] (suc j) noted front same known = refl
  settings_kept [] (b ∷ now) j noted front same known = cc
  settings_kept (a ∷ whole) [] j noted front same known = cc
  settings_kept (a ∷ whole) (b ∷ now) zero noted front same known = let equal : b ≡ a = cc in rw equal (first_kept a whole now noted same known)
  settings_kept (a ∷ whole) (b ∷ now) (suc j) noted front same known =
      let tail : take (suc j) now ≡ take (suc j) whole = cc in
      ap all_settings_of (drop_choice (overrides noted (slice_get now j)) b now j) ∙ settings_kept whole now j noted tail same known

  -- ---- what is in front stays, and the length
  front_less : (whole now : List (Action C)) (j : ℕ) → take (suc j) now ≡ take (suc j) whole → take j now ≡ take j whole
  front_less whole now zero front = refl
  front_less [] [] (suc j) front = refl
  front_less [] (b ∷ now) (suc j) front = cc
  front_less (a ∷ whole) [] (suc j) front = cc
  front_less (a ∷ whole) (b ∷ now) (suc j) front =
      let equal : b ≡ a = cc in let tail : take (suc j) now ≡ take (suc j) whole = cc in
      rw equal (ap (λ (xs : List (Action C)). a ∷ xs) (front_less whole now j tail))

  front_choice : (test : Bool) (now : List (Action C)) (j : ℕ) → take j (if test then set now j Hibernate else now) ≡ take j now
  front_choice true now j = take-set now j Hibernate
  front_choice false now j = refl

  pub front_kept : (whole now : List (Action C)) (i j : ℕ) (noted : NotedTimers) → i ≡ suc j → take i now ≡ take i whole → take j (kept noted now j) ≡ take j whole
  front_kept whole now i j noted next front =
      front_choice (overrides noted (slice_get now j)) now j
      ∙ front_less whole now j (sym (ap (λ n. take n now) next) ∙ (front ∙ ap (λ n. take n whole) next))

  pub settings_kept_at : (whole now : List (Action C)) (i j : ℕ) (noted : NotedTimers) → i ≡ suc j → take i now ≡ take i whole
      → all_settings_of (drop i now) ≡ settings_of (drop i whole) → ((timer : Timer) → is_noted timer noted ≡ sets timer (drop i whole))
      → all_settings_of (drop j (kept noted now j)) ≡ settings_of (drop j whole)
  settings_kept_at whole now i j noted next front same known =
      settings_kept whole now j noted (sym (ap (λ n. take n now) next) ∙ (front ∙ ap (λ n. take n whole) next))
      (sym (ap (λ n. all_settings_of (drop n now)) next) ∙ (same ∙ ap (λ n. settings_of (drop n whole)) next))
      (λ timer. known timer ∙ ap (λ n. sets timer (drop n whole)) next)

  -- ---- timers noted
  same_at : (whole now : List (Action C)) (j : ℕ) → take (suc j) now ≡ take (suc j) whole → slice_get now j ≡ slice_get whole j
  same_at [] [] j front = refl
  same_at [] (b ∷ now) j front = cc
  same_at (a ∷ whole) [] j front = cc
  same_at (a ∷ whole) (b ∷ now) zero front = let equal : b ≡ a = cc in ap Some equal
  same_at (a ∷ whole) (b ∷ now) (suc j) front = let tail : take (suc j) now ≡ take (suc j) whole = cc in same_at whole now j tail

  sets_from : (timer : Timer) (whole : List (Action C)) (j : ℕ)
      → sets timer (drop j whole) ≡ (sets timer (option_to_list (slice_get whole j)) || sets timer (drop (suc j) whole))
  sets_from timer [] zero = refl
  sets_from timer [] (suc j) = refl
  sets_from timer (a ∷ whole) zero = ap (λ b. b || sets timer whole) (sym (or_none (is_set timer a)))
  sets_from timer (a ∷ whole) (suc j) = sets_from timer whole j

  pub noted_at : (whole now : List (Action C)) (i j : ℕ) (timer : Timer) (before after : Bool) → i ≡ suc j → take i now ≡ take i whole
      → before ≡ sets timer (drop i whole) → after ≡ (sets timer (option_to_list (slice_get now j)) || before) → after ≡ sets timer (drop j whole)
  noted_at whole now i j timer before after next front known same =
      same ∙ (ap (λ (o : Option (Action C)). sets timer (option_to_list o) || before) (same_at whole now j (sym (ap (λ n. take n now) next) ∙ (front ∙ ap (λ n. take n whole) next)))
      ∙ (ap (λ b. sets timer (option_to_list (slice_get whole j)) || b) (known ∙ ap (λ n. sets timer (drop n whole)) next) ∙ sym (sets_from timer whole j)))

  -- ---- all else
  module _ {X : Type 0} (f : Action C → Option X) (of : List (Action C) → List X) (of_is : (xs : List (Action C)) → of xs ≡ filter_map f xs)
      (no_blank : f Hibernate ≡ None) (no_setting : (action : Action C) → is_some (as_setting action) ≡ true → f action ≡ None) where
    by_choice : (test : Bool) (now : List (Action C)) (j : ℕ) (action : Action C) → is_some (as_setting action) ≡ true → slice_get now j ≡ Some action
        → of (if test then set now j Hibernate else now) ≡ of now
    by_choice true now j action setting there = other_out f Hibernate no_blank of of_is now j action there (no_setting action setting)
    by_choice false now j action setting there = refl

    by_action : (o : Option (Action C)) (noted : NotedTimers) (now : List (Action C)) (j : ℕ) → slice_get now j ≡ o
        → of (if overrides noted o then set now j Hibernate else now) ≡ of now
    by_action None noted now j there = refl
    by_action (Some (Reply tag content)) noted now j there = refl
    by_action (Some (Postpone last)) noted now j there = refl
    by_action (Some (NextEvent kind content)) noted now j there = refl
    by_action (Some (Set timer time content)) noted now j there = by_choice (is_noted timer noted) now j (Set timer time content) refl there
    by_action (Some (Cancel timer)) noted now j there = by_choice (is_noted timer noted) now j (Cancel timer) refl there
    by_action (Some (Update timer content)) noted now j there = by_choice (is_noted timer noted) now j (Update timer content) refl there
    by_action (Some (Send target content)) noted now j there = refl
    by_action (Some Hibernate) noted now j there = refl

    pub others_kept : (noted : NotedTimers) (now : List (Action C)) (j : ℕ) → of (kept noted now j) ≡ of now
    others_kept noted now j = by_action (slice_get now j) noted now j refl

  -- an action that says nothing on postponing
  abbrev Silent : Action C → Type 0
  Silent action = (given : Bool) (actions : List (Action C)) → postpone_or given (action ∷ actions) ≡ postpone_or given actions

  postpone_out : (given : Bool) (now : List (Action C)) (j : ℕ) (action : Action C) → Silent action → slice_get now j ≡ Some action
      → postpone_or given (set now j Hibernate) ≡ postpone_or given now
  postpone_out given [] j action silent there = cc
  postpone_out given (b ∷ now) zero action silent there = let equal : b ≡ action = cc in rw equal (sym (silent given now))
  postpone_out given (Reply tag reply ∷ now) (suc j) action silent there = postpone_out given now j action silent there
  postpone_out given (Postpone last ∷ now) (suc j) action silent there = postpone_out last now j action silent there
  postpone_out given (NextEvent kind event ∷ now) (suc j) action silent there = postpone_out given now j action silent there
  postpone_out given (Set other at held ∷ now) (suc j) action silent there = postpone_out given now j action silent there
  postpone_out given (Cancel other ∷ now) (suc j) action silent there = postpone_out given now j action silent there
  postpone_out given (Update other held ∷ now) (suc j) action silent there = postpone_out given now j action silent there
  postpone_out given (Send target held ∷ now) (suc j) action silent there = postpone_out given now j action silent there
  postpone_out given (Hibernate ∷ now) (suc j) action silent there = postpone_out given now j action silent there

  postpone_choice : (test given : Bool) (now : List (Action C)) (j : ℕ) (action : Action C) → Silent action → slice_get now j ≡ Some action
      → postpone_or given (if test then set now j Hibernate else now) ≡ postpone_or given now
  postpone_choice true given now j action silent there = postpone_out given now j action silent there
  postpone_choice false given now j action silent there = refl

  postpone_action : (o : Option (Action C)) (given : Bool) (noted : NotedTimers) (now : List (Action C)) (j : ℕ) → slice_get now j ≡ o
      → postpone_or given (if overrides noted o then set now j Hibernate else now) ≡ postpone_or given now
  postpone_action None given noted now j there = refl
  postpone_action (Some (Reply tag content)) given noted now j there = refl
  postpone_action (Some (Postpone last)) given noted now j there = refl
  postpone_action (Some (NextEvent kind content)) given noted now j there = refl
  postpone_action (Some (Set timer time content)) given noted now j there =
      postpone_choice (is_noted timer noted) given now j (Set timer time content) (λ given actions. refl) there
  postpone_action (Some (Cancel timer)) given noted now j there = postpone_choice (is_noted timer noted) given now j (Cancel timer) (λ given actions. refl) there
  postpone_action (Some (Update timer content)) given noted now j there =
      postpone_choice (is_noted timer noted) given now j (Update timer content) (λ given actions. refl) there
  postpone_action (Some (Send target content)) given noted now j there = refl
  postpone_action (Some Hibernate) given noted now j there = refl

  pub postpone_kept : (given : Bool) (noted : NotedTimers) (now : List (Action C)) (j : ℕ) → postpone_or given (kept noted now j) ≡ postpone_or given now
  postpone_kept given noted now j = postpone_action (slice_get now j) given noted now j refl

  length_choice : (test : Bool) (now : List (Action C)) (j : ℕ) → length (if test then set now j Hibernate else now) ≡ length now
  length_choice true now j = length-set now j Hibernate
  length_choice false now j = refl

  pub length_kept : (noted : NotedTimers) (now : List (Action C)) (j : ℕ) → length (kept noted now j) ≡ length now
  length_kept noted now j = length_choice (overrides noted (slice_get now j)) now j

  -- ---- at most one setting: no later one overrides it
  none_set : (timer : Timer) (actions : List (Action C)) → all_settings_of actions ≡ [] → sets timer actions ≡ false
  none_set timer [] none = refl
  none_set timer (Reply tag content ∷ actions) none = none_set timer actions none
  none_set timer (Postpone last ∷ actions) none = none_set timer actions none
  none_set timer (NextEvent kind content ∷ actions) none = none_set timer actions none
  none_set timer (Set other time content ∷ actions) none = cc
  none_set timer (Cancel other ∷ actions) none = cc
  none_set timer (Update other content ∷ actions) none = cc
  none_set timer (Send target content ∷ actions) none = none_set timer actions none
  none_set timer (Hibernate ∷ actions) none = none_set timer actions none

  alone_is_last : (timer : Timer) (wanted : Asked C) (rest : List (Setting C)) (actions : List (Action C)) → length rest + 1 ≤ 1 → rest ≡ all_settings_of actions
      → rest ≡ settings_of actions → record { timer = timer; asked = wanted } ∷ rest ≡ asked_unless (sets timer actions) timer wanted (settings_of actions)
  alone_is_last timer wanted rest actions few all last =
      let none = nil_from_length rest (omega (arith, few)) in
      rw (none_set timer actions (sym all ∙ none)) (ap (λ (rest : List (Setting C)). record { timer = timer; asked = wanted } ∷ rest) last)

  pub one_is_last : (actions : List (Action C)) → length (all_settings_of actions) ≤ 1 → all_settings_of actions ≡ settings_of actions
  one_is_last [] few = refl
  one_is_last (Reply tag content ∷ actions) few = one_is_last actions few
  one_is_last (Postpone last ∷ actions) few = one_is_last actions few
  one_is_last (NextEvent kind content ∷ actions) few = one_is_last actions few
  one_is_last (Set timer time content ∷ actions) few =
      alone_is_last timer (asked.Set time content) (all_settings_of actions) actions (omega (arith, few)) refl (one_is_last actions (omega (arith, few)))
  one_is_last (Cancel timer ∷ actions) few =
      alone_is_last timer asked.Cancel (all_settings_of actions) actions (omega (arith, few)) refl (one_is_last actions (omega (arith, few)))
  one_is_last (Update timer content ∷ actions) few =
      alone_is_last timer (asked.Update content) (all_settings_of actions) actions (omega (arith, few)) refl (one_is_last actions (omega (arith, few)))
  one_is_last (Send target content ∷ actions) few = one_is_last actions few
  one_is_last (Hibernate ∷ actions) few = one_is_last actions few

-- Actions of one kind that leave a list one after another, and settings that later ones override.
use Rattle.std.proofs.Common.{◌≡◌, ℕ, zero, suc, ◌+◌, true, false, Option, Some, None, List, [], ◌∷◌, ◌++◌, refl, sym, ap, ◌∙◌, take, drop, set, is_some, arith}
use Rattle.std.specs.Prelude.{slice_get}
use Rattle.std.proofs.lemmas.List.{append-nil}
use Rattle.std.specs.List.{filter_map, cons_option}
use Rattle.std.specs.Option.{option_and_then, option_to_list}
use Rattle.st_events.specs.declared.action.Action.{Action}
use Rattle.st_events.specs.declared.action.Action.TheVariants.{Reply, Postpone, NextEvent, Set, Cancel, Update, Send, Hibernate}
use Rattle.st_events.specs.declared.asked.Asked.TheVariants as asked
use Rattle.st_events.specs.declared.insert.Insert.{Insert}
use Rattle.st_events.specs.declared.setting.Setting.{Setting}
use Rattle.st_actions.specs.Plan.{replies_of, inserts_of, sends_of}
use Rattle.st_actions.specs.Taking.{all_settings_of, as_reply, as_insert, as_setting, as_send}

cons_none : {X : Type 0} (o : Option X) (xs : List X) → cons_option o xs ≡ [] → (o ≡ None) × (xs ≡ [])
cons_none None xs h = (refl, h)
cons_none (Some x) xs h = cc

cons_onto : {X : Type 0} (o : Option X) (xs ys : List X) → cons_option o (xs ++ ys) ≡ cons_option o xs ++ ys
cons_onto None xs ys = refl
cons_onto (Some x) xs ys = refl

not_some : {X : Type 0} (o : Option X) → is_some o ≡ false → o ≡ None
not_some None h = refl
not_some (Some x) h = cc

one_more : (n : ℕ) → n + 1 ≡ suc n
one_more n = omega arith

-- ---- one kind, where another element stands in the place of what is taken
module _ {A X : Type 0} (f : A → Option X) (blank : A) (no_blank : f blank ≡ None) (of : List A → List X) (of_is : (xs : List A) → of xs ≡ filter_map f xs) where
  out_first : (xs : List A) (index : ℕ) (a : A) (x : X) → slice_get xs index ≡ Some a → f a ≡ Some x
      → filter_map f (take index xs) ≡ [] → filter_map f xs ≡ x ∷ filter_map f (set xs index blank)
  out_first [] index a x there is none = cc
  out_first (b ∷ xs) zero a x there is none = let same : b ≡ a = cc in rw (same, is, no_blank) refl
  out_first (b ∷ xs) (suc index) a x there is none =
      let no = cons_none (f b) (filter_map f (take index xs)) none in rw no.0 (out_first xs index a x there is no.1)

  out_last : (xs : List A) (index : ℕ) (a : A) (x : X) → slice_get xs index ≡ Some a → f a ≡ Some x
      → filter_map f (drop (suc index) xs) ≡ [] → filter_map f xs ≡ filter_map f (set xs index blank) ++ x ∷ []
  out_last [] index a x there is none = cc
  out_last (b ∷ xs) zero a x there is none = let same : b ≡ a = cc in rw (same, is, no_blank, none) refl
  out_last (b ∷ xs) (suc index) a x there is none =
      ap (cons_option (f b)) (out_last xs index a x there is none) ∙ cons_onto (f b) (filter_map f (set xs index blank)) (x ∷ [])

  out_other : (xs : List A) (index : ℕ) (a : A) → slice_get xs index ≡ Some a → f a ≡ None → filter_map f (set xs index blank) ≡ filter_map f xs
  out_other [] index a there is = cc
  out_other (b ∷ xs) zero a there is = let same : b ≡ a = cc in rw (same, is, no_blank) refl
  out_other (b ∷ xs) (suc index) a there is = ap (cons_option (f b)) (out_other xs index a there is)

  front_more : (xs : List A) (index : ℕ) → filter_map f (take index xs) ≡ []
      → ((a : A) → slice_get xs index ≡ Some a → f a ≡ None) → filter_map f (take (suc index) xs) ≡ []
  front_more [] index none not_it = refl
  front_more (b ∷ xs) zero none not_it = rw (not_it b refl) refl
  front_more (b ∷ xs) (suc index) none not_it =
      let no = cons_none (f b) (filter_map f (take index xs)) none in rw no.0 (front_more xs index no.1 not_it)

  front_out : (xs : List A) (index : ℕ) → filter_map f (take index xs) ≡ [] → filter_map f (take (suc index) (set xs index blank)) ≡ []
  front_out [] index none = refl
  front_out (b ∷ xs) zero none = rw no_blank refl
  front_out (b ∷ xs) (suc index) none =
      let no = cons_none (f b) (filter_map f (take index xs)) none in rw no.0 (front_out xs index no.1)

  behind_more : (xs : List A) (index : ℕ) → filter_map f (drop (suc index) xs) ≡ []
      → ((a : A) → slice_get xs index ≡ Some a → f a ≡ None) → filter_map f (drop index xs) ≡ []
  behind_more [] zero none not_it = refl
  behind_more [] (suc index) none not_it = refl
  behind_more (b ∷ xs) zero none not_it = rw (not_it b refl) none
  behind_more (b ∷ xs) (suc index) none not_it = behind_more xs index none not_it

  behind_out : (xs : List A) (index : ℕ) → filter_map f (drop (suc index) xs) ≡ [] → filter_map f (drop index (set xs index blank)) ≡ []
  behind_out [] zero none = refl
  behind_out [] (suc index) none = refl
  behind_out (b ∷ xs) zero none = rw no_blank none
  behind_out (b ∷ xs) (suc index) none = behind_out xs index none

  after_drop : (xs : List A) (index : ℕ) → of (drop (index + 1) xs) ≡ [] → filter_map f (drop (suc index) xs) ≡ []
  after_drop xs index none = sym (of_is (drop (suc index) xs)) ∙ (sym (ap (λ n. of (drop n xs)) (one_more index)) ∙ none)

  -- the same of the kind's own word
  pub first_out : (xs : List A) (index : ℕ) (a : A) (x : X) → slice_get xs index ≡ Some a → f a ≡ Some x
      → of (take index xs) ≡ [] → of xs ≡ x ∷ of (set xs index blank)
  first_out xs index a x there is none =
      of_is xs ∙ (out_first xs index a x there is (sym (of_is (take index xs)) ∙ none) ∙ ap (λ (ys : List X). x ∷ ys) (sym (of_is (set xs index blank))))

  pub other_out : (xs : List A) (index : ℕ) (a : A) → slice_get xs index ≡ Some a → f a ≡ None → of (set xs index blank) ≡ of xs
  other_out xs index a there is = of_is (set xs index blank) ∙ (out_other xs index a there is ∙ sym (of_is xs))

  -- what the element at an index is of this kind, if it is
  pub first_taken : (xs : List A) (index : ℕ) (a : A) (o : Option X) → slice_get xs index ≡ Some a → o ≡ f a
      → of (take index xs) ≡ [] → of xs ≡ option_to_list o ++ of (set xs index blank)
  first_taken xs index a None there is none = sym (other_out xs index a there (sym is))
  first_taken xs index a (Some x) there is none = first_out xs index a x there (sym is) none

  pub last_out : (xs : List A) (index : ℕ) (a : A) (x : X) → slice_get xs index ≡ Some a → f a ≡ Some x
      → of (drop (index + 1) xs) ≡ [] → of xs ≡ of (set xs index blank) ++ x ∷ []
  last_out xs index a x there is none =
      of_is xs ∙ (out_last xs index a x there is (after_drop xs index none) ∙ ap (λ (ys : List X). ys ++ x ∷ []) (sym (of_is (set xs index blank))))

  pub last_taken : (xs : List A) (index : ℕ) (a : A) (o : Option X) → slice_get xs index ≡ Some a → o ≡ f a
      → of (drop (index + 1) xs) ≡ [] → of xs ≡ of (set xs index blank) ++ option_to_list o
  last_taken xs index a None there is none = sym (other_out xs index a there (sym is)) ∙ sym (append-nil (of (set xs index blank)))
  last_taken xs index a (Some x) there is none = last_out xs index a x there (sym is) none

  pub none_in_front : (xs : List A) (index : ℕ) → of (take index xs) ≡ []
      → ((a : A) → slice_get xs index ≡ Some a → f a ≡ None) → of (take (index + 1) xs) ≡ []
  none_in_front xs index none not_it = ap (λ n. of (take n xs)) (one_more index) ∙ of_is (take (suc index) xs) ∙ front_more xs index (sym (of_is (take index xs)) ∙ none) not_it

  pub none_in_front_out : (xs : List A) (index : ℕ) → of (take index xs) ≡ [] → of (take (index + 1) (set xs index blank)) ≡ []
  none_in_front_out xs index none = ap (λ n. of (take n (set xs index blank))) (one_more index) ∙ of_is (take (suc index) (set xs index blank)) ∙ front_out xs index (sym (of_is (take index xs)) ∙ none)

  pub none_behind : (xs : List A) (index : ℕ) → of (drop (index + 1) xs) ≡ []
      → ((a : A) → slice_get xs index ≡ Some a → f a ≡ None) → of (drop index xs) ≡ []
  none_behind xs index none not_it = of_is (drop index xs) ∙ behind_more xs index (after_drop xs index none) not_it

  pub none_behind_out : (xs : List A) (index : ℕ) → of (drop (index + 1) xs) ≡ [] → of (drop index (set xs index blank)) ≡ []
  none_behind_out xs index none = of_is (drop index (set xs index blank)) ∙ behind_out xs index (after_drop xs index none)

-- ---- the four kinds
module _ {C : Type 0} where
  pub replies_are : (actions : List (Action C)) → replies_of actions ≡ filter_map as_reply actions
  replies_are [] = refl
  replies_are (Reply tag content ∷ actions) = ap (λ replies. (tag, content) ∷ replies) (replies_are actions)
  replies_are (Postpone last ∷ actions) = replies_are actions
  replies_are (NextEvent kind content ∷ actions) = replies_are actions
  replies_are (Set timer time content ∷ actions) = replies_are actions
  replies_are (Cancel timer ∷ actions) = replies_are actions
  replies_are (Update timer content ∷ actions) = replies_are actions
  replies_are (Send target content ∷ actions) = replies_are actions
  replies_are (Hibernate ∷ actions) = replies_are actions

  pub inserts_are : (actions : List (Action C)) → inserts_of actions ≡ filter_map as_insert actions
  inserts_are [] = refl
  inserts_are (Reply tag content ∷ actions) = inserts_are actions
  inserts_are (Postpone last ∷ actions) = inserts_are actions
  inserts_are (NextEvent kind content ∷ actions) = ap (λ (inserts : List (Insert C)). record { kind = kind; content = content } ∷ inserts) (inserts_are actions)
  inserts_are (Set timer time content ∷ actions) = inserts_are actions
  inserts_are (Cancel timer ∷ actions) = inserts_are actions
  inserts_are (Update timer content ∷ actions) = inserts_are actions
  inserts_are (Send target content ∷ actions) = inserts_are actions
  inserts_are (Hibernate ∷ actions) = inserts_are actions

  pub settings_are : (actions : List (Action C)) → all_settings_of actions ≡ filter_map as_setting actions
  settings_are [] = refl
  settings_are (Reply tag content ∷ actions) = settings_are actions
  settings_are (Postpone last ∷ actions) = settings_are actions
  settings_are (NextEvent kind content ∷ actions) = settings_are actions
  settings_are (Set timer time content ∷ actions) =
      ap (λ (settings : List (Setting C)). record { timer = timer; asked = asked.Set time content } ∷ settings) (settings_are actions)
  settings_are (Cancel timer ∷ actions) = ap (λ (settings : List (Setting C)). record { timer = timer; asked = asked.Cancel } ∷ settings) (settings_are actions)
  settings_are (Update timer content ∷ actions) =
      ap (λ (settings : List (Setting C)). record { timer = timer; asked = asked.Update content } ∷ settings) (settings_are actions)
  settings_are (Send target content ∷ actions) = settings_are actions
  settings_are (Hibernate ∷ actions) = settings_are actions

  pub sends_are : (actions : List (Action C)) → sends_of actions ≡ filter_map as_send actions
  sends_are [] = refl
  sends_are (Reply tag content ∷ actions) = sends_are actions
  sends_are (Postpone last ∷ actions) = sends_are actions
  sends_are (NextEvent kind content ∷ actions) = sends_are actions
  sends_are (Set timer time content ∷ actions) = sends_are actions
  sends_are (Cancel timer ∷ actions) = sends_are actions
  sends_are (Update timer content ∷ actions) = sends_are actions
  sends_are (Send target content ∷ actions) = ap (λ sends. (target, content) ∷ sends) (sends_are actions)
  sends_are (Hibernate ∷ actions) = sends_are actions

  -- what asks something of a timer is of no other kind
  pub setting_is_no_reply : (action : Action C) → is_some (as_setting action) ≡ true → as_reply action ≡ None
  setting_is_no_reply (Reply tag content) setting = cc
  setting_is_no_reply (Postpone last) setting = refl
  setting_is_no_reply (NextEvent kind content) setting = refl
  setting_is_no_reply (Set other time content) setting = refl
  setting_is_no_reply (Cancel other) setting = refl
  setting_is_no_reply (Update other content) setting = refl
  setting_is_no_reply (Send target content) setting = refl
  setting_is_no_reply Hibernate setting = refl

  pub setting_is_no_insert : (action : Action C) → is_some (as_setting action) ≡ true → as_insert action ≡ None
  setting_is_no_insert (Reply tag content) setting = refl
  setting_is_no_insert (Postpone last) setting = refl
  setting_is_no_insert (NextEvent kind content) setting = cc
  setting_is_no_insert (Set other time content) setting = refl
  setting_is_no_insert (Cancel other) setting = refl
  setting_is_no_insert (Update other content) setting = refl
  setting_is_no_insert (Send target content) setting = refl
  setting_is_no_insert Hibernate setting = refl

  pub setting_is_no_send : (action : Action C) → is_some (as_setting action) ≡ true → as_send action ≡ None
  setting_is_no_send (Reply tag content) setting = refl
  setting_is_no_send (Postpone last) setting = refl
  setting_is_no_send (NextEvent kind content) setting = refl
  setting_is_no_send (Set other time content) setting = refl
  setting_is_no_send (Cancel other) setting = refl
  setting_is_no_send (Update other content) setting = refl
  setting_is_no_send (Send target content) setting = cc
  setting_is_no_send Hibernate setting = refl

  -- what is a reply, or an event to be inserted, is of no other kind
  pub reply_is_no_insert : (action : Action C) → is_some (as_reply action) ≡ true → as_insert action ≡ None
  reply_is_no_insert (Reply tag content) it = refl
  reply_is_no_insert (Postpone last) it = refl
  reply_is_no_insert (NextEvent kind content) it = cc
  reply_is_no_insert (Set other time content) it = refl
  reply_is_no_insert (Cancel other) it = refl
  reply_is_no_insert (Update other content) it = refl
  reply_is_no_insert (Send target content) it = refl
  reply_is_no_insert Hibernate it = refl

  pub reply_is_no_setting : (action : Action C) → is_some (as_reply action) ≡ true → as_setting action ≡ None
  reply_is_no_setting (Reply tag content) it = refl
  reply_is_no_setting (Postpone last) it = refl
  reply_is_no_setting (NextEvent kind content) it = refl
  reply_is_no_setting (Set other time content) it = cc
  reply_is_no_setting (Cancel other) it = cc
  reply_is_no_setting (Update other content) it = cc
  reply_is_no_setting (Send target content) it = refl
  reply_is_no_setting Hibernate it = refl

  pub reply_is_no_send : (action : Action C) → is_some (as_reply action) ≡ true → as_send action ≡ None
  reply_is_no_send (Reply tag content) it = refl
  reply_is_no_send (Postpone last) it = refl
  reply_is_no_send (NextEvent kind content) it = refl
  reply_is_no_send (Set other time content) it = refl
  reply_is_no_send (Cancel other) it = refl
  reply_is_no_send (Update other content) it = refl
  reply_is_no_send (Send target content) it = cc
  reply_is_no_send Hibernate it = refl

  pub insert_is_no_reply : (action : Action C) → is_some (as_insert action) ≡ true → as_reply action ≡ None
  insert_is_no_reply (Reply tag content) it = cc
  insert_is_no_reply (Postpone last) it = refl
  insert_is_no_reply (NextEvent kind content) it = refl
  insert_is_no_reply (Set other time content) it = refl
  insert_is_no_reply (Cancel other) it = refl
  insert_is_no_reply (Update other content) it = refl
  insert_is_no_reply (Send target content) it = refl
  insert_is_no_reply Hibernate it = refl

  pub insert_is_no_setting : (action : Action C) → is_some (as_insert action) ≡ true → as_setting action ≡ None
  insert_is_no_setting (Reply tag content) it = refl
  insert_is_no_setting (Postpone last) it = refl
  insert_is_no_setting (NextEvent kind content) it = refl
  insert_is_no_setting (Set other time content) it = cc
  insert_is_no_setting (Cancel other) it = cc
  insert_is_no_setting (Update other content) it = cc
  insert_is_no_setting (Send target content) it = refl
  insert_is_no_setting Hibernate it = refl

  pub insert_is_no_send : (action : Action C) → is_some (as_insert action) ≡ true → as_send action ≡ None
  insert_is_no_send (Reply tag content) it = refl
  insert_is_no_send (Postpone last) it = refl
  insert_is_no_send (NextEvent kind content) it = refl
  insert_is_no_send (Set other time content) it = refl
  insert_is_no_send (Cancel other) it = refl
  insert_is_no_send (Update other content) it = refl
  insert_is_no_send (Send target content) it = cc
  insert_is_no_send Hibernate it = refl

-- ---- what stands at an index
pub none_at : {A X : Type 0} (f : A → Option X) (xs : List A) (index : ℕ) → is_some (option_and_then f (slice_get xs index)) ≡ false
    → (a : A) → slice_get xs index ≡ Some a → f a ≡ None
none_at f xs index none a there = not_some (f a) (rw there at none)

pub some_at : {A X : Type 0} (f : A → Option X) (xs : List A) (index : ℕ) (a : A) → is_some (option_and_then f (slice_get xs index)) ≡ true
    → slice_get xs index ≡ Some a → is_some (f a) ≡ true
some_at f xs index a some there = rw there at some

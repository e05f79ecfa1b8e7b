-- What a step on the three chains of nodes makes of the queue as its callers see it.
use Rattle.std.proofs.Common.{◌≡◌, ℕ, suc, is_some, IsNone, OnSome, ◌+◌, ◌-◌, ◌<◌, List, [], ◌∷◌, ◌++◌, length, refl, sym, ap, subst, ◌∙◌, arith, Option, Some, None, slice_get, slice_index_or, insert, remove, Bool, false}
use Rattle.std.proofs.lemmas.List.{length-append, append_assoc}
use Rattle.std.proofs.lemmas.List.Edits.{insert-append_right, remove-append_right}
use Rattle.std.proofs.lemmas.Bool.{true≢false}
use Rattle.std.proofs.lemmas.Option.{slice_get_past, slice_get-get_or}
use Rattle.std.proofs.Math.Seq.{get_or-append_seam}
use Rattle.st_queue.specs.Queue.{Queue, with_pushed, without_current, with_skipped, rewound, with_inserted, with_pushed_staged}
use Rattle.st_queue.specs.Filled.{events_of, AreFilled, queue_of}

module _ {E : Type 0} where
  -- ---- nodes and their events
  pub length_of_events : (nodes : List (Option E)) → AreFilled nodes → length (events_of nodes) ≡ length nodes
  length_of_events [] filled = refl
  length_of_events (Some event ∷ nodes) filled = ap suc (length_of_events nodes filled)
  length_of_events (None ∷ nodes) filled = absurd filled

  pub events_append : (nodes others : List (Option E)) → events_of (nodes ++ others) ≡ events_of nodes ++ events_of others
  events_append [] others = refl
  events_append (Some event ∷ nodes) others = ap (λ events. event ∷ events) (events_append nodes others)
  events_append (None ∷ nodes) others = events_append nodes others

  pub filled_append : (nodes others : List (Option E)) → AreFilled nodes → AreFilled others → AreFilled (nodes ++ others)
  filled_append [] others first second = second
  filled_append (Some event ∷ nodes) others first second = filled_append nodes others first second
  filled_append (None ∷ nodes) others first second = absurd first

  pub filled_rest : (entry : Option E) (nodes : List (Option E)) → AreFilled (entry ∷ nodes) → AreFilled nodes
  filled_rest (Some event) nodes filled = filled
  filled_rest None nodes filled = absurd filled

  pub filled_first : (entry : Option E) (nodes : List (Option E)) → AreFilled (entry ∷ nodes) → AreFilled (entry ∷ [])
  filled_first (Some event) nodes filled = tt
  filled_first None nodes filled = absurd filled

  pub length_of_items : (passed rest : List (Option E)) → AreFilled passed → AreFilled rest → length (events_of passed ++ events_of rest) ≡ length passed + length rest
  length_of_items passed rest first second = omega (arith, length-append (events_of passed) (events_of rest), length_of_events passed first, length_of_events rest second)

  -- ---- what a step makes of the queue
  same_queue : {items others : List E} {cursor place staged ready : ℕ} → items ≡ others → cursor ≡ place → staged ≡ ready
      → ◌≡◌ {A = Queue E} (record { items = items; cursor = cursor; staged = staged }) (record { items = others; cursor = place; staged = ready })
  same_queue items cursor staged = λ i. record { items = items i; cursor = cursor i; staged = staged i }

  insert_at_seam : (events others : List E) (place : ℕ) (event : E) → length events ≡ place → insert (events ++ others) place event ≡ events ++ event ∷ others
  insert_at_seam events others place event at =
      let none : place - place ≡ 0 = omega arith in
      insert-append_right events others place place event at (omega arith) ∙ ap (λ k. events ++ insert others k event) none

  remove_at_seam : (events others : List E) (place : ℕ) (event : E) → length events ≡ place → remove (events ++ event ∷ others) place ≡ events ++ others
  remove_at_seam events others place event at =
      let none : place - place ≡ 0 = omega arith in
      remove-append_right events (event ∷ others) place place at (omega arith) ∙ ap (λ k. events ++ remove (event ∷ others) k) none

  get_at_seam : (events others : List E) (place : ℕ) (event : E) → length events ≡ place → slice_get (events ++ event ∷ others) place ≡ Some event
  get_at_seam events others place event at =
      let within : length events < length (events ++ event ∷ others) = omega (arith, length-append events (event ∷ others)) in
      ap (λ k. slice_get (events ++ event ∷ others) k) (sym at)
      ∙ slice_get-get_or (events ++ event ∷ others) (length events) event within
      ∙ ap (λ found. Some found) (get_or-append_seam events event others event)

  pub is_pushed : (passed rest spare : List (Option E)) (event : E) → queue_of passed (rest ++ Some event ∷ []) spare ≡ with_pushed (queue_of passed rest spare) event
  is_pushed passed rest spare event =
      same_queue (ap (λ events. events_of passed ++ events) (events_append rest (Some event ∷ [])) ∙ sym (append_assoc (events_of passed) (events_of rest) (event ∷ []))) refl refl

  pub is_pushed_staged : (passed rest spare left : List (Option E)) (entry : Option E) (event : E) → spare ≡ entry ∷ left
      → queue_of passed (rest ++ Some event ∷ []) left ≡ with_pushed_staged (queue_of passed rest spare) event
  is_pushed_staged passed rest spare left entry event out =
      let count = ap length out in
      same_queue (ap (λ events. events_of passed ++ events) (events_append rest (Some event ∷ [])) ∙ sym (append_assoc (events_of passed) (events_of rest) (event ∷ []))) refl (omega arith)

  pub is_inserted : (passed rest spare left : List (Option E)) (entry : Option E) (event : E) → AreFilled passed → spare ≡ entry ∷ left
      → queue_of passed (Some event ∷ rest) left ≡ with_inserted (queue_of passed rest spare) event
  is_inserted passed rest spare left entry event filled out =
      let count = ap length out in
      same_queue (sym (insert_at_seam (events_of passed) (events_of rest) (length passed) event (length_of_events passed filled))) refl (omega arith)

  without_first : (passed left spare : List (Option E)) (entry : Option E) → AreFilled passed → AreFilled (entry ∷ left)
      → queue_of passed left spare ≡ without_current (queue_of passed (entry ∷ left) spare)
  without_first passed left spare (Some event) first second =
      same_queue (sym (remove_at_seam (events_of passed) (events_of left) (length passed) event (length_of_events passed first))) refl refl
  without_first passed left spare None first second = absurd second

  pub is_without_current : (passed rest left spare : List (Option E)) (entry : Option E) → AreFilled passed → AreFilled rest → rest ≡ entry ∷ left
      → queue_of passed left spare ≡ without_current (queue_of passed rest spare)
  is_without_current passed rest left spare entry first second out =
      without_first passed left spare entry first (subst AreFilled out second) ∙ ap (λ nodes. without_current (queue_of passed nodes spare)) (sym out)

  with_first_skipped : (passed left spare : List (Option E)) (entry : Option E) → AreFilled (entry ∷ left)
      → queue_of (passed ++ entry ∷ []) left spare ≡ with_skipped (queue_of passed (entry ∷ left) spare)
  with_first_skipped passed left spare (Some event) filled =
      same_queue (ap (λ events. events ++ events_of left) (events_append passed (Some event ∷ [])) ∙ append_assoc (events_of passed) (event ∷ []) (events_of left)) (length-append passed (Some event ∷ [])) refl
  with_first_skipped passed left spare None filled = absurd filled

  pub is_skipped : (passed rest left spare : List (Option E)) (entry : Option E) → AreFilled rest → rest ≡ entry ∷ left
      → queue_of (passed ++ entry ∷ []) left spare ≡ with_skipped (queue_of passed rest spare)
  is_skipped passed rest left spare entry filled out =
      with_first_skipped passed left spare entry (subst AreFilled out filled) ∙ ap (λ nodes. with_skipped (queue_of passed nodes spare)) (sym out)

  pub is_rewound : (passed rest spare : List (Option E)) → queue_of [] (passed ++ rest) spare ≡ rewound (queue_of passed rest spare)
  is_rewound passed rest spare = same_queue (events_append passed rest) refl refl

  -- ---- the event at the cursor
  first_is_current : (passed left : List (Option E)) (entry : Option E) → AreFilled passed → AreFilled (entry ∷ left)
      → entry ≡ slice_get (events_of passed ++ events_of (entry ∷ left)) (length passed)
  first_is_current passed left (Some event) first second = sym (get_at_seam (events_of passed) (events_of left) (length passed) event (length_of_events passed first))
  first_is_current passed left None first second = absurd second

  pub is_current : (passed rest left : List (Option E)) (entry : Option E) → AreFilled passed → AreFilled rest → rest ≡ entry ∷ left
      → entry ≡ slice_get (events_of passed ++ events_of rest) (length passed)
  is_current passed rest left entry first second out =
      first_is_current passed left entry first (subst AreFilled out second) ∙ ap (λ nodes. slice_get (events_of passed ++ events_of nodes) (length passed)) (sym out)

  pub none_at_end : (passed rest : List (Option E)) → AreFilled passed → AreFilled rest → length rest ≡ 0
      → slice_get (events_of passed ++ events_of rest) (length passed) ≡ None
  none_at_end passed rest first second empty =
      let count = length_of_items passed rest first second in
      slice_get_past (events_of passed ++ events_of rest) (length passed) (omega arith)

  is_first : (entry : Option E) (rest : List (Option E)) → (length rest ≡ 0 → ⊥) → entry ≡ slice_index_or rest 0 entry → (left : List (Option E)) × (rest ≡ entry ∷ left)
  is_first entry [] more found = absurd (more refl)
  is_first entry (first ∷ left) more found = (left, ap (λ one. one ∷ left) (sym found))

  -- the node that is lent is the first of the rest
  pub lent_is_current : (passed rest : List (Option E)) (entry : Option E) → AreFilled passed → AreFilled rest → (length rest ≡ 0 → ⊥)
      → entry ≡ slice_index_or rest 0 entry → entry ≡ slice_get (events_of passed ++ events_of rest) (length passed)
  lent_is_current passed rest entry first second more found =
      let front = is_first entry rest more found in
      is_current passed rest front.0 entry first second front.1

  has_event : (entry : Option E) (left : List (Option E)) → AreFilled (entry ∷ left) → IsNone entry → ⊥
  has_event (Some event) left filled none = true≢false none
  has_event None left filled none = filled

  -- a first node is there, and so the cursor is not at the end
  pub not_at_end : (passed rest left : List (Option E)) (entry : Option E) → AreFilled passed → AreFilled rest → rest ≡ entry ∷ left
      → (IsNone entry → length passed ≡ length (events_of passed ++ events_of rest)) × (length passed ≡ length (events_of passed ++ events_of rest) → IsNone entry)
  not_at_end passed rest left entry first second out =
      let count = length_of_items passed rest first second in
      let more = ap length out in
      ((λ none. absurd (has_event entry left (subst AreFilled out second) none)), (λ at. absurd (omega arith)))

  -- the same where the first node is lent
  pub lent_not_at_end : (passed rest : List (Option E)) (entry : Option E) (shown : Bool) → AreFilled passed → AreFilled rest → (length rest ≡ 0 → ⊥)
      → entry ≡ slice_index_or rest 0 entry → shown ≡ is_some entry
      → (shown ≡ false → length passed ≡ length (events_of passed ++ events_of rest)) × (length passed ≡ length (events_of passed ++ events_of rest) → shown ≡ false)
  lent_not_at_end passed rest entry shown first second more found same =
      let front = is_first entry rest more found in
      let ends = not_at_end passed rest front.0 entry first second front.1 in
      ((λ none. ends.0 (sym same ∙ none)), (λ at. same ∙ ends.1 at))

  pub on_some : (entry : Option E) (Holds : Type 0) → Holds → OnSome entry Holds
  on_some (Some event) Holds holds = holds
  on_some None Holds holds = tt

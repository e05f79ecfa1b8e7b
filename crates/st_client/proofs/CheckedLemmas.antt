-- The first request of a collection that does not wait is taken out.
use Rattle.std.proofs.Common.{◌≡◌, ℕ, zero, suc, ◌+◌, ◌<◌, List, [], ◌∷◌, length, remove, slice_get, Result, Ok, Err, IfOk, IfErr, Some, refl, ap, ◌∙◌, subst, arith}
use Rattle.st_events.specs.declared.refusal.Refusal.{Refusal}
use Rattle.st_events.specs.declared.tag.Tag.{Tag}
use Rattle.st_requests.specs.declared.collected.Collected.{Collected}
use Rattle.st_core.specs.Callbacks.{Callbacks}
use Rattle.st_collection.specs.declared.sent.Sent.{Sent}
use Rattle.st_requests.specs.declared.collected.Collected.TheVariants.{Waiting}
use Rattle.st_client.specs.Checked.{IsAnsweredAt, IsCollectedSomewhere, RefusesOne, TakesOut, WaitBefore}

module _ {M S D C L : Type 0} (callbacks : M → Callbacks S D C) where
  -- where the first one waits, and those behind it that stand before a place
  waiting_behind : (one : Sent Tag L) (others : List (Sent Tag L)) → IsAnsweredAt callbacks (one ∷ others) zero (Ok Waiting) → WaitBefore callbacks others (length others)
      → (earlier : ℕ) → earlier < length (one ∷ others) → IsAnsweredAt callbacks (one ∷ others) earlier (Ok Waiting)
  waiting_behind one others first rest zero within = first
  waiting_behind one others first rest (suc earlier) within = rest earlier (omega (arith, within))

  -- the one at a place
  pub taken_out : (old new : List (Sent Tag L)) (place : ℕ) (kept : Collected C) (label : L) → place < length old
      → ((sent : Sent Tag L) → slice_get old place ≡ Some sent → label ≡ sent.label) → new ≡ remove old place
      → IsAnsweredAt callbacks old place (Ok kept) → WaitBefore callbacks old place → TakesOut callbacks old kept label new
  taken_out [] new place kept label within labels removed answers waits = absurd (omega (arith, within))
  taken_out (one ∷ others) new zero kept label within labels removed answers waits = record {
    before = [];
    taken = one;
    after = others;
    was = refl;
    left = removed;
    labelled = labels one refl;
    answered = answers one refl;
    waiting = λ earlier none. absurd (omega (arith, none));
  }
  taken_out (one ∷ others) new (suc place) kept label within labels removed answers waits =
      let rest = taken_out others (remove others place) place kept label (omega (arith, within)) labels refl answers
      (λ earlier before. waits (suc earlier) (omega (arith, before))) in
      record {
        before = one ∷ rest.before;
        taken = rest.taken;
        after = rest.after;
        was = ap (λ (all : List (Sent Tag L)). one ∷ all) rest.was;
        left = removed ∙ ap (λ (all : List (Sent Tag L)). one ∷ all) rest.left;
        labelled = rest.labelled;
        answered = rest.answered;
        waiting = waiting_behind one rest.before (waits zero (omega arith)) rest.waiting;
      }

  -- the one at a place was refused
  pub refuses_one : (all : List (Sent Tag L)) (place : ℕ) (refusal : Refusal) → place < length all
      → IsAnsweredAt callbacks all place (Err refusal) → RefusesOne callbacks all refusal
  refuses_one [] place refusal within answers = absurd (omega (arith, within))
  refuses_one (one ∷ others) zero refusal within answers = ([], one, others, refl, answers one refl)
  refuses_one (one ∷ others) (suc place) refusal within answers =
      let rest = refuses_one others place refusal (omega (arith, within)) answers in
      (one ∷ rest.0, rest.1, rest.2, ap (λ (them : List (Sent Tag L)). one ∷ them) rest.3, rest.4)

  -- what the request of this tag, which stands at a place, is answered
  pub answered_at : (all : List (Sent Tag L)) (place : ℕ) (tag : Tag) (answer : Result (Collected C) Refusal)
      → ((sent : Sent Tag L) → slice_get all place ≡ Some sent → tag ≡ sent.request) → IsCollectedSomewhere callbacks tag answer
      → IsAnsweredAt callbacks all place answer
  answered_at all place tag answer same told =
      λ sent is. subst (λ (asked : Tag). IsCollectedSomewhere callbacks asked answer) (same sent is) told

  -- what is kept for it, where it was not refused
  pub kept_at : (all : List (Sent Tag L)) (place : ℕ) (answer : Result (Collected C) Refusal)
      → IsAnsweredAt callbacks all place answer → IfOk answer (λ kept. IsAnsweredAt callbacks all place (Ok kept))
  kept_at all place (Ok kept) answers = answers
  kept_at all place (Err refusal) answers = tt

  -- the refusal, where it was
  pub refused_at : (all : List (Sent Tag L)) (place : ℕ) (answer : Result (Collected C) Refusal) → place < length all
      → IsAnsweredAt callbacks all place answer → IfErr answer (λ refusal. RefusesOne callbacks all refusal)
  refused_at all place (Ok kept) within answers = tt
  refused_at all place (Err refusal) within answers = refuses_one all place refusal within answers

  -- where each that stands before a place waits, and the one there, so do those that stand before the next place
  pub wait_on : (all : List (Sent Tag L)) (place : ℕ) → WaitBefore callbacks all place → IsAnsweredAt callbacks all place (Ok Waiting)
      → (earlier : ℕ) → earlier < place + 1 → IsAnsweredAt callbacks all earlier (Ok Waiting)
  wait_on all zero waits one zero within = one
  wait_on all zero waits one (suc earlier) within = absurd (omega (arith, within))
  wait_on [] (suc place) waits one earlier within = one
  wait_on (first ∷ others) (suc place) waits one zero within = waits zero (omega arith)
  wait_on (first ∷ others) (suc place) waits one (suc earlier) within =
      wait_on others place (λ before is. waits (suc before) (omega (arith, is))) one earlier (omega (arith, within))

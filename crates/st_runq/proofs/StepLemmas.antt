-- Each step on a run queue keeps its rule, and what it tells.
use Rattle.std.proofs.Common.{◌≡◌, ◌≢◌, ℕ, zero, suc, ◌+◌, ◌==◌, cond, List, [], ◌∷◌, ◌++◌, length, set, sym, refl, ap, ◌∙◌, subst, ◌⊎◌, ⊎_elim, Some, slice_get, All, append_assoc, length-append, arith}
use mathlib.Core.Option.{some, some-injective, some-ne-none}
use lib.ListN.{get_elem?}
use Rattle.std.proofs.lemmas.List.Elements.{All-nil, All-head, All-tail, All-set, All-push, All-weaker}
use Rattle.std.proofs.lemmas.Bool.Decides.{nat_tests}
use Rattle.crossbeam_deque.specs.Tasks.{Pushes, Takes, Admits}
use Rattle.st_events.specs.declared.token.Token.{Token}
use Rattle.st_runq.specs.declared.seen.Seen.{Seen}
use Rattle.st_runq.specs.RunQueue.{AllStand, EachStands, Entry, seen_of, numbered, times, total, put_by, takes_of, Stands, QueueRule}

-- ---- the ends, one of which changes, or with one more
pub total_set : (f : Seen → ℕ) (ends : List Seen) (port : ℕ) (old new : Seen) → get_elem? ends port ≡ some old → total f (set ends port new) + f old ≡ total f ends + f new
total_set f [] port old new at = absurd (some-ne-none old (sym at))
total_set f (end ∷ ends) zero old new at = let same : f end ≡ f old = ap f (some-injective end old at) in omega arith
total_set f (end ∷ ends) (suc port) old new at = let rest = total_set f ends port old new at in omega arith

total_push : (f : Seen → ℕ) (ends : List Seen) (new : Seen) → total f (ends ++ new ∷ []) ≡ total f ends + f new
total_push f [] new = omega arith
total_push f (end ∷ ends) new = let rest = total_push f ends new in omega arith

-- what was put stays where an end changes that has put as much as before
put_by-set : (ends : List Seen) (port : ℕ) (old new : Seen) → get_elem? ends port ≡ some old → new.put ≡ old.put → put_by (set ends port new) ≡ put_by ends
put_by-set [] port old new at same = refl
put_by-set (end ∷ ends) zero old new at same = same ∙ sym (ap (λ (e : Seen). e.put) (some-injective end old at))
put_by-set (end ∷ ends) (suc port) old new at same = refl

put_by-push : (ends : List Seen) (taken : List Entry) → put_by (ends ++ seen_of [] taken ∷ []) ≡ put_by ends
put_by-push [] taken = refl
put_by-push (end ∷ ends) taken = refl

-- what was put is what the first end has put
put_by_first : (ends : List Seen) (first : Seen) → get_elem? ends 0 ≡ some first → put_by ends ≡ first.put
put_by_first [] first at = absurd (some-ne-none first (sym at))
put_by_first (end ∷ ends) first at = ap (λ (e : Seen). e.put) (some-injective end first at)

put_by-set_first : (ends : List Seen) (old new : Seen) → get_elem? ends 0 ≡ some old → put_by (set ends 0 new) ≡ new.put
put_by-set_first [] old new at = absurd (some-ne-none old (sym at))
put_by-set_first (end ∷ ends) old new at = refl

-- ---- lists
times-append : (place : ℕ) (xs ys : List Entry) → times place (xs ++ ys) ≡ times place xs + times place ys
times-append place [] ys = omega arith
times-append place (x ∷ xs) ys = let rest = times-append place xs ys in omega arith

module _ {A : Type 0} where
  All-at : (P : A → Type 0) (xs : List A) (port : ℕ) (x : A) → All P xs → get_elem? xs port ≡ some x → P x
  All-at P [] port x all at = absurd (some-ne-none x (sym at))
  All-at P (y ∷ ys) zero x all at = subst P (some-injective y x at) (All-head P y ys all)
  All-at P (y ∷ ys) (suc port) x all at = All-at P ys port x (All-tail P y ys all) at

  get-append : (xs ys : List A) (i : ℕ) (x : A) → slice_get xs i ≡ Some x → slice_get (xs ++ ys) i ≡ Some x
  get-append [] ys i x at = cc
  get-append (y ∷ xs) ys zero x at = at
  get-append (y ∷ xs) ys (suc i) x at = get-append xs ys i x at

  get-push_last : (xs : List A) (x : A) → slice_get (xs ++ x ∷ []) (length xs) ≡ Some x
  get-push_last [] x = refl
  get-push_last (y ∷ xs) x = get-push_last xs x

-- whether two places are one
pub one_if : (a b : ℕ) → ((a ≡ b) × (◌≡◌ {A = ℕ} (cond (a == b) 1 0) 1)) ⊎ ((a ≢ b) × (◌≡◌ {A = ℕ} (cond (a == b) 1 0) 0))
one_if a b = grind (arith, nat_tests)

-- ---- a put, by the first end
pub puts : (port : ℕ) (old : Seen) (added : List Token) → port ≡ 0 → Pushes QueueRule port old added (λ new. (new.put ≡ old.put ++ added) × (new.taken ≡ old.taken))
puts port old added here tokens ends rule at =
    let new : Seen = seen_of (old.put ++ added) old.taken in
    let at_first : get_elem? ends 0 ≡ some old = rw here at at in
    let counted : (place : ℕ) → takes_of place (set ends port new) ≡ takes_of place ends =
    λ place. let sum = total_set (λ e. times place e.taken) ends port old new at in omega arith in (
      new,
      record {
        gone = rule.gone;
        queue = rw here (put_by-set_first ends old new at_first ∙ ap (λ l. l ++ added) (sym (put_by_first ends old at_first) ∙ rule.queue) ∙ append_assoc rule.gone tokens added);
        same = All-set (AllStand rule.gone) ends port new (All-at (AllStand rule.gone) ends port old rule.same at) rule.same;
        once = λ place before. counted place ∙ rule.once place before;
        none = λ place behind. counted place ∙ rule.none place behind;
      },
      (refl, refl),
    )

-- ---- a take, by any end: the place is the first that had not left
took : (port : ℕ) (old : Seen) (token : Token) (tokens : List Token) (ends : List Seen) (rule : QueueRule (token ∷ tokens) ends) → get_elem? ends port ≡ some old
    → QueueRule tokens (set ends port (seen_of old.put (old.taken ++ (length rule.gone, token) ∷ [])))
took port old token tokens ends rule at =
    let entry : Entry = (length rule.gone, token) in
    let new : Seen = seen_of old.put (old.taken ++ entry ∷ []) in
    let gone : List Token = rule.gone ++ token ∷ [] in
    let longer : length gone ≡ length rule.gone + 1 = length-append rule.gone (token ∷ []) in
    let still : (e : Seen) → AllStand rule.gone e → AllStand gone e =
    λ e. All-weaker (Stands rule.gone) (Stands gone) (λ entry. get-append rule.gone (token ∷ []) entry.0 entry.1) e.taken in
    let counted : (place : ℕ) → takes_of place (set ends port new) ≡ takes_of place ends + cond (length rule.gone == place) 1 0 =
    λ place.
    let sum = total_set (λ e. times place e.taken) ends port old new at in
    let one_more = times-append place old.taken (entry ∷ []) in omega arith in
    record {
      gone = gone;
      queue = put_by-set ends port old new at refl ∙ rule.queue ∙ sym (append_assoc rule.gone (token ∷ []) tokens);
      same = All-set (AllStand gone) ends port new
          (All-push (Stands gone) old.taken entry (still old (All-at (AllStand rule.gone) ends port old rule.same at)) (get-push_last rule.gone token))
          (All-weaker (AllStand rule.gone) (AllStand gone) still ends rule.same);
      once = λ place before. let now = counted place in
          ⊎_elim (λ is. let was = rule.none place (omega arith) in omega arith) (λ is. let was = rule.once place (omega arith) in omega arith) (one_if (length rule.gone) place);
      none = λ place behind. let now = counted place in let was = rule.none place (omega arith) in
          ⊎_elim (λ is. absurd (omega arith)) (λ is. omega arith) (one_if (length rule.gone) place);
    }

pub takes : (port : ℕ) (old : Seen) → Takes QueueRule port old 1 (λ taken new. (new.put ≡ old.put) × ((place : ℕ) × (new.taken ≡ old.taken ++ numbered place taken)))
takes port old [] tokens ends some_left one rule at = absurd (omega arith)
takes port old (token ∷ []) tokens ends some_left one rule at =
    (seen_of old.put (old.taken ++ (length rule.gone, token) ∷ []), took port old token tokens ends rule at, (refl, (length rule.gone, refl)))
takes port old (token ∷ next ∷ more) tokens ends some_left one rule at = absurd (omega arith)

-- the first end knows that it has put the token at that place
stands : (old : Seen) (token : Token) (tokens : List Token) (ends : List Seen) (rule : QueueRule (token ∷ tokens) ends) → get_elem? ends 0 ≡ some old
    → Stands old.put (length rule.gone, token)
stands old token tokens ends rule at =
    subst (λ (l : List Token). Stands l (length rule.gone, token)) (append_assoc rule.gone (token ∷ []) tokens ∙ sym rule.queue ∙ put_by_first ends old at)
    (get-append (rule.gone ++ token ∷ []) tokens (length rule.gone) token (get-push_last rule.gone token))

pub takes_own : (port : ℕ) (old : Seen) → port ≡ 0
    → Takes QueueRule port old 1 (λ taken new. (new.put ≡ old.put) × ((place : ℕ) × (new.taken ≡ old.taken ++ numbered place taken) × EachStands old.put (numbered place taken)))
takes_own port old here [] tokens ends some_left one rule at = absurd (omega arith)
takes_own port old here (token ∷ []) tokens ends some_left one rule at =
    let at_first : get_elem? ends 0 ≡ some old = rw here at at in
    (seen_of old.put (old.taken ++ (length rule.gone, token) ∷ []), took port old token tokens ends rule at, (refl, (length rule.gone, refl, (stands old token tokens ends rule at_first, tt))))
takes_own port old here (token ∷ next ∷ more) tokens ends some_left one rule at = absurd (omega arith)

-- ---- one more end, which has put and taken nothing
pub admits : Admits QueueRule (seen_of [] [])
admits tokens ends rule =
    let counted : (place : ℕ) → takes_of place (ends ++ seen_of [] [] ∷ []) ≡ takes_of place ends =
    λ place. let sum = total_push (λ e. times place e.taken) ends (seen_of [] []) in omega arith in
    record {
      gone = rule.gone;
      queue = put_by-push ends [] ∙ rule.queue;
      same = All-push (AllStand rule.gone) ends (seen_of [] []) rule.same (All-nil (Stands rule.gone));
      once = λ place before. counted place ∙ rule.once place before;
      none = λ place behind. counted place ∙ rule.none place behind;
    }

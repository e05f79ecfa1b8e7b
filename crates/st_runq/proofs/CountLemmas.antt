-- Each place was taken once, so each token was taken as often as it left.
use Rattle.std.proofs.Common.{◌≡◌, ◌≢◌, ℕ, zero, suc, ◌+◌, ◌*◌, ◌<◌, ◌==◌, Bool, cond, List, [], ◌∷◌, ◌++◌, length, map, Some, slice_get, All, sym, refl, ap, ◌∙◌, ⊎_elim, arith}
use Rattle.std.specs.Prelude.{Option, None}
use Rattle.std.proofs.lemmas.List.Elements.{All-head, All-tail}
use Rattle.std.proofs.lemmas.Option.{slice_get_within}
use Rattle.st_events.specs.declared.token.Token.{Token}
use Rattle.st_runq.specs.declared.seen.Seen.{Seen}
use Rattle.st_runq.specs.RunQueue.{Entry, times, total, put_by, Stands, AllStand, QueueRule, count, count_taken}
use Rattle.st_runq.proofs.StepLemmas.{one_if}

-- ---- sums over the places below a bound
-- f of each number below the bound, added up
abbrev below : ℕ → (ℕ → ℕ) → ℕ
below zero f = 0
below (suc bound) f = f 0 + below bound (λ p. f (suc p))

below_same : (bound : ℕ) (f g : ℕ → ℕ) → ((p : ℕ) → p < bound → f p ≡ g p) → below bound f ≡ below bound g
below_same zero f g same = refl
below_same (suc bound) f g same =
    let first = same 0 (omega arith) in
    let rest = below_same bound (λ p. f (suc p)) (λ p. g (suc p)) (λ p within. same (suc p) (omega arith)) in omega arith

below-add : (bound : ℕ) (f g : ℕ → ℕ) → below bound (λ p. f p + g p) ≡ below bound f + below bound g
below-add zero f g = omega arith
below-add (suc bound) f g = let rest = below-add bound (λ p. f (suc p)) (λ p. g (suc p)) in omega arith

below-zero : (bound : ℕ) → below bound (λ p. 0) ≡ 0
below-zero zero = refl
below-zero (suc bound) = let rest = below-zero bound in omega arith

-- the weight of a place there, and 0 elsewhere
abbrev only : (ℕ → ℕ) → ℕ → ℕ → ℕ
only weight q p = cond (q == p) 1 0 * weight p

only_next : (weight : ℕ → ℕ) (q p : ℕ) → only weight (suc q) (suc p) ≡ only (λ i. weight (suc i)) q p
only_next weight q p = ⊎_elim
    (λ a. ⊎_elim (λ b. ap (λ n. n * weight (suc p)) (a.1 ∙ sym b.1)) (λ b. let apart : q ≢ p = b.0 in absurd (apart (omega (arith, a.0)))) (one_if q p))
    (λ a. let apart : suc q ≢ suc p = a.0 in ⊎_elim (λ b. absurd (apart (ap suc b.0))) (λ b. ap (λ n. n * weight (suc p)) (a.1 ∙ sym b.1)) (one_if q p))
    (one_if (suc q) (suc p))

only_elsewhere : (weight : ℕ → ℕ) (q p : ℕ) → q ≢ p → only weight q p ≡ 0
only_elsewhere weight q p apart = ⊎_elim (λ a. absurd (apart a.0)) (λ a. ap (λ n. n * weight p) a.1 ∙ omega arith) (one_if q p)

only_here : (weight : ℕ → ℕ) (q : ℕ) → only weight q q ≡ weight q
only_here weight q = ⊎_elim (λ a. ap (λ n. n * weight q) a.1 ∙ omega arith) (λ a. let apart : q ≢ q = a.0 in absurd (apart refl)) (one_if q q)

below-only : (bound q : ℕ) (weight : ℕ → ℕ) → q < bound → below bound (only weight q) ≡ weight q
below-only zero q weight within = absurd (omega arith)
below-only (suc bound) zero weight within =
    let first = only_here weight 0 in
    let rest = below_same bound (λ p. only weight 0 (suc p)) (λ p. 0) (λ p l. only_elsewhere weight 0 (suc p) (λ e. omega arith)) in
    let nothing = below-zero bound in omega arith
below-only (suc bound) (suc q) weight within =
    let first = only_elsewhere weight (suc q) 0 (λ e. omega arith) in
    let rest = below_same bound (λ p. only weight (suc q) (suc p)) (only (λ i. weight (suc i)) q) (λ p l. only_next weight q p) in
    let there = below-only bound q (λ i. weight (suc i)) (omega arith) in omega arith

-- ---- tokens counted place by place
-- what the token at a place counts
abbrev one_of : (Token → Bool) → Option Token → ℕ
one_of test None = 0
one_of test (Some token) = cond (test token) 1 0

abbrev counted_at : (Token → Bool) → List Token → ℕ → ℕ
counted_at test gone p = one_of test (slice_get gone p)

below-counted_at : (test : Token → Bool) (gone : List Token) → below (length gone) (counted_at test gone) ≡ count test gone
below-counted_at test [] = refl
below-counted_at test (token ∷ gone) = let rest = below-counted_at test gone in omega arith

count_by_place : (test : Token → Bool) (gone : List Token) (entries : List Entry) → All (Stands gone) entries → ((e : Entry) → Stands gone e → e.0 < length gone)
    → count test (map (λ (e : Entry). e.1) entries) ≡ below (length gone) (λ p. times p entries * counted_at test gone p)
count_by_place test gone [] all inside =
    sym (below_same (length gone) (λ p. 0 * counted_at test gone p) (λ p. 0) (λ p l. omega arith) ∙ below-zero (length gone))
count_by_place test gone (e ∷ entries) all inside =
    let bound : ℕ = length gone in
    let weight : ℕ → ℕ = counted_at test gone in
    let here : Stands gone e = All-head (Stands gone) e entries all in
    let rest = count_by_place test gone entries (All-tail (Stands gone) e entries all) inside in
    let split = below_same bound (λ p. times p (e ∷ entries) * weight p) (λ p. only weight e.0 p + times p entries * weight p) (λ p l. omega arith) in
    let both = below-add bound (only weight e.0) (λ p. times p entries * weight p) in
    let one = below-only bound e.0 weight (inside e here) in
    let is : weight e.0 ≡ cond (test e.1) 1 0 = ap (one_of test) here in omega arith

-- ---- sums over the ends
-- sums over ends and over places change places
total-below : (bound : ℕ) (f : Seen → ℕ → ℕ) (ends : List Seen) → total (λ v. below bound (f v)) ends ≡ below bound (λ p. total (λ v. f v p) ends)
total-below bound f [] = sym (below-zero bound)
total-below bound f (end ∷ ends) = let rest = total-below bound f ends in let sum = below-add bound (f end) (λ p. total (λ u. f u p) ends) in omega arith

total_same : (P : Seen → Type 0) (f g : Seen → ℕ) (ends : List Seen) → All P ends → ((v : Seen) → P v → f v ≡ g v) → total f ends ≡ total g ends
total_same P f g [] all same = refl
total_same P f g (end ∷ ends) all same = let first = same end (All-head P end ends all) in let rest = total_same P f g ends (All-tail P end ends all) same in omega arith

total-mul : (f : Seen → ℕ) (k : ℕ) (ends : List Seen) → total (λ v. f v * k) ends ≡ total f ends * k
total-mul f k [] = omega arith
total-mul f k (end ∷ ends) = let rest = total-mul f k ends in omega arith

count-append : (test : Token → Bool) (xs ys : List Token) → count test (xs ++ ys) ≡ count test xs + count test ys
count-append test [] ys = omega arith
count-append test (x ∷ xs) ys = let rest = count-append test xs ys in omega arith

-- what was taken, and what is still in the queue, is what was put
pub counts : (tokens : List Token) (ends : List Seen) (test : Token → Bool) → QueueRule tokens ends → count_taken test ends + count test tokens ≡ count test (put_by ends)
counts tokens ends test rule =
    let bound : ℕ = length rule.gone in
    let weight : ℕ → ℕ = counted_at test rule.gone in
    let weighed : Seen → ℕ → ℕ = λ v p. times p v.taken * weight p in
    let by_place = total_same (AllStand rule.gone) (λ v. count test (map (λ (e : Entry). e.1) v.taken)) (λ v. below bound (weighed v)) ends rule.same
    (λ v s. count_by_place test rule.gone v.taken s (λ e at. slice_get_within rule.gone e.0 e.1 at)) in
    let turned = total-below bound weighed ends in
    let once = below_same bound (λ p. total (λ v. weighed v p) ends) weight
    (λ p l. let out = total-mul (λ v. times p v.taken) (weight p) ends in out ∙ ap (λ k. k * weight p) (rule.once p l) ∙ omega arith) in
    let left = below-counted_at test rule.gone in
    let both = count-append test rule.gone tokens in
    let put : count test (put_by ends) ≡ count test (rule.gone ++ tokens) = ap (count test) rule.queue in omega arith

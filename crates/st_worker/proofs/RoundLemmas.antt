-- What a worker has taken, after it took one token by one of its ends, or none.
use Rattle.std.proofs.Common.{◌≡◌, ℕ, suc, ◌<◌, List, [], ◌∷◌, ◌++◌, length, map, set, get_or, sym, ap, ◌∙◌, subst, arith}
use Rattle.std.proofs.lemmas.List.{get_or-map, map-set, length-map}
use Rattle.std.proofs.Math.Seq.{map-set_same}
use Rattle.st_events.specs.declared.token.Token.{Token}
use Rattle.st_runq.specs.declared.thief.Thief.{Thief}
use Rattle.st_runq.specs.Ends.{stolen_of}
use Rattle.st_runq.specs.RunQueue.{Entry}
use Rattle.st_worker.specs.Round.{TakesOne}

-- one thief changed in nothing that is asked of it
pub same_map : {B : Type 0} (f : Thief → B) (old : List B) (thieves : List Thief) (i : ℕ) (thief new : Thief)
    → thief ≡ get_or thieves i thief → f new ≡ f thief → map f thieves ≡ old → map f (set thieves i new) ≡ old
same_map f old thieves i thief new is same kept = map-set_same f thieves i new thief (same ∙ ap f is) ∙ kept

-- one thief stole this token
pub stole_one : (old : List (List Entry)) (thieves : List Thief) (i : ℕ) (thief new : Thief) (token : Token)
    → i < length thieves → thief ≡ get_or thieves i thief → map stolen_of thieves ≡ old
    → ((place : ℕ) × (stolen_of new ≡ stolen_of thief ++ (place, token) ∷ []))
    → TakesOne old token (map stolen_of (set thieves i new))
stole_one old thieves i thief new token here is kept stole =
    let had : get_or old i [] ≡ stolen_of thief =
    ap (λ l. get_or l i []) (sym kept) ∙ get_or-map stolen_of thieves i thief [] here ∙ ap stolen_of (sym is) in
    let len : length (map stolen_of thieves) ≡ length old = ap length kept in (
      i,
      stole.0,
      omega (arith, length-map thieves stolen_of),
      map-set stolen_of thieves i new ∙ ap (λ l. set l i (stolen_of new)) kept
          ∙ ap (λ l. set old i l) (stole.1 ∙ ap (λ l. l ++ (stole.0, token) ∷ []) (sym had)),
    )

-- the first two ends took nothing, and one of the others this token
pub took_later : (a b c d : List Entry) (old new : List (List Entry)) (token : Token)
    → c ≡ a → d ≡ b → TakesOne old token new → TakesOne (a ∷ b ∷ old) token (c ∷ d ∷ new)
took_later a b c d old new token p q took = (suc (suc took.0), took.1, omega (arith, took.2), λ i. p i ∷ q i ∷ took.3 i)

-- the first end took this token
pub took_first : (a b : List Entry) (others : List (List Entry)) (token : Token)
    → ((place : ℕ) × (b ≡ a ++ (place, token) ∷ [])) → TakesOne (a ∷ others) token (b ∷ others)
took_first a b others token took = (0, took.0, omega arith, λ i. took.1 i ∷ others)

-- the first end took nothing, and the second this token
pub took_second : (a b c d : List Entry) (others : List (List Entry)) (token : Token)
    → c ≡ a → ((place : ℕ) × (d ≡ b ++ (place, token) ∷ [])) → TakesOne (a ∷ b ∷ others) token (c ∷ d ∷ others)
took_second a b c d others token p took = (1, took.0, omega arith, λ i. p i ∷ took.1 i ∷ others)

-- a call before it took nothing
pub took_after : (old between new : List (List Entry)) (token : Token)
    → between ≡ old → TakesOne between token new → TakesOne old token new
took_after old between new token same took = subst (λ lists. TakesOne lists token new) same took

-- Each step on a lock keeps its rule, and tells the holder what it is to know.
use Rattle.std.proofs.Common.{◌≡◌, ◌≢◌, ◌⊎◌, ℕ, zero, suc, List, [], ◌∷◌, ◌++◌, length, set, Some, Option, refl, sym, ap, ◌∙◌, subst, inl, inr, ⊎_elim, arith}
use Rattle.std.specs.Prelude.{slice_set, slice_index}
use mathlib.Core.Logic.{dite}
use native.Mathlib.Decide.{ℕ_discrete}
use mathlib.Core.Option.{some, none, some-ne-none, some-injective}
use lib.ListN.{get_elem?}
use Rattle.atomic_table.specs.Table.{State, Me, opening, rest, keeps, takes, gives, Allows, Arrives}
use Rattle.atomic_table.proofs.Lists.{at_set}
use Rattle.st_claim_lock.specs.declared.hold.Hold.{Hold}
use Rattle.st_claim_lock.specs.Rule.{idle, holding, Knows, EachKnows, IsTied, TakesFromHome}

-- in a list with one more stands what stood there, or that one at its end
at_push : {A : Type 0} (l : List A) (new there : A) (i : ℕ) → get_elem? (l ++ new ∷ []) i ≡ some there → (get_elem? l i ≡ some there) ⊎ ((i ≡ length l) × (new ≡ there))
at_push [] new there zero at = inr (refl, some-injective new there at)
at_push [] new there (suc i) at = absurd (some-ne-none there (sym at))
at_push (x ∷ l) new there zero at = inl at
at_push (x ∷ l) new there (suc i) at = ⊎_elim (λ old. inl old) (λ last. inr (ap suc last.0, last.1)) (at_push l new there i at)

module _ {T V : Type 0} (fits : T → V → Type 0) where
  -- ---- what the holders know, of whom one changes, or with one more
  knows_same : (word taker : ℕ) (value : T) (number other : ℕ) (new hold : Hold T V) → other ≡ number → new ≡ hold → Knows fits word taker value number new → Knows fits word taker value other hold
  knows_same word taker value number other new hold here is = subst (λ (it : ℕ × Hold T V). Knows fits word taker value it.0 it.1) (λ i. (sym here i, is i))

  each-set : (word taker : ℕ) (value : T) (holds : List (Hold T V)) (number : ℕ) (new : Hold T V)
      → ((other : ℕ) (hold : Hold T V) → other ≢ number → get_elem? holds other ≡ some hold → Knows fits word taker value other hold)
      → Knows fits word taker value number new → EachKnows fits word taker value (set holds number new)
  each-set word taker value holds number new others mine other hold at =
      ⊎_elim
      (λ (it : (other ≡ number) × (new ≡ hold)). knows_same word taker value number other new hold it.0 it.1 mine)
      (λ (it : (other ≢ number) × (get_elem? holds other ≡ some hold)). others other hold it.0 it.1)
      (at_set holds number other new hold at)

  each-push : (word taker : ℕ) (value : T) (holds : List (Hold T V)) (new : Hold T V) → EachKnows fits word taker value holds
      → Knows fits word taker value (length holds) new → EachKnows fits word taker value (holds ++ new ∷ [])
  each-push word taker value holds new others mine other hold at =
      ⊎_elim
      (λ (old : get_elem? holds other ≡ some hold). others other hold old)
      (λ (it : (other ≡ length holds) × (new ≡ hold)). knows_same word taker value (length holds) other new hold it.0 it.1 mine)
      (at_push holds new hold other at)

  -- who has nothing out knows the claim alone
  knows_idle : (word taker : ℕ) (value : T) (number : ℕ) (claim : V) → fits value claim → Knows fits word taker value number (idle claim)
  knows_idle word taker value number claim fit = record { claim = fit; out = λ known is. absurd (cc) }

  -- who has the value out is its taker
  knows_holding : (value : T) (number : ℕ) (claim : V) → fits value claim → Knows fits 1 number value number (holding claim value)
  knows_holding value number claim fit = record { claim = fit; out = λ known is. (refl, cc, λ home. absurd (omega arith)) }

  -- while the value is at home nobody has it out, so anyone may take it
  leaves : (word taker next : ℕ) (value : T) (number : ℕ) (hold : Hold T V) → word ≡ 0 → Knows fits word taker value number hold → Knows fits 1 next value number hold
  leaves word taker next value number hold home knows = record { claim = knows.claim; out = λ known is. absurd ((knows.out known is).2 home) }

  -- it is out, and stays so
  stays : (word taker : ℕ) (value : T) (number : ℕ) (hold : Hold T V) → Knows fits word taker value number hold → Knows fits 1 taker value number hold
  stays word taker value number hold knows = record { claim = knows.claim; out = λ known is. let had = knows.out known is in (had.0, had.1, λ home. absurd (omega arith)) }

  -- ---- the value leaves, or stays out, whatever the holders are then
  module _ (state : State (Option T) (Hold T V)) (rule : IsTied fits state) (holds : List (Hold T V)) where
    left : (taker : ℕ) → rule.word ≡ 0 → EachKnows fits 1 taker rule.value holds
        → IsTied fits record { words = slice_set state.words 0 1; homes = slice_set state.homes 0 none; views = holds }
    left taker home each = record {
      word = 1;
      taker = taker;
      value = rule.value;
      words = ap (λ (l : List ℕ). slice_set l 0 1) rule.words;
      home = λ is. absurd (omega arith);
      out = λ _. ap (λ (l : List (mathlib.Core.Option.Option (Option T))). slice_set l 0 none) (rule.home home);
      each = each;
    }

    stayed : rule.word ≢ 0 → EachKnows fits 1 rule.taker rule.value holds
        → IsTied fits record { words = slice_set state.words 0 1; homes = state.homes; views = holds }
    stayed out each = record {
      word = 1;
      taker = rule.taker;
      value = rule.value;
      words = ap (λ (l : List ℕ). slice_set l 0 1) rule.words;
      home = λ is. absurd (omega arith);
      out = λ _. rule.out out;
      each = each;
    }

  -- ---- a lock begins
  pub begins : (value : T) (claim : V) → fits value claim → IsTied fits (opening (0 ∷ []) (Some value ∷ []) (idle claim))
  begins value claim fit = record { word = 0; taker = 0; value = value; words = refl; home = λ _. refl; out = λ out. absurd (out refl); each = one }
    where
      one : EachKnows fits 0 0 value (idle claim ∷ [])
      one zero hold at = subst (Knows fits 0 0 value 0) (some-injective _ _ at) (knows_idle 0 0 value 0 claim fit)
      one (suc number) hold at = absurd (some-ne-none hold (sym at))

  -- ---- a holder takes the value
  takes_idle : (slots number : ℕ) (claim : V) → Allows (IsTied fits) slots number (idle claim, []) 0 (λ _. 1) (λ found new. TakesFromHome fits (idle claim, []) found new)
  takes_idle slots number claim state rule _ at _ =
      let found : ℕ = slice_index state.words 0 in
      let same : found ≡ rule.word = ap (λ (l : List ℕ). slice_index l 0) rule.words in
      let fit = (rule.each number (idle claim) at).claim in
      dite (ℕ_discrete found 0)
      (λ (is : found ≡ 0).
      let home : rule.word ≡ 0 = sym same ∙ is in
      let new : Hold T V = holding claim rule.value in (
        new,
        takes 0 (Some rule.value),
        ap (λ (l : List (mathlib.Core.Option.Option (Option T))). get_elem? l 0) (rule.home home),
        left state rule (set state.views number new) number home
            (each-set 1 number rule.value state.views number new
            (λ other hold _ there. leaves rule.word rule.taker number rule.value other hold home (rule.each other hold there))
            (knows_holding rule.value number claim fit)),
        λ _. (rule.value, refl, fit),
      ))
      (λ (not : found ≢ 0).
      let new : Hold T V = idle claim in (
        new,
        keeps,
        tt,
        stayed state rule (set state.views number new) (λ home. not (same ∙ home))
            (each-set 1 rule.taker rule.value state.views number new
            (λ other hold _ there. stays rule.word rule.taker rule.value other hold (rule.each other hold there))
            (knows_idle 1 rule.taker rule.value number claim fit)),
        λ is. absurd (not is),
      ))

  pub takes_it : (slots number : ℕ) (me : Me (Option T) (Hold T V)) → me ≡ (idle me.0.claim, []) → Allows (IsTied fits) slots number me 0 (λ _. 1) (λ found new. TakesFromHome fits me found new)
  takes_it slots number me is = subst (λ (it : Me (Option T) (Hold T V)). Allows (IsTied fits) slots number it 0 (λ _. 1) (λ found new. TakesFromHome fits it found new)) (sym is) (takes_idle slots number me.0.claim)

  -- ---- a newcomer takes the value
  pub takes_new : (slots : ℕ) (claim : V) → ((value : T) → fits value claim) → Arrives (IsTied fits) slots 0 (λ _. 1) (λ found new. TakesFromHome fits (idle claim, []) found new)
  takes_new slots claim any state rule _ _ =
      let found : ℕ = slice_index state.words 0 in
      let same : found ≡ rule.word = ap (λ (l : List ℕ). slice_index l 0) rule.words in
      let number : ℕ = length state.views in
      dite (ℕ_discrete found 0)
      (λ (is : found ≡ 0).
      let home : rule.word ≡ 0 = sym same ∙ is in
      let new : Hold T V = holding claim rule.value in (
        new,
        takes 0 (Some rule.value),
        ap (λ (l : List (mathlib.Core.Option.Option (Option T))). get_elem? l 0) (rule.home home),
        left state rule (state.views ++ new ∷ []) number home
            (each-push 1 number rule.value state.views new
            (λ other hold there. leaves rule.word rule.taker number rule.value other hold home (rule.each other hold there))
            (knows_holding rule.value number claim (any rule.value))),
        λ _. (rule.value, refl, any rule.value),
      ))
      (λ (not : found ≢ 0).
      let new : Hold T V = idle claim in (
        new,
        keeps,
        tt,
        stayed state rule (state.views ++ new ∷ []) (λ home. not (same ∙ home))
            (each-push 1 rule.taker rule.value state.views new
            (λ other hold there. stays rule.word rule.taker rule.value other hold (rule.each other hold there))
            (knows_idle 1 rule.taker rule.value number claim (any rule.value))),
        λ is. absurd (not is),
      ))

  -- ---- who has taken the slot carries it
  pub carries : (me : Me (Option T) (Hold T V)) (claim : V) (value : T) → me ≡ (holding claim value, (0, Some value) ∷ []) → (there : Option T) × (me.1 ≡ (0, there) ∷ rest me.1)
  carries me claim value is = subst (λ (it : Me (Option T) (Hold T V)). (there : Option T) × (it.1 ≡ (0, there) ∷ rest it.1)) (sym is) (Some value, refl)

  -- ---- the holder that has it out gives a value home, and claims something of it
  comes_home : (slots number : ℕ) (claim next : V) (was value : T) → ((any : V) → fits was any → fits value any) → (fits was claim → fits value next)
      → Allows (IsTied fits) slots number (holding claim was, (0, Some value) ∷ []) 0 (λ _. 0) (λ _ new. new ≡ (idle next, []))
  comes_home slots number claim next was value others own state rule _ at _ =
      let mine = rule.each number (holding claim was) at in
      let had = mine.out was refl in
      let new : Hold T V = idle next in (
        new,
        gives,
        tt,
        record {
          word = 0;
          taker = number;
          value = value;
          words = ap (λ (l : List ℕ). slice_set l 0 0) rule.words;
          home = λ _. ap (λ (l : List (mathlib.Core.Option.Option (Option T))). slice_set l 0 (some (Some value))) (rule.out had.2);
          out = λ not. absurd (not refl);
          each = each-set 0 number value state.views number new
              (λ other hold apart there. let knows = rule.each other hold there in record {
                claim = others hold.claim (subst (λ it. fits it hold.claim) (sym had.1) knows.claim);
                out = λ known is. absurd (apart ((knows.out known is).0 ∙ sym had.0));
              })
              (knows_idle 0 number value number next (own (subst (λ it. fits it claim) (sym had.1) mine.claim)));
        },
        refl,
      )

  pub gives_it : (slots number : ℕ) (me : Me (Option T) (Hold T V)) (claim next : V) (was value : T) → me ≡ (holding claim was, (0, Some value) ∷ []) → ((any : V) → fits was any → fits value any) → fits value next
      → Allows (IsTied fits) slots number me 0 (λ _. 0) (λ _ new. new ≡ (idle next, []))
  gives_it slots number me claim next was value is others own =
      subst (λ (it : Me (Option T) (Hold T V)). Allows (IsTied fits) slots number it 0 (λ _. 0) (λ _ new. new ≡ (idle next, []))) (sym is) (comes_home slots number claim next was value others (λ _. own))

  pub gives_back : (slots number : ℕ) (me : Me (Option T) (Hold T V)) (claim : V) (was value : T) → me ≡ (holding claim was, (0, Some value) ∷ []) → ((any : V) → fits was any → fits value any)
      → Allows (IsTied fits) slots number me 0 (λ _. 0) (λ _ new. new ≡ (idle me.0.claim, []))
  gives_back slots number me claim was value is others =
      subst (λ (it : Me (Option T) (Hold T V)). Allows (IsTied fits) slots number it 0 (λ _. 0) (λ _ new. new ≡ (idle it.0.claim, []))) (sym is) (comes_home slots number claim claim was value others (others claim))

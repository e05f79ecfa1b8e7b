-- What a worker carries, from one step of its thread to the next.
use Rattle.std.proofs.Common.{rules, Bool, true, false, ◌≡◌, ◌⊎◌, ◌++◌, [], ◌∷◌, None, IsSome, refl, sym, ap, ◌∙◌, subst, inl, inr}
use Rattle.st_runq.specs.Ends.{put_of}
use Rattle.st_worker.specs.declared.hand.Hand.{Hand}
use Rattle.st_worker.specs.declared.worker.Worker.{Worker}
use Rattle.st_worker.specs.Round.{HasSameQueues, Holds, FindsNone, HoldsWhatCarries, GivesWoken, PutsBack, StaysSame}

pub same_queues : {C : Type 0} (old between new : Worker C) → HasSameQueues old between → HasSameQueues between new → HasSameQueues old new
same_queues old between new (a, b, c, d) (e, f, g, h) = (e ∙ a, f ∙ b, g ∙ c, h ∙ d)

pub stays : {C : Type 0} (worker : Worker C) → StaysSame worker worker
stays worker = ((refl, refl, refl, refl), refl, refl, refl, refl)

pub stays_on : {C : Type 0} (old between new : Worker C) → StaysSame old between → StaysSame between new → StaysSame old new
stays_on old between new (same, taken, put, hand, transit) (same', taken', put', hand', transit') =
    (same_queues old between new same same', taken' ∙ taken, put' ∙ put, hand' ∙ hand, transit' ∙ transit)

abbrev without_woken : {C : Type 0} → Hand C → Hand C
without_woken carried = record carried { woken = None }

-- a put that was refused before is the same put
pub stays_and_gives : {C : Type 0} (old between new : Worker C) → StaysSame old between → GivesWoken between new → GivesWoken old new
stays_and_gives {C} old between new (same, taken, put, hand, transit) (token, woken, (same', taken', put'), hand', transit') = (
  token,
  ap (λ carried. carried.woken) (sym transit) ∙ woken,
  (same_queues old between new same same', taken' ∙ taken, put' ∙ ap (λ tokens. tokens ++ token ∷ []) put),
  hand' ∙ hand,
  transit' ∙ ap without_woken transit,
)

-- the same message, and the same token
pub carries_on : {C : Type 0} (old new : Worker C) → HoldsWhatCarries old
    → new.transit.message ≡ old.transit.message → new.hand ≡ old.hand → HoldsWhatCarries new
carries_on old new carrying message hand =
    λ some. subst IsSome (sym hand) (carrying (subst IsSome message some))

-- who has a token may carry a message
pub carries_with : {C : Type 0} (old new : Worker C) → Holds old new → HoldsWhatCarries new
carries_with old new holds = λ some. subst IsSome (sym holds.1) (search rules)

-- who carries no message needs none
pub carries_none : {C : Type 0} (old new : Worker C) → PutsBack old new → HoldsWhatCarries new
carries_none old new (token, hand, message, puts, hand', transit) =
    λ some. subst IsSome (sym hand') (subst IsSome (ap (λ carried. carried.message) transit ∙ message) some)

pub carries_no_find : {C : Type 0} (old new : Worker C) → HoldsWhatCarries old → FindsNone old new → HoldsWhatCarries new
carries_no_find old new carrying (had, has, taken, put, transit) =
    carries_on old new carrying (ap (λ carried. carried.message) transit) (has ∙ sym had)

-- what a worker that found none carries after it slept
pub slept_none : {C : Type 0} (first old new : Worker C) → first.transit.woken ≡ None → FindsNone first old
    → (Holds old new × (put_of new.lane ≡ put_of old.lane)) ⊎ FindsNone old new ⊎ (new ≡ old) → new.transit.woken ≡ None
slept_none {C} first old new none (had, has, taken, put, transit) slept =
    let woken : old.transit.woken ≡ None = ap (λ carried. carried.woken) transit ∙ none in
    elim slept [
      | inl ((token, hand, token_is, same), lane) ↦ ap (λ carried. carried.woken) same ∙ woken
      | inr (inl (had', has', taken', put', same)) ↦ ap (λ carried. carried.woken) same ∙ woken
      | inr (inr e) ↦ ap (λ worker. worker.transit.woken) e ∙ woken
    ]

pub slept_carries : {C : Type 0} (first old new : Worker C) → HoldsWhatCarries first → FindsNone first old
    → (Holds old new × (put_of new.lane ≡ put_of old.lane)) ⊎ FindsNone old new ⊎ (new ≡ old) → HoldsWhatCarries new
slept_carries {C} first old new carrying none slept =
    let before : HoldsWhatCarries old = carries_no_find first old carrying none in
    elim slept [
      | inl (holds, lane) ↦ carries_with old new holds
      | inr (inl found) ↦ carries_no_find old new before found
      | inr (inr e) ↦ (let P : Worker C → Type 0 = λ worker. HoldsWhatCarries worker in subst P (sym e) before)
    ]

-- either way of a put
pub put_or_stays : {C : Type 0} (old new : Worker C) (put : Bool)
    → (put ≡ true → PutsBack old new) → (put ≡ false → StaysSame old new) → PutsBack old new ⊎ StaysSame old new
put_or_stays old new true done kept = inl (done refl)
put_or_stays old new false done kept = inr (kept refl)

-- A worker's thread goes on.
use Rattle.std.proofs.Common.{◌≡◌, ◌⊎◌, ◌+◌, ◌-◌, ◌^◌, ℕ, suc, min, Option, Some, None, refl, sym, ◌∙◌, subst, inl, inr, arith}
use Rattle.st_events.specs.declared.token.Token.{Token}
use Rattle.st_runq.specs.Ends.{put_of}
use Rattle.st_worker.specs.declared.worker.Worker.{Worker}
use Rattle.st_worker.specs.Round.{Holds, FindsNone, HoldsWhatCarries, Serves, GivesWoken, PutsBack, StaysSame}
use Rattle.st_pool.specs.Thread.{MakesRounds, Concludes, begins, finds_none, looks, serves, gives, puts_back}

-- what the thread's loop keeps: the turns that it counts are those that were made
abbrev pub Counts : {C : Type 0} → (Token → ℕ → Option Token → Type 0) → Worker C → ℕ → Worker C → Type 0
Counts served first turns worker = (n : ℕ) × (turns ≡ min n (2 ^ 64 - 1)) × MakesRounds served first n worker

-- the same number, and the same worker
pub counts_as : {C : Type 0} (served : Token → ℕ → Option Token → Type 0) (first old new : Worker C) (turns more : ℕ)
    → Counts served first turns old → more ≡ turns → new ≡ old → Counts served first more new
counts_as {C} served first old new turns more counts is same =
    let P : Worker C → Type 0 = λ worker. MakesRounds served first counts.0 worker in
    (counts.0, is ∙ counts.1, subst P (sym same) counts.2)

pub counts_none : {C : Type 0} (served : Token → ℕ → Option Token → Type 0) (worker : Worker C) → Counts served worker 0 worker
counts_none served worker = (0, refl, begins)

pub counts_turn : {C : Type 0} (served : Token → ℕ → Option Token → Type 0) (first old new : Worker C) (turns more : ℕ)
    → Counts served first turns old → more ≡ min (turns + 1) (2 ^ 64 - 1) → Serves served old new → HoldsWhatCarries new
    → Counts served first more new
counts_turn served first old new turns more counts is turn carrying =
    (suc counts.0, grind (arith, counts.1, is), serves new counts.2 turn carrying)

pub counts_found : {C : Type 0} (served : Token → ℕ → Option Token → Type 0) (first old new : Worker C) (turns : ℕ)
    → Counts served first turns old → Holds old new → put_of new.lane ≡ put_of old.lane → Counts served first turns new
counts_found served first old new turns counts holds put = (counts.0, counts.1, looks new counts.2 holds put)

pub counts_no_find : {C : Type 0} (served : Token → ℕ → Option Token → Type 0) (first old new : Worker C) (turns : ℕ)
    → Counts served first turns old → FindsNone old new → Counts served first turns new
counts_no_find served first old new turns counts none = (counts.0, counts.1, finds_none new counts.2 none)

pub counts_given : {C : Type 0} (served : Token → ℕ → Option Token → Type 0) (first old new : Worker C) (turns : ℕ)
    → Counts served first turns old → GivesWoken old new → Counts served first turns new
counts_given served first old new turns counts given = (counts.0, counts.1, gives new counts.2 given)

pub counts_put_back : {C : Type 0} (served : Token → ℕ → Option Token → Type 0) (first old new : Worker C) (turns : ℕ)
    → Counts served first turns old → PutsBack old new → Counts served first turns new
counts_put_back served first old new turns counts put = (counts.0, counts.1, puts_back new counts.2 put)

-- a worker that stays the same has looked: it holds what it had, or there was none
pub counts_stay_by : {C : Type 0} (served : Token → ℕ → Option Token → Type 0) (first old new : Worker C) (turns : ℕ) (hand : Option Token)
    → old.hand ≡ hand → Counts served first turns old → StaysSame old new → Counts served first turns new
counts_stay_by served first old new turns (Some token) is counts (same, taken, put, hand, transit) =
    counts_found served first old new turns counts (token, hand ∙ is, inl (is, taken), transit) put
counts_stay_by served first old new turns None is counts (same, taken, put, hand, transit) =
    counts_no_find served first old new turns counts (is, hand ∙ is, taken, put, transit)

pub counts_stay : {C : Type 0} (served : Token → ℕ → Option Token → Type 0) (first old new : Worker C) (turns : ℕ)
    → Counts served first turns old → StaysSame old new → Counts served first turns new
counts_stay served first old new turns counts same = counts_stay_by served first old new turns old.hand refl counts same

pub counts_concluded : {C : Type 0} (served : Token → ℕ → Option Token → Type 0) (first old new : Worker C) (turns : ℕ)
    → Counts served first turns old → Concludes old new → Counts served first turns new
counts_concluded served first old new turns counts (between, given, put) =
    let then_given : Counts served first turns between = elim given [
      | inl a ↦ counts_given served first old between turns counts a
      | inr b ↦ counts_stay served first old between turns counts b
    ] in
    elim put [
      | inl a ↦ counts_put_back served first between new turns then_given a
      | inr b ↦ counts_stay served first between new turns then_given b
    ]

pub counts_sleep : {C : Type 0} (served : Token → ℕ → Option Token → Type 0) (first old new : Worker C) (turns : ℕ)
    → Counts served first turns old
    → (Holds old new × (put_of new.lane ≡ put_of old.lane)) ⊎ FindsNone old new ⊎ (new ≡ old)
    → Counts served first turns new
counts_sleep {C} served first old new turns counts slept =
    elim slept [
      | inl a ↦ counts_found served first old new turns counts a.0 a.1
      | inr (inl b) ↦ counts_no_find served first old new turns counts b
      | inr (inr e) ↦ (let P : Worker C → Type 0 = λ worker. Counts served first turns worker in subst P (sym e) counts)
    ]

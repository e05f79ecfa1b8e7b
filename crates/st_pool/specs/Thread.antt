-- What a worker's thread does to its worker.
use Rattle.std.specs.Prelude.{◌≡◌, ◌⊎◌, ℕ, suc, Option}
use Rattle.st_events.specs.declared.token.Token.{Token}
use Rattle.st_runq.specs.Ends.{put_of}
use Rattle.st_worker.specs.declared.worker.Worker.{Worker}
use Rattle.st_worker.specs.Round.{FindsNone, Holds, HoldsWhatCarries, Serves, GivesWoken, PutsBack, StaysSame}

-- so many tokens served, one after another, and between them looks and tokens that are put on the own run queue, lead from
-- the first worker to this one
pub data MakesRounds {C : Type 0} (served : Token → ℕ → Option Token → Type 0) (first : Worker C) : ℕ → Worker C → Type 0 where
  begins : MakesRounds served first 0 first
  finds_none : {n : ℕ} {old : Worker C} (new : Worker C) → MakesRounds served first n old → FindsNone old new → MakesRounds served first n new
  looks : {n : ℕ} {old : Worker C} (new : Worker C) → MakesRounds served first n old → Holds old new → put_of new.lane ≡ put_of old.lane → MakesRounds served first n new
  serves : {n : ℕ} {old : Worker C} (new : Worker C) → MakesRounds served first n old → Serves served old new → HoldsWhatCarries new → MakesRounds served first (suc n) new
  gives : {n : ℕ} {old : Worker C} (new : Worker C) → MakesRounds served first n old → GivesWoken old new → MakesRounds served first n new
  puts_back : {n : ℕ} {old : Worker C} (new : Worker C) → MakesRounds served first n old → PutsBack old new → MakesRounds served first n new

-- what a delivery woke was put on the own run queue, or else nothing; and then the token that was served, or else nothing
abbrev pub Concludes : {C : Type 0} → Worker C → Worker C → Type 0
Concludes {C} old new = (between : Worker C) × (GivesWoken old between ⊎ StaysSame old between)
    × (PutsBack between new ⊎ StaysSame between new)

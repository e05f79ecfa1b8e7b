-- The rule of the table behind a lock: the value is at home exactly where the word is 0, each holder's claim fits it, and one holder at most has it out.
use Rattle.std.specs.Prelude.{◌≡◌, ◌≢◌, ℕ, List, [], ◌∷◌, Some, None, Option}
use mathlib.Core.Option.{some, none}
use lib.ListN.{get_elem?}
use Rattle.atomic_table.specs.Table.{State, Me}
use Rattle.st_claim_lock.specs.declared.hold.Hold.{Hold}

module _ {T V : Type 0} where
  -- this is claimed, and nothing is out
  abbrev pub idle : V → Hold T V
  idle claim = record { claim = claim; out = None }

  -- this is claimed, and this value is out
  abbrev pub holding : V → T → Hold T V
  holding claim value = record { claim = claim; out = Some value }

module _ {T V : Type 0} (fits : T → V → Type 0) where
  -- what the holder of this number knows is so: its claim fits the value; and if it has one out, it is the taker, that is
  -- the value, and the word is not 0
  pub record Knows (word taker : ℕ) (value : T) (number : ℕ) (hold : Hold T V) : Type 0 where
    pub claim : fits value hold.claim
    pub out : (known : T) → hold.out ≡ Some known → (number ≡ taker) × (known ≡ value) × (word ≢ 0)

  -- so it is with each holder
  abbrev pub EachKnows : ℕ → ℕ → T → List (Hold T V) → Type 0
  EachKnows word taker value holds =
      (number : ℕ) (hold : Hold T V) → get_elem? holds number ≡ some hold → Knows word taker value number hold

  -- there is one value, which is at home where the word is 0, and else out with the taker
  pub record IsTied (state : State (Option T) (Hold T V)) : Type 0 where
    pub word : ℕ
    pub taker : ℕ
    pub value : T
    pub words : state.words ≡ word ∷ []
    pub home : word ≡ 0 → state.homes ≡ some (Some value) ∷ []
    pub out : word ≢ 0 → state.homes ≡ none ∷ []
    pub each : EachKnows word taker value state.views

  -- where the word was 0, the holder has the value out, and its claim fits it
  abbrev pub TakesFromHome : Me (Option T) (Hold T V) → ℕ → Me (Option T) (Hold T V) → Type 0
  TakesFromHome old found new =
      found ≡ 0 → (value : T) × (new ≡ (holding old.0.claim value, (0, Some value) ∷ [])) × fits value old.0.claim

-- The rule of a run queue: what is taken was put, and each place was taken once.
use Rattle.std.specs.Prelude.{◌≡◌, ℕ, ◌+◌, ◌<◌, ◌≤◌, ◌==◌, Bool, map, List, [], ◌∷◌, ◌++◌, length, Some, slice_get, cond, All}
use Rattle.st_events.specs.declared.token.Token.{Token}
use Rattle.st_runq.specs.declared.seen.Seen.{Seen}

-- a place among all that were put, from 0 on, and the token there
abbrev pub Entry : Type 0
Entry = ℕ × Token

-- what an end has seen that has put these and taken those
abbrev pub seen_of : List Token → List Entry → Seen
seen_of put taken = record { put = put; taken = taken }

-- the tokens with their places, from this place on
abbrev pub numbered : ℕ → List Token → List Entry
numbered place [] = []
numbered place (token ∷ tokens) = (place, token) ∷ numbered (place + 1) tokens

-- how often the place stands in the list
abbrev pub times : ℕ → List Entry → ℕ
times place [] = 0
times place (entry ∷ entries) = cond (entry.0 == place) 1 0 + times place entries

-- a number of each end, added up
abbrev pub total : (Seen → ℕ) → List Seen → ℕ
total f [] = 0
total f (end ∷ ends) = f end + total f ends

-- what was put: the first end alone puts
abbrev pub put_by : List Seen → List Token
put_by [] = []
put_by (end ∷ ends) = end.put

-- how often the place was taken
abbrev pub takes_of : ℕ → List Seen → ℕ
takes_of place ends = total (λ end. times place end.taken) ends

-- at the place of the entry stands its token
abbrev pub Stands : List Token → Entry → Type 0
Stands put entry = slice_get put entry.0 ≡ Some entry.1

-- so it is with each entry of the list; this computes where the list is known
abbrev pub EachStands : List Token → List Entry → Type 0
EachStands put [] = Unit {0}
EachStands put (entry ∷ entries) = Stands put entry × EachStands put entries

-- so it is with each token that the end has taken
abbrev pub AllStand : List Token → Seen → Type 0
AllStand put end = All (Stands put) end.taken

-- These tokens are in the queue, and this is what its ends have seen: the queue is what was put from some place on. What
-- was taken at a place is the token there. Each place before the queue was taken once, by one end, and no other place was
pub record QueueRule (tokens : List Token) (ends : List Seen) : Type 0 where
  pub gone : List Token
  pub queue : put_by ends ≡ gone ++ tokens
  pub same : All (AllStand gone) ends
  pub once : (place : ℕ) → place < length gone → takes_of place ends ≡ 1
  pub none : (place : ℕ) → length gone ≤ place → takes_of place ends ≡ 0

-- how many of the tokens pass the test
abbrev pub count : (Token → Bool) → List Token → ℕ
count test [] = 0
count test (token ∷ tokens) = cond (test token) 1 0 + count test tokens

-- how many of the tokens that were taken pass the test
abbrev pub count_taken : (Token → Bool) → List Seen → ℕ
count_taken test ends = total (λ end. count test (map (λ entry. entry.1) end.taken)) ends

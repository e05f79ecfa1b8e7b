-- The rule of a counter: its word is the length of one history, of which each endpoint has seen a beginning.
use Rattle.std.specs.Prelude.{◌≡◌, ℕ, false, List, [], ◌∷◌, length, All}
use Rattle.st_post_counter.specs.declared.seen.Seen.{Seen}
use Rattle.st_post_counter.specs.Seen.{Begins, whole}

-- another endpoint than the machine's has seen a beginning of the history, and so had both of which one is joined
pub record IsWithin {T : Type 0} (history : List T) (seen : Seen T) : Type 0 where
  pub keeps : seen.keeps ≡ false
  pub posts : Begins seen.posts history
  pub own : Begins seen.own history
  pub taken : Begins seen.taken history

-- The word is the length of a history. The first endpoint, the machine's, has seen all of it, and each other a beginning
pub record CounterRule {T : Type 0} (words : List ℕ) (endpoints : List (Seen T)) : Type 0 where
  pub history : List T
  pub others : List (Seen T)
  pub word : words ≡ length history ∷ []
  pub machine : endpoints ≡ whole history ∷ others
  pub each : All (IsWithin history) others

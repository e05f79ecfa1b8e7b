-- How a text grows by a piece.
use Rattle.std.proofs.Common.{◌≡◌, ℕ, ◌+◌, ◌<◌, ◌≤◌, List, [], ◌∷◌, ◌++◌, length, get_or, take, sym, ap, ◌∙◌, append_assoc, append-nil, zero, suc, Some, None, slice_get, arith}
use Rattle.std.proofs.lemmas.Grind.{flat_map-append}
use Rattle.std.proofs.lemmas.List.{take_more, take_all}
use Rattle.std.proofs.lemmas.Option.{slice_get_within, get_or_from_slice_get}
use Rattle.std.specs.List.{flat_map}

module _ {X : Type 0} (f : X → List ℕ) where
  -- one piece more, of the element at an index; past the end there would be another
  pub one_index_more : (i : ℕ) (xs : List X) (other : X) (front before pushed after : List ℕ)
      → i < length xs → before ≡ front ++ flat_map f (take i xs) → pushed ≡ f (get_or xs i other) → after ≡ before ++ pushed
      → after ≡ front ++ flat_map f (take (i + 1) xs)
  one_index_more i xs other front before pushed after within so_far prints grows =
      let more : take (i + 1) xs ≡ take i xs ++ get_or xs i other ∷ [] = take_more xs i other within in
      rw (grows, prints, so_far, more, flat_map-append) (simp (append_assoc, append-nil))

  -- the same of an element that is named
  pub one_piece_more : (i : ℕ) (xs : List X) (x : X) (front before pushed after : List ℕ)
      → i < length xs → x ≡ get_or xs i x → before ≡ front ++ flat_map f (take i xs) → pushed ≡ f x → after ≡ before ++ pushed
      → after ≡ front ++ flat_map f (take (i + 1) xs)
  one_piece_more i xs x front before pushed after within is so_far prints grows =
      one_index_more i xs x front before pushed after within so_far (prints ∙ ap f is) grows

  -- the same of an element that was looked up
  pub one_found_more : (i : ℕ) (xs : List X) (x : X) (front before pushed after : List ℕ)
      → slice_get xs i ≡ Some x → before ≡ front ++ flat_map f (take i xs) → pushed ≡ f x → after ≡ before ++ pushed
      → after ≡ front ++ flat_map f (take (i + 1) xs)
  one_found_more i xs x front before pushed after found so_far prints grows =
      one_piece_more i xs x front before pushed after (slice_get_within xs i x found) (sym (get_or_from_slice_get xs i x x found)) so_far prints grows

  -- no piece is left
  pub no_piece_left : (i : ℕ) (xs : List X) (front text : List ℕ) → length xs ≤ i → text ≡ front ++ flat_map f (take i xs) → text ≡ front ++ flat_map f xs
  no_piece_left i xs front text ended so_far = so_far ∙ ap (λ l. front ++ flat_map f l) (take_all i xs ended)

  -- no piece is left, and an end is added
  pub all_closed : (i : ℕ) (xs : List X) (front before pushed last after : List ℕ)
      → length xs ≤ i → before ≡ front ++ flat_map f (take i xs) → pushed ≡ last → after ≡ before ++ pushed → after ≡ front ++ (flat_map f xs ++ last)
  all_closed i xs front before pushed last after ended so_far prints grows =
      grows ∙ ap (λ t. t ++ pushed) (no_piece_left i xs front before ended so_far) ∙ append_assoc front (flat_map f xs) pushed
      ∙ ap (λ t. front ++ (flat_map f xs ++ t)) prints

-- what is not found lies past the end
pub missing_is_past : {X : Type 0} (xs : List X) (i : ℕ) → slice_get xs i ≡ None → length xs ≤ i
missing_is_past [] i missing = omega arith
missing_is_past (x ∷ xs) zero missing = cc
missing_is_past (x ∷ xs) (suc i) missing = let rest : length xs ≤ i = missing_is_past xs i missing in omega arith

-- Beginnings of one list.
use Rattle.std.proofs.Common.{◌≡◌, ◌≤◌, List, [], ◌∷◌, ◌++◌, length, append-nil, append_assoc, refl, ap, sym, ◌∙◌, arith}
use Rattle.st_post_counter.specs.Seen.{Begins}

module _ {T : Type 0} where
  pub begins_itself : (xs : List T) → Begins xs xs
  begins_itself xs = ([], append-nil xs)

  pub nothing_begins : (xs : List T) → Begins [] xs
  nothing_begins xs = (xs, refl)

  -- what begins a list begins it with one more
  pub begins_more : (xs ys : List T) (y : T) → Begins xs ys → Begins xs (ys ++ y ∷ [])
  begins_more xs ys y begins = (begins.0 ++ y ∷ [], sym (append_assoc xs begins.0 (y ∷ [])) ∙ ap (λ l. l ++ y ∷ []) begins.1)

  -- of two beginnings of one list the shorter begins the longer
  pub shorter_begins : (xs ys zs : List T) → Begins xs zs → Begins ys zs → length xs ≤ length ys → Begins xs ys
  shorter_begins [] ys zs one other within = (ys, refl)
  shorter_begins (x ∷ xs) [] zs one other within = absurd (omega arith)
  shorter_begins (x ∷ xs) (y ∷ ys) [] one other within = absurd (cc one.1)
  shorter_begins (x ∷ xs) (y ∷ ys) (z ∷ zs) one other within =
      let heads : x ≡ y = cc (one.1, other.1) in
      let rest = shorter_begins xs ys zs (one.0, cc one.1) (other.0, cc other.1) (omega arith) in
      (rest.0, cc (heads, rest.1))

  -- a beginning as long as the whole is the whole
  pub begins_whole : (xs ys : List T) → Begins xs ys → length ys ≤ length xs → xs ≡ ys
  begins_whole [] [] begins within = refl
  begins_whole [] (y ∷ ys) begins within = absurd (omega arith)
  begins_whole (x ∷ xs) [] begins within = absurd (cc begins.1)
  begins_whole (x ∷ xs) (y ∷ ys) begins within =
      let rest = begins_whole xs ys (begins.0, cc begins.1) (omega arith) in cc (begins.1, rest)

-- The last piece of a text.
use Rattle.std.proofs.Common.{◌≡◌, ℕ, true, false, List, [], ◌∷◌, ◌++◌, if◌then◌else◌, refl, ap, map}
use Rattle.std.proofs.lemmas.List.{map-append}
use Rattle.st_doors.specs.Lines.{is_empty, whole_pieces}

pub whole_front : (pieces : List (List ℕ)) (last : List ℕ) → whole_pieces (pieces ++ last ∷ []) ≡ pieces ++ (if is_empty last then [] else last ∷ [])
whole_front [] last = refl
whole_front (x ∷ []) last = refl
whole_front (x ∷ y ∷ more) last = ap (λ t. x ∷ t) (whole_front (y ∷ more) last)

-- the pieces that are kept, where the last one is not empty
pub last_kept : {A : Type 0} (f : A → List ℕ) (front : List A) (last : A) → is_empty (f last) ≡ false → whole_pieces (map f (front ++ last ∷ [])) ≡ map f (front ++ last ∷ [])
last_kept f front last full = rw (map-append f front (last ∷ []), whole_front (map f front) (f last), full) refl

-- and where it is
pub last_dropped : {A : Type 0} (f : A → List ℕ) (front : List A) (last : A) → is_empty (f last) ≡ true → whole_pieces (map f (front ++ last ∷ [])) ≡ map f front ++ []
last_dropped f front last empty = rw (map-append f front (last ∷ []), whole_front (map f front) (f last), empty) refl

-- A word that is a name or digits is text, and what number is read from digits.
use Rattle.std.proofs.Common.{◌≡◌, ℕ, zero, suc, ◌<◌, ◌≤◌, ◌^◌, Bool, true, nat_le, List, [], ◌∷◌, length, Some, None, Result, Ok, Err, if◌then◌else◌, arith, inl, inr, lit<, refl, rules}
use Rattle.std.specs.List.{list_all}
use Rattle.std.specs.Char.{is_ascii_digit, is_ascii_lowercase}
use Rattle.std.specs.Str.{IsAscii, IsUtf8}
use Rattle.std.specs.Str.Parse.{ParsesUnsigned}
use Rattle.std.proofs.lemmas.Str.{IsUtf8-from_ascii}
use Rattle.std.proofs.lemmas.Str.Parse.{IsNumeralModel, numerals_by_fold, parse_digits}
use Rattle.std.proofs.lemmas.Result.{OkIff-at_ok, OkIff-at_err}
use Rattle.std.proofs.lemmas.Bool.{and_parts, or_cases, cases_Bool, cases_lt, leb-true, leb-false, eqb-true, false≢true}
use Rattle.st_door.specs.WordForms.{is_name_byte, is_name, is_digits, number_after, number_of, is_number}

-- bytes that each pass a test for small numbers are plain text
ascii_from_all : (p : ℕ → Bool) → ((c : ℕ) → p c ≡ true → c < 128) → (w : List ℕ) → list_all p w ≡ true → IsAscii w
ascii_from_all p small [] all i = lit< tt
ascii_from_all p small (c ∷ cs) all zero = small c (and_parts _ _ all).0
ascii_from_all p small (c ∷ cs) all (suc i) = ascii_from_all p small cs (and_parts _ _ all).1 i

letter_small : (c : ℕ) → is_ascii_lowercase c ≡ true → c < 128
letter_small c letter = let top : c ≤ 122 = leb-true c 122 (and_parts (nat_le 97 c) (nat_le c 122) letter).1 in omega arith

digit_small : (c : ℕ) → is_ascii_digit c ≡ true → c < 128
digit_small c digit = let top : c ≤ 57 = leb-true c 57 (and_parts (nat_le 48 c) (nat_le c 57) digit).1 in omega arith

name_byte_small : (c : ℕ) → is_name_byte c ≡ true → c < 128
name_byte_small c h = elim (or_cases _ _ h) [
  | inl h ↦ elim (or_cases _ _ h) [
    | inl h ↦ elim (or_cases _ _ h) [ inl letter ↦ letter_small c letter | inr digit ↦ digit_small c digit ]
    | inr h ↦ let same : c ≡ 95 = eqb-true c 95 h in omega arith
  ]
  | inr h ↦ let same : c ≡ 45 = eqb-true c 45 h in omega arith
]

-- a first byte and the bytes after it
ascii_cons : (c : ℕ) (cs : List ℕ) → c < 128 → IsAscii cs → IsAscii (c ∷ cs)
ascii_cons c cs small rest zero = small
ascii_cons c cs small rest (suc i) = rest i

pub name_is_text : (w : List ℕ) → is_name w ≡ true → IsUtf8 w
name_is_text [] name = absurd (false≢true name)
name_is_text (c ∷ cs) name = let parts = and_parts _ _ (and_parts _ _ name).0 in
    IsUtf8-from_ascii (c ∷ cs) (ascii_cons c cs (letter_small c parts.0) (ascii_from_all _ name_byte_small cs parts.1))

-- ---- numbers
pub digits_are_text : (most : ℕ) (w : List ℕ) → is_digits most w ≡ true → IsUtf8 w
digits_are_text most w digits = IsUtf8-from_ascii w (ascii_from_all _ digit_small w (and_parts _ _ digits).1)

some_digit : (most : ℕ) (w : List ℕ) → is_digits most w ≡ true → 0 < length w
some_digit most [] digits = absurd (false≢true digits)
some_digit most (c ∷ cs) digits = omega arith

shows_number : IsNumeralModel (λ (ds : List ℕ). list_all is_ascii_digit ds ≡ true) (number_after 0)
shows_number = numerals_by_fold _ (search rules) number_after (search rules)

-- the answer where the number is not too great
number-in : (most greatest : ℕ) (w : List ℕ) → is_digits most w ≡ true → number_of w ≤ greatest
    → Some (number_of w) ≡ (if is_number most greatest w then Some (number_of w) else None)
number-in most greatest w digits less = elim (cases_Bool (nat_le (number_of w) greatest)) [
  | inl within ↦ rw (digits, within) refl
  | inr beyond ↦ let more : greatest < number_of w = leb-false _ _ beyond in absurd (omega arith)
]

-- and where it is
pub number-beyond : (most greatest : ℕ) (w : List ℕ) → is_digits most w ≡ true → greatest < number_of w
    → None ≡ (if is_number most greatest w then Some (number_of w) else None)
number-beyond most greatest w digits more = elim (cases_Bool (nat_le (number_of w) greatest)) [
  | inl within ↦ let less : number_of w ≤ greatest = leb-true _ _ within in absurd (omega arith)
  | inr beyond ↦ rw (digits, beyond) refl
]

module _ {E : Type 0} (most greatest : ℕ) (w : List ℕ) (r : Result ℕ E) where
  -- the number that was read is the one that the digits show
  pub number-read : (number : ℕ) → is_digits most w ≡ true → ParsesUnsigned 64 10 w r → r ≡ Ok number → number ≡ number_of w
  number-read number digits parsed ok = (OkIff-at_ok r _ _ number (parse_digits shows_number 64 w r parsed (and_parts _ _ digits).1) ok).1

  pub number-within : (number : ℕ) → is_digits most w ≡ true → ParsesUnsigned 64 10 w r → r ≡ Ok number → number ≤ greatest
      → Some number ≡ (if is_number most greatest w then Some (number_of w) else None)
  number-within number digits parsed ok less =
      let same : number ≡ number_of w = number-read number digits parsed ok in
      rw same (number-in most greatest w digits (rw same at less))

  -- where none was read, it is greater than 64 bits hold
  pub number-unread : (e : E) → is_digits most w ≡ true → ParsesUnsigned 64 10 w r → r ≡ Err e → greatest < 2 ^ 64 → greatest < number_of w
  number-unread e digits parsed err small = elim (cases_lt (number_of w) (2 ^ 64)) [
    | inl less ↦ absurd (OkIff-at_err r _ _ e (parse_digits shows_number 64 w r parsed (and_parts _ _ digits).1) err (some_digit most w digits, less))
    | inr more ↦ omega arith
  ]

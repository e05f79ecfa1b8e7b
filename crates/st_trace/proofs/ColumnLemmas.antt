-- Columns, as std's formats fill them.
use Rattle.std.proofs.Common.{◌≡◌, ℕ, ◌-◌, ◌≤◌, ◌<◌, ◌^◌, ◌==◌, true, false, List, [], ◌∷◌, length, replicate, decimal, refl, ap, arith, rules, append-nil, zero, suc}
use Rattle.std.proofs.lemmas.Fmt.{IsAscii-decimal, length-decimal-le}
use Rattle.std.specs.Fmt.{padded, padded_integral, format_spec, take_chars, char_count, is_char_start}
use Rattle.std.specs.List.{repeat}
use Rattle.std.specs.Str.{IsAscii}
use lib.Utf8.{encode}
use Rattle.st_trace.specs.Columns.{space, to_the_right, to_the_left, IsPlain}

-- a space, as often as is said
repeat-space : (n : ℕ) → repeat n (encode 32) ≡ replicate n space
unfolding encode
repeat-space zero = refl
repeat-space (suc n) = ap (λ rest. space ∷ rest) (repeat-space n)

-- nothing is left where all was taken, and all where nothing was
sub-all : (n : ℕ) → n - n ≡ 0
sub-all n = omega arith

sub-nothing : (n : ℕ) → n - 0 ≡ n
sub-nothing n = omega arith

-- an ASCII byte is a character
is_char_start-ascii : (c : ℕ) → c < 128 → is_char_start c ≡ true
is_char_start-ascii c low = search rules

-- a text without its first byte is ASCII as well
tail_is_ascii : (c : ℕ) (text : List ℕ) → IsAscii (c ∷ text) → IsAscii text
tail_is_ascii c text ascii i = ascii (suc i)

-- the first characters of an ASCII text that is no longer are all of it
take_chars-ascii : (n : ℕ) (text : List ℕ) → IsAscii text → length text ≤ n → take_chars n text ≡ text
unfolding take_chars
take_chars-ascii n [] ascii within = refl
take_chars-ascii n (c ∷ text) ascii within =
    let positive : (n == 0) ≡ false = search rules in
    let less : take_chars (n - 1) text ≡ text = take_chars-ascii (n - 1) text (tail_is_ascii c text ascii) (omega arith) in
    rw (is_char_start-ascii c (ascii 0), positive, less) refl

-- it has as many characters as bytes
char_count-ascii : (text : List ℕ) → IsAscii text → char_count text ≡ length text
unfolding char_count
char_count-ascii [] ascii = refl
char_count-ascii (c ∷ text) ascii =
    let rest : char_count text ≡ length text = char_count-ascii text (tail_is_ascii c text ascii) in
    rw (is_char_start-ascii c (ascii 0), rest) (omega arith)

-- a number to the right
pub number_to_the_right : (width n : ℕ) → padded_integral (format_spec 32 3 0 width (2 ^ 64 - 1)) false [] (decimal n) ≡ to_the_right width (decimal n)
unfolding padded_integral char_count
number_to_the_right width n = simp (sub-nothing, sub-all, repeat-space, append-nil) refl

-- a text to the right
pub text_to_the_right : (width : ℕ) (text : List ℕ) → IsPlain text → padded (format_spec 32 3 0 width (2 ^ 64 - 1)) text ≡ to_the_right width text
unfolding padded
text_to_the_right width text plain =
    rw (take_chars-ascii (2 ^ 64 - 1) text plain.ascii (omega (arith, plain.short)), char_count-ascii text plain.ascii)
    (simp (sub-all, repeat-space, append-nil) refl)

-- a text to the left
pub text_to_the_left : (width : ℕ) (text : List ℕ) → IsPlain text → padded (format_spec 32 1 0 width (2 ^ 64 - 1)) text ≡ to_the_left width text
unfolding padded
text_to_the_left width text plain =
    rw (take_chars-ascii (2 ^ 64 - 1) text plain.ascii (omega (arith, plain.short)), char_count-ascii text plain.ascii)
    (simp (sub-nothing, repeat-space) refl)

-- a number or a hyphen is a plain text
pub number_is_plain : (number : ℕ) → number < 2 ^ 64 → IsPlain (decimal number)
number_is_plain number fits = record {
  ascii = IsAscii-decimal number fits;
  short = length-decimal-le 20 number (omega arith) (omega (arith, fits)) fits;
}

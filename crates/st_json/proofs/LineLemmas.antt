-- What makes a line: its text has no line feed in it.
use Rattle.std.proofs.Common.{◌≡◌, ℕ, zero, suc, ◌+◌, ◌/◌, ◌%◌, ◌<◌, ◌≤◌, Bool, true, false, if◌then◌else◌, not, ◌&&◌, ◌==◌, nat_lt, pos, negsuc, List, [], ◌∷◌, ◌++◌, get_or, decimal, inl, inr, refl, sym, ap, ◌∙◌, subst, Some, arith}
use Rattle.std.proofs.lemmas.Bool.{and_parts, cases_eq, cases_lt, ne_eqb}
use Rattle.std.proofs.lemmas.List.Folds.{list_all-append, list_all_at}
use Rattle.std.specs.Fmt.{digits, digits_onto, digit_glyph}
use Rattle.std.specs.List.{Contains, list_all}
use Rattle.json.specs.Print.{escape_byte, escape, quoted}
use Rattle.json.proofs.Printed.Strings.{escape_byte_plain}
use Rattle.serde_json.specs.Data.{Num, unsigned, negative, float, Data, null, boolean, number, string, array, object, Items, no_items, item, Members, no_members, member}
use Rattle.serde_json.specs.Data.{depth}
use Rattle.serde_json.specs.Read.{read, max_depth}
use Rattle.serde_json.specs.Written.{number_text, comma_if, compact_text, items_text, members_text, has_float}
use Rattle.st_json.specs.Lines.{line_feed, IsLineOf}

-- whether a byte is another than that of a line feed
abbrev is_other : ℕ → Bool
is_other byte = not (byte == line_feed)

-- whether a text has no line feed
abbrev is_one_line : List ℕ → Bool
is_one_line text = list_all is_other text

-- two texts without a line feed make one
joined : (first second : List ℕ) → is_one_line first ≡ true → is_one_line second ≡ true → is_one_line (first ++ second) ≡ true
joined first second one other = list_all-append is_other first second ∙ rw (one, other)

-- and so does one behind another byte
behind : (byte : ℕ) (text : List ℕ) → is_other byte ≡ true → is_one_line text ≡ true → is_one_line (byte ∷ text) ≡ true
behind byte text one other = rw (one, other)

-- one of two such texts is one
either : (test : Bool) (first second : List ℕ) → is_one_line first ≡ true → is_one_line second ≡ true → is_one_line (if test then first else second) ≡ true
either true first second one other = one
either false first second one other = other

-- ---- numbers
-- a digit is no line feed
glyph_is_other : (test : Bool) (digit : ℕ) → is_other (if test then 48 + digit else 87 + digit) ≡ true
glyph_is_other true digit = rw (ne_eqb (48 + digit) 10 (λ e. omega arith))
glyph_is_other false digit = rw (ne_eqb (87 + digit) 10 (λ e. omega arith))

-- nor are some digits and what comes behind them
digits_are_one_line : (count n : ℕ) (rest : List ℕ) → is_one_line rest ≡ true → is_one_line (digits_onto count 10 false n rest) ≡ true
digits_are_one_line zero n rest one = one
digits_are_one_line (suc count) n rest one =
    let more : is_one_line (digit_glyph false (n % 10) ∷ rest) ≡ true =
    behind (digit_glyph false (n % 10)) rest (glyph_is_other (nat_lt (n % 10) 10) (n % 10)) one in
    either (n / 10 == 0) _ _ more (digits_are_one_line count (n / 10) _ more)

decimal_is_one_line : (n : ℕ) → is_one_line (decimal n) ≡ true
unfolding digits
decimal_is_one_line n = digits_are_one_line 64 n [] refl

number_is_one_line : (n : Num) → is_one_line (number_text n) ≡ true
number_is_one_line (unsigned n) = decimal_is_one_line n
number_is_one_line (negative (pos n)) = decimal_is_one_line n
number_is_one_line (negative (negsuc n)) = decimal_is_one_line (suc n)
number_is_one_line (float x) = refl

-- ---- strings
-- whether what stands for each byte below a bound has no line feed
abbrev are_one_line_below : ℕ → Bool
are_one_line_below zero = true
are_one_line_below (suc n) = is_one_line (escape_byte n) && are_one_line_below n

one_line_below : (n : ℕ) → are_one_line_below n ≡ true → (byte : ℕ) → byte < n → is_one_line (escape_byte byte) ≡ true
one_line_below zero all byte below = absurd (omega arith)
one_line_below (suc n) all byte below =
    let parts = and_parts _ _ all in
    elim (cases_eq byte n) [ inl same ↦ rw same parts.0 | inr other ↦ one_line_below n parts.1 byte (omega arith) ]

all_below : are_one_line_below 128 ≡ true
unfolding escape_byte
all_below = refl

byte_is_one_line : (byte : ℕ) → is_one_line (escape_byte byte) ≡ true
byte_is_one_line byte =
    elim (cases_lt byte 128) [
      | inl below ↦ one_line_below 128 all_below byte below
      | inr above ↦
          rw (escape_byte_plain byte (λ e. omega arith) (λ e. omega arith) (omega arith), ne_eqb byte 10 (λ e. omega arith))
    ]

escape_is_one_line : (text : List ℕ) → is_one_line (escape text) ≡ true
escape_is_one_line [] = refl
escape_is_one_line (byte ∷ text) = joined (escape_byte byte) (escape text) (byte_is_one_line byte) (escape_is_one_line text)

quoted_is_one_line : (text : List ℕ) → is_one_line (quoted text) ≡ true
quoted_is_one_line text = joined (escape text) (34 ∷ []) (escape_is_one_line text) refl

-- ---- values
comma_is_one_line : (later : Bool) → is_one_line (comma_if later) ≡ true
comma_is_one_line true = refl
comma_is_one_line false = refl

mutual
  value_is_one_line : (value : Data) → is_one_line (compact_text value) ≡ true
  value_is_one_line null = refl
  value_is_one_line (boolean true) = refl
  value_is_one_line (boolean false) = refl
  value_is_one_line (number n) = number_is_one_line n
  value_is_one_line (string text) = quoted_is_one_line text
  value_is_one_line (array items) = items_are_one_line false items
  value_is_one_line (object members) = members_are_one_line false members

  items_are_one_line : (later : Bool) (items : Items) → is_one_line (items_text later items) ≡ true
  items_are_one_line later no_items = refl
  items_are_one_line later (item value items) =
      joined (comma_if later) _ (comma_is_one_line later)
      (joined (compact_text value) _ (value_is_one_line value) (items_are_one_line true items))

  members_are_one_line : (later : Bool) (members : Members) → is_one_line (members_text later members) ≡ true
  members_are_one_line later no_members = refl
  members_are_one_line later (member key value members) =
      joined (comma_if later) _ (comma_is_one_line later)
      (joined (quoted key) _ (quoted_is_one_line key)
      (joined (compact_text value) _ (value_is_one_line value) (members_are_one_line true members)))

-- no line feed is in it
no_line_feed : (value : Data) (text : List ℕ) → text ≡ compact_text value → ¬ Contains text line_feed
no_line_feed value text is (place, within, found) =
    let one : is_one_line text ≡ true = ap is_one_line is ∙ value_is_one_line value in
    let not_other : is_other (get_or text place line_feed) ≡ false = ap is_other found in
    let two : is_one_line text ≡ false = list_all_at is_other text place line_feed within not_other in
    cc

-- ---- lines
-- a text and a line feed, where the text is what is written for a value, and reads as it
pub line_of : (value written : Data) (text line : List ℕ) → written ≡ value → line ≡ text ++ line_feed ∷ []
    → (has_float written ≡ false → text ≡ compact_text written) → (depth written ≤ max_depth → read text ≡ Some written)
    → IsLineOf value line
line_of value written text line is ended compact reads_back =
    let compact_is : has_float value ≡ false → text ≡ compact_text value = λ none. compact (ap has_float is ∙ none) ∙ ap compact_text is in
    record {
      text = text;
      ended = ended;
      compact = compact_is;
      one_line = λ none. no_line_feed value text (compact_is none);
      reads_back = λ nests. reads_back (subst (λ d. depth d ≤ max_depth) (sym is) nests) ∙ ap Some is;
    }

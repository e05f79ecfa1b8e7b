-- Texts by number.
use Rattle.std.specs.Prelude.{ℕ, List, Option, None, Some, codes, slice_get}

-- a text that may be there; else a question mark
abbrev pub or_unknown : Option (List ℕ) → List ℕ
or_unknown None = codes "?"
or_unknown (Some text) = text

-- the text of a number
abbrev pub text_at : List (List ℕ) → ℕ → List ℕ
text_at texts number = or_unknown (slice_get texts number)

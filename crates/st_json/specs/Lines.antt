-- What a line of JSON is.
use Rattle.std.specs.Prelude.{◌≡◌, ◌≤◌, ℕ, false, List, [], ◌∷◌, ◌++◌, Some}
use Rattle.std.specs.List.{Contains}
use Rattle.serde_json.specs.Data.{Data, depth}
use Rattle.serde_json.specs.Read.{read, max_depth}
use Rattle.serde_json.specs.Written.{compact_text, has_float}

-- the byte of a line feed
abbrev pub line_feed : ℕ
line_feed = 10

-- A line is a text and a line feed. The text is that of a value with no space, and has no line feed in it, where the value
-- has no float. It reads as the value, where that nests no deeper than 127.
pub record IsLineOf (value : Data) (line : List ℕ) : Type 0 where
  pub text : List ℕ
  pub ended : line ≡ text ++ line_feed ∷ []
  pub compact : has_float value ≡ false → text ≡ compact_text value
  pub one_line : has_float value ≡ false → ¬ Contains text line_feed
  pub reads_back : depth value ≤ max_depth → read text ≡ Some value

-- a value has no float, and nests no deeper than a limit
pub record IsPlain (limit : ℕ) (value : Data) : Type 0 where
  pub no_float : has_float value ≡ false
  pub nests : depth value ≤ limit

-- Each content is plain, and nests so little that what an entry puts around it comes to no more than 127: a content that was
-- refused stands four deep.
abbrev pub ArePlain : {C : Type 0} → (C → Data) → Type 0
ArePlain {C} content_data = (content : C) → IsPlain 123 (content_data content)

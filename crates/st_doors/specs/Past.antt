-- What a door was told before its journal begins: pieces of its entries, each kept as the lines of its trace.
use Rattle.std.specs.Prelude.{◌≡◌, ℕ, ◌+◌, ◌<◌, ◌^◌, List, [], ◌∷◌, ◌++◌, flat_map, string_bytes}
use Rattle.st_trace.specs.Entries.{latest_after}
use Rattle.st_trace.specs.Totals.{totals_of}
use Rattle.st_trace.specs.Trace.{entry_lines}
use Rattle.st_trace.specs.declared.totals.Totals.{Totals}
use Rattle.st_doors.specs.declared.past.Piece.{Piece}
use Rattle.st_doors.specs.Doors.{DoorEntry, History}
use Rattle.st_doors.specs.Printing.{state_name_of}

-- the entries of pieces, in order
abbrev pub entries_in : List Piece → List DoorEntry
entries_in pieces = flat_map (λ piece. piece.entries.value) pieces

-- the text of pieces
abbrev pub text_in : List Piece → List ℕ
text_in pieces = flat_map (λ piece. string_bytes piece.text) pieces

-- the latest moment after entries, by the latest before them
abbrev pub latest_of : ℕ → List DoorEntry → ℕ
latest_of latest [] = latest
latest_of latest (entry ∷ entries) = latest_of (latest_after latest entry.command) entries

-- what two lists of entries come to together
abbrev pub sum_of : Totals → Totals → Totals
sum_of one other = record {
  posts = one.posts + other.posts;
  turns = one.turns + other.turns;
  finished = one.finished + other.finished;
  put_off = one.put_off + other.put_off;
}

-- each of the numbers is below 2^63
pub record IsSmall (totals : Totals) : Type 0 where
  pub posts : totals.posts < 2 ^ 63
  pub turns : totals.turns < 2 ^ 63
  pub finished : totals.finished < 2 ^ 63
  pub put_off : totals.put_off < 2 ^ 63

-- a history with more entries
abbrev pub with_entries : History → List DoorEntry → History
with_entries history entries = record { from = history.from; entries = history.entries ++ entries }

-- the text of the pieces is the lines of their entries; and this is the latest moment after them, and what they come to
pub record IsPast (from latest : ℕ) (totals : Totals) (pieces : List Piece) : Type 0 where
  pub text : text_in pieces ≡ entry_lines state_name_of from (entries_in pieces)
  pub moment : latest ≡ latest_of from (entries_in pieces)
  pub counted : totals ≡ totals_of (entries_in pieces)

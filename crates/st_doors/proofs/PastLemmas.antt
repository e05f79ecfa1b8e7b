-- Entries that have left a door's journal, as the lines of its trace.
use Rattle.std.proofs.Common.{◌≡◌, ℕ, ◌+◌, ◌^◌, ◌<◌, ◌≤◌, Bool, cond, List, [], ◌∷◌, ◌++◌, length, get_or, drop, suc, refl, ap, sym, ◌∙◌, arith, add-one, append_assoc, append-nil, string_bytes}
use Rattle.std.specs.List.{count_by}
use Rattle.std.proofs.Math.Seq.{drop-cons}
use Rattle.std.proofs.lemmas.Grind.{flat_map-append}
use Rattle.std.proofs.lemmas.List.{drop_all}
use Rattle.std.proofs.lemmas.List.Sums.{count_by-le-length, sum_by-append}
use Rattle.st_trace.specs.Entries.{latest_after}
use Rattle.st_trace.specs.Totals.{has_finished, has_put_off, is_post, is_turn, totals_of}
use Rattle.st_trace.specs.Trace.{entry_line, entry_lines}
use Rattle.st_trace.specs.declared.totals.Totals.{Totals}
use Rattle.st_doors.specs.declared.past.Piece.{Piece}
use Rattle.st_doors.specs.Doors.{DoorEntry}
use Rattle.st_doors.specs.Past.{IsPast, IsSmall, entries_in, latest_of, sum_of, text_in}
use Rattle.st_doors.specs.Printing.{state_name_of}

-- ---- two lists of entries, one behind the other
pub latest-append : (latest : ℕ) (a b : List DoorEntry) → latest_of latest (a ++ b) ≡ latest_of (latest_of latest a) b
latest-append latest [] b = refl
latest-append latest (entry ∷ a) b = latest-append (latest_after latest entry.command) a b

pub lines-append : (latest : ℕ) (a b : List DoorEntry)
    → entry_lines state_name_of latest (a ++ b) ≡ entry_lines state_name_of latest a ++ entry_lines state_name_of (latest_of latest a) b
lines-append latest [] b = refl
lines-append latest (entry ∷ a) b =
    let next : ℕ = latest_after latest entry.command in
    let line : List ℕ = entry_line state_name_of next entry in
    ap (λ lines. line ++ lines) (lines-append next a b)
    ∙ sym (append_assoc line (entry_lines state_name_of next a) (entry_lines state_name_of (latest_of next a) b))

count-append : (test : DoorEntry → Bool) (a b : List DoorEntry) → count_by test (a ++ b) ≡ count_by test a + count_by test b
count-append test a b = sum_by-append (λ entry. cond (test entry) 1 0) a b

-- totals of equal numbers
abbrev totals : ℕ → ℕ → ℕ → ℕ → Totals
totals posts turns finished put_off = record { posts = posts; turns = turns; finished = finished; put_off = put_off }

same-totals : (posts turns finished put_off posts2 turns2 finished2 put_off2 : ℕ) → posts ≡ posts2 → turns ≡ turns2 → finished ≡ finished2 → put_off ≡ put_off2
    → totals posts turns finished put_off ≡ totals posts2 turns2 finished2 put_off2
same-totals posts turns finished put_off posts2 turns2 finished2 put_off2 p t f o = cc

pub totals-append : (a b : List DoorEntry) → totals_of (a ++ b) ≡ sum_of (totals_of a) (totals_of b)
totals-append a b =
    same-totals _ _ _ _ _ _ _ _
    (count-append (λ (entry : DoorEntry). is_post entry.command) a b)
    (count-append (λ (entry : DoorEntry). is_turn entry.command) a b)
    (count-append has_finished a b)
    (count-append has_put_off a b)

-- there are no more of a kind than there are entries
fewer : (test : DoorEntry → Bool) (a b : List DoorEntry) (limit : ℕ) → length a + length b < limit → count_by test a + count_by test b < limit
fewer test a b limit few =
    let one : count_by test a ≤ length a = count_by-le-length test a in
    let other : count_by test b ≤ length b = count_by-le-length test b in
    omega arith

pub sum-small : (a b : List DoorEntry) → length a + length b < 2 ^ 63 → IsSmall (sum_of (totals_of a) (totals_of b))
sum-small a b few = record {
  posts = fewer (λ (entry : DoorEntry). is_post entry.command) a b (2 ^ 63) few;
  turns = fewer (λ (entry : DoorEntry). is_turn entry.command) a b (2 ^ 63) few;
  finished = fewer has_finished a b (2 ^ 63) few;
  put_off = fewer has_put_off a b (2 ^ 63) few;
}

-- ---- the entries that are left
-- the latest moment after them is the same once the first of them is left behind
pub moment-step : (latest next place : ℕ) (entries : List DoorEntry) (entry : DoorEntry) (all : ℕ) → place < length entries → entry ≡ get_or entries place entry
    → latest_of latest (drop place entries) ≡ all → next ≡ latest_after latest entry.command → latest_of next (drop (place + 1) entries) ≡ all
moment-step latest next place entries entry all within is so_far moves =
    let left : drop place entries ≡ entry ∷ drop (place + 1) entries =
    drop-cons entries place entry within ∙ ap (λ (e : DoorEntry). e ∷ drop (suc place) entries) (sym is) ∙ ap (λ n. entry ∷ drop n entries) (sym (add-one place)) in
    rw moves (ap (λ (l : List DoorEntry). latest_of latest l) (sym left) ∙ so_far)

-- and it is the latest where none is left
pub moment-end : (latest place : ℕ) (entries : List DoorEntry) (all : ℕ) → length entries ≤ place → latest_of latest (drop place entries) ≡ all → latest ≡ all
moment-end latest place entries all past so_far = ap (λ (l : List DoorEntry). latest_of latest l) (sym (drop_all place entries past)) ∙ so_far

-- then all lines are there
pub lines-end : (latest place : ℕ) (entries : List DoorEntry) (written all : List ℕ) → length entries ≤ place
    → written ++ entry_lines state_name_of latest (drop place entries) ≡ all → written ≡ all
lines-end latest place entries written all past so_far =
    sym (append-nil written) ∙ (ap (λ (l : List DoorEntry). written ++ entry_lines state_name_of latest l) (sym (drop_all place entries past)) ∙ so_far)

-- ---- pieces
pub entries-more : (pieces : List Piece) (piece : Piece) → entries_in (pieces ++ piece ∷ []) ≡ entries_in pieces ++ piece.entries.value
entries-more pieces piece =
    flat_map-append (λ (p : Piece). p.entries.value) pieces (piece ∷ []) ∙ ap (λ (t : List DoorEntry). entries_in pieces ++ t) (append-nil piece.entries.value)

text-more : (pieces : List Piece) (piece : Piece) → text_in (pieces ++ piece ∷ []) ≡ text_in pieces ++ string_bytes piece.text
text-more pieces piece =
    flat_map-append (λ (p : Piece). string_bytes p.text) pieces (piece ∷ []) ∙ ap (λ t. text_in pieces ++ t) (append-nil (string_bytes piece.text))

-- one piece more, with the lines of its entries
pub past-more : (from latest next : ℕ) (totals sum : Totals) (pieces : List Piece) (piece : Piece) → IsPast from latest totals pieces
    → string_bytes piece.text ≡ entry_lines state_name_of latest piece.entries.value
    → next ≡ latest_of latest piece.entries.value
    → sum ≡ totals_of (entries_in pieces ++ piece.entries.value)
    → IsPast from next sum (pieces ++ piece ∷ [])
past-more from latest next totals sum pieces piece past text moment counted = record {
  text = text-more pieces piece
      ∙ (ap (λ t. t ++ string_bytes piece.text) past.text
      ∙ (ap (λ t. entry_lines state_name_of from (entries_in pieces) ++ t) (text ∙ ap (λ l. entry_lines state_name_of l piece.entries.value) past.moment)
      ∙ (sym (lines-append from (entries_in pieces) piece.entries.value)
      ∙ ap (λ (t : List DoorEntry). entry_lines state_name_of from t) (sym (entries-more pieces piece)))));
  moment = moment
      ∙ (ap (λ l. latest_of l piece.entries.value) past.moment
      ∙ (sym (latest-append from (entries_in pieces) piece.entries.value)
      ∙ ap (λ (t : List DoorEntry). latest_of from t) (sym (entries-more pieces piece))));
  counted = counted ∙ ap (λ (t : List DoorEntry). totals_of t) (sym (entries-more pieces piece));
}

-- the text of the pieces that are left
pub text-step : (pieces : List Piece) (place : ℕ) (piece : Piece) (written text all : List ℕ) → place < length pieces → piece ≡ get_or pieces place piece
    → text ≡ string_bytes piece.text
    → written ++ text_in (drop place pieces) ≡ all
    → (written ++ text) ++ text_in (drop (place + 1) pieces) ≡ all
text-step pieces place piece written text all within is says so_far =
    let left : drop place pieces ≡ piece ∷ drop (place + 1) pieces =
    drop-cons pieces place piece within ∙ ap (λ (p : Piece). p ∷ drop (suc place) pieces) (sym is) ∙ ap (λ n. piece ∷ drop n pieces) (sym (add-one place)) in
    append_assoc written text _
    ∙ (ap (λ t. written ++ (t ++ text_in (drop (place + 1) pieces))) says
    ∙ (ap (λ (l : List Piece). written ++ text_in l) (sym left) ∙ so_far))

pub text-end : (pieces : List Piece) (place : ℕ) (written all : List ℕ) → length pieces ≤ place → written ++ text_in (drop place pieces) ≡ all → written ≡ all
text-end pieces place written all past so_far =
    sym (append-nil written) ∙ (ap (λ (l : List Piece). written ++ text_in l) (sym (drop_all place pieces past)) ∙ so_far)

-- How a trace grows by a line.
use Rattle.std.proofs.Common.{◌≡◌, ℕ, ◌+◌, ◌≤◌, ◌^◌, ◌<◌, List, [], ◌∷◌, ◌++◌, length, get_or, drop, suc, sym, ap, ◌∙◌, add-one, arith, append_assoc, append-nil}
use Rattle.std.proofs.Math.Seq.{drop-cons}
use Rattle.std.proofs.lemmas.List.{drop_all}
use Rattle.st_journal.specs.declared.journal_entry.JournalEntry.{JournalEntry}
use Rattle.st_trace.specs.Entries.{latest_after}
use Rattle.st_trace.specs.declared.totals.Totals.{Totals}
use Rattle.st_trace.specs.Trace.{entry_line, entry_lines, summary_line}

-- as many as there are in a slice are a word
pub in_word : (here there : ℕ) → here ≡ there → there < 2 ^ 64 → 0 + here < 2 ^ 64
in_word here there same within = omega (arith, same, within)

module _ {S C : Type 0} (names : S → List ℕ) where
  -- the first of the lines that are left is that of the first entry that is left
  entry_lines-drop : (latest i : ℕ) (entries : List (JournalEntry S C)) (entry : JournalEntry S C) → i < length entries → entry ≡ get_or entries i entry
      → entry_lines names latest (drop i entries)
      ≡ entry_line names (latest_after latest entry.command) entry ++ entry_lines names (latest_after latest entry.command) (drop (i + 1) entries)
  entry_lines-drop latest i entries entry within is =
      let left : drop i entries ≡ entry ∷ drop (i + 1) entries =
      drop-cons entries i entry within ∙ ap (λ (e : JournalEntry S C). e ∷ drop (suc i) entries) (sym is) ∙ ap (λ n. entry ∷ drop n entries) (sym (add-one i)) in
      ap (λ l. entry_lines names latest l) left

  -- one line more is there, and one less is left
  pub one_line_more : (latest next i : ℕ) (entries : List (JournalEntry S C)) (entry : JournalEntry S C) (before pushed line after all : List ℕ)
      → i < length entries → entry ≡ get_or entries i entry
      → before ++ entry_lines names latest (drop i entries) ≡ all
      → next ≡ latest_after latest entry.command → line ≡ entry_line names next entry → pushed ≡ line → after ≡ before ++ pushed
      → after ++ entry_lines names next (drop (i + 1) entries) ≡ all
  one_line_more latest next i entries entry before pushed line after all within is so_far moves prints pushes grows =
      rw (grows, pushes, prints, moves) (append_assoc before _ _ ∙ ap (λ t. before ++ t) (sym (entry_lines-drop latest i entries entry within is)) ∙ so_far)

  -- all lines are there, and the last one is added
  pub no_line_left : (latest i : ℕ) (entries : List (JournalEntry S C)) (before first lines pushed line all : List ℕ) (counted totals : Totals)
      → length entries ≤ i → before ++ entry_lines names latest (drop i entries) ≡ first ++ lines
      → counted ≡ totals → line ≡ summary_line counted → pushed ≡ line → all ≡ before ++ pushed
      → all ≡ first ++ (lines ++ summary_line totals)
  no_line_left latest i entries before first lines pushed line all counted totals ended so_far counts prints pushes grows =
      let left : drop i entries ≡ [] = drop_all i entries ended in
      let whole : before ≡ first ++ lines = sym (append-nil before) ∙ ap (λ l. before ++ entry_lines names latest l) (sym left) ∙ so_far in
      let last : pushed ≡ summary_line totals = pushes ∙ prints ∙ ap summary_line counts in
      grows ∙ ap (λ t. t ++ pushed) whole ∙ append_assoc first lines pushed ∙ ap (λ t. first ++ (lines ++ t)) last

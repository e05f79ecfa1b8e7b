use Rattle.std.proofs.Common.{◌≡◌, List, [], ◌∷◌, ◌++◌, ap, sym, ◌∙◌, subst, string_bytes}
use Rattle.st_trace.specs.Totals.{totals_of}
use Rattle.st_trace.specs.Trace.{entry_lines}
use Rattle.st_doors.specs.declared.past.Piece.{Piece}
use Rattle.st_doors.specs.Doors.{DoorEntry}
use Rattle.st_doors.specs.Past.{IsPast, entries_in, latest_of}
use Rattle.st_doors.specs.Printing.{state_name_of}
use Rattle.st_doors.proofs.PastLemmas.{past-more}
use Rattle.st_doors.proofs.past.Past.take_in.Goals as goal

-- one piece more
pub invariant_of-self-3 : goal.invariant_of-self-3
invariant_of-self-3 c =
    let from = c.self.inside.from in
    let latest = c.self.inside.latest in
    let pieces : List Piece = c.self.inside.pieces.items in
    let piece : Piece = record { text = c.in_ok-text.text; entries = c.of.result } in
    let same : c.of.result.value ≡ c.journal_of.result.now = c.of.ensures ∙ (c.in-Ok.ensures.journal.entries ∙ sym c.journal_of.ensures) in
    let text : string_bytes piece.text ≡ entry_lines state_name_of latest piece.entries.value =
    c.in_ok-text.ensures.text ∙ ap (λ (entries : List DoorEntry). entry_lines state_name_of latest entries) (sym same) in
    let moment = c.in_ok-text.ensures.latest ∙ ap (λ (entries : List DoorEntry). latest_of latest entries) (sym same) in
    let counted : c.totals_with-totals.result ≡ totals_of (entries_in pieces ++ piece.entries.value) =
    c.totals_with-totals.ensures
    ∙ (ap (λ (items : List Piece). totals_of (entries_in items ++ c.as_slice.result.now)) c.in_ok-reserve.ensures.items
    ∙ ap (λ (entries : List DoorEntry). totals_of (entries_in pieces ++ entries)) (c.as_slice.ensures ∙ sym c.of.ensures)) in
    let items : c.push_reserved.new.self.items ≡ pieces ++ piece ∷ [] =
    c.push_reserved.ensures.items ∙ ap (λ (items : List Piece). items ++ piece ∷ []) c.in_ok-reserve.ensures.items in
    subst (λ (items : List Piece). IsPast from c.in_ok-text.latest c.totals_with-totals.result items) (sym items)
    (past-more from latest c.in_ok-text.latest c.self.inside.totals c.totals_with-totals.result pieces piece c.self.invariant text moment counted)

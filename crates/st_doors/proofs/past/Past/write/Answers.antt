use Rattle.std.proofs.Common.{rules, ◌≡◌, ◌+◌, ◌≤◌, ℕ, List, [], ◌++◌, drop, length, refl, ap, ◌∙◌, arith, string_bytes}
use Rattle.std.proofs.lemmas.Grind.{common_steps}
use Rattle.st_trace.specs.Trace.{entry_lines}
use Rattle.st_doors.specs.declared.past.Piece.{Piece}
use Rattle.st_doors.specs.Doors.{History}
use Rattle.st_doors.specs.Past.{text_in}
use Rattle.st_doors.specs.Printing.{state_name_of}
use Rattle.st_doors.proofs.PastLemmas.{text-end, text-step}
use Rattle.st_doors.proofs.StreamLemmas.{appends_more, appends_nothing, appends_same, front_more}
use Rattle.st_doors.proofs.past.Past.write.Goals as goal

-- nothing is written yet
pub loop-piece-init : goal.loop-piece-init
loop-piece-init g c = (refl, ([], appends_nothing (g.W.Sink.held c.args.writer.now), refl))

-- one piece more
pub loop-piece-preserved : goal.loop-piece-preserved
loop-piece-preserved g c =
    let written : List ℕ = c.loop-piece.invariant.1.0 in
    let text : List ℕ = c.as_bytes.result.now in
    let says : text ≡ string_bytes c.piece-item.result.text = c.as_bytes.ensures.value ∙ c.as_str.ensures.value in (
      grind (arith, common_steps),
      (
        written ++ text,
        appends_more _ _ _ _ _ c.loop-piece.invariant.1.1 c.in_ok-write_by_lines.ensures.written,
        text-step c.deref-piece-items.result.now c.loop-piece.piece-index c.piece-item.result written text _ c.loop-piece-test.true c.piece-item.is says c.loop-piece.invariant.1.2,
      ),
    )

-- the write stopped within a piece
pub returns-in_err-write_by_lines-clause-front : goal.returns-in_err-write_by_lines-clause-front
returns-in_err-write_by_lines-clause-front g c =
    let written : List ℕ = c.loop-piece.invariant.1.0 in
    let text : List ℕ = c.as_bytes.result.now in
    let rest : List ℕ = text_in (drop (c.loop-piece.piece-index + 1) c.deref-piece-items.result.now) in
    let says : text ≡ string_bytes c.piece-item.result.text = c.as_bytes.ensures.value ∙ c.as_str.ensures.value in
    let lines : text_in c.deref-piece-items.result.now ≡ entry_lines state_name_of c.args.self.now.from c.args.self.now.entries =
    ap (λ (pieces : List Piece). text_in pieces) c.deref-piece-items.ensures.value
    ∙ (c.self.invariant.text ∙ ap (λ (history : History). entry_lines state_name_of history.from history.entries) c.self.view_is) in
    let front = front_more _ _ _ written text rest _ c.loop-piece.invariant.1.1 c.in_err-write_by_lines.ensures.front
    (text-step c.deref-piece-items.result.now c.loop-piece.piece-index c.piece-item.result written text _ c.loop-piece-test.true c.piece-item.is says c.loop-piece.invariant.1.2 ∙ lines) in
    search rules

-- all pieces are written
pub returns-clause-written : goal.returns-clause-written
returns-clause-written g c =
    let past : length c.deref-piece-items.result.now ≤ c.loop-piece.piece-index = omega arith in
    let lines : text_in c.deref-piece-items.result.now ≡ entry_lines state_name_of c.args.self.now.from c.args.self.now.entries =
    ap (λ (pieces : List Piece). text_in pieces) c.deref-piece-items.ensures.value
    ∙ (c.self.invariant.text ∙ ap (λ (history : History). entry_lines state_name_of history.from history.entries) c.self.view_is) in
    appends_same _ _ _ _ (text-end c.deref-piece-items.result.now c.loop-piece.piece-index c.loop-piece.invariant.1.0 _ past c.loop-piece.invariant.1.2 ∙ lines) c.loop-piece.invariant.1.1

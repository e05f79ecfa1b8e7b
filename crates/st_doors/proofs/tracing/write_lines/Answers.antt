use Rattle.std.proofs.Common.{rules, ◌≡◌, List, ℕ, [], ◌++◌, ap, sym, ◌∙◌, append-nil}
use Rattle.st_trace.specs.Trace.{entry_lines}
use Rattle.st_doors.specs.Past.{latest_of}
use Rattle.st_doors.specs.Printing.{state_name_of}
use Rattle.st_doors.proofs.DoorLemmas.{on_ok, on_err}
use Rattle.st_doors.proofs.PastLemmas.{lines-append}
use Rattle.st_doors.proofs.StreamLemmas.{appends_more, appends_same, front_longer, front_same, front_more}
use Rattle.st_doors.proofs.tracing.write_lines.Goals as goal

-- the write stopped within the lines before the journal
pub returns-in_err-write-clause-front : goal.returns-in_err-write-clause-front
returns-in_err-write-clause-front g c =
    let from : ℕ = c.args.past.now.from in
    let before : List ℕ = entry_lines state_name_of from c.args.past.now.entries in
    let rest : List ℕ = entry_lines state_name_of (latest_of from c.args.past.now.entries) c.args.entries.now in
    let front = front_same _ _ _ _ (sym (lines-append from c.args.past.now.entries c.args.entries.now)) (front_longer _ _ before rest c.in_err-write.ensures.front) in
    search rules

-- all lines are written
pub returns-clause-written : goal.returns-clause-written
returns-clause-written g c =
    let from : ℕ = c.args.past.now.from in
    let before : List ℕ = entry_lines state_name_of from c.args.past.now.entries in
    let rest : List ℕ = entry_lines state_name_of c.latest.result c.args.entries.now in
    let whole : before ++ rest ≡ entry_lines state_name_of from (c.args.past.now.entries ++ c.args.entries.now) =
    ap (λ latest. before ++ entry_lines state_name_of latest c.args.entries.now) c.latest.ensures ∙ sym (lines-append from c.args.past.now.entries c.args.entries.now) in
    on_ok _ _ c.write_entries.result (λ written. appends_same _ _ _ _ whole (appends_more _ _ _ _ _ c.in_ok-write.ensures.written written)) c.write_entries.ensures.written

-- the write stopped within those of the journal
pub returns-clause-front : goal.returns-clause-front
returns-clause-front g c =
    let from : ℕ = c.args.past.now.from in
    let before : List ℕ = entry_lines state_name_of from c.args.past.now.entries in
    let rest : List ℕ = entry_lines state_name_of c.latest.result c.args.entries.now in
    let whole : before ++ rest ≡ entry_lines state_name_of from (c.args.past.now.entries ++ c.args.entries.now) =
    ap (λ latest. before ++ entry_lines state_name_of latest c.args.entries.now) c.latest.ensures ∙ sym (lines-append from c.args.past.now.entries c.args.entries.now) in
    on_err _ _ c.write_entries.result (λ front. front_more _ _ _ before rest [] _ c.in_ok-write.ensures.written front (append-nil _ ∙ whole)) c.write_entries.ensures.front

use Rattle.std.proofs.Common.{rules, ◌≡◌, List, ℕ, [], ◌++◌, ap, ◌∙◌, append_assoc, append-nil}
use Rattle.st_trace.specs.Totals.{totals_of}
use Rattle.st_trace.specs.Trace.{machine_line, entry_lines, summary_line}
use Rattle.st_trace.specs.declared.totals.Totals.{Totals}
use Rattle.st_doors.specs.Doors.{DoorEntry}
use Rattle.st_doors.specs.Printing.{state_name_of}
use Rattle.st_doors.proofs.DoorLemmas.{on_ok, on_err}
use Rattle.st_doors.proofs.StreamLemmas.{appends_more, appends_same, front_longer, front_more}
use Rattle.st_doors.proofs.tracing.write_trace.Goals as goal

-- the write stopped within the door's line
pub returns-in_err-write_door-clause-front : goal.returns-in_err-write_door-clause-front
returns-in_err-write_door-clause-front g c =
    let entries : List DoorEntry = c.args.past.now.entries ++ c.args.entries.now in
    let front = front_longer _ _ (machine_line c.args.id c.args.name.now)
    (entry_lines state_name_of c.args.past.now.from entries ++ summary_line (totals_of entries)) c.in_err-write_door.ensures.front in
    search rules

-- the write stopped within the entries' lines
pub returns-in_err-write_lines-clause-front : goal.returns-in_err-write_lines-clause-front
returns-in_err-write_lines-clause-front g c =
    let entries : List DoorEntry = c.args.past.now.entries ++ c.args.entries.now in
    let first : List ℕ = machine_line c.args.id c.args.name.now in
    let lines : List ℕ = entry_lines state_name_of c.args.past.now.from entries in
    let last : List ℕ = summary_line (totals_of entries) in
    let front = front_more _ _ _ first lines last _ c.in_ok-write_door.ensures.written c.in_err-write_lines.ensures.front (append_assoc first lines last) in
    search rules

-- all lines and the last one
pub returns-clause-written : goal.returns-clause-written
returns-clause-written g c =
    let entries : List DoorEntry = c.args.past.now.entries ++ c.args.entries.now in
    let first : List ℕ = machine_line c.args.id c.args.name.now in
    let lines : List ℕ = entry_lines state_name_of c.args.past.now.from entries in
    let last : List ℕ = summary_line c.totals_with.result in
    let whole : (first ++ lines) ++ last ≡ first ++ (lines ++ summary_line (totals_of entries)) =
    append_assoc first lines last ∙ ap (λ (totals : Totals). first ++ (lines ++ summary_line totals)) c.totals_with.ensures in
    on_ok _ _ c.write_summary.result (λ written. appends_same _ _ _ _ whole
    (appends_more _ _ _ _ _ (appends_more _ _ _ _ _ c.in_ok-write_door.ensures.written c.in_ok-write_lines.ensures.written) written)) c.write_summary.ensures.written

-- the write stopped within the last one
pub returns-clause-front : goal.returns-clause-front
returns-clause-front g c =
    let entries : List DoorEntry = c.args.past.now.entries ++ c.args.entries.now in
    let first : List ℕ = machine_line c.args.id c.args.name.now in
    let lines : List ℕ = entry_lines state_name_of c.args.past.now.from entries in
    let last : List ℕ = summary_line c.totals_with.result in
    let whole : (first ++ lines) ++ last ≡ first ++ (lines ++ summary_line (totals_of entries)) =
    append_assoc first lines last ∙ ap (λ (totals : Totals). first ++ (lines ++ summary_line totals)) c.totals_with.ensures in
    on_err _ _ c.write_summary.result (λ front. front_more _ _ _ (first ++ lines) last [] _
    (appends_more _ _ _ _ _ c.in_ok-write_door.ensures.written c.in_ok-write_lines.ensures.written) front (append-nil _ ∙ whole)) c.write_summary.ensures.front

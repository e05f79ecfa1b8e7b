use Rattle.std.proofs.Common.{rules, ◌+◌, ◌≤◌, ℕ, List, [], ◌++◌, drop, length, refl, arith}
use Rattle.st_trace.specs.Trace.{entry_line, entry_lines}
use Rattle.st_trace.proofs.TraceLemmas.{one_line_more}
use Rattle.st_doors.specs.Printing.{state_name_of}
use Rattle.st_doors.proofs.PastLemmas.{lines-end}
use Rattle.st_doors.proofs.StreamLemmas.{appends_more, appends_nothing, appends_same, front_more}
use Rattle.st_doors.proofs.tracing.write_entries.Goals as goal

-- no line is written yet
pub loop-entry-init : goal.loop-entry-init
loop-entry-init g c = (refl, ([], appends_nothing (g.W.Sink.held c.args.writer.now), refl))

-- one line more
pub loop-entry-preserved : goal.loop-entry-preserved
loop-entry-preserved g c =
    let next : ℕ = c.latest_after-latest.result in
    let line : List ℕ = entry_line state_name_of next c.entry-item.result in (
      search rules,
      (
        c.loop-entry.invariant.1.0 ++ line,
        appends_more _ _ _ _ _ c.loop-entry.invariant.1.1 c.in_ok-write_entry.ensures.written,
        one_line_more state_name_of c.loop-entry.latest next c.loop-entry.entry-index c.args.entries.now c.entry-item.result c.loop-entry.invariant.1.0 line line
            (c.loop-entry.invariant.1.0 ++ line) _ c.loop-entry-test.true c.entry-item.is c.loop-entry.invariant.1.2 c.latest_after-latest.ensures refl refl refl,
      ),
    )

-- the write stopped within an entry's line
pub returns-in_err-write_entry-clause-front : goal.returns-in_err-write_entry-clause-front
returns-in_err-write_entry-clause-front g c =
    let next : ℕ = c.latest_after-latest.result in
    let line : List ℕ = entry_line state_name_of next c.entry-item.result in
    let rest : List ℕ = entry_lines state_name_of next (drop (c.loop-entry.entry-index + 1) c.args.entries.now) in
    let more = one_line_more state_name_of c.loop-entry.latest next c.loop-entry.entry-index c.args.entries.now c.entry-item.result c.loop-entry.invariant.1.0 line line
    (c.loop-entry.invariant.1.0 ++ line) _ c.loop-entry-test.true c.entry-item.is c.loop-entry.invariant.1.2 c.latest_after-latest.ensures refl refl refl in
    let front = front_more _ _ _ c.loop-entry.invariant.1.0 line rest _ c.loop-entry.invariant.1.1 c.in_err-write_entry.ensures.front more in
    search rules

-- all lines are written
pub returns-clause-written : goal.returns-clause-written
returns-clause-written g c =
    let past : length c.args.entries.now ≤ c.loop-entry.entry-index = omega arith in
    appends_same _ _ _ _ (lines-end c.loop-entry.latest c.loop-entry.entry-index c.args.entries.now c.loop-entry.invariant.1.0 _ past c.loop-entry.invariant.1.2) c.loop-entry.invariant.1.1

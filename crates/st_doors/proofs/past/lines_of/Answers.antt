use Rattle.std.proofs.Common.{◌≤◌, length, ◌∙◌, arith, string_bytes}
use Rattle.st_trace.proofs.TraceLemmas.{one_line_more}
use Rattle.st_doors.specs.Printing.{state_name_of}
use Rattle.st_doors.proofs.PastLemmas.{lines-end, moment-end, moment-step}
use Rattle.st_doors.proofs.past.lines_of.Goals as goal

-- one line more
pub loop-entry-preserved : goal.loop-entry-preserved
loop-entry-preserved c = (
  one_line_more state_name_of c.loop-entry.latest c.latest_after-latest.result c.loop-entry.entry-index c.args.entries.now c.entry-item.result (string_bytes c.loop-entry.text)
      _ _ _ _ c.loop-entry-test.true c.entry-item.is c.loop-entry.invariant.0 c.latest_after-latest.ensures c.in_ok-line.ensures c.as_str.ensures.value c.in_ok-push_str.ensures.bytes,
  moment-step c.loop-entry.latest c.latest_after-latest.result c.loop-entry.entry-index c.args.entries.now c.entry-item.result _ c.loop-entry-test.true c.entry-item.is
      c.loop-entry.invariant.1 c.latest_after-latest.ensures,
)

-- all lines are there
pub returns-clause-text : goal.returns-clause-text
returns-clause-text c =
    let past : length c.args.entries.now ≤ c.loop-entry.entry-index = omega arith in
    c.shrink_to_fit.ensures.bytes ∙ lines-end c.loop-entry.latest c.loop-entry.entry-index c.args.entries.now (string_bytes c.loop-entry.text) _ past c.loop-entry.invariant.0

pub returns-clause-latest : goal.returns-clause-latest
returns-clause-latest c =
    let past : length c.args.entries.now ≤ c.loop-entry.entry-index = omega arith in
    moment-end c.loop-entry.latest c.loop-entry.entry-index c.args.entries.now _ past c.loop-entry.invariant.1

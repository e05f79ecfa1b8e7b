use Rattle.std.proofs.Common.{◌≡◌, ◌++◌, refl, ap, ◌∙◌, arith, string_bytes}
use Rattle.st_trace.specs.Totals.{totals_of}
use Rattle.st_trace.specs.Trace.{machine_line, entry_lines}
use Rattle.st_trace.proofs.TraceLemmas.{one_line_more, no_line_left}
use Rattle.st_trace.proofs.tracing.trace_text.Goals as goal

-- the machine's line, and no entry's yet
pub loop-entry-init : goal.loop-entry-init
loop-entry-init g c = rw (c.in_ok-text.ensures, c.as_str.ensures.value, c.as_slice-entry-items.ensures) refl

-- one line more
pub loop-entry-preserved : goal.loop-entry-preserved
loop-entry-preserved g c =
    let names = g.N.StateNames.name_is c.args.names.now in
    let first = machine_line c.args.journal.now.id (string_bytes c.args.journal.now.label) in
    let lines = entry_lines names c.args.journal.now.from c.args.journal.now.entries in
    one_line_more names c.loop-entry.latest c.latest_after-latest.result c.loop-entry.entry-index c.as_slice-entry-items.result.now c.entry-item.result
    (string_bytes c.loop-entry.text) c.as_str-in-loop-entry.result.now (string_bytes c.in_ok-line.line) (string_bytes c.push_str.new.self) (first ++ lines)
    c.loop-entry-test.true c.entry-item.is c.loop-entry.invariant c.latest_after-latest.ensures c.in_ok-line.ensures
    c.as_str-in-loop-entry.ensures.value c.in_ok-push_str.ensures.bytes

-- all lines, and the last
pub returns : goal.returns
returns g c =
    let names = g.N.StateNames.name_is c.args.names.now in
    let first = machine_line c.args.journal.now.id (string_bytes c.args.journal.now.label) in
    let lines = entry_lines names c.args.journal.now.from c.args.journal.now.entries in
    let items : c.into_bytes.result.items ≡ string_bytes c.push_str-2.new.self = ap (λ v. v.items) c.into_bytes.ensures.value in
    items ∙ no_line_left names c.loop-entry.latest c.loop-entry.entry-index c.as_slice-entry-items.result.now (string_bytes c.loop-entry.text) first lines
    c.as_str-2.result.now (string_bytes c.in_ok-line-2.line) (string_bytes c.push_str-2.new.self) c.summary.result (totals_of c.args.journal.now.entries)
    (omega arith) c.loop-entry.invariant c.summary.ensures c.in_ok-line-2.ensures c.as_str-2.ensures.value c.in_ok-push_str-2.ensures.bytes

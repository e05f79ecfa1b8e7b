use Rattle.std.proofs.Common.{rules, ◌≡◌, ◌∙◌}
use Rattle.st_trace.specs.Trace.{entry_line}
use Rattle.st_doors.specs.Printing.{state_name_of}
use Rattle.st_doors.proofs.StreamLemmas.{front_same}
use Rattle.st_doors.proofs.tracing.write_entry.Goals as goal

-- the write stopped within the line
pub returns-in_err-write_output-clause-front : goal.returns-in_err-write_output-clause-front
returns-in_err-write_output-clause-front g c =
    let text : c.as_bytes.result.now ≡ entry_line state_name_of c.args.latest c.args.entry.now =
    c.as_bytes.ensures.value ∙ (c.as_str.ensures.value ∙ c.in_ok-line.ensures) in
    let front = front_same _ _ _ _ text c.in_err-write_output.ensures.front in
    search rules

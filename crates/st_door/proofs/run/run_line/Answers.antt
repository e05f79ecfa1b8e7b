use Rattle.std.proofs.Common.{◌≡◌, ap, ◌∙◌}
use Rattle.st_door.specs.Grammar.{line_of}
use Rattle.st_doors.specs.Lines.{without_return}
use Rattle.st_door.specs.Script.{is_fault, printed_of, step_of}
use Rattle.st_doors.proofs.DoorLemmas.{err_always}
use Rattle.st_doors.proofs.StreamLemmas.{appends_same, front_same, nothing_written}
use Rattle.st_door.proofs.run.run_line.Goals as goal

-- the line was not done
pub returns-in_err-effect-clause-front : goal.returns-in_err-effect-clause-front
returns-in_err-effect-clause-front g c = err_always _ _ (nothing_written _ _)

-- there was no memory for what it prints
pub returns-in_err-text-clause-front : goal.returns-in_err-text-clause-front
returns-in_err-text-clause-front g c = err_always _ _ (nothing_written _ _)

-- the write stopped within it
pub returns-in_err-write_output-clause-front : goal.returns-in_err-write_output-clause-front
returns-in_err-write_output-clause-front g c =
    let text : c.as_bytes.result.now ≡ printed_of c.args.number (step_of c.args.script.now (line_of (without_return c.args.bytes.now))).0 =
    c.as_bytes.ensures.value ∙ (c.as_str.ensures ∙ (c.in_ok-text.ensures ∙ ap (printed_of c.args.number) c.in_ok-effect.ensures.effect)) in
    err_always _ _ (front_same _ _ _ _ text c.in_err-write_output.ensures.front)

-- the line was done and written
pub returns-clause-faulty : goal.returns-clause-faulty
returns-clause-faulty g c = c.is_fault-faulty.ensures ∙ ap is_fault c.in_ok-effect.ensures.effect

pub returns-clause-script : goal.returns-clause-script
returns-clause-script g c = c.in_ok-effect.ensures.script

pub returns-clause-written : goal.returns-clause-written
returns-clause-written g c =
    let text : c.as_bytes.result.now ≡ printed_of c.args.number (step_of c.args.script.now (line_of (without_return c.args.bytes.now))).0 =
    c.as_bytes.ensures.value ∙ (c.as_str.ensures ∙ (c.in_ok-text.ensures ∙ ap (printed_of c.args.number) c.in_ok-effect.ensures.effect)) in
    appends_same _ _ _ _ text c.in_ok-write_output.ensures.written

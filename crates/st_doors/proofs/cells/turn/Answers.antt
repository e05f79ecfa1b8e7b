use Rattle.std.proofs.Common.{◌≢◌, Some, sym, ◌∙◌}
use Rattle.st_events.specs.declared.refusal.Refusal.TheVariants.{NoMemory}
use Rattle.st_doors.proofs.CellLemmas.{turn_refusal, turned}
use Rattle.st_doors.proofs.cells.turn.Goals as goal

-- the turn was made
pub returns-in-Ok-clause-told : goal.returns-in-Ok-clause-told
returns-in-Ok-clause-told c =
    let found : turn_refusal c.turn.result ≢ Some NoMemory = λ none. (let never = rw c.in-Ok.is at none in cc) in
    turned c.args.cell.now c.turn.new.self c.in-Some.token c.args.moment c.turn.result c.requires.ready c.requires.work
    (sym c.token_in.ensures.token ∙ c.in-Some.is) found c.turn.ensures.does

-- it was refused, and not for want of memory
pub returns-in_default-refusal : goal.returns-in_default-refusal
returns-in_default-refusal c =
    let found : turn_refusal c.turn.result ≢ Some NoMemory = λ none. c.in_default-refusal.not-NoMemory (let same = rw c.in-Err.is at none in cc) in
    record {
      told = turned c.args.cell.now c.turn.new.self c.in-Some.token c.args.moment c.turn.result c.requires.ready c.requires.work
          (sym c.token_in.ensures.token ∙ c.in-Some.is) found c.turn.ensures.does;
      unchanged = tt;
      ports = c.turn.ensures.ports;
    }

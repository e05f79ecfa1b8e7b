use Rattle.std.proofs.Common.{sym, ◌∙◌}
use Rattle.st_core.specs.Callbacks.{callbacks_of}
use Rattle.st_cell.proofs.CallLemmas.{turn_done, turn_refused}
use Rattle.st_cell.proofs.TellingLemmas.{turns_other}
use Rattle.st_cell.proofs.journaled.Journaled.turn.Goals as goal

-- it is another token
pub returns-then-not-is_token-clause-does : goal.returns-then-not-is_token-clause-does
returns-then-not-is_token-clause-does g c =
    rw c.new.ensures (turns_other (callbacks_of g.M.Module g.M.State.PartialEq.eq) c.args.self.now.cell c.args.token c.args.now (sym c.is_token.ensures ∙ c.if-not-is_token.true))

-- it was served
pub returns-in-Ok-clause-does : goal.returns-in-Ok-clause-does
returns-in-Ok-clause-does g c =
    turn_done (callbacks_of g.M.Module g.M.State.PartialEq.eq) c.args.self.now.cell c.serve.new.self.cell c.args.token c.args.now c.next.result c.in-Ok.ensures.served.0
    (sym c.is_token.ensures ∙ c.if-not-is_token.false) c.in-Ok.ensures.served.1 (sym c.in-Ok.ensures.served.2) c.next.ensures

-- it was refused
pub returns-in-Err-clause-does : goal.returns-in-Err-clause-does
returns-in-Err-clause-does g c =
    rw c.new-in-Err.ensures (turn_refused (callbacks_of g.M.Module g.M.State.PartialEq.eq) c.args.self.now.cell c.serve.new.self.cell c.args.token c.args.now c.in-Err.refusal c.in-Err.ensures.served.0
    (sym c.is_token.ensures ∙ c.if-not-is_token.false) c.in-Err.ensures.served.1 (sym c.in-Err.ensures.served.2))

-- and there is room still
pub returns-in-Ok-clause-room : goal.returns-in-Ok-clause-room
returns-in-Ok-clause-room g c = c.serve.ensures.room

pub returns-in-Err-clause-room : goal.returns-in-Err-clause-room
returns-in-Err-clause-room g c = c.serve.ensures.room

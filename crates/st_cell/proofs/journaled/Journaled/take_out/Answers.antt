use Rattle.std.proofs.Common.{ap, sym, ◌∙◌}
use Rattle.std.specs.Prelude.{Ok, Err}
use Rattle.st_core.specs.Callbacks.{callbacks_of}
use Rattle.st_cell.proofs.TellingLemmas.{takes_out_other, takes_out_own}
use Rattle.st_cell.proofs.journaled.Journaled.take_out.Goals as goal

-- it is another token
pub returns-then-not-is_token-clause-does : goal.returns-then-not-is_token-clause-does
returns-then-not-is_token-clause-does g c =
    rw c.new.ensures (takes_out_other (callbacks_of g.M.Module g.M.State.PartialEq.eq) c.args.self.now.cell c.args.token (sym c.is_token.ensures ∙ c.if-not-is_token.true))

pub returns-then-not-is_token-clause-returned : goal.returns-then-not-is_token-clause-returned
returns-then-not-is_token-clause-returned g c = ap (λ refused. refused.value) c.new.ensures

-- the first message was taken out, if there is one
pub returns-in-Ok-clause-does : goal.returns-in-Ok-clause-does
returns-in-Ok-clause-does g c =
    takes_out_own (callbacks_of g.M.Module g.M.State.PartialEq.eq) c.args.self.now.cell c.take_first.new.self.cell c.args.token (Ok c.in-Ok.message)
    (sym c.is_token.ensures ∙ c.if-not-is_token.false) c.in-Ok.ensures.does

pub returns-in-Ok-clause-room : goal.returns-in-Ok-clause-room
returns-in-Ok-clause-room g c = c.take_first.ensures.room

pub returns-in-Ok-clause-returned : goal.returns-in-Ok-clause-returned
returns-in-Ok-clause-returned g c = tt

-- or that was refused
pub returns-in-Err-clause-does : goal.returns-in-Err-clause-does
returns-in-Err-clause-does g c =
    rw c.new-in-Err.ensures (takes_out_own (callbacks_of g.M.Module g.M.State.PartialEq.eq) c.args.self.now.cell c.take_first.new.self.cell c.args.token
    (Err (record { refusal = c.in-Err.refusal; value = c.args.token })) (sym c.is_token.ensures ∙ c.if-not-is_token.false) c.in-Err.ensures.does)

pub returns-in-Err-clause-room : goal.returns-in-Err-clause-room
returns-in-Err-clause-room g c = c.take_first.ensures.room

pub returns-in-Err-clause-returned : goal.returns-in-Err-clause-returned
returns-in-Err-clause-returned g c = ap (λ refused. refused.value) c.new-in-Err.ensures

use Rattle.std.proofs.Common.{sym, subst, ◌∙◌}
use Rattle.std.specs.Prelude.{Ok, Err}
use Rattle.st_events.specs.declared.refused.Refused.{Refused}
use Rattle.st_events.specs.declared.token.Token.{Token}
use Rattle.st_core.specs.Callbacks.{callbacks_of}
use Rattle.st_cell.specs.Calls.{TakesOut}
use Rattle.st_any_cell.specs.AnyCell.{bare, bare_cell, IsCutBehind}
use Rattle.st_any_cell.proofs.BareLemmas.{bare_take_other, bare_taken}
use Rattle.st_any_cell.proofs.bare.Bare.take_out.Goals as goal

-- the token is another
pub returns-then-not-is_token-clause-does : goal.returns-then-not-is_token-clause-does
returns-then-not-is_token-clause-does g c =
    subst (λ (refused : Refused Token). IsCutBehind (TakesOut (callbacks_of g.M.Module g.M.State.PartialEq.eq) (bare_cell c.args.self.now) c.args.token (Err refused)) (bare_cell c.args.self.now)) (sym c.new.ensures)
    (bare_take_other (callbacks_of g.M.Module g.M.State.PartialEq.eq) c.args.self.now.scheduled c.args.self.now.ports.items c.args.token (sym c.is_token.ensures ∙ c.if-not-is_token.true))

-- a message was taken out, or there was none
pub returns-in-Ok-clause-does : goal.returns-in-Ok-clause-does
returns-in-Ok-clause-does g c =
    bare_taken (callbacks_of g.M.Module g.M.State.PartialEq.eq) c.args.self.now.scheduled c.args.self.now.ports.items c.args.token (Ok c.in-Ok.message) c.take_out.new.self (sym c.is_token.ensures ∙ c.if-not-is_token.false) c.in-Ok.ensures.told

-- it was refused
pub returns-in-Err-clause-does : goal.returns-in-Err-clause-does
returns-in-Err-clause-does g c =
    subst (λ (refused : Refused Token). IsCutBehind (TakesOut (callbacks_of g.M.Module g.M.State.PartialEq.eq) (bare_cell c.args.self.now) c.args.token (Err refused)) (bare c.take_out.new.self c.args.self.now.ports.items)) (sym c.new-in-Err.ensures)
    (bare_taken (callbacks_of g.M.Module g.M.State.PartialEq.eq) c.args.self.now.scheduled c.args.self.now.ports.items c.args.token (Err (record { refusal = c.in-Err.refusal; value = c.args.token })) c.take_out.new.self
    (sym c.is_token.ensures ∙ c.if-not-is_token.false) c.in-Err.ensures.told)

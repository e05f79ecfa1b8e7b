use Rattle.std.proofs.Common.{sym, subst, ◌∙◌}
use Rattle.std.specs.Prelude.{Err}
use Rattle.st_events.specs.declared.refused.Refused.{Refused}
use Rattle.st_events.specs.declared.token.Token.{Token}
use Rattle.st_core.specs.Callbacks.{callbacks_of}
use Rattle.st_cell.specs.Calls.{Turns}
use Rattle.st_any_cell.specs.AnyCell.{bare_cell, IsCutBehind}
use Rattle.st_any_cell.proofs.BareLemmas.{bare_turn_other, bare_turn_done, bare_turn_refused}
use Rattle.st_any_cell.proofs.bare.Bare.turn.Goals as goal

-- the token is another
pub returns-then-not-is_token : goal.returns-then-not-is_token
returns-then-not-is_token g c = record {
  does = subst (λ (refused : Refused Token). IsCutBehind (Turns (callbacks_of g.M.Module g.M.State.PartialEq.eq) (bare_cell c.args.self.now) c.args.token c.args.now (Err refused)) (bare_cell c.args.self.now)) (sym c.new.ensures)
      (bare_turn_other (callbacks_of g.M.Module g.M.State.PartialEq.eq) c.args.self.now.scheduled c.args.self.now.ports.items c.args.token c.args.now (sym c.is_token.ensures ∙ c.if-not-is_token.true));
}

-- it was served
pub returns-in-Ok : goal.returns-in-Ok
returns-in-Ok g c = record {
  does = bare_turn_done (callbacks_of g.M.Module g.M.State.PartialEq.eq) (bare_cell c.args.self.now) (bare_cell c.serve.new.self) c.args.token c.args.now c.next.result
      (sym c.is_token.ensures ∙ c.if-not-is_token.false) c.in-Ok.ensures.served c.next.ensures;
}

-- it was refused
pub returns-in-Err : goal.returns-in-Err
returns-in-Err g c = record {
  does = subst (λ (refused : Refused Token). IsCutBehind (Turns (callbacks_of g.M.Module g.M.State.PartialEq.eq) (bare_cell c.args.self.now) c.args.token c.args.now (Err refused)) (bare_cell c.serve.new.self)) (sym c.new-in-Err.ensures)
      (bare_turn_refused (callbacks_of g.M.Module g.M.State.PartialEq.eq) (bare_cell c.args.self.now) (bare_cell c.serve.new.self) c.args.token c.args.now c.in-Err.refusal
      (sym c.is_token.ensures ∙ c.if-not-is_token.false) c.in-Err.ensures.served);
}

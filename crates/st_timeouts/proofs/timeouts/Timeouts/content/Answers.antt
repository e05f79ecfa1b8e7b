use Rattle.std.proofs.Common.{refl, sym}
use Rattle.st_timeouts.proofs.RowLemmas.{not_found, found_running, content_live, none_live}
use Rattle.st_timeouts.proofs.timeouts.Timeouts.content.Goals as goal

pub returns-in_err-entry : goal.returns-in_err-entry
returns-in_err-entry g c = rw (c.from_residual.ensures, ← c.self.view_is, not_found c.args.timer c.self.inside.entries.rows (sym c.in_err-entry.ensures)) refl

pub returns-then-entry-number : goal.returns-then-entry-number
returns-then-entry-number g c =
    let runs = found_running c.args.timer c.self.inside.entries.rows c.in_ok-entry.entry.now (sym c.in_ok-entry.ensures) in
    rw (← c.self.view_is) (none_live c.args.timer c.args.number _ _ runs c.if-entry-number.true)

pub returns : goal.returns
returns g c =
    let runs = found_running c.args.timer c.self.inside.entries.rows c.in_ok-entry.entry.now (sym c.in_ok-entry.ensures) in
    rw (← c.self.view_is) (content_live c.args.timer c.args.number _ _ runs c.if-entry-number.false)

use Rattle.std.proofs.Common.{◌≡◌, true, false, is_some, refl, sym, ap, ◌∙◌}
use Rattle.st_timeouts.proofs.RowLemmas.{runs_row, content_row, listed_updated}
use Rattle.st_timeouts.proofs.SoundLemmas.{sound_updated}
use Rattle.st_timeouts.proofs.timeouts.Timeouts.update.Goals as goal

pub unreachable-requires : goal.unreachable-requires
unreachable-requires g c =
    let rows = c.self.inside.entries.rows in
    let there = sym (runs_row c.args.timer rows) ∙ (rw (← c.self.view_is) at c.requires) in
    let never : false ≡ true = ap is_some c.in_default.ensures ∙ there in
    cc

pub invariant_of-self : goal.invariant_of-self
invariant_of-self g c =
    let inside = c.self.inside in
    rw c.replace.ensures.replaced
    (sound_updated inside.entries c.args.timer c.args.content c.in-Some.entry.now inside.zeros inside.order c.self.invariant (sym c.in-Some.ensures))

pub returns-clause-returned : goal.returns-clause-returned
returns-clause-returned g c =
    rw (← c.self.view_is)
    (sym c.in-Some-content_in.is ∙ (rw (c.content_in.ensures, c.replace.ensures.returned) (sym (content_row c.args.timer c.self.inside.entries.rows))))

pub returns-clause-updated : goal.returns-clause-updated
returns-clause-updated g c =
    let entries = c.self.inside.entries in
    let updated = listed_updated c.args.timer c.args.content c.in-Some.entry.now entries.rows c.self.invariant.one_each (sym c.in-Some.ensures) in
    rw (← c.self.view_is, c.replace.ensures.replaced, updated) refl

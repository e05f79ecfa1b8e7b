use Rattle.std.proofs.Common.{refl, sym}
use Rattle.st_timeouts.proofs.RowLemmas.{content_row, listed_without}
use Rattle.st_timeouts.proofs.SoundLemmas.{sound_cancelled}
use Rattle.st_timeouts.proofs.timeouts.Timeouts.cancel.Goals as goal

pub invariant_of-self : goal.invariant_of-self
invariant_of-self g c =
    let inside = c.self.inside in
    let forgot = c.forget.ensures in
    rw c.remove.ensures.removed
    (sound_cancelled inside.entries c.args.timer inside.zeros c.forget.new.zeros inside.order c.forget.new.order c.self.invariant forgot.zeros forgot.keys forgot.zeros_places forgot.keys_places)

pub returns-clause-returned : goal.returns-clause-returned
returns-clause-returned g c = rw (← c.self.view_is, c.content_in.ensures, c.remove.ensures.returned) (sym (content_row c.args.timer c.self.inside.entries.rows))

pub returns-clause-cancelled : goal.returns-clause-cancelled
returns-clause-cancelled g c = rw (← c.self.view_is, c.remove.ensures.removed, listed_without c.args.timer c.self.inside.entries.rows) refl

use Rattle.std.proofs.Common.{sym, refl}
use Rattle.st_timeouts.proofs.RowLemmas.{content_row, runs_row, listed_put}
use Rattle.st_timeouts.proofs.SoundLemmas.{zeros_room, keys_room, sound_set}
use Rattle.st_timeouts.proofs.timeouts.Timeouts.set.Goals as goal

pub line_up-requires-clause-zeros_reserved : goal.line_up-requires-clause-zeros_reserved
line_up-requires-clause-zeros_reserved g c =
    let inside = c.self.inside in
    let h = rw (← c.self.view_is) at c.requires.reserved in
    zeros_room inside.entries c.args.timer inside.zeros c.forget.new.zeros inside.order c.self.invariant h c.forget.ensures.zeros c.forget.ensures.zeros_places

pub line_up-requires-clause-keys_reserved : goal.line_up-requires-clause-keys_reserved
line_up-requires-clause-keys_reserved g c =
    let inside = c.self.inside in
    let h = rw (← c.self.view_is) at c.requires.reserved in
    keys_room inside.entries c.args.timer inside.zeros inside.order c.forget.new.order c.self.invariant h c.forget.ensures.keys c.forget.ensures.keys_places

pub put-old-requires : goal.put-old-requires
put-old-requires g c =
    let inside = c.self.inside in
    rw (← runs_row c.args.timer inside.entries.rows) (rw (← c.self.view_is) at c.requires.reserved)

pub invariant_of-self : goal.invariant_of-self
invariant_of-self g c =
    let inside = c.self.inside in
    let h = rw (← c.self.view_is) at c.requires.reserved in
    let forgot = c.forget.ensures in
    rw c.put-old.ensures.put
    (sound_set inside.entries c.args.timer _ inside.zeros c.forget.new.zeros c.line_up.new.zeros inside.order c.forget.new.order c.line_up.new.order
    c.self.invariant h forgot.zeros forgot.keys forgot.zeros_places forgot.keys_places refl c.line_up.ensures.zeros c.line_up.ensures.keys)

pub returns-clause-returned : goal.returns-clause-returned
returns-clause-returned g c = rw (← c.self.view_is, c.content_in.ensures, c.put-old.ensures.returned) (sym (content_row c.args.timer c.self.inside.entries.rows))

pub returns-clause-set : goal.returns-clause-set
returns-clause-set g c =
    let inside = c.self.inside in
    rw (← c.self.view_is, c.put-old.ensures.put, listed_put inside.entries c.args.timer _, runs_row c.args.timer inside.entries.rows, c.due_after-due.ensures) refl

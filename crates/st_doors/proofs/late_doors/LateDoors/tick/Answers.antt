use Rattle.std.proofs.Common.{rules, ◌≡◌, ◌≤◌, ◌<◌, ◌^◌, ◌∙◌, ap, sym, false, arith}
use Rattle.st_doors.specs.Doors.{all_expired_of, ticked_doors}
use Rattle.st_doors.proofs.NotesLemmas.{counted-caught, labels-through, seen-after, ticked-caught, watched-untraced}
use Rattle.st_doors.proofs.late_doors.LateDoors.tick.Goals as goal

pub tick_due-requires-clause-watched : goal.tick_due-requires-clause-watched
tick_due-requires-clause-watched c =
    let none : c.self.inside.traced ≡ false = search rules in
    watched-untraced c.self.inside.late c.self.inside.traced c.self.inside.due.machines c.self.inside.awake.machines c.self.inside.doors none c.self.invariant

-- some doors may have been ticked
pub returns-in_err-expired-clause-same_labels : goal.returns-in_err-expired-clause-same_labels
returns-in_err-expired-clause-same_labels c =
    rw (← c.self.view_is) (labels-through c.self.inside.late c.self.inside.late c.self.inside.doors c.tick_due.new.doors c.tick_due.ensures.same_labels)

-- those of which something was due were
pub returns-then-moment-lt-MOMENT_LIMIT-clause-expired : goal.returns-then-moment-lt-MOMENT_LIMIT-clause-expired
returns-then-moment-lt-MOMENT_LIMIT-clause-expired c =
    let order : c.self.inside.late ≤ c.args.moment = omega (arith, c.if-self-moment.true) in
    let below : c.args.moment < 2 ^ 63 = omega (arith, c.if-moment-lt-MOMENT_LIMIT.true) in
    c.in_ok-expired.ensures.expired ∙ (sym (counted-caught c.self.inside.late c.args.moment c.self.inside.doors order below) ∙ ap (all_expired_of c.args.moment) c.self.view_is)

pub returns-then-moment-lt-MOMENT_LIMIT-clause-ticked : goal.returns-then-moment-lt-MOMENT_LIMIT-clause-ticked
returns-then-moment-lt-MOMENT_LIMIT-clause-ticked c =
    let order : c.self.inside.late ≤ c.args.moment = omega (arith, c.if-self-moment.true) in
    let below : c.args.moment < 2 ^ 63 = omega (arith, c.if-moment-lt-MOMENT_LIMIT.true) in
    seen-after c.self.inside.late c.args.moment c.tick_due.new.due.machines c.tick_due.new.doors order c.in_ok-expired.ensures.after c.tick_due.ensures.watched.0
    ∙ (c.tick_due.ensures.ticked ∙ (sym (ticked-caught c.self.inside.late c.args.moment c.self.inside.doors order below) ∙ ap (ticked_doors c.args.moment) c.self.view_is))

pub returns-then-moment-lt-MOMENT_LIMIT-clause-same_labels : goal.returns-then-moment-lt-MOMENT_LIMIT-clause-same_labels
returns-then-moment-lt-MOMENT_LIMIT-clause-same_labels c =
    rw (← c.self.view_is) (labels-through c.self.inside.late c.args.moment c.self.inside.doors c.tick_due.new.doors c.tick_due.ensures.same_labels)

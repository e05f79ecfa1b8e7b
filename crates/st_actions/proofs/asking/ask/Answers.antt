use Rattle.std.proofs.Common.{refl, sym, ap, ◌∙◌, arith}
use Rattle.std.proofs.lemmas.Bool.{not-true, not-false}
use Rattle.st_actions.proofs.PlanLemmas.{one_before}
use Rattle.st_actions.proofs.asking.ask.Goals as goal

-- it is the last that is asked of its timer
pub returns-then-note-clause-asked : goal.returns-then-note-clause-asked
returns-then-note-clause-asked g c =
    rw (not-true _ (sym c.note.ensures.was_new ∙ c.if-note.true))
    (one_before _ _ _ _ (ap (λ b. b.items) c.push.ensures.pushed) refl)

-- something was asked of it already, by a later action
pub returns-else-note-clause-asked : goal.returns-else-note-clause-asked
returns-else-note-clause-asked g c = rw (not-false _ (sym c.note.ensures.was_new ∙ c.if-note.false)) refl

-- the layout is a hypothesis, and so is the room
pub push-requires : goal.push-requires
push-requires g c = (c.requires.settings_fit, c.requires.reserved)

-- the timer is noted in any case
pub note-requires : goal.note-requires
note-requires g c = c.requires.room

pub returns-then-note-clause-reserved : goal.returns-then-note-clause-reserved
returns-then-note-clause-reserved g c = omega (arith, ap (λ b. b.reserved) c.push.ensures.pushed)

pub returns-then-note-clause-noted : goal.returns-then-note-clause-noted
returns-then-note-clause-noted g c = c.note.ensures.noted

pub returns-then-note-clause-room : goal.returns-then-note-clause-room
returns-then-note-clause-room g c = c.note.ensures.room

pub returns-else-note-clause-reserved : goal.returns-else-note-clause-reserved
returns-else-note-clause-reserved g c = omega arith

pub returns-else-note-clause-noted : goal.returns-else-note-clause-noted
returns-else-note-clause-noted g c = c.note.ensures.noted

pub returns-else-note-clause-room : goal.returns-else-note-clause-room
returns-else-note-clause-room g c = c.note.ensures.room

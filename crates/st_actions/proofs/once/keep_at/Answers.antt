use Rattle.std.proofs.Common.{◌≡◌, ◌||◌, true, false, refl, sym, ap, ◌∙◌, arith}
use Rattle.std.specs.Prelude.{slice_get}
use Rattle.std.proofs.lemmas.Bool.{not-true, not-false}
use Rattle.st_actions.specs.Noted.{is_noted}
use Rattle.st_actions.specs.Once.{overrides}
use Rattle.st_actions.proofs.KeptLemmas.{overrides_is, sets_is}
use Rattle.st_events.proofs.Given.{given}
use Rattle.st_actions.proofs.once.keep_at.Goals as goal

-- the timer was noted
pub returns-then-not-note-clause-kept : goal.returns-then-not-note-clause-kept
returns-then-not-note-clause-kept g c =
    let there = slice_get c.args.actions.now c.args.index in
    let known : overrides c.args.noted.now there ≡ true =
    overrides_is there c.in-Some.timer c.args.noted.now (sym c.timer_at.ensures ∙ c.in-Some.is) ∙ not-false _ (sym c.note.ensures.was_new ∙ c.if-not-note.true) in
    rw known c.replace-overridden.ensures.put_in

pub returns-then-not-note-clause-noted : goal.returns-then-not-note-clause-noted
returns-then-not-note-clause-noted g c = λ other.
    let there = slice_get c.args.actions.now c.args.index in
    c.note.ensures.noted other
    ∙ ap (λ b. b || is_noted other c.args.noted.now) (sym (sets_is there c.in-Some.timer other (sym c.timer_at.ensures ∙ c.in-Some.is)))

-- the timer was not noted
pub returns-else-not-note-clause-kept : goal.returns-else-not-note-clause-kept
returns-else-not-note-clause-kept g c =
    let there = slice_get c.args.actions.now c.args.index in
    let new : overrides c.args.noted.now there ≡ false =
    overrides_is there c.in-Some.timer c.args.noted.now (sym c.timer_at.ensures ∙ c.in-Some.is) ∙ not-true _ (sym c.note.ensures.was_new ∙ c.if-not-note.false) in
    rw new refl

pub returns-else-not-note-clause-noted : goal.returns-else-not-note-clause-noted
returns-else-not-note-clause-noted g c = λ other.
    let there = slice_get c.args.actions.now c.args.index in
    c.note.ensures.noted other
    ∙ ap (λ b. b || is_noted other c.args.noted.now) (sym (sets_is there c.in-Some.timer other (sym c.timer_at.ensures ∙ c.in-Some.is)))

-- the list is the caller's, and so is its layout
pub timer_at-requires : goal.timer_at-requires
timer_at-requires g c = search given

pub replace-overridden-requires : goal.replace-overridden-requires
replace-overridden-requires g c = search given

pub note-requires : goal.note-requires
note-requires g c = c.requires.room

pub returns-then-not-note-clause-room : goal.returns-then-not-note-clause-room
returns-then-not-note-clause-room g c = c.note.ensures.room

pub returns-else-not-note-clause-room : goal.returns-else-not-note-clause-room
returns-else-not-note-clause-room g c = c.note.ensures.room

pub returns-in_default-clause-room : goal.returns-in_default-clause-room
returns-in_default-clause-room g c = omega arith

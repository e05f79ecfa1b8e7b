use Rattle.std.proofs.Common.{◌≡◌, ◌+◌, length, refl, sym, ◌∙◌, arith}
use Rattle.st_actions.specs.Counted.{updates_in}
use Rattle.st_actions.specs.Plan.{inserts_of}
use Rattle.st_actions.specs.Taking.{all_settings_of}
use Rattle.st_agenda.specs.Agenda.{running_on}
use Rattle.st_agenda.specs.Timing.{numbers_taken}
use Rattle.st_core.proofs.NumberLemmas.{without_updates, enough_left}
use Rattle.st_core.proofs.prepared.has_numbers.Goals as goal

-- there is no update
pub returns-then-counts-eq0 : goal.returns-then-counts-eq0
returns-then-counts-eq0 g c =
    let running = running_on c.args.changed c.args.agenda.now.schedule in
    let settings = all_settings_of c.args.actions.now in
    let none : updates_in settings ≡ 0 = sym c.requires.updates ∙ c.if-counts-eq0.true in
    let taken = without_updates running settings none in
    rw (← c.next_number-left.ensures.next_number)
    (enough_left c.next_number-left.result _ c.args.counts.now.numbers (length (inserts_of c.args.actions.now) + numbers_taken running settings)
    c.next_number-left.ensures.bounded refl (omega (arith, c.requires.numbers, taken)))

-- the agenda said how many numbers the updates take
pub returns-in-Some : goal.returns-in-Some
returns-in-Some g c =
    let running = running_on c.args.changed c.args.agenda.now.schedule in
    let settings = all_settings_of c.args.actions.now in
    let sum = rw c.in-Some.is at c.checked_add.ensures in
    rw (← c.next_number-left.ensures.next_number)
    (enough_left c.next_number-left.result _ c.in-Some.numbers (length (inserts_of c.args.actions.now) + numbers_taken running settings)
    c.next_number-left.ensures.bounded refl (omega (arith, sum.1, c.requires.numbers, c.numbers_of_updates-updating.ensures)))

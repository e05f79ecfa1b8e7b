use Rattle.std.proofs.Common.{refl, sym, ◌∙◌}
use Rattle.st_events.specs.declared.action.Action.TheVariants.{Hibernate}
use Rattle.st_actions.specs.Plan.{sends_of}
use Rattle.st_actions.specs.Taking.{as_send}
use Rattle.st_actions.proofs.TakingLemmas.{none_at, first_taken, none_in_front, none_in_front_out, sends_are}
use Rattle.st_events.proofs.Given.{given}
use Rattle.std.proofs.lemmas.List.{length-set}
use Rattle.st_actions.proofs.taking.take_send.Goals as goal

pub unreachable-unreachable : goal.unreachable-unreachable
unreachable-unreachable g c = c.unreachable.type_inv

pub returns-then-not-is_send_at-clause-none_before : goal.returns-then-not-is_send_at-clause-none_before
returns-then-not-is_send_at-clause-none_before g c =
    none_in_front as_send Hibernate refl sends_of sends_are c.args.actions.now c.args.index c.requires.first
    (none_at as_send c.args.actions.now c.args.index (sym c.is_send_at.ensures ∙ c.if-not-is_send_at.true))

pub returns-clause-taken : goal.returns-clause-taken
returns-clause-taken g c =
    rw c.replace.ensures.put_in
    (first_taken as_send Hibernate refl sends_of sends_are c.args.actions.now c.args.index c.in-Some.action c.send_of.result
    (sym c.in-Some.ensures.replaced) c.send_of.ensures c.requires.first)

pub returns-clause-none_before : goal.returns-clause-none_before
returns-clause-none_before g c =
    rw c.replace.ensures.put_in
    (none_in_front_out as_send Hibernate refl sends_of sends_are c.args.actions.now c.args.index c.requires.first)

-- the list is the caller's, and so is its layout
pub is_send_at-requires : goal.is_send_at-requires
is_send_at-requires g c = search given

pub replace-requires : goal.replace-requires
replace-requires g c = search given

-- where there is none, all stays
pub returns-then-not-is_send_at-clause-taken : goal.returns-then-not-is_send_at-clause-taken
returns-then-not-is_send_at-clause-taken g c = refl

pub returns-then-not-is_send_at-clause-as_many : goal.returns-then-not-is_send_at-clause-as_many
returns-then-not-is_send_at-clause-as_many g c = refl

pub send_of-requires : goal.send_of-requires
send_of-requires g c κs = λ within. within

pub unreachable-requires : goal.unreachable-requires
unreachable-requires g c =
    let there = rw (← c.in-None.ensures.replaced) at (sym c.is_send_at.ensures ∙ c.if-not-is_send_at.false) in
    cc

pub returns-clause-as_many : goal.returns-clause-as_many
returns-clause-as_many g c = rw c.replace.ensures.put_in (length-set c.args.actions.now c.args.index Hibernate)

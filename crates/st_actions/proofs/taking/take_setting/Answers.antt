use Rattle.std.proofs.Common.{refl, sym, ◌∙◌}
use Rattle.st_events.specs.declared.action.Action.TheVariants.{Hibernate}
use Rattle.st_actions.specs.Plan.{sends_of}
use Rattle.st_actions.specs.Taking.{all_settings_of, as_setting, as_send}
use Rattle.st_actions.proofs.TakingLemmas.{none_at, some_at, first_taken, other_out, none_in_front, none_in_front_out, settings_are, sends_are, setting_is_no_send}
use Rattle.st_events.proofs.Given.{given}
use Rattle.std.proofs.lemmas.List.{length-set}
use Rattle.st_actions.proofs.taking.take_setting.Goals as goal

pub unreachable-unreachable : goal.unreachable-unreachable
unreachable-unreachable g c = c.unreachable.type_inv

pub returns-then-not-is_setting_at-clause-none_before : goal.returns-then-not-is_setting_at-clause-none_before
returns-then-not-is_setting_at-clause-none_before g c =
    none_in_front as_setting Hibernate refl all_settings_of settings_are c.args.actions.now c.args.index c.requires.first
    (none_at as_setting c.args.actions.now c.args.index (sym c.is_setting_at.ensures ∙ c.if-not-is_setting_at.true))

pub returns-clause-taken : goal.returns-clause-taken
returns-clause-taken g c =
    rw c.replace.ensures.put_in
    (first_taken as_setting Hibernate refl all_settings_of settings_are c.args.actions.now c.args.index c.in-Some.action c.setting_of.result
    (sym c.in-Some.ensures.replaced) c.setting_of.ensures c.requires.first)

pub returns-clause-none_before : goal.returns-clause-none_before
returns-clause-none_before g c =
    rw c.replace.ensures.put_in
    (none_in_front_out as_setting Hibernate refl all_settings_of settings_are c.args.actions.now c.args.index c.requires.first)

pub returns-clause-same_sends : goal.returns-clause-same_sends
returns-clause-same_sends g c =
    let setting = some_at as_setting c.args.actions.now c.args.index c.in-Some.action (sym c.is_setting_at.ensures ∙ c.if-not-is_setting_at.false) (sym c.in-Some.ensures.replaced) in
    rw c.replace.ensures.put_in
    (other_out as_send Hibernate refl sends_of sends_are c.args.actions.now c.args.index c.in-Some.action (sym c.in-Some.ensures.replaced)
    (setting_is_no_send c.in-Some.action setting))

-- the list is the caller's, and so is its layout
pub is_setting_at-requires : goal.is_setting_at-requires
is_setting_at-requires g c = search given

pub replace-requires : goal.replace-requires
replace-requires g c = search given

-- where there is none, all stays
pub returns-then-not-is_setting_at-clause-taken : goal.returns-then-not-is_setting_at-clause-taken
returns-then-not-is_setting_at-clause-taken g c = refl

pub returns-then-not-is_setting_at-clause-same_sends : goal.returns-then-not-is_setting_at-clause-same_sends
returns-then-not-is_setting_at-clause-same_sends g c = refl

pub returns-then-not-is_setting_at-clause-as_many : goal.returns-then-not-is_setting_at-clause-as_many
returns-then-not-is_setting_at-clause-as_many g c = refl

pub setting_of-requires : goal.setting_of-requires
setting_of-requires g c κs = λ within. within

pub unreachable-requires : goal.unreachable-requires
unreachable-requires g c =
    let there = rw (← c.in-None.ensures.replaced) at (sym c.is_setting_at.ensures ∙ c.if-not-is_setting_at.false) in
    cc

pub returns-clause-as_many : goal.returns-clause-as_many
returns-clause-as_many g c = rw c.replace.ensures.put_in (length-set c.args.actions.now c.args.index Hibernate)

use Rattle.std.proofs.Common.{refl, sym, ◌∙◌, append-nil}
use Rattle.st_events.specs.declared.action.Action.TheVariants.{Hibernate}
use Rattle.st_actions.specs.Plan.{replies_of, inserts_of, sends_of}
use Rattle.st_actions.specs.Taking.{all_settings_of, as_reply, as_insert, as_setting, as_send}
use Rattle.st_actions.proofs.TakingLemmas.{none_at, some_at, other_out, last_taken, none_behind, none_behind_out, replies_are, inserts_are, settings_are, sends_are, insert_is_no_reply, insert_is_no_setting, insert_is_no_send}
use Rattle.st_events.proofs.Given.{given}
use Rattle.std.proofs.lemmas.List.{length-set}
use Rattle.st_actions.proofs.taking.take_insert.Goals as goal

pub unreachable-unreachable : goal.unreachable-unreachable
unreachable-unreachable g c = c.unreachable.type_inv

pub returns-then-not-is_insert_at-clause-none_behind : goal.returns-then-not-is_insert_at-clause-none_behind
returns-then-not-is_insert_at-clause-none_behind g c =
    none_behind as_insert Hibernate refl inserts_of inserts_are c.args.actions.now c.args.index c.requires.last
    (none_at as_insert c.args.actions.now c.args.index (sym c.is_insert_at.ensures ∙ c.if-not-is_insert_at.true))

pub returns-clause-taken : goal.returns-clause-taken
returns-clause-taken g c =
    rw c.replace.ensures.put_in
    (last_taken as_insert Hibernate refl inserts_of inserts_are c.args.actions.now c.args.index c.in-Some.action c.insert_of.result
    (sym c.in-Some.ensures.replaced) c.insert_of.ensures c.requires.last)

pub returns-clause-none_behind : goal.returns-clause-none_behind
returns-clause-none_behind g c =
    rw c.replace.ensures.put_in
    (none_behind_out as_insert Hibernate refl inserts_of inserts_are c.args.actions.now c.args.index c.requires.last)

pub returns-clause-same_replies : goal.returns-clause-same_replies
returns-clause-same_replies g c =
    let it = some_at as_insert c.args.actions.now c.args.index c.in-Some.action (sym c.is_insert_at.ensures ∙ c.if-not-is_insert_at.false) (sym c.in-Some.ensures.replaced) in
    rw c.replace.ensures.put_in
    (other_out as_reply Hibernate refl replies_of replies_are c.args.actions.now c.args.index c.in-Some.action (sym c.in-Some.ensures.replaced)
    (insert_is_no_reply c.in-Some.action it))

pub returns-clause-same_settings : goal.returns-clause-same_settings
returns-clause-same_settings g c =
    let it = some_at as_insert c.args.actions.now c.args.index c.in-Some.action (sym c.is_insert_at.ensures ∙ c.if-not-is_insert_at.false) (sym c.in-Some.ensures.replaced) in
    rw c.replace.ensures.put_in
    (other_out as_setting Hibernate refl all_settings_of settings_are c.args.actions.now c.args.index c.in-Some.action (sym c.in-Some.ensures.replaced)
    (insert_is_no_setting c.in-Some.action it))

pub returns-clause-same_sends : goal.returns-clause-same_sends
returns-clause-same_sends g c =
    let it = some_at as_insert c.args.actions.now c.args.index c.in-Some.action (sym c.is_insert_at.ensures ∙ c.if-not-is_insert_at.false) (sym c.in-Some.ensures.replaced) in
    rw c.replace.ensures.put_in
    (other_out as_send Hibernate refl sends_of sends_are c.args.actions.now c.args.index c.in-Some.action (sym c.in-Some.ensures.replaced)
    (insert_is_no_send c.in-Some.action it))

-- the list is the caller's, and so is its layout
pub is_insert_at-requires : goal.is_insert_at-requires
is_insert_at-requires g c = search given

pub replace-requires : goal.replace-requires
replace-requires g c = search given

-- where there is none, all stays
pub returns-then-not-is_insert_at-clause-taken : goal.returns-then-not-is_insert_at-clause-taken
returns-then-not-is_insert_at-clause-taken g c = sym (append-nil (inserts_of c.args.actions.now))

pub returns-then-not-is_insert_at-clause-same_replies : goal.returns-then-not-is_insert_at-clause-same_replies
returns-then-not-is_insert_at-clause-same_replies g c = refl

pub returns-then-not-is_insert_at-clause-same_settings : goal.returns-then-not-is_insert_at-clause-same_settings
returns-then-not-is_insert_at-clause-same_settings g c = refl

pub returns-then-not-is_insert_at-clause-same_sends : goal.returns-then-not-is_insert_at-clause-same_sends
returns-then-not-is_insert_at-clause-same_sends g c = refl

pub returns-then-not-is_insert_at-clause-as_many : goal.returns-then-not-is_insert_at-clause-as_many
returns-then-not-is_insert_at-clause-as_many g c = refl

pub insert_of-requires : goal.insert_of-requires
insert_of-requires g c κs = λ within. within

pub unreachable-requires : goal.unreachable-requires
unreachable-requires g c =
    let there = rw (← c.in-None.ensures.replaced) at (sym c.is_insert_at.ensures ∙ c.if-not-is_insert_at.false) in
    cc

pub returns-clause-as_many : goal.returns-clause-as_many
returns-clause-as_many g c = rw c.replace.ensures.put_in (length-set c.args.actions.now c.args.index Hibernate)

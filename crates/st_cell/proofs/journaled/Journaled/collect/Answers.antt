use Rattle.std.proofs.Common.{Some, None, refl, sym, ap, ◌∙◌, arith, rules}
use Rattle.st_answers.specs.declared.answer.Answer.TheVariants as answer
use Rattle.st_answers.specs.declared.command.Command.TheVariants as command
use Rattle.st_core.specs.Callbacks.{callbacks_of}
use Rattle.st_scheduled.specs.declared.step_answer.StepAnswer.TheVariants as step
use Rattle.st_scheduled.specs.Answered.{collected_as}
use Rattle.st_scheduled.specs.Serving.{refused_with}
use Rattle.st_journal.specs.declared.source.Source.TheVariants as source
use Rattle.st_cell.proofs.TellingLemmas.{room_told, told_left, told_untaken, told_unprepared, told_written, kept_told, room_more, places_got, room_written, room_left}
use Rattle.st_cell.proofs.journaled.Journaled.collect.Goals as goal

-- a collect that would not be counted has no entry
pub returns-then-not-takes_collect-clause-does : goal.returns-then-not-takes_collect-clause-does
returns-then-not-takes_collect-clause-does g c =
    told_untaken (callbacks_of g.M.Module g.M.State.PartialEq.eq) c.args.self.now.cell _ source.Caller (command.Collect c.args.tag)
    (collected_as c.collect.result) c.collect.new.self
    (ap (λ held. held.cell) c.self.view_is) c.collect.ensures.told (λ said counted. counted) (sym c.takes_collect.ensures ∙ c.if-not-takes_collect.true)

pub returns-then-not-takes_collect-clause-room : goal.returns-then-not-takes_collect-clause-room
returns-then-not-takes_collect-clause-room g c =
    room_told (callbacks_of g.M.Module g.M.State.PartialEq.eq) c.args.self.now _ c.collect.new.self (command.Collect c.args.tag) (collected_as c.collect.result)
    c.self.view_is c.collect.ensures.told refl

-- there was no memory for the entry
pub returns-in-Err-clause-does : goal.returns-in-Err-clause-does
returns-in-Err-clause-does g c =
    told_unprepared (callbacks_of g.M.Module g.M.State.PartialEq.eq) c.args.self.now.cell _ c.prepare_kept.new.self.cell source.Caller (command.Collect c.args.tag)
    (ap (λ held. held.cell) c.self.view_is) (sym c.takes_collect.ensures ∙ c.if-not-takes_collect.false) (λ said counted. counted) c.prepare_kept.ensures.same

pub returns-in-Err-clause-room : goal.returns-in-Err-clause-room
returns-in-Err-clause-room g c = room_more c.args.self.now c.prepare_kept.new.self c.prepare_kept.ensures.same c.prepare_kept.ensures.more

-- there are two places, one for this entry
pub write-requires : goal.write-requires
write-requires g c =
    let enough = places_got c.args.self.now c.prepare_kept.new.self _ c.self-2.view_is c.prepare_kept.ensures.same c.in-Ok.ensures.room in
    omega (arith, enough)

-- what was collected was written
pub returns-in-Ok-collect-clause-does : goal.returns-in-Ok-collect-clause-does
returns-in-Ok-collect-clause-does g c =
    let same = ap (λ held. held.cell) c.self-2.view_is ∙ c.prepare_kept.ensures.same in
    let kept = kept_told (callbacks_of g.M.Module g.M.State.PartialEq.eq) c.args.self.now.cell _ _ (command.Collect c.args.tag)
    (step.Collected c.in-Ok-collect.collected) c.collect-2.new.self (answer.Collect c.in-Ok.shown)
    (ap (λ held. held.cell) c.self.view_is) same c.in-Ok-collect.ensures.told refl (sym c.takes_collect.ensures ∙ c.if-not-takes_collect.false)
    (ap (λ shown. Some (answer.Collect shown)) (sym c.in-Ok.ensures.shown)) in
    told_written (callbacks_of g.M.Module g.M.State.PartialEq.eq) c.args.self.now.cell _ c.write.new.self.cell source.Caller (command.Collect c.args.tag)
    (step.Collected c.in-Ok-collect.collected) c.collect-2.new.self (answer.Collect c.in-Ok.shown) same c.in-Ok-collect.ensures.told
    (λ said counted. counted) kept c.write.ensures.written

-- and there is a place for that of a stop
pub returns-in-Ok-collect-clause-room : goal.returns-in-Ok-collect-clause-room
returns-in-Ok-collect-clause-room g c room =
    room_written c.args.self.now c.prepare_kept.new.self _ c.write.new.self c.collect-2.new.self _ c.self-2.view_is c.prepare_kept.ensures.same c.in-Ok.ensures.room
    c.write.ensures.written c.write.ensures.places

-- the collect was refused
pub returns-in-Err-collect-clause-does : goal.returns-in-Err-collect-clause-does
returns-in-Err-collect-clause-does g c =
    told_left (callbacks_of g.M.Module g.M.State.PartialEq.eq) c.args.self.now.cell c.prepare_kept.new.self _ c.match-shown.self source.Caller (command.Collect c.args.tag)
    (refused_with c.in-Err-collect.refusal None) c.collect-2.new.self c.self-2.view_is c.prepare_kept.ensures.same c.in-Err-collect.ensures.told
    (λ said counted. counted) refl (search rules)

pub returns-in-Err-collect-clause-room : goal.returns-in-Err-collect-clause-room
returns-in-Err-collect-clause-room g c room =
    room_left c.args.self.now c.prepare_kept.new.self _ c.match-shown.self c.collect-2.new.self c.self-2.view_is c.prepare_kept.ensures.same c.in-Ok.ensures.room (search rules)

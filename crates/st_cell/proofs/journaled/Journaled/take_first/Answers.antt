use Rattle.std.proofs.Common.{Some, None, refl, sym, ap, ◌∙◌, arith, rules}
use Rattle.st_answers.specs.declared.answer.Answer.TheVariants as answer
use Rattle.st_answers.specs.declared.command.Command.TheVariants as command
use Rattle.st_core.specs.Callbacks.{callbacks_of}
use Rattle.st_scheduled.specs.declared.step_answer.StepAnswer.TheVariants as step
use Rattle.st_scheduled.specs.Answered.{taken_out_as}
use Rattle.st_scheduled.specs.Serving.{refused_with}
use Rattle.st_journal.specs.declared.source.Source.TheVariants as source
use Rattle.st_cell.proofs.TellingLemmas.{room_told, told_left, told_untaken, told_unprepared, told_written, kept_told, room_more, places_got, room_written, room_left}
use Rattle.st_cell.proofs.journaled.Journaled.take_first.Goals as goal

-- a take-out that would not be counted has no entry
pub returns-then-not-takes_take_out-clause-does : goal.returns-then-not-takes_take_out-clause-does
returns-then-not-takes_take_out-clause-does g c =
    told_untaken (callbacks_of g.M.Module g.M.State.PartialEq.eq) c.args.self.now.cell _ source.Caller command.TakeOut (taken_out_as c.take_out.result) c.take_out.new.self
    (ap (λ held. held.cell) c.self.view_is) c.take_out.ensures.told (λ said counted. counted) (sym c.takes_take_out.ensures ∙ c.if-not-takes_take_out.true)

pub returns-then-not-takes_take_out-clause-room : goal.returns-then-not-takes_take_out-clause-room
returns-then-not-takes_take_out-clause-room g c =
    room_told (callbacks_of g.M.Module g.M.State.PartialEq.eq) c.args.self.now _ c.take_out.new.self command.TakeOut (taken_out_as c.take_out.result)
    c.self.view_is c.take_out.ensures.told refl

-- there was no memory for the entry
pub returns-in-Err-clause-does : goal.returns-in-Err-clause-does
returns-in-Err-clause-does g c =
    told_unprepared (callbacks_of g.M.Module g.M.State.PartialEq.eq) c.args.self.now.cell _ c.prepare_first.new.self.cell source.Caller command.TakeOut
    (ap (λ held. held.cell) c.self.view_is) (sym c.takes_take_out.ensures ∙ c.if-not-takes_take_out.false) (λ said counted. counted) c.prepare_first.ensures.same

pub returns-in-Err-clause-room : goal.returns-in-Err-clause-room
returns-in-Err-clause-room g c = room_more c.args.self.now c.prepare_first.new.self c.prepare_first.ensures.same c.prepare_first.ensures.more

-- there are two places, one for this entry
pub write-requires : goal.write-requires
write-requires g c =
    let enough = places_got c.args.self.now c.prepare_first.new.self _ c.self-2.view_is c.prepare_first.ensures.same c.in-Ok.ensures.room in
    omega (arith, enough)

-- the message was written
pub returns-in-Ok-take_out-clause-does : goal.returns-in-Ok-take_out-clause-does
returns-in-Ok-take_out-clause-does g c =
    let same = ap (λ held. held.cell) c.self-2.view_is ∙ c.prepare_first.ensures.same in
    let kept = kept_told (callbacks_of g.M.Module g.M.State.PartialEq.eq) c.args.self.now.cell _ _ command.TakeOut
    (step.TakenOut c.in-Ok-take_out.message) c.take_out-2.new.self (answer.TakeOut c.in-Ok.copy)
    (ap (λ held. held.cell) c.self.view_is) same c.in-Ok-take_out.ensures.told refl (sym c.takes_take_out.ensures ∙ c.if-not-takes_take_out.false)
    (ap (λ copy. Some (answer.TakeOut copy)) (sym c.in-Ok.ensures.copy)) in
    told_written (callbacks_of g.M.Module g.M.State.PartialEq.eq) c.args.self.now.cell _ c.write.new.self.cell source.Caller command.TakeOut
    (step.TakenOut c.in-Ok-take_out.message) c.take_out-2.new.self (answer.TakeOut c.in-Ok.copy) same c.in-Ok-take_out.ensures.told
    (λ said counted. counted) kept c.write.ensures.written

-- and there is a place for that of a stop
pub returns-in-Ok-take_out-clause-room : goal.returns-in-Ok-take_out-clause-room
returns-in-Ok-take_out-clause-room g c room =
    room_written c.args.self.now c.prepare_first.new.self _ c.write.new.self c.take_out-2.new.self _ c.self-2.view_is c.prepare_first.ensures.same c.in-Ok.ensures.room
    c.write.ensures.written c.write.ensures.places

-- the take-out was refused
pub returns-in-Err-take_out-clause-does : goal.returns-in-Err-take_out-clause-does
returns-in-Err-take_out-clause-does g c =
    told_left (callbacks_of g.M.Module g.M.State.PartialEq.eq) c.args.self.now.cell c.prepare_first.new.self _ c.match-copy.self source.Caller command.TakeOut
    (refused_with c.in-Err-take_out.refusal None) c.take_out-2.new.self c.self-2.view_is c.prepare_first.ensures.same c.in-Err-take_out.ensures.told
    (λ said counted. counted) refl (search rules)

pub returns-in-Err-take_out-clause-room : goal.returns-in-Err-take_out-clause-room
returns-in-Err-take_out-clause-room g c room =
    room_left c.args.self.now c.prepare_first.new.self _ c.match-copy.self c.take_out-2.new.self c.self-2.view_is c.prepare_first.ensures.same c.in-Ok.ensures.room (search rules)

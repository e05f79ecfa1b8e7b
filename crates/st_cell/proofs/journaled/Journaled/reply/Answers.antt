use Rattle.std.proofs.Common.{Some, refl, sym, ap, ◌∙◌, arith}
use Rattle.st_answers.specs.declared.answer.Answer.TheVariants as answer
use Rattle.st_answers.specs.declared.command.Command.TheVariants as command
use Rattle.st_core.specs.Callbacks.{callbacks_of}
use Rattle.st_scheduled.specs.declared.step_answer.StepAnswer.TheVariants as step
use Rattle.st_scheduled.specs.Answered.{replied_as}
use Rattle.st_scheduled.specs.Serving.{refused_with}
use Rattle.st_journal.specs.declared.source.Source.TheVariants as source
use Rattle.st_cell.proofs.TellingLemmas.{room_told, told_unwritten, told_untaken, told_unprepared, told_written, room_more, places_got, room_written, room_unwritten}
use Rattle.st_cell.proofs.journaled.Journaled.reply.Goals as goal

-- a reply that would not be counted has no entry
pub returns-then-not-takes_reply-clause-does : goal.returns-then-not-takes_reply-clause-does
returns-then-not-takes_reply-clause-does g c =
    told_untaken (callbacks_of g.M.Module g.M.State.PartialEq.eq) c.args.self.now.cell _ source.Caller (command.Reply c.args.tag c.args.content)
    (replied_as c.reply.result) c.reply.new.self
    (ap (λ held. held.cell) c.self.view_is) c.reply.ensures.told (λ said counted. counted) (sym (c.takes_reply.ensures c.args.tag c.args.content) ∙ c.if-not-takes_reply.true)

pub returns-then-not-takes_reply-clause-room : goal.returns-then-not-takes_reply-clause-room
returns-then-not-takes_reply-clause-room g c =
    room_told (callbacks_of g.M.Module g.M.State.PartialEq.eq) c.args.self.now _ c.reply.new.self (command.Reply c.args.tag c.args.content) (replied_as c.reply.result)
    c.self.view_is c.reply.ensures.told refl

pub returns-then-not-takes_reply-clause-returned : goal.returns-then-not-takes_reply-clause-returned
returns-then-not-takes_reply-clause-returned g c = c.reply.ensures.returned

-- there was no memory for the entry
pub returns-in-Err-clause-does : goal.returns-in-Err-clause-does
returns-in-Err-clause-does g c =
    rw c.new.ensures (told_unprepared (callbacks_of g.M.Module g.M.State.PartialEq.eq) c.args.self.now.cell _ c.prepare.new.self.cell source.Caller
    (command.Reply c.args.tag c.args.content)
    (ap (λ held. held.cell) c.self.view_is) (sym (c.takes_reply.ensures c.args.tag c.args.content) ∙ c.if-not-takes_reply.false) (λ said counted. counted) c.prepare.ensures.same)

pub returns-in-Err-clause-room : goal.returns-in-Err-clause-room
returns-in-Err-clause-room g c = room_more c.args.self.now c.prepare.new.self c.prepare.ensures.same c.prepare.ensures.more

pub returns-in-Err-clause-returned : goal.returns-in-Err-clause-returned
returns-in-Err-clause-returned g c = ap (λ refused. refused.value) c.new.ensures

-- there are two places, one for this entry
pub write-requires : goal.write-requires
write-requires g c =
    let enough = places_got c.args.self.now c.prepare.new.self _ c.self-2.view_is c.prepare.ensures.same c.in-Ok.ensures.room in
    omega (arith, enough)

-- the reply was written
pub returns-in-Ok-reply-clause-does : goal.returns-in-Ok-reply-clause-does
returns-in-Ok-reply-clause-does g c =
    told_written (callbacks_of g.M.Module g.M.State.PartialEq.eq) c.args.self.now.cell _ c.write.new.self.cell source.Caller (command.Reply c.args.tag c.args.content)
    (step.Replied c.in-Ok-reply.taken) c.reply-2.new.self (answer.Reply c.in-Ok-reply.taken)
    (ap (λ held. held.cell) c.self-2.view_is ∙ c.prepare.ensures.same) c.in-Ok-reply.ensures.told
    (λ said counted. counted) refl (rw c.in-Ok.ensures.copy at c.write.ensures.written)

-- and there is a place for that of a stop
pub returns-in-Ok-reply-clause-room : goal.returns-in-Ok-reply-clause-room
returns-in-Ok-reply-clause-room g c room =
    room_written c.args.self.now c.prepare.new.self _ c.write.new.self c.reply-2.new.self _ c.self-2.view_is c.prepare.ensures.same c.in-Ok.ensures.room
    c.write.ensures.written c.write.ensures.places

pub returns-in-Ok-reply-clause-returned : goal.returns-in-Ok-reply-clause-returned
returns-in-Ok-reply-clause-returned g c = tt

-- the reply was refused
pub returns-in-Err-reply-clause-does : goal.returns-in-Err-reply-clause-does
returns-in-Err-reply-clause-does g c =
    told_unwritten (callbacks_of g.M.Module g.M.State.PartialEq.eq) c.args.self.now.cell _ source.Caller (command.Reply c.args.tag c.args.content)
    (refused_with c.in-Err-reply.refused.refusal (Some c.in-Err-reply.refused.value)) c.reply-2.new.self
    (ap (λ held. held.cell) c.self-2.view_is ∙ c.prepare.ensures.same) c.in-Err-reply.ensures.told (λ said counted. counted) refl

pub returns-in-Err-reply-clause-room : goal.returns-in-Err-reply-clause-room
returns-in-Err-reply-clause-room g c room =
    room_unwritten c.args.self.now c.prepare.new.self _ c.reply-2.new.self c.self-2.view_is c.prepare.ensures.same c.in-Ok.ensures.room

pub returns-in-Err-reply-clause-returned : goal.returns-in-Err-reply-clause-returned
returns-in-Err-reply-clause-returned g c = c.in-Err-reply.ensures.returned

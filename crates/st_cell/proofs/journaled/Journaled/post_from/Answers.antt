use Rattle.std.proofs.Common.{Some, refl, sym, ap, ◌∙◌, arith}
use Rattle.std.specs.Prelude.{Ok}
use Rattle.st_answers.specs.declared.answer.Answer.TheVariants as answer
use Rattle.st_answers.specs.declared.command.Command.TheVariants as command
use Rattle.st_core.specs.Callbacks.{callbacks_of}
use Rattle.st_scheduled.specs.declared.step_answer.StepAnswer.TheVariants as step
use Rattle.st_scheduled.specs.Answered.{posted_as}
use Rattle.st_scheduled.specs.Serving.{refused_with}
use Rattle.st_scheduled.proofs.LeftStates.{post_ended}
use Rattle.st_cell.proofs.TellingLemmas.{room_told, told_unwritten, told_untaken, told_unprepared, told_written, room_more, places_got, room_written, room_unwritten}
use Rattle.st_cell.proofs.journaled.Journaled.post_from.Goals as goal

-- a post that would not be counted has no entry
pub returns-then-not-takes_post-clause-does : goal.returns-then-not-takes_post-clause-does
returns-then-not-takes_post-clause-does g c =
    told_untaken (callbacks_of g.M.Module g.M.State.PartialEq.eq) c.args.self.now.cell _ c.args.source (command.Post c.args.entry c.args.content)
    (posted_as c.post.result) c.post.new.self
    (ap (λ held. held.cell) c.self.view_is) c.post.ensures.told (λ said counted. counted) (sym (c.takes_post.ensures c.args.entry c.args.content) ∙ c.if-not-takes_post.true)

pub returns-then-not-takes_post-clause-room : goal.returns-then-not-takes_post-clause-room
returns-then-not-takes_post-clause-room g c =
    room_told (callbacks_of g.M.Module g.M.State.PartialEq.eq) c.args.self.now _ c.post.new.self (command.Post c.args.entry c.args.content) (posted_as c.post.result)
    c.self.view_is c.post.ensures.told (post_ended c.self.inside.scheduled.core.machine c.args.entry c.args.content)

pub returns-then-not-takes_post-clause-ports : goal.returns-then-not-takes_post-clause-ports
returns-then-not-takes_post-clause-ports g c = ap (λ held. held.cell.ports) c.self.view_is

pub returns-then-not-takes_post-clause-returned : goal.returns-then-not-takes_post-clause-returned
returns-then-not-takes_post-clause-returned g c = c.post.ensures.returned

-- there was no memory for the entry
pub returns-in-Err-clause-does : goal.returns-in-Err-clause-does
returns-in-Err-clause-does g c =
    rw c.new.ensures (told_unprepared (callbacks_of g.M.Module g.M.State.PartialEq.eq) c.args.self.now.cell _ c.prepare.new.self.cell c.args.source
    (command.Post c.args.entry c.args.content)
    (ap (λ held. held.cell) c.self.view_is) (sym (c.takes_post.ensures c.args.entry c.args.content) ∙ c.if-not-takes_post.false) (λ said counted. counted) c.prepare.ensures.same)

pub returns-in-Err-clause-room : goal.returns-in-Err-clause-room
returns-in-Err-clause-room g c = room_more c.args.self.now c.prepare.new.self c.prepare.ensures.same c.prepare.ensures.more

pub returns-in-Err-clause-ports : goal.returns-in-Err-clause-ports
returns-in-Err-clause-ports g c = ap (λ cell. cell.ports) c.prepare.ensures.same

pub returns-in-Err-clause-returned : goal.returns-in-Err-clause-returned
returns-in-Err-clause-returned g c = ap (λ refused. refused.value) c.new.ensures

-- there are two places, one for this entry
pub write-requires : goal.write-requires
write-requires g c =
    let enough = places_got c.args.self.now c.prepare.new.self _ c.self-2.view_is c.prepare.ensures.same c.in-Ok.ensures.room in
    omega (arith, enough)

-- the post was written
pub returns-in-Ok-post-clause-does : goal.returns-in-Ok-post-clause-does
returns-in-Ok-post-clause-does g c =
    told_written (callbacks_of g.M.Module g.M.State.PartialEq.eq) c.args.self.now.cell _ c.write.new.self.cell c.args.source (command.Post c.args.entry c.args.content)
    (step.Posted c.in-Ok-post.posted.number c.in-Ok-post.posted.wake) c.post-2.new.self (answer.Post (Ok c.in-Ok-post.posted.number))
    (ap (λ held. held.cell) c.self-2.view_is ∙ c.prepare.ensures.same) c.in-Ok-post.ensures.told (λ said counted. counted) refl (rw c.in-Ok.ensures.copy at c.write.ensures.written)

-- and there is a place for that of a stop
pub returns-in-Ok-post-clause-room : goal.returns-in-Ok-post-clause-room
returns-in-Ok-post-clause-room g c room =
    room_written c.args.self.now c.prepare.new.self _ c.write.new.self c.post-2.new.self _ c.self-2.view_is c.prepare.ensures.same c.in-Ok.ensures.room
    c.write.ensures.written c.write.ensures.places

pub returns-in-Ok-post-clause-ports : goal.returns-in-Ok-post-clause-ports
returns-in-Ok-post-clause-ports g c =
    ap (λ cell. cell.ports) c.write.ensures.written ∙ (ap (λ held. held.cell.ports) c.self-2.view_is ∙ ap (λ cell. cell.ports) c.prepare.ensures.same)

pub returns-in-Ok-post-clause-returned : goal.returns-in-Ok-post-clause-returned
returns-in-Ok-post-clause-returned g c = tt

-- the post was refused
pub returns-in-Err-post-clause-does : goal.returns-in-Err-post-clause-does
returns-in-Err-post-clause-does g c =
    told_unwritten (callbacks_of g.M.Module g.M.State.PartialEq.eq) c.args.self.now.cell _ c.args.source (command.Post c.args.entry c.args.content)
    (refused_with c.in-Err-post.refused.refusal (Some c.in-Err-post.refused.value)) c.post-2.new.self
    (ap (λ held. held.cell) c.self-2.view_is ∙ c.prepare.ensures.same) c.in-Err-post.ensures.told (λ said counted. counted) refl

pub returns-in-Err-post-clause-room : goal.returns-in-Err-post-clause-room
returns-in-Err-post-clause-room g c room =
    room_unwritten c.args.self.now c.prepare.new.self _ c.post-2.new.self c.self-2.view_is c.prepare.ensures.same c.in-Ok.ensures.room

pub returns-in-Err-post-clause-ports : goal.returns-in-Err-post-clause-ports
returns-in-Err-post-clause-ports g c = ap (λ held. held.cell.ports) c.self-2.view_is ∙ ap (λ cell. cell.ports) c.prepare.ensures.same

pub returns-in-Err-post-clause-returned : goal.returns-in-Err-post-clause-returned
returns-in-Err-post-clause-returned g c = c.in-Err-post.ensures.returned

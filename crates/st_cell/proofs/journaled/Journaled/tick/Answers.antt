use Rattle.std.proofs.Common.{None, refl, sym, ap, subst, ◌∙◌, length, arith}
use Rattle.std.specs.Prelude.{Ok}
use Rattle.st_answers.specs.declared.answer.Answer.TheVariants as answer
use Rattle.st_answers.specs.declared.command.Command.TheVariants as command
use Rattle.st_core.specs.Callbacks.{callbacks_of}
use Rattle.st_scheduled.specs.declared.step_answer.StepAnswer.TheVariants as step
use Rattle.st_scheduled.specs.Answered.{ticked_as}
use Rattle.st_scheduled.specs.Serving.{refused_with}
use Rattle.st_scheduled.proofs.LeftStates.{tick_ended}
use Rattle.st_journal.specs.declared.source.Source.TheVariants as source
use Rattle.st_cell.specs.Calls.{IsTold}
use Rattle.st_cell.proofs.CallLemmas.{got_places}
use Rattle.st_cell.proofs.TellingLemmas.{room_told, told_unwritten, told_untaken, told_unprepared, told_written, written_after, room_more, room_written, room_got}
use Rattle.st_cell.proofs.journaled.Journaled.tick.Goals as goal

-- a tick that would not be counted has no entry
pub returns-then-not-takes_tick-clause-does : goal.returns-then-not-takes_tick-clause-does
returns-then-not-takes_tick-clause-does g c =
    told_untaken (callbacks_of g.M.Module g.M.State.PartialEq.eq) c.args.self.now.cell _ source.Caller (command.Tick c.args.now) (ticked_as c.tick.result) c.tick.new.self
    (ap (λ held. held.cell) c.self.view_is) c.tick.ensures.told (λ said counted. counted) (sym c.takes_tick.ensures ∙ c.if-not-takes_tick.true)

pub returns-then-not-takes_tick-clause-room : goal.returns-then-not-takes_tick-clause-room
returns-then-not-takes_tick-clause-room g c =
    room_told (callbacks_of g.M.Module g.M.State.PartialEq.eq) c.args.self.now _ c.tick.new.self (command.Tick c.args.now) (ticked_as c.tick.result)
    c.self.view_is c.tick.ensures.told (tick_ended c.self.inside.scheduled.core.machine c.args.now)

-- there was no memory for the entry
pub returns-then-is_err-clause-does : goal.returns-then-is_err-clause-does
returns-then-is_err-clause-does g c =
    told_unprepared (callbacks_of g.M.Module g.M.State.PartialEq.eq) c.args.self.now.cell _ c.make_room.new.self.cell source.Caller (command.Tick c.args.now)
    (ap (λ held. held.cell) c.self.view_is) (sym c.takes_tick.ensures ∙ c.if-not-takes_tick.false) (λ said counted. counted) c.make_room.ensures.same

pub returns-then-is_err-clause-room : goal.returns-then-is_err-clause-room
returns-then-is_err-clause-room g c = room_more c.args.self.now c.make_room.new.self c.make_room.ensures.same c.make_room.ensures.more

-- there are two places, one for this entry
pub write-requires : goal.write-requires
write-requires g c =
    let got = got_places _ c.make_room.result (sym c.is_err.ensures.value ∙ c.if-is_err.false) c.make_room.ensures.room in
    let before = ap (λ cell. length cell.journal) c.make_room.ensures.same in
    let rest = ap (λ cell. length cell.journal) c.tick_scheduled.ensures.rest in
    let places = c.tick_scheduled.ensures.places in
    omega (arith, got, before, rest, places)

-- the tick was written
pub returns-in-Ok-clause-does : goal.returns-in-Ok-clause-does
returns-in-Ok-clause-does g c =
    let callbacks = callbacks_of g.M.Module g.M.State.PartialEq.eq in
    let new = c.tick_scheduled.new.self.cell.scheduled in
    let said = answer.Tick (Ok c.in-Ok.ticked.expired) in
    told_written callbacks c.args.self.now.cell c.make_room.new.self.cell c.write.new.self.cell source.Caller (command.Tick c.args.now)
    (step.Ticked c.in-Ok.ticked.expired c.in-Ok.ticked.wake) new said c.make_room.ensures.same c.in-Ok.ensures.told (λ said counted. counted) refl
    (written_after c.make_room.new.self.cell c.tick_scheduled.new.self.cell c.write.new.self.cell source.Caller (command.Tick c.args.now) said
    c.tick_scheduled.ensures.rest c.write.ensures.written)

-- and there is a place for that of a stop
pub returns-in-Ok-clause-room : goal.returns-in-Ok-clause-room
returns-in-Ok-clause-room g c room =
    let got = got_places _ c.make_room.result (sym c.is_err.ensures.value ∙ c.if-is_err.false) c.make_room.ensures.room in
    let new = c.tick_scheduled.new.self.cell.scheduled in
    let said = answer.Tick (Ok c.in-Ok.ticked.expired) in
    room_written c.args.self.now c.make_room.new.self c.make_room.new.self c.write.new.self new _ refl c.make_room.ensures.same got
    (written_after c.make_room.new.self.cell c.tick_scheduled.new.self.cell c.write.new.self.cell source.Caller (command.Tick c.args.now) said
    c.tick_scheduled.ensures.rest c.write.ensures.written)
    (c.write.ensures.places ∙ c.tick_scheduled.ensures.places)

-- the tick was refused
pub returns-in-Err-clause-does : goal.returns-in-Err-clause-does
returns-in-Err-clause-does g c =
    let callbacks = callbacks_of g.M.Module g.M.State.PartialEq.eq in
    subst (λ cell. IsTold callbacks c.args.self.now.cell (command.Tick c.args.now) (refused_with c.in-Err.refusal None) cell) (sym c.tick_scheduled.ensures.rest)
    (told_unwritten callbacks c.args.self.now.cell c.make_room.new.self.cell source.Caller (command.Tick c.args.now) (refused_with c.in-Err.refusal None)
    c.tick_scheduled.new.self.cell.scheduled c.make_room.ensures.same c.in-Err.ensures.told (λ said counted. counted) refl)

pub returns-in-Err-clause-room : goal.returns-in-Err-clause-room
returns-in-Err-clause-room g c room =
    let got = got_places _ c.make_room.result (sym c.is_err.ensures.value ∙ c.if-is_err.false) c.make_room.ensures.room in
    room_got c.args.self.now c.make_room.new.self c.tick_scheduled.new.self c.make_room.ensures.same got c.tick_scheduled.ensures.rest c.tick_scheduled.ensures.places

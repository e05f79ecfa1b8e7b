use Rattle.std.proofs.Common.{inr, refl, sym, ap, subst, ◌∙◌, length, arith}
use Rattle.std.specs.Prelude.{None, Ok}
use Rattle.st_events.specs.declared.refusal.Refusal.TheVariants.{NoMemory}
use Rattle.st_core.specs.Callbacks.{callbacks_of}
use Rattle.st_scheduled.specs.declared.step_answer.StepAnswer.TheVariants as step
use Rattle.st_scheduled.specs.Answered.{served_as}
use Rattle.st_scheduled.specs.Serving.{refused_with, Serves}
use Rattle.st_cell.proofs.CallLemmas.{served_unwritten, served_written, same_but_machine, got_places}
use Rattle.st_cell.proofs.JournalLemmas.{longer}
use Rattle.st_cell.proofs.TellingLemmas.{room_more, room_got}
use Rattle.st_cell.proofs.journaled.Journaled.serve.Goals as goal

-- there will be no turn
pub returns-then-not-takes_turn-clause-served : goal.returns-then-not-takes_turn-clause-served
returns-then-not-takes_turn-clause-served g c = c.serve_without_entry.ensures.served

pub returns-then-not-takes_turn-clause-room : goal.returns-then-not-takes_turn-clause-room
returns-then-not-takes_turn-clause-room g c = c.serve_without_entry.ensures.room

-- there was no memory for the entry
pub returns-then-is_err-clause-served : goal.returns-then-is_err-clause-served
returns-then-is_err-clause-served g c =
    (refused_with NoMemory None, inr (c.takes_turn.ensures.turn c.if-not-takes_turn.false, refl, c.make_room.ensures.same), refl)

pub returns-then-is_err-clause-room : goal.returns-then-is_err-clause-room
returns-then-is_err-clause-room g c = room_more c.args.self.now c.make_room.new.self c.make_room.ensures.same c.make_room.ensures.more

-- there are two places, one for this entry
pub write-requires : goal.write-requires
write-requires g c =
    let got = got_places _ c.make_room.result (sym c.is_err.ensures.value ∙ c.if-is_err.false) c.make_room.ensures.room in
    let before = ap (λ cell. length cell.journal) c.make_room.ensures.same in
    let rest = ap (λ cell. length cell.journal) c.serve_scheduled.ensures.rest in
    let places = c.serve_scheduled.ensures.places in
    omega (arith, got, before, rest, places)

-- the turn was written
pub returns-in-Ok-Turned-clause-served : goal.returns-in-Ok-Turned-clause-served
returns-in-Ok-Turned-clause-served g c =
    let same = c.make_room.ensures.same in
    let between = c.serve_scheduled.new.self.cell in
    let rest = same_but_machine c.args.self.now.cell c.make_room.new.self.cell between c.serve_scheduled.ensures.rest same in (
      step.Turned c.in-Ok-Turned.report,
      served_written (callbacks_of g.M.Module g.M.State.PartialEq.eq) c.args.self.now.cell c.write.new.self.cell between c.args.now c.in-Ok-Turned.report
          (subst (λ cell. Serves (callbacks_of g.M.Module g.M.State.PartialEq.eq) cell.scheduled c.args.now (step.Turned c.in-Ok-Turned.report) between.scheduled) same
          (subst (λ said. Serves (callbacks_of g.M.Module g.M.State.PartialEq.eq) c.make_room.new.self.cell.scheduled c.args.now (served_as (Ok said)) between.scheduled) c.in-Ok-Turned.field-0-is c.in-Ok-Turned.ensures.served))
          rest c.write.ensures.written,
      refl,
    )

-- and there is a place for that of a stop
pub returns-in-Ok-Turned-clause-room : goal.returns-in-Ok-Turned-clause-room
returns-in-Ok-Turned-clause-room g c room runs =
    let got = got_places _ c.make_room.result (sym c.is_err.ensures.value ∙ c.if-is_err.false) c.make_room.ensures.room in
    let before = ap (λ cell. length cell.journal) c.make_room.ensures.same in
    let rest = ap (λ cell. length cell.journal) c.serve_scheduled.ensures.rest in
    let written = ap (λ cell. length cell.journal) c.write.ensures.written ∙ longer c.serve_scheduled.new.self.cell.journal _ in
    let places = c.serve_scheduled.ensures.places in
    let after = c.write.ensures.places in
    omega (arith, got, before, rest, written, places, after)

-- the turn was refused
pub returns-in-Err-clause-served : goal.returns-in-Err-clause-served
returns-in-Err-clause-served g c =
    let same = c.make_room.ensures.same in
    let after = c.serve_scheduled.new.self.cell in
    let rest = same_but_machine c.args.self.now.cell c.make_room.new.self.cell after c.serve_scheduled.ensures.rest same in (
      refused_with c.in-Err.refusal None,
      served_unwritten (callbacks_of g.M.Module g.M.State.PartialEq.eq) c.args.self.now.cell after c.args.now (refused_with c.in-Err.refusal None)
          (subst (λ cell. Serves (callbacks_of g.M.Module g.M.State.PartialEq.eq) cell.scheduled c.args.now (refused_with c.in-Err.refusal None) after.scheduled) same c.in-Err.ensures.served) refl rest,
      refl,
    )

pub returns-in-Err-clause-room : goal.returns-in-Err-clause-room
returns-in-Err-clause-room g c room =
    let got = got_places _ c.make_room.result (sym c.is_err.ensures.value ∙ c.if-is_err.false) c.make_room.ensures.room in
    room_got c.args.self.now c.make_room.new.self c.serve_scheduled.new.self c.make_room.ensures.same got c.serve_scheduled.ensures.rest c.serve_scheduled.ensures.places

-- or nothing was done
pub returns-in-Ok-Sending-clause-room : goal.returns-in-Ok-Sending-clause-room
returns-in-Ok-Sending-clause-room g c room =
    let got = got_places _ c.make_room.result (sym c.is_err.ensures.value ∙ c.if-is_err.false) c.make_room.ensures.room in
    room_got c.args.self.now c.make_room.new.self c.serve_scheduled.new.self c.make_room.ensures.same got c.serve_scheduled.ensures.rest c.serve_scheduled.ensures.places

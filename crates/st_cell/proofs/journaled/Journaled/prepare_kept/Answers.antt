use Rattle.std.proofs.Common.{◌≡◌, subst}
use Rattle.std.specs.Prelude.{IfOk}
use Rattle.std.proofs.lemmas.Result.{err_from_is_err_and}
use Rattle.st_requests.specs.Requests.{collected_of, held_for}
use Rattle.st_cell.proofs.TellingLemmas.{on_ok_too}
use Rattle.st_cell.proofs.journaled.Journaled.prepare_kept.Goals as goal

-- the places were got
pub returns-clause-shown : goal.returns-clause-shown
returns-clause-shown g c =
    subst (λ cell. IfOk c.kept_for.result (λ shown. shown ≡ collected_of (held_for cell.scheduled.core.machine.requests c.args.tag))) c.make_room.ensures.same
    c.kept_for.ensures

pub returns-clause-same : goal.returns-clause-same
returns-clause-same g c = c.make_room.ensures.same

pub returns-clause-room : goal.returns-clause-room
returns-clause-room g c = on_ok_too _ c.kept_for.result c.in_ok-make_room.ensures.room

pub returns-clause-more : goal.returns-clause-more
returns-clause-more g c = c.make_room.ensures.more

-- there was no memory for them
pub returns-in_err-make_room-clause-shown : goal.returns-in_err-make_room-clause-shown
returns-in_err-make_room-clause-shown g c = rw (err_from_is_err_and c.from_residual.result c.from_residual.ensures.1).1 tt

pub returns-in_err-make_room-clause-same : goal.returns-in_err-make_room-clause-same
returns-in_err-make_room-clause-same g c = c.make_room.ensures.same

pub returns-in_err-make_room-clause-room : goal.returns-in_err-make_room-clause-room
returns-in_err-make_room-clause-room g c = rw (err_from_is_err_and c.from_residual.result c.from_residual.ensures.1).1 tt

pub returns-in_err-make_room-clause-more : goal.returns-in_err-make_room-clause-more
returns-in_err-make_room-clause-more g c = c.make_room.ensures.more

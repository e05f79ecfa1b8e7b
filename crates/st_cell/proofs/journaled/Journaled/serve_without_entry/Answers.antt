use Rattle.st_core.specs.Callbacks.{callbacks_of}
use Rattle.st_scheduled.specs.Answered.{served_as}
use Rattle.st_cell.proofs.CallLemmas.{served_unwritten, served_uncounted, room_served}
use Rattle.st_cell.proofs.journaled.Journaled.serve_without_entry.Goals as goal

-- what it answered is not counted, and has no entry
pub returns-clause-served : goal.returns-clause-served
returns-clause-served g c =
    let counted = served_uncounted (callbacks_of g.M.Module g.M.State.PartialEq.eq) c.args.self.now.cell.scheduled c.serve_scheduled-served.new.self.cell.scheduled c.args.now (served_as c.serve_scheduled-served.result)
    c.serve_scheduled-served.ensures.served c.requires in (
      served_as c.serve_scheduled-served.result,
      served_unwritten (callbacks_of g.M.Module g.M.State.PartialEq.eq) c.args.self.now.cell c.serve_scheduled-served.new.self.cell c.args.now (served_as c.serve_scheduled-served.result)
          c.serve_scheduled-served.ensures.served counted c.serve_scheduled-served.ensures.rest,
      c.done.ensures,
    )

pub returns-clause-room : goal.returns-clause-room
returns-clause-room g c room =
    room_served (callbacks_of g.M.Module g.M.State.PartialEq.eq) c.args.self.now c.serve_scheduled-served.new.self c.args.now (served_as c.serve_scheduled-served.result)
    c.serve_scheduled-served.ensures.served c.serve_scheduled-served.ensures.rest c.serve_scheduled-served.ensures.places room

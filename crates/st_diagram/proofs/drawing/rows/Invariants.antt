use Rattle.std.proofs.Common.{◌≡◌, take, string_bytes}
use Rattle.st_diagram.specs.Diagram.{rows_of}
use Rattle.st_diagram.proofs.drawing.rows.Given as goal

-- the lines so far
abbrev pub invariant-loop-event : goal.invariant-loop-event
invariant-loop-event g l =
    string_bytes l.text
    ≡ rows_of l.fn.notation (g.N.DiagramNames.state_is l.fn.names) (g.N.DiagramNames.content_is l.fn.names) (g.M.Module.handle_is l.fn.module) l.fn.held (take l.event-index l.fn.events) l.fn.state

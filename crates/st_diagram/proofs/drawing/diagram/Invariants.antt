use Rattle.std.proofs.Common.{◌≡◌, ◌++◌, take, string_bytes, flat_map}
use Rattle.st_diagram.specs.Diagram.{begin_of, rows_of}
use Rattle.st_diagram.proofs.drawing.diagram.Given as goal

-- the beginning, and the lines of the states so far
abbrev pub invariant-loop-state : goal.invariant-loop-state
invariant-loop-state g l =
    let states = g.N.DiagramNames.state_is l.fn.names in
    string_bytes l.text
    ≡ begin_of l.fn.notation states l.fn.states
    ++ flat_map (λ state. rows_of l.fn.notation states (g.N.DiagramNames.content_is l.fn.names) (g.M.Module.handle_is l.fn.module) l.fn.held l.fn.events state) (take l.state-index l.fn.states)

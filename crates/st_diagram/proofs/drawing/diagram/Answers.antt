use Rattle.std.proofs.Common.{arith, string_bytes, ◌∙◌}
use Rattle.st_diagram.specs.Diagram.{begin_of, rows_of, tail_of}
use Rattle.st_diagram.proofs.TextLemmas.{one_piece_more, all_closed}
use Rattle.st_diagram.proofs.drawing.diagram.Goals as goal

-- the lines of one state more
pub loop-state-preserved : goal.loop-state-preserved
loop-state-preserved g c =
    one_piece_more (rows_of c.args.notation (g.N.DiagramNames.state_is c.args.names.now) (g.N.DiagramNames.content_is c.args.names.now) (g.M.Module.handle_is c.args.module.now) c.args.held.now c.args.events.now)
    c.loop-state.state-index c.args.states.now c.state-item.result (begin_of c.args.notation (g.N.DiagramNames.state_is c.args.names.now) c.args.states.now)
    (string_bytes c.loop-state.text) c.as_str.result.now (string_bytes c.push_str.new.self)
    c.loop-state-test.true c.state-item.is c.loop-state.invariant (c.as_str.ensures.value ∙ c.in_ok-lines.ensures) c.in_ok-push_str.ensures.bytes

-- the lines of all states, and the last words
pub returns : goal.returns
returns g c =
    all_closed (rows_of c.args.notation (g.N.DiagramNames.state_is c.args.names.now) (g.N.DiagramNames.content_is c.args.names.now) (g.M.Module.handle_is c.args.module.now) c.args.held.now c.args.events.now)
    c.loop-state.state-index c.args.states.now (begin_of c.args.notation (g.N.DiagramNames.state_is c.args.names.now) c.args.states.now)
    (string_bytes c.loop-state.text) c.tail.result.now (tail_of c.args.notation) (string_bytes c.push_str-2.new.self)
    (omega arith) c.loop-state.invariant c.tail.ensures c.in_ok-push_str-2.ensures.bytes

use Rattle.std.proofs.Common.{[], string_bytes, ◌∙◌}
use Rattle.st_diagram.specs.Diagram.{row_of}
use Rattle.st_diagram.proofs.TextLemmas.{one_piece_more}
use Rattle.st_diagram.proofs.drawing.rows.Goals as goal

-- one line more
pub loop-event-preserved : goal.loop-event-preserved
loop-event-preserved g c =
    one_piece_more (row_of c.args.notation (g.N.DiagramNames.state_is c.args.names.now) (g.N.DiagramNames.content_is c.args.names.now) (g.M.Module.handle_is c.args.module.now) c.args.held.now c.args.state)
    c.loop-event.event-index c.args.events.now c.event-item.result [] (string_bytes c.loop-event.text) c.as_str.result.now (string_bytes c.push_str.new.self)
    c.loop-event-test.true c.event-item.is c.loop-event.invariant (c.as_str.ensures.value ∙ c.in_ok-line.ensures) c.in_ok-push_str.ensures.bytes

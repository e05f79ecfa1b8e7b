use Rattle.std.proofs.Common.{◌≡◌, ◌++◌, take, string_bytes, flat_map}
use Rattle.st_diagram.specs.Sequence.{head_with, entry_lines}
use Rattle.st_diagram.proofs.sequencing.sequence.Given as goal

-- the first words, and the lines of the entries so far
abbrev pub invariant-loop-entry : goal.invariant-loop-entry
invariant-loop-entry g l =
    string_bytes l.text
    ≡ head_with l.fn.label ++ flat_map (entry_lines (g.N.DiagramNames.state_is l.fn.names) (g.N.DiagramNames.content_is l.fn.names)) (take l.entry-index l.fn.entries)

use Rattle.std.proofs.Common.{◌≡◌, ◌++◌, take, string_bytes, flat_map}
use Rattle.st_diagram.specs.Sequence.{reply_line}
use Rattle.st_diagram.proofs.turns.replies.Given as goal

-- the text, and the lines so far
abbrev pub invariant-loop-tag : goal.invariant-loop-tag
invariant-loop-tag l = string_bytes l.text ≡ string_bytes l.initial.text ++ flat_map reply_line (take l.tag-index l.fn.replied)

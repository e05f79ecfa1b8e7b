use Rattle.std.proofs.Common.{◌≡◌, ◌++◌, take, length, string_bytes}
use Rattle.st_diagram.specs.Marks.{marks_of}
use Rattle.st_diagram.proofs.marks.marks.Given as goal

-- the word and the marks so far
abbrev pub invariant-loop-index : goal.invariant-loop-index
invariant-loop-index g l = (string_bytes l.text ≡ l.fn.word ++ marks_of (take l.index l.fn.actions)) × (l.index-end ≡ length l.fn.actions)

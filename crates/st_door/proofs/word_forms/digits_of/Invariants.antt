use Rattle.std.proofs.Common.{◌≡◌, take}
use Rattle.st_door.specs.WordForms.{digits_of}
use Rattle.st_door.proofs.word_forms.digits_of.Given as goal

abbrev pub invariant-loop-c : goal.invariant-loop-c
invariant-loop-c l = l.digits ≡ digits_of (take l.c-index l.word)

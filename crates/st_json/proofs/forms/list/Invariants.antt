use Rattle.std.proofs.Common.{◌≡◌, map, take}
use Rattle.serde_json.specs.View.{view}
use Rattle.st_json.proofs.forms.list.Given as goal

-- the items so far are those of the elements in front
abbrev pub invariant-loop-place : goal.invariant-loop-place
invariant-loop-place g l =
    map view l.items.items ≡ map (g.T.Written.data_is l.by.names.now l.by.contents.now) (take l.place (g.L.Listed.elements_are l.elements))

use Rattle.std.proofs.Common.{◌<◌, length, ap, ◌∙◌, map, arith}
use Rattle.std.proofs.lemmas.List.{take_all}
use Rattle.serde_json.specs.Data.{array}
use Rattle.serde_json.specs.View.{view, items_of}
use Rattle.serde_json.proofs.Views.{view-Array}
use Rattle.st_json.proofs.ListLemmas.{some_there, one_item_more}
use Rattle.st_json.proofs.forms.list.Goals as goal
use Rattle.st_json.proofs.forms.list.Goals.{in-Some+in_ok-add, in_default}

-- one item more
pub loop-place-preserved : goal.loop-place-preserved
loop-place-preserved g c =
    let within : c.loop-place.place < length (g.L.Listed.elements_are c.args.elements.now) = omega (arith, c.count-place-end.ensures, c.loop-place-test.true) in
    elim c.match-at.branch [
      | in-Some+in_ok-add w ↦
          ap (λ items. map view items) (ap (λ v. v.items) w.items-is)
          ∙ one_item_more _ _ _ _ _ _ within w.in-Some.ensures c.loop-place.invariant w.in_ok-add.ensures
      | in_default w ↦ absurd (some_there _ _ within w.in_default.ensures)
    ]

-- all are there
pub returns : goal.returns
returns g c =
    view-Array c.loop-place.items
    ∙ ap (λ items. array (items_of items))
    (c.loop-place.invariant ∙ ap (map (g.T.Written.data_is c.args.by.now.names.now c.args.by.now.contents.now)) (take_all _ _ (omega (arith, c.count-place-end.ensures, c.loop-place-test.false))))

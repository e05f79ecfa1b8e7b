use Rattle.std.proofs.Common.{◌≡◌, ◌*◌, ◌-◌, map, replicate, drop, ap, ◌∙◌, arith}
use Rattle.std.specs.Prelude.{None}
use Rattle.std.proofs.lemmas.Grind.{common_steps}
use Rattle.std.proofs.lemmas.List.{drop-replicate}
use Rattle.st_due.specs.Tournament.{seen}
use Rattle.st_due.proofs.TournamentLemmas.{seen_none, none_won}
use Rattle.st_due.proofs.tournament.Tournament.with_places.Goals as goal

pub returns : goal.returns
returns c =
    let all = c.in_ok-nodes.ensures.items_if_clones_equal (λ y h. h) in
    let places = c.args.places in
    let count = c.in_ok-count.count in
    let twice : count ≡ places * 2 = grind (arith, common_steps) in
    let left : count - places ≡ places = omega (arith, twice) in
    ap (λ nodes. drop places (map seen nodes)) all ∙ (ap (drop places) (seen_none count c.new.result c.new.ensures)
    ∙ (drop-replicate places count None ∙ ap (λ n. replicate n None) left))

pub invariant_of-result : goal.invariant_of-result
invariant_of-result c =
    let all = c.in_ok-nodes.ensures.items_if_clones_equal (λ y h. h) in
    let count = c.in_ok-count.count in
    let twice : count ≡ c.args.places * 2 = grind (arith, common_steps) in
    let nodes = ap (map seen) all ∙ seen_none count c.new.result c.new.ensures in
    rw nodes (none_won count c.args.places (omega (arith, twice)))

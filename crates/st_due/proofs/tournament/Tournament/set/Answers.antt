use Rattle.std.proofs.Common.{◌≡◌, ◌+◌, ◌*◌, ◌/◌, ◌<◌, ◌≤◌, length, map, set, drop, refl, sym, ap, ◌∙◌, arith}
use Rattle.std.specs.Prelude.{None}
use Rattle.std.proofs.lemmas.List.{length-map, length-set, length-drop, map-set, get_or-set_same, drop-set-lt, drop-set-add}
use Rattle.st_due.specs.Tournament.{seen, earlier, node_at}
use Rattle.st_due.proofs.TournamentLemmas.{seen_at, won_but_above, won_up, all_won, beside, earlier_beside}
use Rattle.st_due.proofs.tournament.Tournament.set.Goals as goal

pub loop-node-init : goal.loop-node-init
loop-node-init c =
    let old = c.self.invariant in
    let items = c.self.inside.nodes.items in
    let places = c.self.inside.places in
    let node = places + c.args.place in
    let first = c.new-first.result in
    let count : length items ≡ 2 * places = sym (length-map items seen) ∙ old.counted in
    let asked : c.args.place < length (drop places (map seen items)) = rw c.self.view_is c.requires in
    let room : c.args.place < places = omega (arith, asked, length-drop places (map seen items), old.counted) in
    let within : node < length (map seen items) = omega (arith, room, old.counted) in
    let written = map-set seen items node first in
    record {
      same = refl;
      counted = length-set items node first ∙ count;
      some = omega (arith, room);
      within = omega (arith, room);
      won = rw written (won_but_above (map seen items) node (seen first) places (omega arith) old.won);
      held = sym (ap (λ nodes. node_at nodes node) written ∙ get_or-set_same (map seen items) node (seen first) None within);
      kept = refl;
    }

pub loop-node-preserved : goal.loop-node-preserved
loop-node-preserved c =
    let old = c.loop-node.invariant in
    let items = c.loop-node.self-inside.nodes.items in
    let nodes = map seen items in
    let places = c.loop-node.self-inside.places in
    let node = c.loop-node.node in
    let first = c.earlier-first.result in
    let low : 1 ≤ node / 2 = omega (arith, c.loop-node-test.true) in
    let below : node / 2 < places = omega (arith, old.within) in
    let count : length nodes ≡ 2 * places = length-map items seen ∙ old.counted in
    let there : beside node < length items = omega (arith, below, old.counted) in
    let other = seen_at items (beside node) c.index.result.now there c.index.ensures in
    let is : seen first ≡ earlier (node_at nodes (2 * (node / 2))) (node_at nodes (2 * (node / 2) + 1)) =
    c.earlier-first.ensures ∙ ((λ i. earlier (old.held i) (other i)) ∙ earlier_beside nodes node) in
    let within : node / 2 < length nodes = omega (arith, below, count) in
    let written = map-set seen items (node / 2) first in
    record {
      same = old.same;
      counted = length-set items (node / 2) first ∙ old.counted;
      some = low;
      within = omega (arith, below);
      won = rw written (won_up nodes (node / 2) (seen first) places node refl low within is old.won);
      held = sym (ap (λ all. node_at all (node / 2)) written ∙ get_or-set_same nodes (node / 2) (seen first) None within);
      kept = ap (drop places) written ∙ (drop-set-lt places nodes (node / 2) (seen first) below ∙ old.kept);
    }

-- the node above has not changed, so all are won
pub invariant_of-self-then-is : goal.invariant_of-self-then-is
invariant_of-self-then-is c =
    let old = c.loop-node.invariant in
    let items = c.loop-node.self-inside.nodes.items in
    let nodes = map seen items in
    let places = c.loop-node.self-inside.places in
    let node = c.loop-node.node in
    let below : node / 2 < places = omega (arith, old.within) in
    let within : node / 2 < length items = omega (arith, below, old.counted) in
    let there : beside node < length items = omega (arith, below, old.counted) in
    let other = seen_at items (beside node) c.index.result.now there c.index.ensures in
    let is : seen c.earlier-first.result ≡ earlier (node_at nodes (2 * (node / 2))) (node_at nodes (2 * (node / 2) + 1)) =
    c.earlier-first.ensures ∙ ((λ i. earlier (old.held i) (other i)) ∙ earlier_beside nodes node) in
    let above = seen_at items (node / 2) c.index-in-loop-node.result.now within c.index-in-loop-node.ensures in
    let same : seen c.earlier-first.result ≡ seen c.index-in-loop-node.result.now = c.is.ensures c.if-is.true in
    record { counted = length-map items seen ∙ old.counted; won = all_won nodes places node old.won (sym above ∙ (sym same ∙ is)) }

-- the places are as they were, but for the one that changed
pub returns-after-loop-node : goal.returns-after-loop-node
returns-after-loop-node c =
    let items = c.self.inside.nodes.items in
    let node = c.self.inside.places + c.args.place in
    c.loop-node.invariant.kept
    ∙ (ap (λ n. drop n (map seen (set items node c.new-first.result))) c.loop-node.invariant.same
    ∙ (ap (drop c.self.inside.places) (map-set seen items node c.new-first.result ∙ ap (set (map seen items) node) c.new-first.ensures)
    ∙ (drop-set-add c.self.inside.places (map seen items) c.args.place c.args.machine
    ∙ ap (λ places. set places c.args.place c.args.machine) c.self.view_is)))

pub returns-then-is : goal.returns-then-is
returns-then-is c =
    let items = c.self.inside.nodes.items in
    let node = c.self.inside.places + c.args.place in
    c.loop-node.invariant.kept
    ∙ (ap (λ n. drop n (map seen (set items node c.new-first.result))) c.loop-node.invariant.same
    ∙ (ap (drop c.self.inside.places) (map-set seen items node c.new-first.result ∙ ap (set (map seen items) node) c.new-first.ensures)
    ∙ (drop-set-add c.self.inside.places (map seen items) c.args.place c.args.machine
    ∙ ap (λ places. set places c.args.place c.args.machine) c.self.view_is)))

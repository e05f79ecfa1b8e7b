use Rattle.std.proofs.Common.{◌≡◌, ◌*◌, ◌<◌, ◌≤◌, length, map, drop}
use Rattle.st_due.specs.Tournament.{seen, node_at}
use Rattle.st_due.proofs.TournamentLemmas.{AreWonBut}
use Rattle.st_due.proofs.tournament.Tournament.set.Given as goal

-- all nodes but the one above this are won, and this is the first so far; the places stay as they were when the loop began
abbrev pub invariant-loop-node : goal.invariant-loop-node
invariant-loop-node l = record {
  same : l.self-inside.places ≡ l.initial.self-inside.places;
  counted : length l.self-inside.nodes.items ≡ 2 * l.self-inside.places;
  some : 1 ≤ l.node;
  within : l.node < 2 * l.self-inside.places;
  won : AreWonBut (map seen l.self-inside.nodes.items) l.self-inside.places l.node;
  held : seen l.first ≡ node_at (map seen l.self-inside.nodes.items) l.node;
  kept : drop l.self-inside.places (map seen l.self-inside.nodes.items) ≡ drop l.self-inside.places (map seen l.initial.self-inside.nodes.items);
}

abbrev pub decreases-loop-node : goal.decreases-loop-node
decreases-loop-node l = l.node

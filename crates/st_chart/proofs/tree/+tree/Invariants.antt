-- Lists and objects nest no deeper than `depth` says.
use Rattle.std.proofs.Common.{◌+◌, ◌*◌}
use Rattle.st_chart.proofs.tree.+tree.Given as goal

abbrev pub decreases-fill : goal.decreases-fill
decreases-fill l = 4 * l.depth

abbrev pub decreases-value : goal.decreases-value
decreases-value l = 4 * l.depth + 1

abbrev pub decreases-add : goal.decreases-add
decreases-add l = 4 * l.depth + 2

abbrev pub decreases-items : goal.decreases-items
decreases-items l = 4 * l.depth + 3

abbrev pub decreases-members : goal.decreases-members
decreases-members l = 4 * l.depth + 3

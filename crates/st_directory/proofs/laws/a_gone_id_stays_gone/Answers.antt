use Rattle.st_directory.proofs.GoneLemmas.{removed_gone, led_gone}
use Rattle.st_directory.proofs.laws.a_gone_id_stays_gone.Goals as goal

pub returns-clause-removed : goal.returns-clause-removed
returns-clause-removed g c old id value order there = removed_gone old id value order there

pub returns-clause-stays : goal.returns-clause-stays
returns-clause-stays g c old last between id leads gone = led_gone id old between last leads gone

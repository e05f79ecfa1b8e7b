use Rattle.std.proofs.Common.{ap, map}
use Rattle.st_runq.specs.Ends.{robbed_of}
use Rattle.st_runq.proofs.SeatsLemmas.{both_sides}
use Rattle.st_runq.proofs.seats.thieves_of_others.Goals as goal

pub returns : goal.returns
returns c = both_sides c.args.all.now c.args.own _ _ _ (ap (map robbed_of) c.new-thieves.ensures.items) c.in_ok-add_thieves.ensures.0 c.in_ok-add_thieves-2.ensures

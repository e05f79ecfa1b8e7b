use Rattle.st_core.proofs.ReaderLemmas.{counted_by_numbers}
use Rattle.st_core.proofs.laws.waiting_counts_what_is_accounted.Goals as goal

pub returns : goal.returns
returns g c machine = counted_by_numbers machine.schedule.pending

use Rattle.std.proofs.Common.{◌∙◌, sym}
use Rattle.st_directory.proofs.SlotLemmas.{length-values_from}
use Rattle.st_directory.proofs.values.Values.len.Goals as goal

pub returns : goal.returns
returns g c = rw (← c.self.view_is) (c.len.ensures ∙ sym (length-values_from 0 c.self.inside.slab.slots))

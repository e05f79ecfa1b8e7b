use Rattle.std.proofs.Common.{rules, ◌≡◌, ◌++◌, ◌∙◌, [], List, ap, map}
use Rattle.slab.specs.Slab.{entries}
use Rattle.st_events.specs.declared.machine_id.MachineId.{MachineId}
use Rattle.st_directory.specs.Slots.{ids_of}
use Rattle.st_directory.proofs.SlotLemmas.{id_of_entry, ids_of_entries}
use Rattle.st_directory.proofs.values.Values.ids.Goals as goal

-- nothing is copied yet, and all entries are left
pub loop-slot-init : goal.loop-slot-init
loop-slot-init g c =
    let left : c.into_iter-slot-iterator.result ≡ entries c.self.inside.slab = search rules in
    let empty : c.new-ids.result.items ≡ [] = search rules in
    ap (λ (ids : List MachineId). ids ++ map id_of_entry c.into_iter-slot-iterator.result) empty
    ∙ (ap (λ rest. map id_of_entry rest) left
    ∙ (ids_of_entries 0 c.self.inside.slab.slots ∙ ap (λ held. ids_of held.values) c.self.view_is))

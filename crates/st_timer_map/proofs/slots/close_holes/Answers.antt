use Rattle.std.proofs.Common.{◌≡◌, rules, ap, ◌∙◌}
use Rattle.std.specs.Prelude.{is_some}
use Rattle.std.specs.List.{filter}
use Rattle.std.proofs.lemmas.Fn.{filter_same}
use Rattle.st_timer_map.proofs.SlotLemmas.{rows_closed, known_closed}
use Rattle.st_timer_map.proofs.slots.close_holes.Goals as goal

pub write_places-requires-clause-once_each : goal.write_places-requires-clause-once_each
write_places-requires-clause-once_each g c =
    let items : c.retain.new.self.items ≡ filter is_some c.args.slots.now.items = filter_same _ _ _ (λ x b f' k. search rules) _ _ c.retain.ensures.filtered in
    rw (c.deref.ensures.value, items, rows_closed c.args.slots.now.items) c.requires.once_each

pub write_places-requires-clause-places : goal.write_places-requires-clause-places
write_places-requires-clause-places g c = λ timer knows.
    let items : c.retain.new.self.items ≡ filter is_some c.args.slots.now.items = filter_same _ _ _ (λ x b f' k. search rules) _ _ c.retain.ensures.filtered in
    rw (c.deref.ensures.value, items) (ap is_some (c.requires.tied timer knows) ∙ known_closed timer c.args.slots.now.items)

pub returns-clause-items : goal.returns-clause-items
returns-clause-items g c = filter_same _ _ _ (λ x b f' k. search rules) _ _ c.retain.ensures.filtered

use Rattle.std.proofs.Common.{true, ap, length, arith, ◌∙◌}
use Rattle.std.proofs.lemmas.List.{get_or_read}
use Rattle.st_cell.specs.Calls.{counted_at}
use Rattle.st_cell.specs.Cell.{count_for}
use Rattle.st_cell.proofs.TellingLemmas.{place_of, count_within}
use Rattle.st_cell.proofs.journaled.Journaled.count_post.Goals as goal

-- the port is open
pub overflow_sub-place : goal.overflow_sub-place
overflow_sub-place g c = c.requires.open.0

pub index_mut-requires : goal.index_mut-requires
index_mut-requires g c =
    let place = place_of c.args.port c.self.inside.ports.items c.args.self.now.cell.ports (ap (λ held. length held.cell.ports) c.self.view_is) c.requires.open in
    omega (arith, place)

-- its count is far from the largest number
pub overflow_add-index_mut : goal.overflow_add-index_mut
overflow_add-index_mut g c =
    let place = place_of c.args.port c.self.inside.ports.items c.args.self.now.cell.ports (ap (λ held. length held.cell.ports) c.self.view_is) c.requires.open in
    let below = count_within c.index_mut.result.now (count_for c.args.port c.args.self.now.cell)
    (get_or_read c.self.inside.ports.items _ _ place c.index_mut.ensures.value 0 ∙ ap (λ held. count_for c.args.port held.cell) c.self.view_is) c.requires.bounded in
    omega (arith, below)

-- it is its count alone that goes up
pub returns-clause-counted : goal.returns-clause-counted
returns-clause-counted g c =
    let place = place_of c.args.port c.self.inside.ports.items c.args.self.now.cell.ports (ap (λ held. length held.cell.ports) c.self.view_is) c.requires.open in
    rw (get_or_read c.self.inside.ports.items _ _ place c.index_mut.ensures.value 0)
    (ap (λ held. record held.cell { ports = counted_at c.args.port true held.cell.ports }) c.self.view_is)

pub returns-clause-places : goal.returns-clause-places
returns-clause-places g c = ap (λ held. held.places) c.self.view_is

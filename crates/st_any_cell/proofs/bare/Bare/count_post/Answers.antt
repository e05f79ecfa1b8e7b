use Rattle.std.proofs.Common.{ℕ, ◌+◌, ◌-◌, slice_set, refl, ap, arith}
use Rattle.std.proofs.lemmas.List.{get_or_read}
use Rattle.st_cell.specs.Cell.{count_for}
use Rattle.st_cell.proofs.TellingLemmas.{place_of, count_within}
use Rattle.st_any_cell.specs.AnyCell.{bare_cell}
use Rattle.st_any_cell.proofs.bare.Bare.count_post.Goals as goal

-- the port is open
pub overflow_sub-place : goal.overflow_sub-place
overflow_sub-place g c = c.requires.open.0

pub index_mut-requires : goal.index_mut-requires
index_mut-requires g c =
    let place = place_of c.args.port c.args.self.now.ports.items c.args.self.now.ports.items refl c.requires.open in
    omega (arith, place)

-- its count is far from the largest number
pub overflow_add-index_mut : goal.overflow_add-index_mut
overflow_add-index_mut g c =
    let place = place_of c.args.port c.args.self.now.ports.items c.args.self.now.ports.items refl c.requires.open in
    let below = count_within c.index_mut.result.now (count_for c.args.port (bare_cell c.args.self.now)) (get_or_read c.args.self.now.ports.items _ _ place c.index_mut.ensures.value 0) c.requires.bounded in
    omega (arith, below)

-- it is its count alone that goes up
pub returns : goal.returns
returns g c =
    let place = place_of c.args.port c.args.self.now.ports.items c.args.self.now.ports.items refl c.requires.open in
    record { counted = ap (λ (count : ℕ). record (bare_cell c.args.self.now) { ports = slice_set c.args.self.now.ports.items (c.args.port - 1) (count + 1) }) (get_or_read c.args.self.now.ports.items _ _ place c.index_mut.ensures.value 0) }

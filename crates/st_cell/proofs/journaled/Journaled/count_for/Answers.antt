use Rattle.std.proofs.Common.{ap, ◌∙◌, length, arith}
use Rattle.std.proofs.lemmas.List.{get_or_read}
use Rattle.st_cell.specs.Cell.{count_for}
use Rattle.st_cell.proofs.TellingLemmas.{place_of}
use Rattle.st_cell.proofs.journaled.Journaled.count_for.Goals as goal

-- the port is open
pub index-requires : goal.index-requires
index-requires g c =
    let place = place_of c.args.port c.self.inside.ports.items c.args.self.now.cell.ports (ap (λ held. length held.cell.ports) c.self.view_is) c.requires in
    omega (arith, place)

pub returns : goal.returns
returns g c =
    let place = place_of c.args.port c.self.inside.ports.items c.args.self.now.cell.ports (ap (λ held. length held.cell.ports) c.self.view_is) c.requires in
    get_or_read c.self.inside.ports.items _ _ place c.index.ensures 0 ∙ ap (λ held. count_for c.args.port held.cell) c.self.view_is

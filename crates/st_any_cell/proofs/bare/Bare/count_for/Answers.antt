use Rattle.std.proofs.Common.{refl, arith}
use Rattle.std.proofs.lemmas.List.{get_or_read}
use Rattle.st_cell.proofs.TellingLemmas.{place_of}
use Rattle.st_any_cell.proofs.bare.Bare.count_for.Goals as goal

-- the port is open
pub overflow_sub-port : goal.overflow_sub-port
overflow_sub-port g c = c.requires.0

pub index-requires : goal.index-requires
index-requires g c =
    let place = place_of c.args.port c.args.self.now.ports.items c.args.self.now.ports.items refl c.requires in
    omega (arith, place)

pub returns : goal.returns
returns g c =
    let place = place_of c.args.port c.args.self.now.ports.items c.args.self.now.ports.items refl c.requires in
    get_or_read c.args.self.now.ports.items _ _ place c.index.ensures 0

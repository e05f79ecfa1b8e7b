use Rattle.std.proofs.Common.{◌≡◌, ◌*◌, ◌<◌, length, map, sym, ◌∙◌, arith}
use Rattle.std.proofs.lemmas.List.{length-map}
use Rattle.st_due.specs.Tournament.{seen}
use Rattle.st_due.proofs.TournamentLemmas.{seen_at, first_is_earliest}
use Rattle.st_due.proofs.tournament.Tournament.first.Goals as goal

pub returns : goal.returns
returns c =
    let items = c.self.inside.nodes.items in
    let count : length items ≡ 2 * c.self.inside.places = sym (length-map items seen) ∙ c.self.invariant.counted in
    let within : 1 < length items = omega (arith, count, c.if-self-eq0.false) in
    rw (← c.self.view_is) (c.due.ensures ∙ (seen_at items 1 c.index.result.now within c.index.ensures
    ∙ first_is_earliest (map seen items) c.self.inside.places c.if-self-eq0.false c.self.invariant))

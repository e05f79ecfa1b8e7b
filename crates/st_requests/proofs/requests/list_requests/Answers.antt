use Rattle.std.proofs.Common.{◌≤◌, ◌++◌, ◌∷◌, [], length, map, take, sym, ap, ◌∙◌, arith}
use Rattle.std.proofs.lemmas.List.{map-append, take_more, take_all}
use Rattle.st_requests.specs.Requests.{shown}
use Rattle.st_requests.proofs.requests.list_requests.Goals as goal

pub push_reserved-requires : goal.push_reserved-requires
push_reserved-requires g c = omega (arith, c.loop-request.invariant.listed, c.loop-request.invariant.room, c.loop-request-test.true)

pub loop-request-preserved : goal.loop-request-preserved
loop-request-preserved g c =
    let requests = c.args.requests.now in
    let index = c.loop-request.request-index in
    let so_far = c.loop-request.invariant in
    let item = c.request-item.result in
    let more = take_more requests index item c.loop-request-test.true ∙ ap (λ r. take index requests ++ r ∷ []) (sym c.request-item.is) in
    record {
      items = c.push_reserved.ensures.items ∙ (ap (λ list. list ++ (item.tag, c.shown.result) ∷ []) so_far.items
          ∙ (ap (λ held. map shown (take index requests) ++ (item.tag, held) ∷ []) c.shown.ensures
          ∙ sym (ap (λ some. map shown some) more ∙ map-append shown (take index requests) (item ∷ []))));
      listed = omega (arith, c.push_reserved.ensures.len, so_far.listed);
      room = omega (arith, c.push_reserved.ensures.capacity, so_far.room);
    }

pub returns : goal.returns
returns g c =
    let requests = c.args.requests.now in
    let past : length requests ≤ c.loop-request.request-index = omega arith in
    c.from.ensures ∙ (c.loop-request.invariant.items ∙ ap (λ some. map shown some) (take_all c.loop-request.request-index requests past))

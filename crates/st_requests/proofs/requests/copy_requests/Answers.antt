use Rattle.std.proofs.Common.{◌≤◌, ◌++◌, ◌∷◌, [], length, take, sym, ap, ◌∙◌, arith}
use Rattle.std.proofs.lemmas.List.{take_more, take_all}
use Rattle.st_requests.proofs.requests.copy_requests.Goals as goal

pub loop-request-preserved : goal.loop-request-preserved
loop-request-preserved g c =
    let requests = c.args.requests.now in
    let index = c.loop-request.request-index in
    let so_far = c.loop-request.invariant in
    let more = take_more requests index c.request-item.result c.loop-request-test.true in
    record {
      items = c.push_reserved.ensures.items ∙ (ap (λ l. l ++ c.in_ok-copy.copy ∷ []) so_far.items
          ∙ (ap (λ r. take index requests ++ r ∷ []) (c.in_ok-copy.ensures ∙ c.request-item.is) ∙ sym more));
      listed = omega (arith, c.push_reserved.ensures.len, so_far.listed);
      room = omega (arith, c.push_reserved.ensures.capacity, so_far.room);
    }

pub returns : goal.returns
returns g c =
    let requests = c.args.requests.now in
    let past : length requests ≤ c.loop-request.request-index = omega arith in
    c.from.ensures ∙ (c.loop-request.invariant.items ∙ take_all c.loop-request.request-index requests past)

use Rattle.std.proofs.Common.{◌≡◌, ◌+◌, ◌<◌, ◌≤◌, suc, length, append-nil, arith}
use Rattle.std.proofs.lemmas.List.{take_all, drop_all}
use Rattle.st_requests.proofs.RequestLemmas.{closed_at}
use Rattle.st_requests.proofs.requests.close_all.Goals as goal

pub loop-request-preserved : goal.loop-request-preserved
loop-request-preserved g c =
    let requests = c.args.requests.now in
    let place = c.loop-request.request-index in
    let next : place + 1 ≡ suc place = omega arith in
    let within : place < length requests = omega arith in
    rw c.close.ensures (closed_at c.args.reason requests c.loop-request.requests place (place + 1) c.request-item.result next within c.loop-request.invariant)

pub returns : goal.returns
returns g c =
    let requests = c.args.requests.now in
    let place = c.loop-request.request-index in
    let past : length requests ≤ place = omega arith in
    rw (c.loop-request.invariant, take_all place requests past, drop_all place requests past) (append-nil _)

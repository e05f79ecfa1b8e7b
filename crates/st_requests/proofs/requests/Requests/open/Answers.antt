use Rattle.st_requests.proofs.RequestLemmas.{one_each_opened}
use Rattle.st_requests.proofs.requests.Requests.open.Goals as goal

pub invariant_of-self-2 : goal.invariant_of-self-2
invariant_of-self-2 g c =
    rw (c.push_reserved.ensures.items, c.in_ok-reserve.ensures.items)
    (one_each_opened c.args.tag c.self.inside.requests.items (rw c.self.view_is c.requires) c.self.invariant)

use Rattle.std.proofs.Common.{◌≡◌, ◌≤◌, length, map, take}
use Rattle.std.specs.Vec.{vec_len, vec_capacity}
use Rattle.st_requests.specs.Requests.{shown}
use Rattle.st_requests.proofs.requests.list_requests.Given as goal

-- the requests so far are listed, and there is room for all
abbrev pub invariant-loop-request : goal.invariant-loop-request
invariant-loop-request g l = record {
  items : l.list.items ≡ map shown (take l.request-index l.requests);
  listed : vec_len l.list ≡ l.request-index;
  room : length l.requests ≤ vec_capacity l.list;
}

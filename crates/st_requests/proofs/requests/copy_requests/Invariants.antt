use Rattle.std.proofs.Common.{◌≡◌, ◌≤◌, length, take}
use Rattle.std.specs.Vec.{vec_len, vec_capacity}
use Rattle.st_requests.proofs.requests.copy_requests.Given as goal

-- the requests so far are copied, and there is room for all
abbrev pub invariant-loop-request : goal.invariant-loop-request
invariant-loop-request g l = record {
  items : l.copies.items ≡ take l.request-index l.requests;
  listed : vec_len l.copies ≡ l.request-index;
  room : length l.requests ≤ vec_capacity l.copies;
}

use Rattle.std.proofs.Common.{◌≡◌, ◌++◌, take, drop}
use Rattle.st_requests.specs.Requests.{closed_by}
use Rattle.st_requests.proofs.requests.close_all.Given as goal

-- those before the place are closed, the others as they were
abbrev pub invariant-loop-request : goal.invariant-loop-request
invariant-loop-request g l = l.requests ≡ closed_by l.reason (take l.request-index l.initial.requests) ++ drop l.request-index l.initial.requests

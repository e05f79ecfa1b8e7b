use Rattle.std.proofs.Common.{◌≡◌}
use Rattle.std.specs.Option.{IfSome, IsSome}
use Rattle.st_service.proofs.slices.slice.Given as goal

-- what the last turn answered holds of the slice's token and moment
abbrev pub invariant-loop : goal.invariant-loop
invariant-loop g l = g.M.Machines.served l.token l.now l.answer
    × IfSome l.answer (λ back. back ≡ l.token)
    × (IsSome l.hand.message → IsSome l.answer)

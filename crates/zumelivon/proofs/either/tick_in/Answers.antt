-- A tick that is not refused is of a machine that is there.
use Rattle.std.proofs.Common.{◌≡◌, None, refl}
use Rattle.st_embedded.specs.Table.{machine_at}
use Rattle.zumelivon.proofs.CallLemmas.{ok_no_err, there, unlike}
use Rattle.zumelivon.proofs.either.tick_in.Goals as goal

pub returns-in-Ok : goal.returns-in-Ok
returns-in-Ok g c =
    let none : machine_at c.args.machines.now c.args.id ≡ None → ⊥ = λ absent. ok_no_err _ _ (c.in-Ok.ensures.absent absent) in
    record {
      does = (
        (λ done. c.in-Ok.ensures.does (there (machine_at c.args.machines.now c.args.id) none)),
        (λ no. absurd (no refl)),
        (λ absent. absurd (none absent)),
        (λ no. absurd (no refl)),
      );
      not_closed = unlike 0 105 refl;
    }

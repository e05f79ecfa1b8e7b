-- What was refused was the start with the values that were read.
use Rattle.std.proofs.Common.{◌≡◌, List, Option, IfSome, map, subst}
use Rattle.st_embedded.specs.Described.{WhyNotBegun}
use Rattle.st_table.specs.declared.interpreter.Interpreter.{Interpreter}
use Rattle.st_table.specs.declared.value.Value.{Value}
use Rattle.zumelivon.specs.Signals.{IsOf, value_in}
use Rattle.zumelivon.proofs.described.start.Goals as goal

pub returns-clause-why : goal.returns-clause-why
returns-clause-why c =
    let values_are : c.in-Ok-Some-values_of.values ≡ map (value_in c.args.bytes.now) c.args.values.now =
    subst (λ (read : Option (List Value)). IfSome read (λ values. values ≡ map (value_in c.args.bytes.now) c.args.values.now)) c.in-Ok-Some-values_of.field-0-is
    c.in-Ok-Some-values_of.ensures.values in
    λ done ignored stopped none bad short. (
      c.in-Ok-Some.interpreter,
      subst (λ (found : Option Interpreter). IfSome found (IsOf c.args.all.now c.args.description)) c.in-Ok-Some.field-0-is c.in-Ok-Some.ensures.some,
      (
        c.in-Err-start_described.refusal,
        c.number_of.ensures.number,
        subst (λ (values : List Value). WhyNotBegun c.in-Ok-Some.interpreter values c.args.all.now.next_id c.args.now c.in-Err-start_described.refusal)
            values_are c.in-Err-start_described.ensures.refusals,
      ),
    )

use Rattle.std.proofs.Common.{◌≡◌, Bool, List, ◌++◌, Option, Some, None, refl, sym, ap, ◌∙◌}
use Rattle.std.specs.Prelude.{slice_get}
use Rattle.std.specs.List.{find}
use Rattle.std.specs.Option.{option_or}
use Rattle.std.proofs.lemmas.List.Folds.{find-append}
use Rattle.st_table.specs.declared.rule.Rule.{Rule}
use Rattle.st_table.specs.Matching.{fits, rules_in}
use Rattle.st_table.proofs.matching.rule_of.Goals as goal

-- what the state's rules have comes first, and without it what the others have
first_of : (p : Rule → Bool) (own read any : List Rule) (o r : Option Rule) → read ≡ own → o ≡ find p read → r ≡ option_or o (find p any) → r ≡ find p (own ++ any)
first_of p own read any o r is found gives =
    gives ∙ ap (λ x. option_or x (find p any)) (found ∙ ap (find p) is) ∙ sym (find-append p own any)

pub returns-in-Some : goal.returns-in-Some
returns-in-Some c =
    first_of (fits c.args.kind c.args.signal.now c.args.registers.now) (rules_in (slice_get c.args.table.now.states c.args.state.number)) c.rules_in.result.now c.args.table.now.any (Some c.in-Some.rule.now) (Some c.in-Some.rule.now)
    c.rules_in.ensures c.in-Some.ensures refl

pub returns-in-None : goal.returns-in-None
returns-in-None c =
    first_of (fits c.args.kind c.args.signal.now c.args.registers.now) (rules_in (slice_get c.args.table.now.states c.args.state.number)) c.rules_in.result.now c.args.table.now.any None _
    c.rules_in.ensures c.in-None.ensures (c.first_fit-in-None.ensures ∙ ap (find (fits c.args.kind c.args.signal.now c.args.registers.now)) c.as_slice.ensures)

use Rattle.std.proofs.Common.{◌≡◌, Option, Some, None, Bor, is_some, refl, sym, ap, ◌∙◌}
use Rattle.std.specs.Prelude.{option_copied}
use Rattle.st_timeouts.proofs.RowLemmas.{runs_row}
use Rattle.st_timeouts.proofs.timeouts.Timeouts.runs.Goals as goal

some_copied : {X : Type 0} (found : Option (Bor X)) → is_some found ≡ is_some (option_copied found)
some_copied None = refl
some_copied (Some one) = refl

pub returns : goal.returns
returns g c =
    rw (← c.self.view_is)
    (c.is_some.ensures ∙ (some_copied c.get.result ∙ (ap is_some c.get.ensures ∙ sym (runs_row c.args.timer c.self.inside.entries.rows))))

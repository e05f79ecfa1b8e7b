use Rattle.std.proofs.Common.{◌≡◌, ap, sym, ◌∙◌, map}
use Rattle.clap.specs.Words.{App, app_of, fault_of, takes}
use Rattle.st_words.specs.Program.{statem}
use Rattle.st_words.proofs.ProgramLemmas.{is_simple_as_statem}
use Rattle.st_words.proofs.words.read_words.Goals as goal

pub returns-in-Ok-clause-faults : goal.returns-in-Ok-clause-faults
returns-in-Ok-clause-faults g c =
    let app : app_of c.in_ok-program.program ≡ statem = c.in_ok-program.ensures in
    ap (λ (a : App). fault_of a (map g.S.AsStr.text c.args.words.now)) (sym app) ∙ c.in-Ok.ensures.kinds (is_simple_as_statem _ app)

pub returns-in-Err-clause-refusals : goal.returns-in-Err-clause-refusals
returns-in-Err-clause-refusals g c =
    let app : app_of c.in_ok-program.program ≡ statem = c.in_ok-program.ensures in
    λ taken. c.in-Err.ensures.passes (ap (λ (a : App). takes a (map g.S.AsStr.text c.args.words.now)) app ∙ taken)

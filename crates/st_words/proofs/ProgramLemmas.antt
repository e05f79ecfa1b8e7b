-- What clap's definitions say of the program.
use Rattle.std.proofs.Common.{◌≡◌, ◌∙◌, true, refl, ap}
use Rattle.clap.specs.Words.{App, is_simple_and_free}
use Rattle.clap.proofs.OnLiterals.{clap_on_literals}
use Rattle.st_words.specs.Program.{statem}

-- no option has a rule on another, and none changes how words are read
pub statem_is_simple_and_free : is_simple_and_free statem ≡ true
unfolding clap_on_literals
statem_is_simple_and_free = refl

pub is_simple_as_statem : (app : App) → app ≡ statem → is_simple_and_free app ≡ true
is_simple_as_statem app is_statem = ap is_simple_and_free is_statem ∙ statem_is_simple_and_free

use Rattle.std.proofs.Common.{◌≡◌, true, rules}
use Rattle.st_door.specs.WordForms.{is_name}
use Rattle.st_door.proofs.WordLemmas.{name_is_text}
use Rattle.st_door.proofs.line.name_of.Goals as goal

pub returns-in-Err : goal.returns-in-Err
returns-in-Err c =
    let name : is_name c.args.word.now ≡ true = search rules in
    absurd (c.in-Err.ensures.cases.0 (name_is_text _ name))

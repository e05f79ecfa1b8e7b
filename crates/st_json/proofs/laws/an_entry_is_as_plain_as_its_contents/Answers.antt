use Rattle.st_json.proofs.PlainLemmas.{plain_entry}
use Rattle.st_json.proofs.laws.an_entry_is_as_plain_as_its_contents.Goals as goal

pub returns : goal.returns
returns g c contents names entry are = plain_entry _ are names entry

use Rattle.st_requests.specs.Requests.{held_for}
use Rattle.st_core.proofs.ReaderLemmas.{shown_is_collected, collected_is_shown}
use Rattle.st_core.proofs.laws.peek_shows_what_collect_hands_out.Goals as goal

pub returns : goal.returns
returns g c machine tag content =
    (shown_is_collected (held_for machine.requests tag) content, collected_is_shown (held_for machine.requests tag) content)

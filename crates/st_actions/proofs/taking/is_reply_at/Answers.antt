use Rattle.st_events.proofs.Given.{given}
use Rattle.st_actions.proofs.taking.is_reply_at.Goals as goal

-- the list is the caller's, and so is its layout
pub get-requires : goal.get-requires
get-requires g c = search given

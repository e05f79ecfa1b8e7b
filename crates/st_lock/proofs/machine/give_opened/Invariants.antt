use Rattle.st_lock.specs.Claims.{claim}
use Rattle.st_lock.proofs.machine.give_opened.Given as goal

-- the port that was opened is claimed, with its counter
abbrev pub ghosts-give_picked : goal.ghosts-give_picked
ghosts-give_picked g a = record { claim = claim a.port a.counter.now }

-- What a call requires of the layout of a list is a hypothesis where the list came from the caller: no lemma is wanted.
use Rattle.std.proofs.Common.{refl}

pub ruleset given = (tt, refl)

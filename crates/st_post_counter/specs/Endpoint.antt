-- What a contract sees of a counter and of an endpoint.
use Rattle.atomic_table.specs.Seated.{TableId}
use Rattle.st_post_counter.specs.declared.seen.Seen.{Seen}

-- which counter it is
abbrev pub CounterId : Type 0
CounterId = TableId

-- of which counter an endpoint is, and what it has seen
pub record EndpointState (T : Type 0) : Type 0 where
  pub counter : CounterId
  pub seen : Seen T

-- A port: its endpoint has seen its posts, and its claim is of the machine's endpoint on the same counter.
use Rattle.std.specs.Prelude.{◌≡◌, List, [], ◌∷◌, ◌++◌, length}
use Rattle.std.specs.Arc.{arc_value}
use Rattle.st_events.specs.declared.machine_id.MachineId.{MachineId}
use Rattle.st_journal.specs.declared.post.Post.{Post}
use Rattle.st_claim_lock.specs.Holders.{lock_id, lock_of, Claims}
use Rattle.st_post_counter.specs.Seen.{IsPart}
use Rattle.st_lock.specs.Claims.{claim}
use Rattle.st_lock.specs.declared.port.Port.TheInside.{Inside}

-- what a contract sees of a port: the id of its machine, and what was posted through it, in order
pub record PortState (C : Type 0) : Type 0 where
  pub machine : MachineId
  pub posts : List (Post C)

-- nothing was posted yet
abbrev pub port_at_first : {C : Type 0} → MachineId → PortState C
port_at_first id = record { machine = id; posts = [] }

-- an event was posted too
abbrev pub posted : {C : Type 0} → Post C → PortState C → PortState C
posted post port = record port { posts = port.posts ++ post ∷ [] }

-- a port
pub record IsPort {M S D C A : Type 0} (port : Inside M S D C A) : Type 0 where
  pub counter : port.end.counter ≡ port.counter
  pub part : IsPart port.end.seen
  pub count : port.count ≡ length port.end.seen.posts
  pub lock : lock_of port.holder ≡ lock_id (arc_value port.machine).lock
  pub claims : Claims port.holder (claim port.number port.counter)

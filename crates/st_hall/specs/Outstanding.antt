-- Which tokens are kept.
use Rattle.std.specs.Prelude.{Bool, true, false, if◌then◌else◌, Some, None}
use Rattle.st_events.specs.declared.refusal.Refusal.{Refusal}
use Rattle.st_events.specs.declared.refusal.Refusal.TheVariants.{Exhausted, Moment, NoMemory}
use Rattle.st_events.specs.declared.token.Token.{Token}
use Rattle.st_scheduled.specs.declared.next.Next.{Next}
use Rattle.st_scheduled.specs.declared.next.Next.TheVariants.{Again, Rest}
use Rattle.st_hall.specs.declared.served.Served.{Served}

-- a machine that refused a turn for this reason has its token outstanding still
abbrev pub is_outstanding : Refusal → Bool
is_outstanding Exhausted = true
is_outstanding Moment = true
is_outstanding NoMemory = true
is_outstanding _ = false

-- no turn was made for a token, for this reason: the token comes back where it is outstanding still
abbrev pub unserved_as : Token → Refusal → Served
unserved_as token refusal = record { token = if is_outstanding refusal then Some token else None; refusal = Some refusal }

-- what comes of a token by which a machine was given a turn: it comes back where the machine is to be served by it again
abbrev pub served_as : Token → Next → Served
served_as token (Again again) = record { token = Some token; refusal = None }
served_as token Rest = record { token = None; refusal = None }

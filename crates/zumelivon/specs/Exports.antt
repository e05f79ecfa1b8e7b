-- What is behind a handle before and after a call.
use Rattle.std.specs.Prelude.{◌≡◌, ℕ, List, Option, Some, None}
use Rattle.st_embedded.specs.declared.machines.Machines.{Machines}
use Rattle.st_hosted.specs.declared.payload.Payload.{Payload}

-- the handle is open before and after, and this is how its table changed; or it is closed before and after
abbrev pub Told : Option Machines → Option Machines → (Machines → Machines → Type 0) → Type 0
Told (Some old) (Some new) How = How old new
Told None None How = Unit
Told (Some old) None How = ⊥
Told None (Some new) How = ⊥

-- nothing changed but hosted machines
abbrev pub OnlyHosted : Machines → Machines → Type 0
OnlyHosted old new = new ≡ record old { hosted = new.hosted }

-- a content of this code and these bytes
abbrev pub content_in : ℕ → List ℕ → Payload
content_in code bytes = record { code = code; bytes = bytes }

-- nothing changed but described machines
abbrev pub OnlyDescribed : Machines → Machines → Type 0
OnlyDescribed old new = new ≡ record old { described = new.described }

-- what is behind an open handle is so; a closed one has nothing
abbrev pub Seen : Option Machines → (Machines → Type 0) → Type 0
Seen None So = Unit
Seen (Some all) So = So all

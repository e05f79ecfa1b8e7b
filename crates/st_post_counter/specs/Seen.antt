-- What an endpoint of a counter has seen.
use Rattle.std.specs.Prelude.{◌≡◌, true, false, List, [], ◌++◌, length, nat_le, if◌then◌else◌}
use Rattle.st_post_counter.specs.declared.seen.Seen.{Seen}

-- the list is a beginning of the other, which goes on with some rest
abbrev pub Begins : {T : Type 0} → List T → List T → Type 0
Begins {T} beginning history = (rest : List T) × (beginning ++ rest ≡ history)

-- what the machine's endpoint has seen: these posts, which are the whole list
abbrev pub whole : {T : Type 0} → List T → Seen T
whole posts = record { keeps = true; posts = posts; own = []; taken = [] }

-- what another endpoint has seen: these posts, which are a part of the list
abbrev pub part : {T : Type 0} → List T → Seen T
part posts = record { keeps = false; posts = posts; own = []; taken = [] }

-- the longer of two lists, and the second where they are equally long
abbrev pub longer : {T : Type 0} → List T → List T → List T
longer own taken = if nat_le (length own) (length taken) then taken else own

-- what an endpoint has seen that had seen the first list and took in one that had seen the second: the longer of them
abbrev pub joined : {T : Type 0} → List T → List T → Seen T
joined own taken = record { keeps = false; posts = longer own taken; own = own; taken = taken }

-- it is what the machine's endpoint has seen
abbrev pub IsWhole : {T : Type 0} → Seen T → Type 0
IsWhole seen = seen ≡ whole seen.posts

-- it is what another endpoint has seen
abbrev pub IsPart : {T : Type 0} → Seen T → Type 0
IsPart seen = seen ≡ part seen.posts

-- it is what an endpoint has seen that took in another and has not compared yet
abbrev pub IsJoined : {T : Type 0} → Seen T → Type 0
IsJoined seen = seen ≡ joined seen.own seen.taken

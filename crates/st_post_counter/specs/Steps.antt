-- The five kinds of step on a counter: what each does to what its endpoint has seen.
use Rattle.std.specs.Prelude.{◌≡◌, List, [], ◌++◌}
use Rattle.st_post_counter.specs.declared.seen.Seen.{Seen}
use Rattle.st_post_counter.specs.Seen.{Begins, whole, part, joined}

-- an opening: the machine's endpoint of a new counter has seen nothing
abbrev pub seen_at_first : {T : Type 0} → Seen T
seen_at_first = whole []

-- an add: the machine's endpoint has seen the added posts too
abbrev pub SeesAdded : {T : Type 0} → List T → Seen T → Seen T → Type 0
SeesAdded added old new = new ≡ whole (old.posts ++ added)

-- a copy: it has seen the posts that its original has seen
abbrev pub copy_of : {T : Type 0} → Seen T → Seen T
copy_of seen = part seen.posts

-- a taking in: of the posts that one endpoint and the other had seen, it has seen the longer list
abbrev pub joined_of : {T : Type 0} → Seen T → Seen T → Seen T
joined_of own taken = joined own.posts taken.posts

-- a comparison: both lists are beginnings of the longer, and that is what the endpoint has seen
pub record ComparesBoth {T : Type 0} (old new : Seen T) : Type 0 where
  pub seen : new ≡ part old.posts
  pub own : Begins old.own old.posts
  pub taken : Begins old.taken old.posts

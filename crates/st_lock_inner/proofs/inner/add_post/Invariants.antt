use Rattle.std.proofs.Common.{[], ◌∷◌}
use Rattle.st_lock_inner.proofs.inner.add_post.Given as goal

-- the post whose number, entry and content are handed in is the one that is added
abbrev pub ghosts-add_picked : goal.ghosts-add_picked
ghosts-add_picked g a = record { added = record { number = a.number; entry = a.entry; content = a.content.value } ∷ [] }

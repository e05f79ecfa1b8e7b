use Rattle.std.proofs.Common.{[], ◌∷◌}
use Rattle.st_post_counter.proofs.counter.Counter.add.Given as goal

-- the post that is handed in is the one that is added
abbrev pub ghosts-add_one : goal.ghosts-add_one
ghosts-add_one g a = record { added = a.post.now ∷ [] }

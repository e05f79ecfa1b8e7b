use Rattle.std.proofs.Common.{Ok, Err, ◌≡◌, ℕ, ◌+◌, ◌-◌, ◌≤◌, List, [], ◌∷◌, ◌++◌, length, refl, ap, sym, ◌∙◌, subst, arith, length-append, set}
use Rattle.st_core.specs.Callbacks.{callbacks_of}
use Rattle.st_scheduled.specs.Answered.{posted_as}
use Rattle.st_journal.specs.declared.post.Post.{Post}
use Rattle.st_cell.specs.Calls.{Posts}
use Rattle.st_cell.specs.Cell.{IsOpen, count_for}
use Rattle.st_post_counter.specs.Seen.{whole, part, Begins}
use Rattle.st_lock_inner.specs.Inner.{InnerState, Leaves, counters_of}
use Rattle.st_lock_inner.proofs.InnerLemmas.{found_at, count_posted, inner_posted, counters_set, same_before, inner_again, same_inner}
use Rattle.st_lock_inner.proofs.LeftLemmas.{called, inner_left, left_count, posted_by}
use Rattle.st_lock_inner.proofs.inner.Inner.post.Goals as goal

-- the machine's endpoint has seen all posts
pub add_post-requires-clause-whole : goal.add_post-requires-clause-whole
add_post-requires-clause-whole g c =
    let found = found_at c.args.self.now c.self.inside.cell.cell c.self.inside.ends.items c.args.port c.args.counter.now c.index_mut-end.result.now c.self.view_is c.self.invariant
    c.requires.open c.requires.end c.index_mut-end.ensures.value in
    found.is_end.whole

-- the cell counts one more than it has seen
pub add_post-requires-clause-count : goal.add_post-requires-clause-count
add_post-requires-clause-count g c =
    let found = found_at c.args.self.now c.self.inside.cell.cell c.self.inside.ends.items c.args.port c.args.counter.now c.index_mut-end.result.now c.self.view_is c.self.invariant
    c.requires.open c.requires.end c.index_mut-end.ensures.value in
    let went = posted_by (callbacks_of g.M.Module g.M.State.PartialEq.eq) c.self.inside.cell c.post.new.self c.args.port c.args.entry c.args.content c.in-Ok.posted c.in-Ok.ensures.does in
    c.count_for-count.ensures ∙ (left_count went.after c.post.new.self.cell c.args.port went.is_left
    ∙ (count_posted c.self.inside.cell.cell went.after c.args.port _ went.posted found.is_open ∙ ap (λ n. n + 1) (sym found.is_end.count)))

-- both endpoints are of the counter
pub follow-requires-clause-counter : goal.follow-requires-clause-counter
follow-requires-clause-counter g c =
    let found = found_at c.args.self.now c.self.inside.cell.cell c.self.inside.ends.items c.args.port c.args.counter.now c.index_mut-end.result.now c.self.view_is c.self.invariant
    c.requires.open c.requires.end c.index_mut-end.ensures.value in
    (ap (λ end. end.counter) c.add_post.ensures.added ∙ found.of_counter, c.requires.mine.0)

-- the port's has seen one post less
pub follow-requires-clause-behind : goal.follow-requires-clause-behind
follow-requires-clause-behind g c =
    let found = found_at c.args.self.now c.self.inside.cell.cell c.self.inside.ends.items c.args.port c.args.counter.now c.index_mut-end.result.now c.self.view_is c.self.invariant
    c.requires.open c.requires.end c.index_mut-end.ensures.value in
    let mine : length c.args.mine.now.seen.posts ≡ length c.index_mut-end.result.now.seen.posts =
    c.requires.count ∙ (ap (λ (inner : InnerState _ _ _ _). count_for c.args.port inner.cell) (sym c.self.view_is) ∙ sym found.is_end.count) in
    let all : length c.add_post.new.end.seen.posts ≡ length c.index_mut-end.result.now.seen.posts + 1 =
    ap (λ end. length end.seen.posts) c.add_post.ensures.added ∙ length-append c.index_mut-end.result.now.seen.posts _ in
    omega (arith, mine, all)

-- the machine's endpoint has seen the post too
pub invariant_of-self : goal.invariant_of-self
invariant_of-self g c =
    let found = found_at c.args.self.now c.self.inside.cell.cell c.self.inside.ends.items c.args.port c.args.counter.now c.index_mut-end.result.now c.self.view_is c.self.invariant
    c.requires.open c.requires.end c.index_mut-end.ensures.value in
    let went = posted_by (callbacks_of g.M.Module g.M.State.PartialEq.eq) c.self.inside.cell c.post.new.self c.args.port c.args.entry c.args.content c.in-Ok.posted c.in-Ok.ensures.does in
    inner_left went.after c.post.new.self.cell (set c.self.inside.ends.items (c.args.port - 1) c.follow.new.machine) went.is_left
    (inner_posted c.self.inside.cell.cell went.after c.self.inside.ends.items c.args.port _ c.index_mut-end.result.now c.follow.new.machine went.posted found.is_open c.self.invariant
    found.there (c.follow.ensures.same ∙ (c.add_post.ensures.added
    ∙ ap (λ (content : _). record {
      counter = c.index_mut-end.result.now.counter;
      seen = whole (c.index_mut-end.result.now.seen.posts ++ record { number = c.in-Ok.posted.number; entry = c.args.entry; content = content } ∷ []);
    }) c.of-was.ensures)))

-- and so has the port's
pub returns-in-Ok-clause-posted : goal.returns-in-Ok-clause-posted
returns-in-Ok-clause-posted g c =
    let found = found_at c.args.self.now c.self.inside.cell.cell c.self.inside.ends.items c.args.port c.args.counter.now c.index_mut-end.result.now c.self.view_is c.self.invariant
    c.requires.open c.requires.end c.index_mut-end.ensures.value in
    let seen = c.index_mut-end.result.now.seen.posts in
    let post : Post _ = record { number = c.in-Ok.posted.number; entry = c.args.entry; content = c.args.content } in
    let mine : length c.args.mine.now.seen.posts ≡ length seen =
    c.requires.count ∙ (ap (λ (inner : InnerState _ _ _ _). count_for c.args.port inner.cell) (sym c.self.view_is) ∙ sym found.is_end.count) in
    let all : c.add_post.new.end.seen.posts ≡ seen ++ post ∷ [] = ap (λ end. end.seen.posts) c.add_post.ensures.added
    ∙ ap (λ (content : _). seen ++ record { number = c.in-Ok.posted.number; entry = c.args.entry; content = content } ∷ []) c.of-was.ensures in
    let same : c.args.mine.now.seen.posts ≡ seen =
    same_before c.args.mine.now.seen.posts seen post (subst (λ (posts : List (Post _)). Begins c.args.mine.now.seen.posts posts) all c.follow.ensures.begins) mine in
    c.follow.ensures.followed
    ∙ ap (λ (posts : List (Post _)). record { counter = c.args.mine.now.counter; seen = part posts }) (all ∙ ap (λ posts. posts ++ post ∷ []) (sym same))

-- the endpoints are of the same counters
pub returns-in-Ok-clause-same : goal.returns-in-Ok-clause-same
returns-in-Ok-clause-same g c =
    let found = found_at c.args.self.now c.self.inside.cell.cell c.self.inside.ends.items c.args.port c.args.counter.now c.index_mut-end.result.now c.self.view_is c.self.invariant
    c.requires.open c.requires.end c.index_mut-end.ensures.value in
    counters_set c.self.inside.ends.items (c.args.port - 1) c.index_mut-end.result.now c.follow.new.machine found.there
    (ap (λ end. end.counter) c.follow.ensures.same ∙ ap (λ end. end.counter) c.add_post.ensures.added)
    ∙ ap (λ (inner : InnerState _ _ _ _). counters_of inner.ends) c.self.view_is

-- it does what a cell does
pub returns-in-Ok-clause-does : goal.returns-in-Ok-clause-does
returns-in-Ok-clause-does g c =
    subst (λ (inner : InnerState _ _ _ _). Leaves (Posts (callbacks_of g.M.Module g.M.State.PartialEq.eq) inner.cell c.args.port c.args.entry c.args.content (posted_as (Ok c.in-Ok.posted))) c.post.new.self.cell) c.self.view_is
    (called (Posts (callbacks_of g.M.Module g.M.State.PartialEq.eq) c.self.inside.cell.cell c.args.port c.args.entry c.args.content (posted_as (Ok c.in-Ok.posted))) c.self.inside.cell c.post.new.self c.in-Ok.ensures.does)

pub returns-in-Err-clause-does : goal.returns-in-Err-clause-does
returns-in-Err-clause-does g c =
    subst (λ (inner : InnerState _ _ _ _). Leaves (Posts (callbacks_of g.M.Module g.M.State.PartialEq.eq) inner.cell c.args.port c.args.entry c.args.content (posted_as (Err c.in-Err.refused))) c.post.new.self.cell) c.self.view_is
    (called (Posts (callbacks_of g.M.Module g.M.State.PartialEq.eq) c.self.inside.cell.cell c.args.port c.args.entry c.args.content (posted_as (Err c.in-Err.refused))) c.self.inside.cell c.post.new.self c.in-Err.ensures.does)

-- the port is open in the cell, before and behind the post, and its number is not 0
pub post-requires : goal.post-requires
post-requires g c = subst (λ (inner : InnerState _ _ _ _). IsOpen c.args.port inner.cell) (sym c.self.view_is) c.requires.open

pub count_for-count-requires : goal.count_for-count-requires
count_for-count-requires g c =
    let open_at = subst (λ (inner : InnerState _ _ _ _). IsOpen c.args.port inner.cell) (sym c.self.view_is) c.requires.open in
    (open_at.0, subst (λ (n : ℕ). c.args.port ≤ n) (sym c.in-Ok.ensures.ports) open_at.1)

pub overflow_sub-port : goal.overflow_sub-port
overflow_sub-port g c = c.requires.open.0

-- the machine's endpoint is of the counter, and the port's is what it is
pub add_post-requires-clause-counter : goal.add_post-requires-clause-counter
add_post-requires-clause-counter g c =
    let found = found_at c.args.self.now c.self.inside.cell.cell c.self.inside.ends.items c.args.port c.args.counter.now c.index_mut-end.result.now c.self.view_is c.self.invariant
    c.requires.open c.requires.end c.index_mut-end.ensures.value in
    found.of_counter

pub follow-requires-clause-part : goal.follow-requires-clause-part
follow-requires-clause-part g c = c.requires.mine.1

-- a post that is refused changes nothing
pub invariant_of-self-in-Err-1 : goal.invariant_of-self-in-Err-1
invariant_of-self-in-Err-1 g c =
    inner_again c.self.inside.cell.cell c.post.new.self.cell c.self.inside.ends.items c.self.inside.ends.items
    (ap (λ state. state.cell) c.in-Err.ensures.unchanged) refl c.self.invariant

pub returns-in-Err-clause-same : goal.returns-in-Err-clause-same
returns-in-Err-clause-same g c = ap (λ (inner : InnerState _ _ _ _). counters_of inner.ends) c.self.view_is

pub returns-in-Err-clause-unchanged : goal.returns-in-Err-clause-unchanged
returns-in-Err-clause-unchanged g c = (
  same_inner c.self.inside.cell.cell c.post.new.self.cell c.self.inside.ends.items c.self.inside.ends.items c.args.self.now
      (ap (λ state. state.cell) c.in-Err.ensures.unchanged) refl c.self.view_is,
  refl,
)

pub returns-in-Err-clause-returned : goal.returns-in-Err-clause-returned
returns-in-Err-clause-returned g c = c.in-Err.ensures.returned

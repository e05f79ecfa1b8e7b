use Rattle.std.proofs.Common.{◌≡◌, ℕ, ◌-◌, List, refl, ap, sym, ◌∙◌, subst}
use Rattle.st_journal.specs.declared.post.Post.{Post}
use Rattle.st_cell.specs.Calls.{look_of}
use Rattle.st_cell.specs.Cell.{IsOpen, count_for}
use Rattle.st_journal.specs.Journal.{numbers_of, posts_of}
use Rattle.st_lock_inner.specs.Inner.{EndsWith, InnerState, counters_of}
use Rattle.st_lock_inner.proofs.InnerLemmas.{found_at, inner_same, counters_set, numbers_end}
use Rattle.st_lock_inner.proofs.inner.Inner.look.Goals as goal

-- both endpoints have seen as many posts
pub agree-requires-clause-counts : goal.agree-requires-clause-counts
agree-requires-clause-counts g c =
    let found = found_at c.args.self.now c.self.inside.cell.cell c.self.inside.ends.items c.args.port c.args.counter.now c.index_mut-end.result.now c.self.view_is c.self.invariant
    c.requires.open c.requires.end c.index_mut-end.ensures.value in
    c.requires.count ∙ (ap (λ (inner : InnerState _ _ _ _). count_for c.args.port inner.cell) (sym c.self.view_is) ∙ sym found.is_end.count)

-- the machine's endpoint is as it was
pub invariant_of-self : goal.invariant_of-self
invariant_of-self g c =
    let found = found_at c.args.self.now c.self.inside.cell.cell c.self.inside.ends.items c.args.port c.args.counter.now c.index_mut-end.result.now c.self.view_is c.self.invariant
    c.requires.open c.requires.end c.index_mut-end.ensures.value in
    inner_same c.self.inside.cell.cell c.self.inside.ends.items (c.args.port - 1) c.index_mut-end.result.now c.agree.new.machine found.there c.agree.ensures.same.0 c.self.invariant

-- the numbers in the journal are the last of those that the port has seen
pub returns-in-Ok-clause-numbers : goal.returns-in-Ok-clause-numbers
returns-in-Ok-clause-numbers g c =
    let found = found_at c.args.self.now c.self.inside.cell.cell c.self.inside.ends.items c.args.port c.args.counter.now c.index_mut-end.result.now c.self.view_is c.self.invariant
    c.requires.open c.requires.end c.index_mut-end.ensures.value in
    let seen = c.index_mut-end.result.now.seen.posts in
    let shown : c.in-Ok.look.numbers ≡ numbers_of (posts_of c.args.port c.self.inside.cell.cell.journal) = ap (λ look. look.numbers) c.in-Ok.ensures.look in
    subst (λ (posts : List (Post _)). EndsWith (numbers_of posts) c.in-Ok.look.numbers) (sym c.agree.ensures.agree)
    (subst (λ (numbers : List ℕ). EndsWith (numbers_of seen) numbers) (sym shown) (numbers_end seen (posts_of c.args.port c.self.inside.cell.cell.journal) found.is_end.posts))

-- the endpoints are of the same counters, and the port's is as it was
pub returns-in-Ok-clause-same : goal.returns-in-Ok-clause-same
returns-in-Ok-clause-same g c =
    let found = found_at c.args.self.now c.self.inside.cell.cell c.self.inside.ends.items c.args.port c.args.counter.now c.index_mut-end.result.now c.self.view_is c.self.invariant
    c.requires.open c.requires.end c.index_mut-end.ensures.value in (
      counters_set c.self.inside.ends.items (c.args.port - 1) c.index_mut-end.result.now c.agree.new.machine found.there (ap (λ end. end.counter) c.agree.ensures.same.0)
          ∙ ap (λ (inner : InnerState _ _ _ _). counters_of inner.ends) c.self.view_is,
      c.agree.ensures.same.1,
    )

-- the port is open in the cell, and its number is not 0
pub look-requires : goal.look-requires
look-requires g c = subst (λ (inner : InnerState _ _ _ _). IsOpen c.args.port inner.cell) (sym c.self.view_is) c.requires.open

pub overflow_sub-port : goal.overflow_sub-port
overflow_sub-port g c = c.requires.open.0

-- both endpoints are of the counter
pub agree-requires-clause-counter : goal.agree-requires-clause-counter
agree-requires-clause-counter g c =
    let found = found_at c.args.self.now c.self.inside.cell.cell c.self.inside.ends.items c.args.port c.args.counter.now c.index_mut-end.result.now c.self.view_is c.self.invariant
    c.requires.open c.requires.end c.index_mut-end.ensures.value in
    (found.of_counter, c.requires.mine.0)

-- what is seen is seen of the cell
pub returns-in-Ok-clause-look : goal.returns-in-Ok-clause-look
returns-in-Ok-clause-look g c = c.in-Ok.ensures.look ∙ ap (λ (inner : InnerState _ _ _ _). look_of c.args.port inner.cell) c.self.view_is

-- or nothing is, and all is as it was
pub returns-in-Err-clause-same : goal.returns-in-Err-clause-same
returns-in-Err-clause-same g c = (refl, refl)

pub returns-in-Err-clause-refusals : goal.returns-in-Err-clause-refusals
returns-in-Err-clause-refusals g c = c.in-Err.ensures.refusals

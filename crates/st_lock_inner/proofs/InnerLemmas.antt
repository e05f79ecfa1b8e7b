-- An inner state stays one: the machine's endpoint of each port has seen all that the cell counts, after each call.
use Rattle.std.proofs.Common.{◌≡◌, ◌≢◌, ℕ, zero, suc, ◌+◌, ◌-◌, ◌<◌, ◌≤◌, ◌⊎◌, inl, inr, ⊎_elim, Bool, true, false, not, ◌&&◌, ◌==◌, ne_eqb, eqb-true, List, [], ◌∷◌, ◌++◌, length, drop, set, refl, sym, ap, ◌∙◌, subst, arith}
use Rattle.std.specs.Prelude.{Some, slice_get, slice_index, get_or}
use Rattle.std.specs.Option.{option_map}
use Rattle.std.proofs.lemmas.Bool.{and_parts}
use Rattle.std.proofs.lemmas.List.{length-append, length-map, length-set, map-set, drop-append-le, get_or-set_same, get_or-set_other, get_or_append_left}
use Rattle.std.proofs.lemmas.Option.{slice_get_read, slice_get_within, slice_get-map}
use Rattle.std.proofs.Math.Seq.{drop-length, get_or-append_seam}
use Rattle.st_events.specs.declared.machine_id.MachineId.{MachineId}
use Rattle.st_core.specs.MachineState.{Machine}
use Rattle.st_journal.specs.declared.post.Post.{Post}
use Rattle.st_cell.specs.Calls.{opened, cut}
use Rattle.st_cell.specs.Cell.{CellState, IsOpen, count_for, HasPosted, HasPostedNothing}
use Rattle.st_journal.specs.Journal.{posts_of, numbers_of}
use Rattle.st_post_counter.specs.Endpoint.{CounterId, EndpointState}
use Rattle.st_post_counter.specs.Seen.{whole, Begins}
use Rattle.st_lock_inner.specs.Inner.{EndsWith, InnerState, counters_of, inner_at_first, IsEnd, IsInner, HasEnd}

-- ---- elements at their places
-- where one was put in place of another, each is that one or was there
at_set : {A : Type 0} (xs : List A) (i j : ℕ) (new x : A) → slice_get (set xs i new) j ≡ Some x
    → ((j ≡ i) × (new ≡ x)) ⊎ ((j ≢ i) × (slice_get xs j ≡ Some x))
at_set [] i j new x there = absurd cc
at_set (y ∷ ys) zero zero new x there = let same : new ≡ x = cc in inl (refl, same)
at_set (y ∷ ys) zero (suc j) new x there = inr (λ h. absurd (omega (arith, h)), there)
at_set (y ∷ ys) (suc i) zero new x there = inr (λ h. absurd (omega (arith, h)), there)
at_set (y ∷ ys) (suc i) (suc j) new x there =
    ⊎_elim (λ t. inl (ap suc t.0, t.1)) (λ t. inr (λ h. t.0 (omega (arith, h)), t.1)) (at_set ys i j new x there)

-- behind a list with one more, each is that one or was there
at_end : {A : Type 0} (xs : List A) (new x : A) (j : ℕ) → slice_get (xs ++ new ∷ []) j ≡ Some x
    → (slice_get xs j ≡ Some x) ⊎ ((j ≡ length xs) × (new ≡ x))
at_end [] new x zero there = let same : new ≡ x = cc in inr (refl, same)
at_end [] new x (suc j) there = absurd cc
at_end (y ∷ ys) new x zero there = inl there
at_end (y ∷ ys) new x (suc j) there = ⊎_elim (λ t. inl t) (λ t. inr (ap suc t.0, t.1)) (at_end ys new x j there)

-- what is there stays there behind a longer list
pub at_longer : {A : Type 0} (xs ys : List A) (x : A) (j : ℕ) → slice_get xs j ≡ Some x → slice_get (xs ++ ys) j ≡ Some x
at_longer [] ys x j there = absurd cc
at_longer (y ∷ xs) ys x zero there = there
at_longer (y ∷ xs) ys x (suc j) there = at_longer xs ys x j there

-- the one more is the last
pub at_last : {A : Type 0} (xs : List A) (x : A) → slice_get (xs ++ x ∷ []) (length xs) ≡ Some x
at_last [] x = refl
at_last (y ∷ xs) x = at_last xs x

-- what is put where it is changes nothing
set_there : {A : Type 0} (xs : List A) (i : ℕ) (x : A) → slice_get xs i ≡ Some x → set xs i x ≡ xs
set_there [] i x there = refl
set_there (y ∷ ys) zero x there = let same : y ≡ x = cc in ap (λ z. z ∷ ys) (sym same)
set_there (y ∷ ys) (suc i) x there = ap (λ zs. y ∷ zs) (set_there ys i x there)

-- ---- the last ones of a list
-- both lists get one more
ends_more : {A : Type 0} (all last : List A) (x : A) → EndsWith all last → EndsWith (all ++ x ∷ []) (last ++ x ∷ [])
ends_more all last x ends =
    let most : length all - length last ≤ length all = omega arith in
    let same : length (all ++ x ∷ []) - length (last ++ x ∷ []) ≡ length all - length last = omega (arith, length-append all (x ∷ []), length-append last (x ∷ [])) in
    ap (λ (n : ℕ). drop n (all ++ x ∷ [])) same ∙ (drop-append-le (length all - length last) all (x ∷ []) most ∙ ap (λ rest. rest ++ x ∷ []) ends)

-- none are the last ones
ends_none : {A : Type 0} (all : List A) → EndsWith all []
ends_none all =
    let same : length all - 0 ≡ length all = omega arith in
    ap (λ (n : ℕ). drop n all) same ∙ drop-length all

module _ {C : Type 0} where
  numbers_length : (posts : List (Post C)) → length (numbers_of posts) ≡ length posts
  numbers_length posts = length-map posts (λ (post : Post C). post.number)

  numbers_drop : (n : ℕ) (posts : List (Post C)) → drop n (numbers_of posts) ≡ numbers_of (drop n posts)
  numbers_drop zero posts = refl
  numbers_drop (suc n) [] = refl
  numbers_drop (suc n) (post ∷ posts) = numbers_drop n posts

  -- and so it is with their numbers
  pub numbers_end : (all last : List (Post C)) → EndsWith all last → EndsWith (numbers_of all) (numbers_of last)
  numbers_end all last ends =
      ap (λ (n : ℕ). drop n (numbers_of all)) (λ i. numbers_length all i - numbers_length last i)
      ∙ (numbers_drop (length all - length last) all ∙ ap numbers_of ends)

  -- ---- counters
  -- an endpoint changes, and stays of its counter
  pub counters_set : (ends : List (EndpointState (Post C))) (k : ℕ) (old new : EndpointState (Post C)) → slice_get ends k ≡ Some old → new.counter ≡ old.counter
      → counters_of (set ends k new) ≡ counters_of ends
  counters_set ends k old new there same =
      let counter : EndpointState (Post C) → CounterId = λ end. end.counter in
      map-set counter ends k new
      ∙ (ap (λ one. set (counters_of ends) k one) same
      ∙ set_there (counters_of ends) k old.counter (slice_get-map counter ends k ∙ ap (option_map counter) there))

  -- the endpoint that an index finds is of the counter that is claimed
  pub found_end : (ends : List (EndpointState (Post C))) (k : ℕ) (end : EndpointState (Post C)) (counter : CounterId) → k < length ends → end ≡ get_or ends k end
      → slice_get (counters_of ends) k ≡ Some counter → (slice_get ends k ≡ Some end) × (end.counter ≡ counter)
  found_end ends k end counter inside is claimed =
      let there : slice_get ends k ≡ Some end = slice_get_read ends (length ends) k end refl inside is in
      let of_end : EndpointState (Post C) → CounterId = λ one. one.counter in
      let said : Some end.counter ≡ Some counter = sym (slice_get-map of_end ends k ∙ ap (option_map of_end) there) ∙ claimed in
      (there, cc)

  -- what begins a list with one more, and is one shorter, is the list
  pub same_before : (mine all : List (Post C)) (post : Post C) → Begins mine (all ++ post ∷ []) → length mine ≡ length all → mine ≡ all
  same_before [] [] post begins same = refl
  same_before [] (first ∷ all) post begins same = absurd (omega (arith, same))
  same_before (one ∷ mine) [] post begins same = absurd (omega (arith, same))
  same_before (one ∷ mine) (first ∷ all) post begins same =
      let whole_list : one ∷ (mine ++ begins.0) ≡ first ∷ (all ++ post ∷ []) = begins.1 in
      let head : one ≡ first = cc in
      let rest : mine ++ begins.0 ≡ all ++ post ∷ [] = cc in
      let tail : mine ≡ all = same_before mine all post (begins.0, rest) (omega (arith, same)) in
      ap (λ (x : Post C). x ∷ mine) head ∙ ap (λ (posts : List (Post C)). first ∷ posts) tail

module _ {M S D C : Type 0} where
  -- ---- the inner state after each call
  -- where the cell and the endpoints are as they were
  pub inner_again : (old new : CellState M S D C) (was now : List (EndpointState (Post C))) → new ≡ old → now ≡ was
      → IsInner (record { cell = old; ends = was }) → IsInner (record { cell = new; ends = now })
  inner_again old new was now cell ends is =
      subst (λ (l : List (EndpointState (Post C))). IsInner (record { cell = new; ends = l })) (sym ends)
      (subst (λ (one : CellState M S D C). IsInner (record { cell = one; ends = was })) (sym cell) is)

  pub same_inner : (old new : CellState M S D C) (was now : List (EndpointState (Post C))) (inner : InnerState M S D C) → new ≡ old → now ≡ was
      → ◌≡◌ {A = InnerState M S D C} (record { cell = old; ends = was }) inner → ◌≡◌ {A = InnerState M S D C} (record { cell = new; ends = now }) inner
  same_inner old new was now inner cell ends is = rw (cell, ends) is

  -- nothing was posted
  pub inner_kept : (old new : CellState M S D C) (ends : List (EndpointState (Post C))) → HasPostedNothing old new
      → IsInner (record { cell = old; ends = ends }) → IsInner (record { cell = new; ends = ends })
  inner_kept old new ends nothing is = record {
    lengths = is.lengths ∙ sym (ap length nothing.ports);
    each = λ port end place there. let was = is.each port end place there in record {
      whole = was.whole;
      count = was.count ∙ sym (ap (λ (ports : List ℕ). slice_index ports (port - 1)) nothing.ports);
      posts = subst (λ (last : List (Post C)). EndsWith end.seen.posts last) (sym (nothing.posts port)) was.posts;
    };
  }

  -- the count of a port that posted
  pub count_posted : (old new : CellState M S D C) (port : ℕ) (post : Post C) → HasPosted port post old new → IsOpen port old → count_for port new ≡ count_for port old + 1
  count_posted old new port post posted is_open =
      let place = is_open.0 in let within = is_open.1 in
      ap (λ (ports : List ℕ). slice_index ports (port - 1)) posted.ports
      ∙ get_or-set_same old.ports (port - 1) (count_for port old + 1) 0 (omega (arith, place, within))

  -- a port posted an event, and the machine's endpoint saw it
  posted_end : (old new : CellState M S D C) (port : ℕ) (post : Post C) (was now : EndpointState (Post C)) → HasPosted port post old new → IsOpen port old
      → IsEnd old port was → now ≡ record was { seen = whole (was.seen.posts ++ post ∷ []) } → IsEnd new port now
  posted_end old new port post was now posted is_open is same =
      let counted : count_for port new ≡ count_for port old + 1 = count_posted old new port post posted is_open in
      rw same record {
        whole = refl;
        count = length-append was.seen.posts (post ∷ []) ∙ (ap (λ (n : ℕ). n + 1) is.count ∙ sym counted);
        posts = subst (λ (last : List (Post C)). EndsWith (was.seen.posts ++ post ∷ []) last) (sym posted.posts)
            (ends_more was.seen.posts (posts_of port old.journal) post is.posts);
      }

  pub inner_posted : (old new : CellState M S D C) (ends : List (EndpointState (Post C))) (port : ℕ) (post : Post C) (was now : EndpointState (Post C))
      → HasPosted port post old new → IsOpen port old → IsInner (record { cell = old; ends = ends }) → slice_get ends (port - 1) ≡ Some was
      → now ≡ record was { seen = whole (was.seen.posts ++ post ∷ []) } → IsInner (record { cell = new; ends = set ends (port - 1) now })
  inner_posted old new ends port post was now posted is_open is there same = record {
    lengths = length-set ends (port - 1) now ∙ (is.lengths ∙ sym (ap length posted.ports ∙ length-set old.ports (port - 1) (count_for port old + 1)));
    each = λ other end place found. ⊎_elim
        (λ (t : ((other - 1) ≡ (port - 1)) × (now ≡ end)).
        let first = is_open.0 in let one = t.0 in
        let at : other ≡ port = omega (arith, one, first, place) in
        let holds : IsEnd new port now = posted_end old new port post was now posted is_open (is.each port was is_open.0 there) same in
        subst (λ (n : ℕ). IsEnd new n end) (sym at) (subst (λ (x : EndpointState (Post C)). IsEnd new port x) t.1 holds))
        (λ (t : ((other - 1) ≢ (port - 1)) × (slice_get ends (other - 1) ≡ Some end)).
        let before = is.each other end place t.1 in
        let differ : (other == port) ≡ false = ne_eqb other port (λ h. t.0 (ap (λ (n : ℕ). n - 1) h)) in
        record {
          whole = before.whole;
          count = before.count ∙ sym (ap (λ (ports : List ℕ). slice_index ports (other - 1)) posted.ports
              ∙ get_or-set_other old.ports (port - 1) (other - 1) (count_for port old + 1) 0 t.0);
          posts = subst (λ (last : List (Post C)). EndsWith end.seen.posts last) (sym (posted.others other differ)) before.posts;
        })
        (at_set ends (port - 1) (other - 1) now end found);
  }

  -- an endpoint was copied
  pub inner_same : (cell : CellState M S D C) (ends : List (EndpointState (Post C))) (k : ℕ) (was now : EndpointState (Post C)) → slice_get ends k ≡ Some was → now ≡ was
      → IsInner (record { cell = cell; ends = ends }) → IsInner (record { cell = cell; ends = set ends k now })
  inner_same cell ends k was now there same is =
      let stays : set ends k now ≡ ends = ap (λ one. set ends k one) same ∙ set_there ends k was there in
      subst (λ (l : List (EndpointState (Post C))). IsInner (record { cell = cell; ends = l })) (sym stays) is

  -- the machine's endpoint of a port, as a call finds it
  pub record IsFound (cell : CellState M S D C) (ends : List (EndpointState (Post C))) (port : ℕ) (counter : CounterId) (end : EndpointState (Post C)) : Type 0 where
    pub is_open : IsOpen port cell
    pub there : slice_get ends (port - 1) ≡ Some end
    pub of_counter : end.counter ≡ counter
    pub is_end : IsEnd cell port end

  pub found_at : (inner : InnerState M S D C) (cell : CellState M S D C) (ends : List (EndpointState (Post C))) (port : ℕ) (counter : CounterId) (end : EndpointState (Post C))
      → record { cell = cell; ends = ends } ≡ inner → IsInner (record { cell = cell; ends = ends }) → IsOpen port inner.cell → HasEnd inner port counter
      → end ≡ get_or ends (port - 1) end → IsFound cell ends port counter end
  found_at inner cell ends port counter end same is is_open has value =
      let mine : IsOpen port cell = subst (λ (d : InnerState M S D C). IsOpen port d.cell) (sym same) is_open in
      let claimed : HasEnd (record { cell = cell; ends = ends }) port counter = subst (λ (d : InnerState M S D C). HasEnd d port counter) (sym same) has in
      let place = mine.0 in let within = mine.1 in
      let lengths : length ends ≡ length cell.ports = is.lengths in
      let found = found_end ends (port - 1) end counter (omega (arith, place, within, lengths)) value claimed.found in
      record { is_open = mine; there = found.0; of_counter = found.1; is_end = is.each port end mine.0 found.0 }

  -- a port was opened
  opened_end : (cell : CellState M S D C) (port : ℕ) (end : EndpointState (Post C)) → 0 < port → port - 1 ≡ length cell.ports → end.seen ≡ whole []
      → posts_of port cell.journal ≡ [] → IsEnd (opened cell).1 port end
  opened_end cell port end place is seen none = record {
    whole = seen ∙ ap (λ (posts : List (Post C)). whole posts) (sym (ap (λ s. s.posts) seen));
    count = ap (λ s. length s.posts) seen ∙ sym (ap (λ (n : ℕ). slice_index (cell.ports ++ 0 ∷ []) n) is ∙ get_or-append_seam cell.ports 0 [] 0);
    posts = subst (λ (last : List (Post C)). EndsWith end.seen.posts last) (sym none) (ends_none end.seen.posts);
  }

  pub inner_opened : (cell : CellState M S D C) (ends : List (EndpointState (Post C))) (end : EndpointState (Post C)) → end.seen ≡ whole []
      → ((port : ℕ) → length cell.ports < port → posts_of port cell.journal ≡ []) → IsInner (record { cell = cell; ends = ends })
      → IsInner (record { cell = (opened cell).1; ends = ends ++ end ∷ [] })
  inner_opened cell ends end seen others is =
      let lengths : length ends ≡ length cell.ports = is.lengths in
      record {
        lengths = omega (arith, lengths, length-append ends (end ∷ []), length-append cell.ports (0 ∷ []));
        each = λ port one place found. ⊎_elim
            (λ (t : slice_get ends (port - 1) ≡ Some one).
            let was = is.each port one place t in
            let inside = slice_get_within ends (port - 1) one t in
            record {
              whole = was.whole;
              count = was.count ∙ sym (get_or_append_left cell.ports (0 ∷ []) 0 (port - 1) (omega (arith, inside, lengths)));
              posts = was.posts;
            })
            (λ (t : ((port - 1) ≡ length ends) × (end ≡ one)).
            let last = t.0 in
            subst (λ (x : EndpointState (Post C)). IsEnd (opened cell).1 port x) t.1
            (opened_end cell port end place (last ∙ lengths) seen (others port (omega (arith, last, lengths, place)))))
            (at_end ends end one (port - 1) found);
      }

  -- the journal was cut
  pub inner_cut : (cell : CellState M S D C) (ends : List (EndpointState (Post C))) → IsInner (record { cell = cell; ends = ends })
      → IsInner (record { cell = cut cell; ends = ends })
  inner_cut cell ends is = record {
    lengths = is.lengths;
    each = λ port end place there. let was = is.each port end place there in record {
      whole = was.whole;
      count = was.count;
      posts = ends_none end.seen.posts;
    };
  }

  -- an inner state begins
  pub inner_begun : (core : Machine M S D C) → IsInner (inner_at_first core)
  inner_begun core = record {
    lengths = refl;
    each = λ port end place there. absurd cc;
  }

-- ids that the code finds the same are equal
pub ids_same : (one other : MachineId) → (one.slot == other.slot) && (one.serial == other.serial) ≡ true → one ≡ other
ids_same one other same =
    let parts = and_parts (one.slot == other.slot) (one.serial == other.serial) same in
    let slots : one.slot ≡ other.slot = eqb-true one.slot other.slot parts.0 in
    let serials : one.serial ≡ other.serial = eqb-true one.serial other.serial parts.1 in
    ap (λ (n : ℕ). record one { slot = n }) slots ∙ ap (λ (n : ℕ). record other { serial = n }) serials

no_other : (same : Bool) → false ≡ not same → same ≡ true
no_other true is = refl
no_other false is = let no : false ≡ true = is in absurd cc

pub ids_not_other : (one other : MachineId) → false ≡ not ((one.slot == other.slot) && (one.serial == other.serial)) → one ≡ other
ids_not_other one other is = ids_same one other (no_other ((one.slot == other.slot) && (one.serial == other.serial)) is)

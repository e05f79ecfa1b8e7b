-- Each step on a counter keeps its rule, and what it tells.
use Rattle.std.proofs.Common.{◌≡◌, ◌≢◌, ℕ, zero, suc, ◌+◌, Bool, true, false, true≢false, leb, List, [], ◌∷◌, ◌++◌, length, set, refl, sym, ap, ◌∙◌, subst, ⊎_elim, All, length-append, arith}
use Rattle.std.specs.Prelude.{⊤, slice_get, slice_index, slice_set, Some, if◌then◌else◌}
use mathlib.Core.Option.{some, some-injective, some-ne-none}
use lib.ListN.{get_elem?}
use Rattle.std.proofs.lemmas.Bool.{leb-true, leb-false}
use Rattle.std.proofs.lemmas.List.Elements.{All-cons, All-head, All-tail, All-set, All-push, All-weaker}
use Rattle.atomic_table.specs.Table.{State, Allows, Splits, Joins, keeps}
use Rattle.atomic_table.proofs.Lists.{at_set, set_again}
use Rattle.st_post_counter.specs.declared.seen.Seen.{Seen}
use Rattle.st_post_counter.specs.Seen.{Begins, whole, part, joined, IsWhole, IsJoined}
use Rattle.st_post_counter.specs.Counter.{IsWithin, CounterRule}
use Rattle.st_post_counter.specs.Steps.{SeesAdded, copy_of, joined_of, ComparesBoth}
use Rattle.st_post_counter.proofs.HistoryLemmas.{begins_itself, nothing_begins, begins_more, shorter_begins}

module _ {T : Type 0} where
  -- what is true of each is true of the one at a place
  All-at : (P : Seen T → Type 0) (xs : List (Seen T)) (i : ℕ) (x : Seen T) → All P xs → get_elem? xs i ≡ some x → P x
  All-at P [] i x all at = absurd (some-ne-none x (sym at))
  All-at P (y ∷ ys) zero x all at = subst P (some-injective y x at) (All-head P y ys all)
  All-at P (y ∷ ys) (suc i) x all at = All-at P ys i x (All-tail P y ys all) at

  -- ---- the endpoints
  -- the machine's endpoint is no other
  not_whole : (seen : Seen T) → seen.keeps ≡ false → seen.keeps ≡ true → ⊥
  not_whole seen one other = true≢false (sym other ∙ one)

  -- the list of one that has seen all is the history, and it is the first
  machine_is : (history posts : List T) (others : List (Seen T)) (id : ℕ) → All (IsWithin history) others → get_elem? (whole history ∷ others) id ≡ some (whole posts)
      → (id ≡ 0) × (posts ≡ history)
  machine_is history posts others zero all at = (refl, sym (ap (λ (s : Seen T). s.posts) (some-injective (whole history) (whole posts) at)))
  machine_is history posts others (suc id) all at = absurd (not_whole (whole posts) (All-at (IsWithin history) others id (whole posts) all at).keeps refl)

  -- what an endpoint has seen is a beginning of the history
  seen_begins_in : (history : List T) (others : List (Seen T)) (id : ℕ) (seen : Seen T) → All (IsWithin history) others → get_elem? (whole history ∷ others) id ≡ some seen → Begins seen.posts history
  seen_begins_in history others zero seen all at = subst (λ (s : Seen T). Begins s.posts history) (some-injective (whole history) seen at) (begins_itself history)
  seen_begins_in history others (suc id) seen all at = (All-at (IsWithin history) others id seen all at).posts

  seen_begins : (words : List ℕ) (endpoints : List (Seen T)) (rule : CounterRule words endpoints) (id : ℕ) (seen : Seen T) → get_elem? endpoints id ≡ some seen → Begins seen.posts rule.history
  seen_begins words endpoints rule id seen at = seen_begins_in rule.history rule.others id seen rule.each (rw (rule.machine) at at)

  -- another endpoint than the machine's is within the history
  other_within_in : (history : List T) (others : List (Seen T)) (id : ℕ) (seen : Seen T) → seen.keeps ≡ false → All (IsWithin history) others → get_elem? (whole history ∷ others) id ≡ some seen → IsWithin history seen
  other_within_in history others zero seen other all at = absurd (not_whole seen other (sym (ap (λ (s : Seen T). s.keeps) (some-injective (whole history) seen at))))
  other_within_in history others (suc id) seen other all at = All-at (IsWithin history) others id seen all at

  other_within : (words : List ℕ) (endpoints : List (Seen T)) (rule : CounterRule words endpoints) (id : ℕ) (seen : Seen T) → seen.keeps ≡ false → get_elem? endpoints id ≡ some seen → IsWithin rule.history seen
  other_within words endpoints rule id seen other at = other_within_in rule.history rule.others id seen other rule.each (rw (rule.machine) at at)

  -- an endpoint that has seen a beginning, with nothing taken in, is within the history
  within : (history posts : List T) → Begins posts history → IsWithin history (part posts)
  within history posts begins = record { keeps = refl; posts = begins; own = nothing_begins history; taken = nothing_begins history }

  -- ---- the rule, where one endpoint changes, or with one more
  -- another endpoint than the machine's changes, and stays within the history
  other_set_in : (history : List T) (others : List (Seen T)) (id : ℕ) (old new : Seen T) → old.keeps ≡ false → get_elem? (whole history ∷ others) id ≡ some old → All (IsWithin history) others → IsWithin history new
      → CounterRule (length history ∷ []) (set (whole history ∷ others) id new)
  other_set_in history others zero old new other at all is = absurd (not_whole old other (sym (ap (λ (s : Seen T). s.keeps) (some-injective (whole history) old at))))
  other_set_in history others (suc id) old new other at all is =
      record { history = history; others = set others id new; word = refl; machine = refl; each = All-set (IsWithin history) others id new is all }

  other_set : (words : List ℕ) (endpoints : List (Seen T)) (rule : CounterRule words endpoints) (id : ℕ) (old new : Seen T) → old.keeps ≡ false → get_elem? endpoints id ≡ some old → IsWithin rule.history new
      → CounterRule words (set endpoints id new)
  other_set words endpoints rule id old new other at is =
      subst (λ (x : List ℕ × List (Seen T)). CounterRule x.0 (set x.1 id new)) (λ i. (sym rule.word i, sym rule.machine i))
      (other_set_in rule.history rule.others id old new other (rw (rule.machine) at at) rule.each is)

  -- one more endpoint, which is within the history
  one_more : (words : List ℕ) (endpoints : List (Seen T)) (rule : CounterRule words endpoints) (new : Seen T) → IsWithin rule.history new → CounterRule words (endpoints ++ new ∷ [])
  one_more words endpoints rule new is = record {
    history = rule.history;
    others = rule.others ++ new ∷ [];
    word = rule.word;
    machine = ap (λ l. l ++ new ∷ []) rule.machine;
    each = All-push (IsWithin rule.history) rule.others new rule.each is;
  }

  -- what is within a history is within it with one post more
  within_more : (history : List T) (post : T) (seen : Seen T) → IsWithin history seen → IsWithin (history ++ post ∷ []) seen
  within_more history post seen is = record {
    keeps = is.keeps;
    posts = begins_more seen.posts history post is.posts;
    own = begins_more seen.own history post is.own;
    taken = begins_more seen.taken history post is.taken;
  }

  -- the machine's endpoint sees one post more, and the word becomes the new count
  machine_set_in : (history posts : List T) (others : List (Seen T)) (id : ℕ) (post : T) (n : ℕ) → All (IsWithin history) others → get_elem? (whole history ∷ others) id ≡ some (whole posts) → n ≡ length posts + 1
      → CounterRule (n ∷ []) (set (whole history ∷ others) id (whole (posts ++ post ∷ [])))
  machine_set_in history posts others zero post n all at more =
      let same = (machine_is history posts others zero all at).1 in
      record {
        history = history ++ post ∷ [];
        others = others;
        word = ap (λ (k : ℕ). k ∷ []) (omega (arith, ap length same, length-append history (post ∷ [])));
        machine = ap (λ (l : List T). whole (l ++ post ∷ []) ∷ others) same;
        each = All-weaker (IsWithin history) (IsWithin (history ++ post ∷ [])) (within_more history post) others all;
      }
  machine_set_in history posts others (suc id) post n all at more = let first = (machine_is history posts others (suc id) all at).0 in absurd (omega arith)

  machine_set : (words : List ℕ) (endpoints : List (Seen T)) (rule : CounterRule words endpoints) (id : ℕ) (posts : List T) (post : T) (n : ℕ) → get_elem? endpoints id ≡ some (whole posts) → n ≡ length posts + 1
      → CounterRule (slice_set words 0 n) (set endpoints id (whole (posts ++ post ∷ [])))
  machine_set words endpoints rule id posts post n at more =
      subst (λ (x : List ℕ × List (Seen T)). CounterRule (slice_set x.0 0 n) (set x.1 id (whole (posts ++ post ∷ [])))) (λ i. (sym rule.word i, sym rule.machine i))
      (machine_set_in rule.history posts rule.others id post n rule.each (rw (rule.machine) at at) more)

  abbrev Holds : State ⊤ (Seen T) → Type 0
  Holds state = CounterRule state.words state.views

  -- ---- an add, by the machine's endpoint
  -- a list of one
  single : (added : List T) → length added ≡ 1 → (post : T) × (added ≡ post ∷ [])
  single [] one = absurd (omega (arith, one))
  single (post ∷ []) one = (post, refl)
  single (post ∷ next ∷ more) one = absurd (omega (arith, one))

  pub adds : (slots id : ℕ) (seen : Seen T) (held : List (ℕ × ⊤)) (added : List T) (n : ℕ) → length added ≡ 1 → IsWhole seen → n ≡ length seen.posts + 1
      → Allows Holds slots id (seen, held) 0 (λ _. n) (λ _ after. (after.1 ≡ held) × SeesAdded added seen after.0)
  adds slots id seen held added n one is more state rule _ at _ = let post = single added one in (
    whole (seen.posts ++ added),
    keeps,
    tt,
    subst (λ (l : List T). CounterRule (slice_set state.words 0 n) (set state.views id (whole (seen.posts ++ l)))) (sym post.1)
        (machine_set state.words state.views rule id seen.posts post.0 n (at ∙ ap (λ (s : Seen T). some s) is) more),
    (refl, refl),
  )

  -- ---- a copy of any endpoint
  pub copies : (id : ℕ) (seen : Seen T) → Splits Holds id seen seen (copy_of seen)
  copies id seen state rule at =
      subst (λ (l : List (Seen T)). CounterRule state.words (l ++ copy_of seen ∷ [])) (sym (set_again state.views id seen at))
      (one_more state.words state.views rule (copy_of seen) (within rule.history seen.posts (seen_begins state.words state.views rule id seen at)))

  -- ---- an endpoint takes in a copy
  -- what is true of both lists is true of the longer
  longer_one : (P : List T → Type 0) (own taken : List T) → P own → P taken → (b : Bool) → P (if b then taken else own)
  longer_one P own taken p q true = q
  longer_one P own taken p q false = p

  pub takes_in : (id : ℕ) (own : Seen T) (other : ℕ) (taken : Seen T) → own.keeps ≡ false → taken.keeps ≡ false → Joins Holds id own other taken (joined_of own taken) (part [])
  takes_in id own other taken own_is taken_is state rule at apart there =
      let new : Seen T = joined_of own taken in
      let own_begins = seen_begins state.words state.views rule id own at in
      let taken_begins : Begins taken.posts rule.history = ⊎_elim
      (λ (t : (other ≡ id) × (new ≡ taken)). absurd (apart t.0))
      (λ (t : (other ≢ id) × (get_elem? state.views other ≡ some taken)). seen_begins state.words state.views rule other taken t.1)
      (at_set state.views id other new taken there) in
      let both : IsWithin rule.history new = record {
        keeps = refl;
        posts = longer_one (λ l. Begins l rule.history) own.posts taken.posts own_begins taken_begins (leb (length own.posts) (length taken.posts));
        own = own_begins;
        taken = taken_begins;
      } in
      let first = other_set state.words state.views rule id own new own_is at both in
      other_set state.words (set state.views id new) first other taken (part []) taken_is there (within first.history [] (nothing_begins first.history))

  -- ---- an endpoint that took in another compares both lists
  own_begins_longer : (own taken history : List T) → Begins own history → Begins taken history → (b : Bool) → leb (length own) (length taken) ≡ b → Begins own (if b then taken else own)
  own_begins_longer own taken history one other true is = shorter_begins own taken history one other (omega (arith, leb-true (length own) (length taken) is))
  own_begins_longer own taken history one other false is = begins_itself own

  taken_begins_longer : (own taken history : List T) → Begins own history → Begins taken history → (b : Bool) → leb (length own) (length taken) ≡ b → Begins taken (if b then taken else own)
  taken_begins_longer own taken history one other true is = begins_itself taken
  taken_begins_longer own taken history one other false is = shorter_begins taken own history other one (omega (arith, leb-false (length own) (length taken) is))

  compares_lists : (own taken history : List T) (old : Seen T) → old ≡ joined own taken → IsWithin history old → ComparesBoth old (part old.posts)
  compares_lists own taken history old is within =
      subst (λ (s : Seen T). IsWithin history s → ComparesBoth s (part s.posts)) (sym is)
      (λ w. record {
        seen = refl;
        own = own_begins_longer own taken history w.own w.taken (leb (length own) (length taken)) refl;
        taken = taken_begins_longer own taken history w.own w.taken (leb (length own) (length taken)) refl;
      })
      within

  pub compares : (slots id : ℕ) (seen : Seen T) (held : List (ℕ × ⊤)) → IsJoined seen → Allows Holds slots id (seen, held) 0 (λ n. n) (λ _ after. (after.1 ≡ held) × ComparesBoth seen after.0)
  compares slots id seen held is state rule _ at _ =
      let other : seen.keeps ≡ false = ap (λ (s : Seen T). s.keeps) is in
      let old = other_within state.words state.views rule id seen other at in (
        part seen.posts,
        keeps,
        tt,
        subst (λ (l : List ℕ). CounterRule l (set state.views id (part seen.posts))) (unchanged state.words (length rule.history) rule.word)
            (other_set state.words state.views rule id seen (part seen.posts) other at (within rule.history seen.posts old.posts)),
        (refl, compares_lists seen.own seen.taken rule.history seen is old),
      )
    where
      unchanged : (words : List ℕ) (n : ℕ) → words ≡ n ∷ [] → words ≡ slice_set words 0 (slice_index words 0)
      unchanged words n is = subst (λ (l : List ℕ). l ≡ slice_set l 0 (slice_index l 0)) (sym is) refl

  -- ---- what the rule says to a reader
  abbrev HasSeen : List T → Seen T → Type 0
  HasSeen history seen = Begins seen.posts history × (IsWhole seen → seen.posts ≡ history)

  other_has_seen : (history : List T) (seen : Seen T) → IsWithin history seen → HasSeen history seen
  other_has_seen history seen is = (is.posts, λ all. absurd (not_whole seen is.keeps (ap (λ (s : Seen T). s.keeps) all)))

  pub counts : (words : List ℕ) (endpoints : List (Seen T)) → CounterRule words endpoints
      → (history : List T) × (words ≡ length history ∷ []) × (slice_get endpoints 0 ≡ Some (whole history)) × All (λ seen. Begins seen.posts history × (IsWhole seen → seen.posts ≡ history)) endpoints
  counts words endpoints rule =
      let history = rule.history in (
        history,
        rule.word,
        ap (λ l. slice_get l 0) rule.machine,
        subst (All (HasSeen history)) (sym rule.machine)
            (All-cons (HasSeen history) (whole history) rule.others (begins_itself history, λ _. refl) (All-weaker (IsWithin history) (HasSeen history) (other_has_seen history) rule.others rule.each)),
      )

-- Journals that get one entry more.
use Rattle.std.proofs.Common.{◌≡◌, ℕ, ◌+◌, ◌≤◌, ◌<◌, Bool, true, false, if◌then◌else◌, List, [], ◌∷◌, ◌++◌, length, take, refl, sym, ap, ◌∙◌, arith, append-nil}
use Rattle.std.specs.Prelude.{Ok, Err, slice_index_or}
use Rattle.std.proofs.lemmas.List.{length-append, map-append, append_assoc, take_more}
use Rattle.st_answers.specs.declared.answer.Answer.{Answer}
use Rattle.st_answers.specs.declared.answer.Answer.TheVariants as answer
use Rattle.st_answers.specs.declared.command.Command.{Command}
use Rattle.st_answers.specs.declared.command.Command.TheVariants as command
use Rattle.st_answers.specs.declared.entry.Entry.{Entry}
use Rattle.st_journal.specs.declared.journal_entry.JournalEntry.{JournalEntry}
use Rattle.st_journal.specs.declared.post.Post.{Post}
use Rattle.st_journal.specs.Journal.{numbers_of, is_port, AreNumbered, posted_as, posted_by, posted_in, posts_of}

module _ {S C : Type 0} where
  -- ---- numbers
  -- the next number is the last one's plus one
  pub numbered_more : (before last : ℕ) (entries : List (JournalEntry S C)) (entry : JournalEntry S C) → AreNumbered before entries last
      → entry.number ≡ last + 1 → AreNumbered before (entries ++ entry ∷ []) (last + 1)
  numbered_more before last [] entry numbered is = (is ∙ ap (λ n. n + 1) (sym numbered), is)
  numbered_more before last (first ∷ entries) entry numbered is =
      (numbered.0, numbered_more first.number last entries entry numbered.1 is)

  -- one entry more
  pub longer : (entries : List (JournalEntry S C)) (entry : JournalEntry S C) → length (entries ++ entry ∷ []) ≡ length entries + 1
  longer entries entry = length-append entries (entry ∷ [])

  -- ---- posts
  -- a journal after a journal
  pub posts-append : (port : ℕ) (entries more : List (JournalEntry S C)) → posts_of port (entries ++ more) ≡ posts_of port entries ++ posts_of port more
  posts-append port [] more = refl
  posts-append port (entry ∷ entries) more =
      ap (λ posts. posted_in port entry ++ posts) (posts-append port entries more)
      ∙ sym (append_assoc (posted_in port entry) (posts_of port entries) (posts_of port more))

  -- an entry posts one event at most
  once_as : (entry : Entry) (content : C) (said : Answer S C) → length (posted_as entry content said) ≤ 1
  once_as entry content (answer.Post (Ok number)) = omega arith
  once_as entry content (answer.Post (Err refused)) = omega arith
  once_as entry content (answer.Tick ticked) = omega arith
  once_as entry content (answer.Turn turned) = omega arith
  once_as entry content (answer.Reply taken) = omega arith
  once_as entry content (answer.Collect collected) = omega arith
  once_as entry content (answer.Stop stopped) = omega arith
  once_as entry content (answer.TakeOut message) = omega arith

  once_by : (command : Command C) (said : Answer S C) → length (posted_by command said) ≤ 1
  once_by (command.Post entry content) said = once_as entry content said
  once_by (command.Tick now) said = omega arith
  once_by (command.Turn now) said = omega arith
  once_by (command.Reply tag content) said = omega arith
  once_by (command.Collect tag) said = omega arith
  once_by (command.Stop reason) said = omega arith
  once_by command.TakeOut said = omega arith

  once_if : (test : Bool) (command : Command C) (said : Answer S C) → length (if test then posted_by command said else []) ≤ 1
  once_if true command said = once_by command said
  once_if false command said = omega arith

  pub once_in : (port : ℕ) (entry : JournalEntry S C) → length (posted_in port entry) ≤ 1
  once_in port entry = once_if (is_port port entry.source) entry.command entry.answer

  -- with one entry more a port has one post more at most
  pub one_more : (port : ℕ) (entries : List (JournalEntry S C)) (entry : JournalEntry S C)
      → length (posts_of port (entries ++ entry ∷ [])) ≤ length (posts_of port entries) + 1
  one_more port entries entry =
      let split : posts_of port (entries ++ entry ∷ []) ≡ posts_of port entries ++ posted_in port entry =
      posts-append port entries (entry ∷ []) ∙ ap (λ posts. posts_of port entries ++ posts) (append-nil (posted_in port entry)) in
      let once = once_in port entry in
      rw (split, length-append (posts_of port entries) (posted_in port entry)) (omega (arith, once))

  -- an entry of no port, or of another one, posts nothing for a port
  pub none_more : (port : ℕ) (entries : List (JournalEntry S C)) (entry : JournalEntry S C) → is_port port entry.source ≡ false
      → posts_of port (entries ++ entry ∷ []) ≡ posts_of port entries
  none_more port entries entry other =
      posts-append port entries (entry ∷ [])
      ∙ (ap (λ (own : Bool). posts_of port entries ++ ((if own then posted_by entry.command entry.answer else []) ++ [])) other
      ∙ append-nil (posts_of port entries))

  -- the numbers of one entry more
  pub numbers_next : (port : ℕ) (entries : List (JournalEntry S C)) (index : ℕ) (entry : JournalEntry S C) (numbers more : List ℕ) → index < length entries
      → entry ≡ slice_index_or entries index entry → numbers ≡ numbers_of (posts_of port (take index entries)) → more ≡ numbers_of (posted_in port entry)
      → numbers ++ more ≡ numbers_of (posts_of port (take (index + 1) entries))
  numbers_next port entries index entry numbers more below is so_far own =
      let next : take (index + 1) entries ≡ take index entries ++ entry ∷ [] =
      take_more entries index entry below ∙ ap (λ one. take index entries ++ one ∷ []) (sym is) in
      let split : posts_of port (take index entries ++ entry ∷ []) ≡ posts_of port (take index entries) ++ posted_in port entry =
      posts-append port (take index entries) (entry ∷ []) ∙ ap (λ posts. posts_of port (take index entries) ++ posts) (append-nil (posted_in port entry)) in
      rw (next, split, map-append (λ (post : Post C). post.number) (posts_of port (take index entries)) (posted_in port entry), so_far, own) refl

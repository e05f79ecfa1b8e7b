-- How writes add up.
use Rattle.std.proofs.Common.{◌≡◌, ℕ, List, [], ◌++◌, Option, None, Some, refl, ap, sym, ◌∙◌, append_assoc, append-nil}
use Rattle.std.specs.Io.KnownBytes.{Appends}
use Rattle.st_doors.specs.Streams.{AppendsFront}

-- what two writes append, one after the other
pub appends_more : (old mid new : Option (List ℕ)) (a b : List ℕ) → Appends old mid a → Appends mid new b → Appends old new (a ++ b)
appends_more None mid new a b first second = tt
appends_more (Some xs) None new a b first second = absurd first
appends_more (Some xs) (Some ys) None a b first second = absurd second
appends_more (Some xs) (Some ys) (Some zs) a b first second = second ∙ (ap (λ t. t ++ b) first ∙ append_assoc xs a b)

-- no write appends nothing
pub appends_nothing : (held : Option (List ℕ)) → Appends held held []
appends_nothing None = tt
appends_nothing (Some xs) = sym (append-nil xs)

-- which is a front of any text
pub nothing_written : (held : Option (List ℕ)) (text : List ℕ) → AppendsFront held held text
nothing_written held text = ([], text, refl, appends_nothing held)

-- the same text under another name was appended
pub appends_same : (old new : Option (List ℕ)) (text other : List ℕ) → text ≡ other → Appends old new text → Appends old new other
appends_same old new text other same appended = rw (← same) appended

-- and so was a front of it
pub front_same : (old new : Option (List ℕ)) (text other : List ℕ) → text ≡ other → AppendsFront old new text → AppendsFront old new other
front_same old new text other same front = rw (← same) front

-- a front of a text is one of any longer text
pub front_longer : (old new : Option (List ℕ)) (text rest : List ℕ) → AppendsFront old new text → AppendsFront old new (text ++ rest)
front_longer old new text rest front = (
  front.0,
  front.1 ++ rest,
  ap (λ t. t ++ rest) front.2 ∙ append_assoc front.0 front.1 rest,
  front.3,
)

-- two halves stay the same where a piece comes behind both
pub one_piece_more : (a b c d piece : List ℕ) → a ++ b ≡ c ++ d → a ++ (b ++ piece) ≡ c ++ (d ++ piece)
one_piece_more a b c d piece same = sym (append_assoc a b piece) ∙ (ap (λ t. t ++ piece) same ∙ append_assoc c d piece)

-- a write that stops within a line has written a front of the output
pub front_more : (old mid new : Option (List ℕ)) (written text rest all : List ℕ)
    → Appends old mid written
    → AppendsFront mid new text
    → (written ++ text) ++ rest ≡ all
    → AppendsFront old new all
front_more old mid new written text rest all appended front whole = (
  written ++ front.0,
  front.1 ++ rest,
  sym whole ∙ (ap (λ t. (written ++ t) ++ rest) front.2 ∙ (ap (λ t. t ++ rest) (sym (append_assoc written front.0 front.1)) ∙ append_assoc (written ++ front.0) front.1 rest)),
  appends_more old mid new written front.0 appended front.3,
)

-- The definitions computed on examples: a post that is added, an endpoint that is one behind and follows, and a counter that
-- keeps the rule.
use Rattle.std.proofs.Common.{◌≡◌, ℕ, false, List, [], ◌∷◌, refl}
use Rattle.std.proofs.lemmas.List.Elements.{All-nil, All-cons}
use Rattle.st_post_counter.specs.Seen.{whole, part, joined}
use Rattle.st_post_counter.specs.Counter.{IsWithin, CounterRule}
use Rattle.st_post_counter.specs.Steps.{SeesAdded, copy_of, joined_of, ComparesBoth}

abbrev one : List ℕ
one = 10 ∷ []

abbrev two : List ℕ
two = 10 ∷ 20 ∷ []

abbrev three : List ℕ
three = 10 ∷ 20 ∷ 30 ∷ []

-- the machine's endpoint had seen two posts, and sees a third
added : SeesAdded (30 ∷ []) (whole two) (whole three)
added = refl

-- the port's takes in a copy of it: it has seen three posts, and keeps both lists
taken_in : joined_of (part two) (copy_of (whole three)) ≡ record { keeps = false; posts = three; own = two; taken = three }
taken_in = refl

-- a copy that has seen less adds nothing
taken_in_less : joined_of (part two) (part one) ≡ record { keeps = false; posts = two; own = two; taken = one }
taken_in_less = refl

-- both lists are beginnings of the longer, and that is what it has seen once it has compared them
compared : ComparesBoth (joined two three) (part three)
compared = record { seen = refl; own = (30 ∷ [], refl); taken = ([], refl) }

-- a counter of three posts, on which another endpoint than the machine's has seen two
kept : CounterRule (3 ∷ []) (whole three ∷ part two ∷ [])
kept =
    let within : IsWithin three (part two) = record { keeps = refl; posts = (30 ∷ [], refl); own = (three, refl); taken = (three, refl) } in
    record { history = three; others = part two ∷ []; word = refl; machine = refl; each = All-cons (IsWithin three) (part two) [] within (All-nil (IsWithin three)) }

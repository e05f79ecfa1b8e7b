-- One reply after another.
use Rattle.std.proofs.Common.{◌≡◌, ℕ, ◌+◌, ◌≤◌, true, false, List, [], ◌∷◌, ◌++◌, length, length-append, append_assoc, refl, ap, ◌∙◌, arith}
use Rattle.st_events.specs.declared.tag.Tag.{Tag}
use Rattle.st_requests.specs.declared.request.Request.{Request}
use Rattle.st_requests.specs.Requests.{is_open, with_answer, with_answers, taken_by}

module _ {C : Type 0} where
  -- some replies are done; those that are left are to be done, and for their tags memory is reserved
  pub record AnsweredSoFar (old : List (Request C)) (replies : List (Tag × C)) (before : List Tag) (requests : List (Request C)) (listed : List Tag) (capacity : ℕ)
      (left : List (Tag × C)) : Type 0 where
    pub all : with_answers requests left ≡ with_answers old replies
    pub taken : listed ++ taken_by requests left ≡ before ++ taken_by old replies
    pub reserved : length listed + length left ≤ capacity

  -- none is done yet
  pub all_left : (old : List (Request C)) (replies left : List (Tag × C)) (before : List Tag) (capacity : ℕ) → left ≡ replies
      → length before + length replies ≤ capacity → AnsweredSoFar old replies before old before capacity left
  all_left old replies left before capacity same reserved = rw same (record { all = refl; taken = refl; reserved = reserved })

  -- the next reply comes to an open request, and its tag is listed
  pub taken_next : (old requests : List (Request C)) (replies left rest : List (Tag × C)) (before listed : List Tag) (capacity : ℕ) (tag : Tag) (content : C)
      → AnsweredSoFar old replies before requests listed capacity left → left ≡ (tag, content) ∷ rest → is_open requests tag ≡ true
      → AnsweredSoFar old replies before (with_answer requests tag content) (listed ++ tag ∷ []) capacity rest
  taken_next old requests replies left rest before listed capacity tag content so_far next waits =
      let taken : listed ++ tag ∷ taken_by (with_answer requests tag content) rest ≡ before ++ taken_by old replies = rw (next, waits) at so_far.taken in
      record {
        all = rw next at so_far.all;
        taken = append_assoc listed (tag ∷ []) (taken_by (with_answer requests tag content) rest) ∙ taken;
        reserved = omega (arith, so_far.reserved, ap length next, length-append listed (tag ∷ []));
      }

  -- or to another, and nothing is listed
  pub passed_next : (old requests : List (Request C)) (replies left rest : List (Tag × C)) (before listed : List Tag) (capacity : ℕ) (tag : Tag) (content : C)
      → AnsweredSoFar old replies before requests listed capacity left → left ≡ (tag, content) ∷ rest → is_open requests tag ≡ false
      → AnsweredSoFar old replies before (with_answer requests tag content) listed capacity rest
  passed_next old requests replies left rest before listed capacity tag content so_far next shut = record {
    all = rw next at so_far.all;
    taken = rw (next, shut) at so_far.taken;
    reserved = omega (arith, so_far.reserved, ap length next);
  }

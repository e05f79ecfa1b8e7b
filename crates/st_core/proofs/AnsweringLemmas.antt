-- One reply more of a list of actions is done.
use Rattle.std.proofs.Common.{◌≡◌, ℕ, ◌<◌, ◌≤◌, true, false, Some, None, Option, List, [], ◌∷◌, ◌++◌, refl, sym, ap, ◌∙◌, length, length-append, append_assoc, append-nil, arith}
use Rattle.std.specs.Option.{option_to_list}
use Rattle.st_events.specs.declared.action.Action.{Action}
use Rattle.st_events.specs.declared.action.Action.TheVariants.{Reply, Postpone, NextEvent, Set, Cancel, Update, Send, Hibernate}
use Rattle.st_events.specs.declared.tag.Tag.{Tag}
use Rattle.st_actions.specs.Plan.{replies_of}
use Rattle.st_requests.specs.declared.request.Request.{Request}
use Rattle.st_requests.specs.Requests.{with_answer, with_answers, taken_by, is_open}
use Rattle.st_requests.proofs.LoopLemmas.{AnsweredSoFar}

module _ {C : Type 0} (old : List (Request C)) (replies : List (Tag × C)) (before : List Tag) where
  -- none was at this place
  pub none_more : (requests : List (Request C)) (listed : List Tag) (capacity : ℕ) (left rest : List (Tag × C)) (reply : Option (Tag × C))
      → reply ≡ None → left ≡ option_to_list reply ++ rest → AnsweredSoFar old replies before requests listed capacity left
      → AnsweredSoFar old replies before requests listed capacity rest
  none_more requests listed capacity left rest reply none taken known =
      let same : left ≡ rest = taken ∙ ap (λ (o : Option (Tag × C)). option_to_list o ++ rest) none in rw (← same) known

  -- one was, and its request was open
  pub one_taken : (requests after : List (Request C)) (listed more : List Tag) (capacity capacity_after : ℕ) (left rest : List (Tag × C)) (reply : Option (Tag × C)) (tag : Tag) (content : C)
      → reply ≡ Some (tag, content) → left ≡ option_to_list reply ++ rest → after ≡ with_answer requests tag content → is_open requests tag ≡ true
      → more ≡ listed ++ tag ∷ [] → capacity_after ≡ capacity
      → AnsweredSoFar old replies before requests listed capacity left → AnsweredSoFar old replies before after more capacity_after rest
  one_taken requests after listed more capacity capacity_after left rest reply tag content one taken answered is_one longer as_large known =
      let first : left ≡ (tag, content) ∷ rest = taken ∙ ap (λ (o : Option (Tag × C)). option_to_list o ++ rest) one in
      let count = ap length longer ∙ length-append listed (tag ∷ []) in
      let all = ap (λ (xs : List (Tag × C)). with_answers requests xs) first in
      let tags : taken_by requests left ≡ tag ∷ taken_by (with_answer requests tag content) rest =
      ap (λ (xs : List (Tag × C)). taken_by requests xs) first ∙ rw is_one refl in
      record {
        all = ap (λ (rs : List (Request C)). with_answers rs rest) answered ∙ (sym all ∙ known.all);
        taken = rw (longer, answered, append_assoc listed (tag ∷ []) (taken_by (with_answer requests tag content) rest))
            (sym (ap (λ (ts : List Tag). listed ++ ts) tags) ∙ known.taken);
        reserved = omega (arith, count, ap length first, as_large, known.reserved);
      }

  -- one was, and its request was not open
  pub one_passed : (requests after : List (Request C)) (listed : List Tag) (capacity : ℕ) (left rest : List (Tag × C)) (reply : Option (Tag × C)) (tag : Tag) (content : C)
      → reply ≡ Some (tag, content) → left ≡ option_to_list reply ++ rest → after ≡ with_answer requests tag content → is_open requests tag ≡ false
      → AnsweredSoFar old replies before requests listed capacity left → AnsweredSoFar old replies before after listed capacity rest
  one_passed requests after listed capacity left rest reply tag content one taken answered closed known =
      let first : left ≡ (tag, content) ∷ rest = taken ∙ ap (λ (o : Option (Tag × C)). option_to_list o ++ rest) one in
      let tags : taken_by requests left ≡ taken_by (with_answer requests tag content) rest =
      ap (λ (xs : List (Tag × C)). taken_by requests xs) first ∙ rw closed refl in
      record {
        all = ap (λ (rs : List (Request C)). with_answers rs rest) answered ∙ (sym (ap (λ (xs : List (Tag × C)). with_answers requests xs) first) ∙ known.all);
        taken = rw answered (sym (ap (λ (ts : List Tag). listed ++ ts) tags) ∙ known.taken);
        reserved = omega (arith, ap length first, known.reserved);
      }

  -- for the tag of one more there is a place
  pub has_place : (requests : List (Request C)) (listed : List Tag) (capacity : ℕ) (left rest : List (Tag × C)) (reply : Option (Tag × C)) (one : Tag × C)
      → reply ≡ Some one → left ≡ option_to_list reply ++ rest → AnsweredSoFar old replies before requests listed capacity left → length listed < capacity
  has_place requests listed capacity left rest reply one there taken known =
      let first : left ≡ one ∷ rest = taken ∙ ap (λ (o : Option (Tag × C)). option_to_list o ++ rest) there in
      omega (arith, ap length first, known.reserved)

  -- none is left
  pub all_answered : (requests : List (Request C)) (listed : List Tag) (capacity : ℕ) (left : List (Tag × C)) → left ≡ [] → AnsweredSoFar old replies before requests listed capacity left
      → (requests ≡ with_answers old replies) × (listed ≡ before ++ taken_by old replies)
  all_answered requests listed capacity left none known =
      (rw none at known.all, sym (append-nil listed) ∙ (rw none at known.taken))

-- there are no more replies than actions
pub replies_within : {C : Type 0} (actions : List (Action C)) → length (replies_of actions) ≤ length actions
replies_within [] = omega arith
replies_within (Reply tag content ∷ actions) = let rest = replies_within actions in omega (arith, rest)
replies_within (Postpone last ∷ actions) = let rest = replies_within actions in omega (arith, rest)
replies_within (NextEvent kind content ∷ actions) = let rest = replies_within actions in omega (arith, rest)
replies_within (Set timer time content ∷ actions) = let rest = replies_within actions in omega (arith, rest)
replies_within (Cancel timer ∷ actions) = let rest = replies_within actions in omega (arith, rest)
replies_within (Update timer content ∷ actions) = let rest = replies_within actions in omega (arith, rest)
replies_within (Send target content ∷ actions) = let rest = replies_within actions in omega (arith, rest)
replies_within (Hibernate ∷ actions) = let rest = replies_within actions in omega (arith, rest)

-- The definitions computed on examples: three requests are opened, the second is answered, the machine
-- stops, and each is collected; one is taken back; and replies come in a list.
use Rattle.std.proofs.Common.{◌≡◌, ℕ, true, false, arith, List, [], ◌∷◌, ◌++◌, refl}
use Rattle.std.specs.Prelude.{Some, None}
use Rattle.st_events.specs.declared.tag.Tag.{Tag}
use Rattle.st_requests.specs.declared.collected.Collected.TheVariants as collected
use Rattle.st_requests.specs.declared.request_state.RequestState.{RequestState}
use Rattle.st_requests.specs.declared.request_state.RequestState.TheVariants.{Open, Reply, Stopped}
use Rattle.st_requests.specs.declared.request.Request.{Request}
use Rattle.st_requests.specs.Requests.{same_tag, held_for, is_open, reply_of, with_answer, with_answers, taken_by, collected_of, without_kept, without_request, closed_by, AreOf, NoneOpen}

-- a request to the machine at place 0 with the serial 1
abbrev tag : ℕ → Tag
tag request = record { machine = record { slot = 0; serial = 1 }; request = request }

abbrev request : ℕ → RequestState ℕ → Request ℕ
request number held = record { tag = tag number; held = held }

-- three requests are open; the second is answered with 50; the machine stops for the reason 9
abbrev opened : List (Request ℕ)
opened = request 1 Open ∷ request 2 Open ∷ request 3 Open ∷ []

abbrev replied : List (Request ℕ)
replied = request 1 Open ∷ request 2 (Reply 50) ∷ request 3 Open ∷ []

abbrev stopped : List (Request ℕ)
stopped = request 1 (Stopped 9) ∷ request 2 (Reply 50) ∷ request 3 (Stopped 9) ∷ []

-- ---- tags: the place, the serial and the request count
same : same_tag (tag 2) (tag 2) ≡ true
same = refl

another_request : same_tag (tag 2) (tag 3) ≡ false
another_request = refl

another_place : same_tag (tag 2) (record { machine = record { slot = 1; serial = 1 }; request = 2 }) ≡ false
another_place = refl

another_serial : same_tag (tag 2) (record { machine = record { slot = 0; serial = 2 }; request = 2 }) ≡ false
another_serial = refl

-- ---- the third is opened, behind the others
is_new : held_for (request 1 Open ∷ request 2 Open ∷ []) (tag 3) ≡ None
is_new = refl

opens_the_third : (request 1 Open ∷ request 2 Open ∷ []) ++ request 3 Open ∷ [] ≡ opened
opens_the_third = refl

-- ---- the second is answered
was_open : is_open opened (tag 2) ≡ true
was_open = refl

answers_the_second : with_answer opened (tag 2) 50 ≡ replied
answers_the_second = refl

shows_the_reply : reply_of (held_for replied (tag 2)) ≡ Some 50
shows_the_reply = refl

shows_no_reply_of_another : reply_of (held_for replied (tag 1)) ≡ None
shows_no_reply_of_another = refl

-- answered again: the first answer is kept
is_answered : is_open replied (tag 2) ≡ false
is_answered = refl

keeps_the_first_answer : with_answer replied (tag 2) 60 ≡ replied
keeps_the_first_answer = refl

-- a reply to a tag for which nothing was opened
is_unknown : is_open replied (tag 4) ≡ false
is_unknown = refl

knows_no_other : with_answer replied (tag 4) 70 ≡ replied
knows_no_other = refl

-- an open request has nothing to collect yet, and stays
is_waited_for : collected_of (held_for replied (tag 1)) ≡ collected.Waiting
is_waited_for = refl

stays_open : without_kept replied (tag 1) ≡ replied
stays_open = refl

-- ---- the machine stops: the first and the third get the reason, the second keeps its reply
closes_the_open : closed_by 9 replied ≡ stopped
closes_the_open = refl

-- a second close changes nothing, and neither does a reply
stays_closed : closed_by 8 stopped ≡ stopped
stays_closed = refl

answers_none : with_answer stopped (tag 1) 80 ≡ stopped
answers_none = refl

shows_no_reason : reply_of (held_for stopped (tag 1)) ≡ None
shows_no_reason = refl

-- ---- each is collected, once
collects_the_first : collected_of (held_for stopped (tag 1)) ≡ collected.Stopped 9
collects_the_first = refl

without_the_first : without_kept stopped (tag 1) ≡ request 2 (Reply 50) ∷ request 3 (Stopped 9) ∷ []
without_the_first = refl

collects_the_second : collected_of (held_for (without_kept stopped (tag 1)) (tag 2)) ≡ collected.Reply 50
collects_the_second = refl

collects_the_third : collected_of (held_for (without_kept (without_kept stopped (tag 1)) (tag 2)) (tag 3)) ≡ collected.Stopped 9
collects_the_third = refl

without_all : without_kept (without_kept (without_kept stopped (tag 1)) (tag 2)) (tag 3) ≡ []
without_all = refl

first_is_gone : collected_of (held_for (without_kept stopped (tag 1)) (tag 1)) ≡ collected.Gone
first_is_gone = refl

second_is_gone : collected_of (held_for (without_kept stopped (tag 2)) (tag 2)) ≡ collected.Gone
second_is_gone = refl

third_is_gone : collected_of (held_for (without_kept stopped (tag 3)) (tag 3)) ≡ collected.Gone
third_is_gone = refl

-- ---- a request is taken back: an open one, one that is answered, and one that was never opened
takes_it_back : without_request opened (tag 3) ≡ request 1 Open ∷ request 2 Open ∷ []
takes_it_back = refl

lets_a_reply_go : without_request replied (tag 2) ≡ request 1 Open ∷ request 3 Open ∷ []
lets_a_reply_go = refl

takes_none_back : without_request replied (tag 4) ≡ replied
takes_none_back = refl

-- ---- replies to the second, to one that was never opened, to the first, and to the second once more
abbrev four : List (Tag × ℕ)
four = (tag 2, 50) ∷ (tag 4, 60) ∷ (tag 1, 70) ∷ (tag 2, 80) ∷ []

answers_in_order : with_answers opened four ≡ request 1 (Reply 70) ∷ request 2 (Reply 50) ∷ request 3 Open ∷ []
answers_in_order = refl

takes_two : taken_by opened four ≡ tag 2 ∷ tag 1 ∷ []
takes_two = refl

takes_none : taken_by stopped four ≡ []
takes_none = refl

-- ---- whose they are, and whether one is open
are_below : AreOf (record { slot = 0; serial = 1 }) 4 opened
are_below = (refl, omega arith, (refl, omega arith, (refl, omega arith, tt)))

are_not_below : AreOf (record { slot = 0; serial = 1 }) 3 opened → ⊥
are_not_below are = omega (arith, are.2.2.1)

none_is_open : NoneOpen stopped
none_is_open = (refl, (refl, (refl, tt)))

one_is_open : NoneOpen replied → ⊥
one_is_open none = let waits : true ≡ false = none.0 in cc

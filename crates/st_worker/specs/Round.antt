-- What a round of a worker does.
use Rattle.std.specs.Prelude.{◌≡◌, ◌⊎◌, ◌<◌, ◌++◌, ℕ, List, [], ◌∷◌, length, map, Option, Some, None, IsSome, slice_set, slice_index_or}
use Rattle.st_events.specs.declared.message.Message.{Message}
use Rattle.st_events.specs.declared.token.Token.{Token}
use Rattle.st_runq.specs.Ends.{lane_of, put_of, taken_of, robbed_of, stolen_of, source_of, fetched_of}
use Rattle.st_runq.specs.RunQueue.{Entry}
use Rattle.st_worker.specs.declared.worker.Worker.{Worker}

-- what a worker has taken: from its own run queue, from the shared one, and from each of the others
abbrev pub taken_lists : {C : Type 0} → Worker C → List (List Entry)
taken_lists worker = taken_of worker.lane ∷ fetched_of worker.shared ∷ map stolen_of worker.thieves.items

-- one of the lists has this token more, at its end, with some place, and the others are as they were
abbrev pub TakesOne : List (List Entry) → Token → List (List Entry) → Type 0
TakesOne old token new =
    (k : ℕ) × (place : ℕ) × (k < length old) × (new ≡ slice_set old k (slice_index_or old k [] ++ (place, token) ∷ []))

-- its number and its run queues stay
abbrev pub HasSameQueues : {C : Type 0} → Worker C → Worker C → Type 0
HasSameQueues old new = (new.number ≡ old.number) × (lane_of new.lane ≡ lane_of old.lane)
    × (source_of new.shared ≡ source_of old.shared) × (map robbed_of new.thieves.items ≡ map robbed_of old.thieves.items)

-- the one token of a round: that which it had, or else the only one that it took
abbrev pub HasToken : {C : Type 0} → Worker C → Token → Worker C → Type 0
HasToken old token new = ((old.hand ≡ Some token) × (taken_lists new ≡ taken_lists old))
    ⊎ ((old.hand ≡ None) × TakesOne (taken_lists old) token (taken_lists new))

-- a turn at a moment of the gate's, which answers so
abbrev pub served_at : (ℕ → Type 0) → (Token → ℕ → Option Token → Type 0) → Token → ℕ → Option Token → Type 0
served_at moment served token now answer = moment now × served token now answer

-- the token's turn, at some moment: to be served again, it is put on the own run queue, or else stays with the worker;
-- else the worker has none
abbrev pub LeavesToken : {C : Type 0} → (Token → ℕ → Option Token → Type 0) → Worker C → Token → Worker C → Type 0
LeavesToken served old token new = (now : ℕ) × (
    (served token now (Some token) × (((put_of new.lane ≡ put_of old.lane ++ token ∷ []) × (new.hand ≡ None))
    ⊎ ((put_of new.lane ≡ put_of old.lane) × (new.hand ≡ Some token))))
    ⊎ (served token now None × (new.hand ≡ None) × (put_of new.lane ≡ put_of old.lane)))

-- the worker had one token, and served it once
abbrev pub Serves : {C : Type 0} → (Token → ℕ → Option Token → Type 0) → Worker C → Worker C → Type 0
Serves served old new = (token : Token) × HasToken old token new × LeavesToken served old token new

-- it has a token now: that which it had, or else the only one that it took; it carries what it carried
abbrev pub Holds : {C : Type 0} → Worker C → Worker C → Type 0
Holds old new = (token : Token) × (new.hand ≡ Some token) × HasToken old token new × (new.transit ≡ old.transit)

-- it had none, and there was none to take; it carries what it carried
abbrev pub FindsNone : {C : Type 0} → Worker C → Worker C → Type 0
FindsNone old new = (old.hand ≡ None) × (new.hand ≡ None) × (taken_lists new ≡ taken_lists old)
    × (put_of new.lane ≡ put_of old.lane) × (new.transit ≡ old.transit)

-- who carries a message has a token, so it stands on no run queue
abbrev pub HoldsWhatCarries : {C : Type 0} → Worker C → Type 0
HoldsWhatCarries worker = IsSome worker.transit.message → IsSome worker.hand

-- this token was put on the own run queue, and nothing was taken
abbrev pub PutsOwn : {C : Type 0} → Worker C → Token → Worker C → Type 0
PutsOwn old token new = HasSameQueues old new × (taken_lists new ≡ taken_lists old)
    × (put_of new.lane ≡ put_of old.lane ++ token ∷ [])

-- the token that a delivery woke was put on the own run queue; the worker has the token and the message that it had
abbrev pub GivesWoken : {C : Type 0} → Worker C → Worker C → Type 0
GivesWoken old new = (token : Token) × (old.transit.woken ≡ Some token) × PutsOwn old token new
    × (new.hand ≡ old.hand) × (new.transit ≡ record old.transit { woken = None })

-- it carried no message, and the token that it had was put on the own run queue
abbrev pub PutsBack : {C : Type 0} → Worker C → Worker C → Type 0
PutsBack old new = (token : Token) × (old.hand ≡ Some token) × (old.transit.message ≡ None) × PutsOwn old token new
    × (new.hand ≡ None) × (new.transit ≡ old.transit)

-- nothing was put or taken, and it has what it had
abbrev pub StaysSame : {C : Type 0} → Worker C → Worker C → Type 0
StaysSame old new = HasSameQueues old new × (taken_lists new ≡ taken_lists old) × (put_of new.lane ≡ put_of old.lane)
    × (new.hand ≡ old.hand) × (new.transit ≡ old.transit)

-- the message that is carried, with the token
abbrev pub carried_by : {C : Type 0} → Option Token → Option (Message C) → List (Token × Message C)
carried_by (Some token) (Some message) = (token, message) ∷ []
carried_by (Some token) None = []
carried_by None message = []

-- What asking about a collection answers, and what it leaves: where there is no request, so; or each waits; or the first one that does not wait is taken out, and its label is answered, with what is kept for it.
use Rattle.std.specs.Prelude.{◌≡◌, ◌<◌, List, [], ◌∷◌, ◌++◌, ℕ, Option, Some, None, Result, Ok, Err, length, slice_get}
use Rattle.st_events.specs.declared.refusal.Refusal.{Refusal}
use Rattle.st_events.specs.declared.tag.Tag.{Tag}
use Rattle.st_requests.specs.declared.collected.Collected.{Collected}
use Rattle.st_requests.specs.declared.collected.Collected.TheVariants as collected
use Rattle.st_answers.specs.declared.command.Command.TheVariants as command
use Rattle.st_core.specs.Callbacks.{Callbacks}
use Rattle.st_scheduled.specs.Answered.{collected_as}
use Rattle.st_lock.specs.Machines.{IsToldSomewhere}
use Rattle.st_collection.specs.declared.sent.Sent.{Sent}
use Rattle.st_client.specs.declared.checked.Checked.{Checked}
use Rattle.st_client.specs.declared.checked.Checked.TheVariants.{NoRequest, NoReply, Response, Stopped, Gone}

module _ {M S D C : Type 0} (callbacks : M → Callbacks S D C) where
  -- some lawful cell of a request's machine answers so to who collects the request
  abbrev pub IsCollectedSomewhere : Tag → Result (Collected C) Refusal → Type 0
  IsCollectedSomewhere tag answer = IsToldSomewhere callbacks tag.machine (command.Collect tag) (collected_as answer)

  module _ {L : Type 0} where
    -- the request at a place is answered so
    abbrev pub IsAnsweredAt : List (Sent Tag L) → ℕ → Result (Collected C) Refusal → Type 0
    IsAnsweredAt all place answer = (sent : Sent Tag L) → slice_get all place ≡ Some sent → IsCollectedSomewhere sent.request answer

    -- each request that stands before a place waits
    abbrev pub WaitBefore : List (Sent Tag L) → ℕ → Type 0
    WaitBefore all place = (earlier : ℕ) → earlier < place → IsAnsweredAt all earlier (Ok collected.Waiting)

    -- the place of the first request that does not wait, and what is kept for it; or each waits
    abbrev pub FindsFirst : List (Sent Tag L) → Option (ℕ × Collected C) → Type 0
    FindsFirst all None = WaitBefore all (length all)
    FindsFirst all (Some (place, kept)) = (place < length all) × (kept ≡ collected.Waiting → ⊥) × IsAnsweredAt all place (Ok kept) × WaitBefore all place

    -- one request was taken out, with its label and with what is kept for it; those before it wait
    pub record TakesOut (old : List (Sent Tag L)) (kept : Collected C) (label : L) (new : List (Sent Tag L)) : Type 0 where
      pub before : List (Sent Tag L)
      pub taken : Sent Tag L
      pub after : List (Sent Tag L)
      pub was : old ≡ before ++ taken ∷ after
      pub left : new ≡ before ++ after
      pub labelled : label ≡ taken.label
      pub answered : IsCollectedSomewhere taken.request (Ok kept)
      pub waiting : WaitBefore before (length before)

    -- what is answered, and what is left
    abbrev pub ChecksAny : List (Sent Tag L) → Checked C L → List (Sent Tag L) → Type 0
    ChecksAny old NoRequest new = (old ≡ []) × (new ≡ old)
    ChecksAny old NoReply new = (old ≡ [] → ⊥) × (new ≡ old) × WaitBefore old (length old)
    ChecksAny old (Response content label) new = TakesOut old (collected.Reply content) label new
    ChecksAny old (Stopped reason label) new = TakesOut old (collected.Stopped reason) label new
    ChecksAny old (Gone label) new = TakesOut old collected.Gone label new

    -- some request was refused so
    abbrev pub RefusesOne : List (Sent Tag L) → Refusal → Type 0
    RefusesOne all refusal = (before : List (Sent Tag L)) × (one : Sent Tag L) × (after : List (Sent Tag L)) × (all ≡ before ++ one ∷ after) × IsCollectedSomewhere one.request (Err refusal)

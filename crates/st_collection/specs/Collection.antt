-- The requests of a collection, in the order in which they were added, and what each call makes of them.
use Rattle.std.specs.Prelude.{ℕ, zero, suc, if◌then◌else◌, Option, List, [], ◌∷◌, map, position}
use Rattle.std.specs.List.{IsDistinct}
use Rattle.st_events.specs.declared.tag.Tag.{Tag}
use Rattle.st_requests.specs.Requests.{same_tag}
use Rattle.st_collection.specs.declared.sent.Sent.{Sent}

module _ {Q L : Type 0} where
  module _ (tag_is : Q → Tag) where
    -- the tag of a request that was sent
    abbrev pub tag_of : Sent Q L → Tag
    tag_of sent = tag_is sent.request

    -- no two requests have one tag
    abbrev pub HaveOwnTags : List (Sent Q L) → Type 0
    HaveOwnTags collection = IsDistinct same_tag (map tag_of collection)

    -- the place of the first request of a tag
    abbrev pub place_of : Tag → List (Sent Q L) → Option ℕ
    place_of tag collection = position (same_tag tag) (map tag_of collection)

    -- the requests with one more behind them, and its label; where one of its tag is there, that one keeps its place, and takes the label
    abbrev pub added : Q → L → List (Sent Q L) → List (Sent Q L)
    added request label [] = record { request = request; label = label } ∷ []
    added request label (sent ∷ others) =
        if same_tag (tag_is request) (tag_of sent) then record sent { label = label } ∷ others else sent ∷ added request label others

    -- a request as it is listed: its tag, and its label
    abbrev pub shown : Sent Q L → Tag × L
    shown sent = (tag_of sent, sent.label)

  -- the request at a place has this label, and the others stay
  abbrev pub with_label : ℕ → L → List (Sent Q L) → List (Sent Q L)
  with_label place label [] = []
  with_label zero label (sent ∷ others) = record sent { label = label } ∷ others
  with_label (suc place) label (sent ∷ others) = sent ∷ with_label place label others

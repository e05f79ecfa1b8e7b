use Rattle.std.proofs.Common.{rules, ◌≡◌, ◌∙◌, sym, false, inl, inr}
use Rattle.st_doors.specs.Settling.{has_id}
use Rattle.st_doors.proofs.DoorLemmas.{IsFirst-within, if_none}
use Rattle.st_doors.proofs.IdleLemmas.{has-id}
use Rattle.st_doors.proofs.NotesLemmas.{cases_place, ids-apart, missing-at}
use Rattle.st_doors.proofs.due_doors.ready_place.Goals as goal

-- no door has the id
pub returns-in_err-place-clause-none : goal.returns-in_err-place-clause-none
returns-in_err-place-clause-none c = if_none _ c.from_residual.result (λ _ k d less same. absurd (missing-at c.args.id c.args.doors.now c.in_err-place.ensures.missing k d less same))

pub is_ready_at-requires : goal.is_ready_at-requires
is_ready_at-requires c = IsFirst-within (has_id c.args.id) c.args.doors.now c.in_ok-place.place c.in_ok-place.ensures.place

-- the one that has it is not ready
pub returns-else-is_ready_at-clause-none : goal.returns-else-is_ready_at-clause-none
returns-else-is_ready_at-clause-none c = λ k d less same.
    let rests : c.is_ready_at.result ≡ false = search rules in
    elim (cases_place k c.in_ok-place.place) [
      | inl here ↦ rw here (sym (c.is_ready_at.ensures d) ∙ rests)
      | inr differ ↦ absurd (ids-apart 0 k c.in_ok-place.place c.args.doors.now d c.serials_rise.ensures less
          (IsFirst-within (has_id c.args.id) c.args.doors.now c.in_ok-place.place c.in_ok-place.ensures.place) differ
          (same ∙ has-id c.args.id c.args.doors.now c.in_ok-place.place d c.in_ok-place.ensures.place))
    ]

-- What the calls of a cell that keeps its journal or keeps none leave of the inner state under a machine's lock.
use Rattle.std.proofs.Common.{◌≡◌, ℕ, inl, inr, Bool, true, false, List, refl, ap, subst, ◌∙◌, sym}
use Rattle.std.specs.Prelude.{Result, Ok, Err, None, OnErr, is_some}
use Rattle.st_events.specs.declared.refused.Refused.{Refused}
use Rattle.st_events.specs.declared.token.Token.{Token}
use Rattle.st_answers.specs.declared.entry.Entry.{Entry}
use Rattle.st_core.specs.Callbacks.{Callbacks}
use Rattle.st_scheduled.specs.declared.posted.Posted.{Posted}
use Rattle.st_scheduled.specs.Answered.{posted_as}
use Rattle.st_scheduled.specs.ScheduledMachine.{is_token_of}
use Rattle.st_scheduled.specs.declared.next.Next.{Next}
use Rattle.st_journal.specs.declared.post.Post.{Post}
use Rattle.st_cell.specs.Calls.{cut, next_as, served_at, Posts, TakesOut, Turns, TurnsBy}
use Rattle.st_cell.specs.Cell.{CellState, count_for, HasPosted, HasPostedNothing}
use Rattle.st_cell.proofs.PostLemmas.{posts_one}
use Rattle.st_any_cell.specs.AnyCell.{AnyCellState, kept_as}
use Rattle.st_any_cell.specs.AnyCell.{Leaves as LeavesAny, left}
use Rattle.st_post_counter.specs.Endpoint.{EndpointState}
use Rattle.st_lock_inner.specs.declared.service.Service.{Service}
use Rattle.st_lock_inner.specs.Inner.{IsInner, IsLeft, Leaves}
use Rattle.st_lock_inner.specs.Service.{Serves, turned_as}
use Rattle.st_lock_inner.proofs.InnerLemmas.{inner_cut, inner_kept}

module _ {M S D C : Type 0} where
  -- ---- one call
  -- a cell that keeps its journal, or keeps none
  kept_left : (keeps : Bool) (after : CellState M S D C) → IsLeft after (kept_as keeps after)
  kept_left true after = inl refl
  kept_left false after = inr refl

  pub is_left : (old new : AnyCellState M S D C) (after : CellState M S D C) → new ≡ left old after → IsLeft after new.cell
  is_left old new after same =
      subst (λ (cell : CellState M S D C). IsLeft after cell) (sym (ap (λ (state : AnyCellState M S D C). state.cell) same)) (kept_left old.keeps after)

  pub called : (does : CellState M S D C → Type 0) (old new : AnyCellState M S D C) → LeavesAny old does new → Leaves does new.cell
  called does old new went = (went.0, went.1, is_left old new went.0 went.2)

  -- what a refused call leaves
  pub err_cell : {T E : Type 0} (result : Result T E) (old new : AnyCellState M S D C) → OnErr result (new ≡ old) → OnErr result (new.cell ≡ old.cell)
  err_cell (Ok x) old new same = tt
  err_cell (Err e) old new same = ap (λ (state : AnyCellState M S D C). state.cell) same

  -- ---- the inner state
  pub inner_left : (after new : CellState M S D C) (ends : List (EndpointState (Post C))) → IsLeft after new
      → IsInner (record { cell = after; ends = ends }) → IsInner (record { cell = new; ends = ends })
  inner_left after new ends (inl same) is = subst (λ (cell : CellState M S D C). IsInner (record { cell = cell; ends = ends })) (sym same) is
  inner_left after new ends (inr same) is =
      subst (λ (cell : CellState M S D C). IsInner (record { cell = cell; ends = ends })) (sym same) (inner_cut after ends is)

  -- a call that posts nothing
  pub inner_called : (does : CellState M S D C → Type 0) (old new : AnyCellState M S D C) (ends : List (EndpointState (Post C)))
      → ((after : CellState M S D C) → does after → HasPostedNothing old.cell after) → LeavesAny old does new
      → IsInner (record { cell = old.cell; ends = ends }) → IsInner (record { cell = new.cell; ends = ends })
  inner_called does old new ends nothing went is =
      inner_left went.0 new.cell ends (is_left old new went.0 went.2) (inner_kept old.cell went.0 ends (nothing went.0 went.1) is)

  -- how many events a port has posted, behind a call
  pub left_count : (after new : CellState M S D C) (port : ℕ) → IsLeft after new → count_for port new ≡ count_for port after
  left_count after new port (inl same) = ap (λ (cell : CellState M S D C). count_for port cell) same
  left_count after new port (inr same) = ap (λ (cell : CellState M S D C). count_for port cell) same

  module _ (callbacks : M → Callbacks S D C) where
    -- a post that was taken
    pub record IsPostedBy (old new : AnyCellState M S D C) (port : ℕ) (post : Post C) : Type 0 where
      pub after : CellState M S D C
      pub posted : HasPosted port post old.cell after
      pub is_left : IsLeft after new.cell

    pub posted_by : (old new : AnyCellState M S D C) (port : ℕ) (entry : Entry) (content : C) (posted : Posted)
        → LeavesAny old (Posts callbacks old.cell port entry content (posted_as (Ok posted))) new
        → IsPostedBy old new port (record { number = posted.number; entry = entry; content = content })
    posted_by old new port entry content posted went = record {
      after = went.0;
      posted = posts_one callbacks old.cell went.0 port entry content (Ok posted) went.1;
      is_left = is_left old new went.0 went.2;
    }

    -- ---- a turn behind a take-out that found nothing
    -- a turn does not look at the journal
    turns_uncut_by : (own : Bool) (before after : CellState M S D C) (token : Token) (now : ℕ) (result : Result Next (Refused Token))
        → TurnsBy callbacks own (cut before) token now result after
        → (last : CellState M S D C) × TurnsBy callbacks own before token now result last × (cut after ≡ cut last)
    turns_uncut_by false before after token now result done = (before, (done.0, refl), ap (λ (cell : CellState M S D C). cut cell) done.1)
    turns_uncut_by true before after token now result (answer, inl done, is) = (
      (served_at callbacks before now).1,
      (answer, inl (done.0, refl), is ∙ ap (λ (cell : CellState M S D C). next_as token answer (is_some cell.scheduled.token)) done.1),
      ap (λ (cell : CellState M S D C). cut cell) done.1,
    )
    turns_uncut_by true before after token now result (answer, inr none, is) = (
      before,
      (answer, inr (none.0, none.1, refl), is ∙ ap (λ (cell : CellState M S D C). next_as token answer (is_some cell.scheduled.token)) none.2),
      ap (λ (cell : CellState M S D C). cut cell) none.2,
    )

    turns_kept_as : (keeps : Bool) (before after : CellState M S D C) (token : Token) (now : ℕ) (result : Result Next (Refused Token))
        → Turns callbacks (kept_as keeps before) token now result after → Leaves (Turns callbacks before token now result) (kept_as keeps after)
    turns_kept_as true before after token now result turns = (after, turns, inl refl)
    turns_kept_as false before after token now result turns =
        let uncut = turns_uncut_by (is_token_of token before.scheduled) before after token now result turns in
        (uncut.0, uncut.1, inr uncut.2)

    pub serves_turned : (old first last : AnyCellState M S D C) (token : Token) (now : ℕ) (turned : Result Next (Refused Token)) (result : Result (Service C) (Refused Token))
        → LeavesAny old (TakesOut callbacks old.cell token (Ok None)) first → LeavesAny first (Turns callbacks first.cell token now turned) last
        → result ≡ turned_as turned → Leaves (Serves callbacks old.cell token now result) last.cell
    serves_turned old first last token now turned result took went shown =
        let turns : Turns callbacks (kept_as old.keeps took.0) token now turned went.0 =
        subst (λ (state : AnyCellState M S D C). Turns callbacks state.cell token now turned went.0) took.2 went.1 in
        let uncut = turns_kept_as old.keeps took.0 went.0 token now turned turns in
        let same : last.cell ≡ kept_as old.keeps went.0 =
        ap (λ (state : AnyCellState M S D C). state.cell) went.2 ∙ ap (λ (state : AnyCellState M S D C). kept_as state.keeps went.0) took.2 in (
          uncut.0,
          (Ok None, took.0, took.1, (turned, uncut.1, shown)),
          subst (λ (cell : CellState M S D C). IsLeft uncut.0 cell) (sym same) uncut.2,
        )

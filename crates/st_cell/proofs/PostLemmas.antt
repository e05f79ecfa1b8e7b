-- What each call does to the posts of ports: a post that is taken is one more of its port, and every other call posts nothing.
use Rattle.std.proofs.Common.{◌≡◌, ℕ, inl, inr, Bool, true, false, if◌then◌else◌, Option, [], ◌∷◌, ◌++◌, refl, sym, ap, ◌∙◌, eq-eqb}
use Rattle.std.specs.Prelude.{Result, Ok, Err, IfOk}
use Rattle.st_events.specs.declared.message.Message.{Message}
use Rattle.st_events.specs.declared.refused.Refused.{Refused}
use Rattle.st_events.specs.declared.token.Token.{Token}
use Rattle.st_answers.specs.declared.answer.Answer.TheVariants as answer
use Rattle.st_answers.specs.declared.command.Command.{Command}
use Rattle.st_answers.specs.declared.command.Command.TheVariants as command
use Rattle.st_answers.specs.declared.entry.Entry.{Entry}
use Rattle.st_answers.specs.declared.entry.Entry.TheVariants.{Info}
use Rattle.st_core.specs.Callbacks.{Callbacks}
use Rattle.st_scheduled.specs.declared.posted.Posted.{Posted}
use Rattle.st_scheduled.specs.declared.step_answer.StepAnswer.{StepAnswer}
use Rattle.st_scheduled.specs.declared.step_answer.StepAnswer.TheVariants as step
use Rattle.st_scheduled.specs.Answered.{posted_as, is_counted}
use Rattle.st_scheduled.specs.ScheduledMachine.{ScheduledMachine, is_token_of}
use Rattle.st_scheduled.specs.Serving.{told_on, served_on}
use Rattle.st_journal.specs.declared.journal_entry.JournalEntry.{JournalEntry}
use Rattle.st_scheduled.specs.declared.next.Next.{Next}
use Rattle.st_journal.specs.declared.post.Post.{Post}
use Rattle.st_journal.specs.declared.source.Source.{Source}
use Rattle.st_journal.specs.declared.source.Source.TheVariants as source
use Rattle.st_cell.specs.Calls.{kept_answer, entry_of, counted_at, given_as, delivered_as, Posts, IsToldBy, IsTold, TurnsBy, Turns, TakesOutBy, TakesOut, Delivers}
use Rattle.st_cell.specs.Cell.{CellState, HasPosted, HasPostedNothing}
use Rattle.st_journal.specs.Journal.{is_port, posts_of}
use Rattle.st_cell.proofs.CellLemmas.{none_by}
use Rattle.st_cell.proofs.JournalLemmas.{posts-append, none_more}

module _ {M S D C : Type 0} where
  -- what is as it was has posted nothing
  unchanged : (old new : CellState M S D C) → new ≡ old → HasPostedNothing old new
  unchanged old new same = record {
    ports = ap (λ (cell : CellState M S D C). cell.ports) same;
    posts = λ port. ap (λ (cell : CellState M S D C). posts_of port cell.journal) same;
  }

  -- what has one entry more at most, and that through no port, has posted nothing
  no_port : (old new : CellState M S D C) (source : Source) (scheduled : ScheduledMachine M S D C) (command : Command C) (said : StepAnswer S C)
      → ((port : ℕ) → is_port port source ≡ false)
      → new ≡ record old { scheduled = scheduled; journal = old.journal ++ entry_of scheduled.count source command (kept_answer said) }
      → HasPostedNothing old new
  no_port old new source scheduled command said other is = record {
    ports = ap (λ (cell : CellState M S D C). cell.ports) is;
    posts = λ port. ap (λ (cell : CellState M S D C). posts_of port cell.journal) is
        ∙ none_by port scheduled.count source old.journal command (kept_answer said) (other port);
  }

  -- what has the entry of a post more has posted that
  one_post : (old new : CellState M S D C) (port number place : ℕ) (entry : Entry) (content : C) (scheduled : ScheduledMachine M S D C)
      → new ≡ record old {
        scheduled = scheduled;
        journal = old.journal ++ record { number = place; source = source.Port port; command = command.Post entry content; answer = answer.Post (Ok number) } ∷ [];
        ports = counted_at port true old.ports;
      }
      → HasPosted port (record { number = number; entry = entry; content = content }) old new
  one_post old new port number place entry content scheduled is =
      let more : JournalEntry S C = record { number = place; source = source.Port port; command = command.Post entry content; answer = answer.Post (Ok number) } in
      let post : Post C = record { number = number; entry = entry; content = content } in
      record {
        ports = ap (λ (cell : CellState M S D C). cell.ports) is;
        posts = ap (λ (cell : CellState M S D C). posts_of port cell.journal) is
            ∙ (posts-append port old.journal (more ∷ [])
            ∙ ap (λ (own : Bool). posts_of port old.journal ++ ((if own then post ∷ [] else []) ++ [])) (eq-eqb port port refl));
        others = λ other differ. ap (λ (cell : CellState M S D C). posts_of other cell.journal) is ∙ none_more other old.journal more differ;
      }

  module _ (callbacks : M → Callbacks S D C) where
    -- a command that came through no port
    told_by_nothing : (old new : CellState M S D C) (source : Source) (command : Command C) (answer : StepAnswer S C)
        → ((port : ℕ) → is_port port source ≡ false) → IsToldBy callbacks old source command answer new → HasPostedNothing old new
    told_by_nothing old new source command answer other (inl done) =
        no_port old new source (told_on callbacks old.scheduled command).1 command (told_on callbacks old.scheduled command).0 other done.1
    told_by_nothing old new source command answer other (inr none) = unchanged old new none.2

    pub told_nothing : (old new : CellState M S D C) (command : Command C) (answer : StepAnswer S C)
        → IsTold callbacks old command answer new → HasPostedNothing old new
    told_nothing old new command answer done = told_by_nothing old new source.Caller command answer (λ port. refl) done

    -- a delivery
    pub delivers_nothing : (old new : CellState M S D C) (message : Message C) (result : Result Posted (Refused (Message C)))
        → Delivers callbacks old message result new → HasPostedNothing old new
    delivers_nothing old new message result done =
        told_by_nothing old new (source.Message message.sender message.number) (command.Post Info message.content) (delivered_as result) (λ port. refl) done

    -- a take-out
    takes_nothing_by : (own : Bool) (old new : CellState M S D C) (token : Token) (result : Result (Option (Message C)) (Refused Token))
        → TakesOutBy callbacks own old token result new → HasPostedNothing old new
    takes_nothing_by false old new token result done = unchanged old new done.1
    takes_nothing_by true old new token result done = told_nothing old new command.TakeOut (given_as result) done

    pub takes_nothing : (old new : CellState M S D C) (token : Token) (result : Result (Option (Message C)) (Refused Token))
        → TakesOut callbacks old token result new → HasPostedNothing old new
    takes_nothing old new token result done = takes_nothing_by (is_token_of token old.scheduled) old new token result done

    -- a turn
    turns_nothing_by : (own : Bool) (old new : CellState M S D C) (token : Token) (now : ℕ) (result : Result Next (Refused Token))
        → TurnsBy callbacks own old token now result new → HasPostedNothing old new
    turns_nothing_by false old new token now result done = unchanged old new done.1
    turns_nothing_by true old new token now result (answer, inl done, is) =
        no_port old new source.Caller (served_on callbacks old.scheduled now).1 (command.Turn now) (served_on callbacks old.scheduled now).0 (λ port. refl) done.1
    turns_nothing_by true old new token now result (answer, inr none, is) = unchanged old new none.2

    pub turns_nothing : (old new : CellState M S D C) (token : Token) (now : ℕ) (result : Result Next (Refused Token))
        → Turns callbacks old token now result new → HasPostedNothing old new
    turns_nothing old new token now result done = turns_nothing_by (is_token_of token old.scheduled) old new token now result done

    -- a post that was taken
    post_taken : (old new : CellState M S D C) (port : ℕ) (entry : Entry) (content : C) (number : ℕ) (wake : Option Token)
        → Posts callbacks old port entry content (step.Posted number wake) new
        → HasPosted port (record { number = number; entry = entry; content = content }) old new
    post_taken old new port entry content number wake (inl done) =
        let told = told_on callbacks old.scheduled (command.Post entry content) in
        one_post old new port number told.1.count entry content told.1
        (done.1 ∙ ap (λ (said : StepAnswer S C). record old {
          scheduled = told.1;
          journal = old.journal ++ entry_of told.1.count (source.Port port) (command.Post entry content) (kept_answer said);
          ports = counted_at port (is_counted said) old.ports;
        }) (sym done.0))
    post_taken old new port entry content number wake (inr none) = let same = none.1 in cc

    -- a post
    pub posts_one : (old new : CellState M S D C) (port : ℕ) (entry : Entry) (content : C) (result : Result Posted (Refused C))
        → Posts callbacks old port entry content (posted_as result) new
        → IfOk result (λ posted. HasPosted port (record { number = posted.number; entry = entry; content = content }) old new)
    posts_one old new port entry content (Ok posted) done = post_taken old new port entry content posted.number posted.wake done
    posts_one old new port entry content (Err refused) done = tt

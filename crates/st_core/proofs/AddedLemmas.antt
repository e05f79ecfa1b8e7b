-- Actions and replies that come behind others.
use Rattle.std.proofs.Common.{◌≡◌, List, [], ◌∷◌, ◌++◌, refl, ap, sym, ◌∙◌, append_assoc, append-nil}
use Rattle.st_events.specs.declared.action.Action.{Action}
use Rattle.st_events.specs.declared.action.Action.TheVariants.{Reply}
use Rattle.st_events.specs.declared.enter_action.EnterAction.{EnterAction}
use Rattle.st_events.specs.declared.tag.Tag.{Tag}
use Rattle.st_actions.specs.Joined.{as_action, as_actions}
use Rattle.st_core.specs.Callbacks.{reply_actions, enter_reply_actions}

-- as actions they are those of `handle`
pub enter-replies : {C : Type 0} (replies : List (Tag × C)) → as_actions (enter_reply_actions replies) ≡ reply_actions replies
enter-replies [] = refl
enter-replies {C} (reply ∷ replies) = ap (λ (others : List (Action C)). Reply reply.0 reply.1 ∷ others) (enter-replies replies)

module _ {C : Type 0} (all actions : List (Action C)) where
  -- one more came in
  more_in : (after others : List (Action C)) (action : Action C) → after ≡ actions ++ action ∷ [] → actions ++ action ∷ others ≡ all → after ++ others ≡ all
  more_in after others action change kept = rw change (append_assoc actions (action ∷ []) others ∙ kept)

  -- none is left
  all_in : actions ++ [] ≡ all → actions ≡ all
  all_in kept = sym (append-nil actions) ∙ kept

  pub action_in : (after : List (Action C)) (left rest : List (EnterAction C)) (action : EnterAction C) (given : Action C) → left ≡ action ∷ rest → given ≡ as_action action
      → after ≡ actions ++ given ∷ [] → actions ++ as_actions left ≡ all → after ++ as_actions rest ≡ all
  action_in after left rest action given same is_given change kept =
      more_in after (as_actions rest) (as_action action) (rw is_given at change) (rw same at kept)

  pub actions_in : (left : List (EnterAction C)) → left ≡ [] → actions ++ as_actions left ≡ all → actions ≡ all
  actions_in left none kept = all_in (rw none at kept)

  pub reply_in : (after : List (Action C)) (left rest : List (Tag × C)) (reply : Tag × C) → left ≡ reply ∷ rest
      → after ≡ actions ++ Reply reply.0 reply.1 ∷ [] → actions ++ reply_actions left ≡ all → after ++ reply_actions rest ≡ all
  reply_in after left rest reply same change kept = more_in after (reply_actions rest) (Reply reply.0 reply.1) change (rw same at kept)

  pub replies_in : (left : List (Tag × C)) → left ≡ [] → actions ++ reply_actions left ≡ all → actions ≡ all
  replies_in left none kept = all_in (rw none at kept)

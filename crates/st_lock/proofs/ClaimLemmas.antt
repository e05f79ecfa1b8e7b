-- What is claimed of an inner state stays so.
use Rattle.std.proofs.Common.{◌≡◌, ℕ, ◌+◌, ◌-◌, List, [], ◌∷◌, ◌++◌, length, refl, sym, ap, ◌∙◌, subst, arith}
use Rattle.std.specs.Prelude.{Option, Some, None, IfSome, slice_get}
use Rattle.std.specs.Global.{Box}
use Rattle.std.proofs.lemmas.List.{map-append, length-map}
use Rattle.st_journal.specs.declared.post.Post.{Post}
use Rattle.st_claim_lock.specs.Holders.{claim_of, Claims, HasNothingOut, HasOut}
use Rattle.st_claim_lock.specs.declared.holder.Holder.{Holder}
use Rattle.st_post_counter.specs.Endpoint.{CounterId, EndpointState}
use Rattle.st_lock.specs.declared.claim.Claim.{Claim}
use Rattle.st_lock.specs.declared.opened.Opened.{Opened}
use Rattle.st_lock.specs.Claims.{claim, HasEndOf, Fits, inner_of, HasSameCounters}
use Rattle.st_lock_inner.specs.Inner.{InnerState, HasEnd, counters_of}
use Rattle.st_lock_inner.proofs.InnerLemmas.{at_longer, at_last}

module _ {M S D C : Type 0} where
  -- the inner state that lies there has the endpoint
  pub has_end : (inner : InnerState M S D C) (one : Opened) → HasEndOf (Some inner) one → HasEnd inner one.port one.counter
  has_end inner one has =
      let there : Some inner ≡ Some has.inner = has.there in
      let same : inner ≡ has.inner = cc in
      subst (λ (d : InnerState M S D C). HasEnd d one.port one.counter) (sym same) has.end

  -- where none lies, nothing is claimed
  from_none : (opened : Option Opened) (inner : InnerState M S D C)
      → IfSome opened (λ (one : Opened). HasEndOf {M = M} {S = S} {D = D} {C = C} None one) → IfSome opened (λ (one : Opened). HasEndOf (Some inner) one)
  from_none None inner fits = tt
  from_none (Some one) inner fits = let there : None ≡ Some fits.inner = fits.there in absurd cc

  -- where the endpoints are of the same counters
  same_by : (opened : Option Opened) (old new : InnerState M S D C) → counters_of new.ends ≡ counters_of old.ends
      → IfSome opened (λ (one : Opened). HasEndOf (Some old) one) → IfSome opened (λ (one : Opened). HasEndOf (Some new) one)
  same_by None old new same fits = tt
  same_by (Some one) old new same fits =
      let was = has_end old one fits in
      record {
        inner = new;
        there = refl;
        end = record {
          numbered = was.numbered;
          found = ap (λ counters. slice_get counters (one.port - 1)) same ∙ was.found;
        };
      }

  pub same_fits : (old new : InnerState M S D C) → counters_of new.ends ≡ counters_of old.ends → (claimed : Claim) → Fits (Some old) claimed → Fits (Some new) claimed
  same_fits old new same claimed fits = same_by claimed.opened old new same fits

  -- or there was none
  pub put_fits : (under : Option (Box (InnerState M S D C))) (inner : InnerState M S D C) → HasSameCounters under inner
      → (claimed : Claim) → Fits (inner_of under) claimed → Fits (Some inner) claimed
  put_fits None inner same claimed fits = from_none claimed.opened inner fits
  put_fits (Some was) inner same claimed fits = same_fits was.value inner same claimed fits

  -- where there is one endpoint more
  one_more : (old new : InnerState M S D C) (end : EndpointState (Post C)) → new.ends ≡ old.ends ++ end ∷ []
      → counters_of new.ends ≡ counters_of old.ends ++ end.counter ∷ []
  one_more old new end more =
      ap (λ (ends : List (EndpointState (Post C))). counters_of ends) more ∙ map-append (λ (one : EndpointState (Post C)). one.counter) old.ends (end ∷ [])

  more_by : (opened : Option Opened) (old new : InnerState M S D C) (end : EndpointState (Post C)) → new.ends ≡ old.ends ++ end ∷ []
      → IfSome opened (λ (one : Opened). HasEndOf (Some old) one) → IfSome opened (λ (one : Opened). HasEndOf (Some new) one)
  more_by None old new end more fits = tt
  more_by (Some one) old new end more fits =
      let was = has_end old one fits in
      record {
        inner = new;
        there = refl;
        end = record {
          numbered = was.numbered;
          found = ap (λ counters. slice_get counters (one.port - 1)) (one_more old new end more)
              ∙ at_longer (counters_of old.ends) (end.counter ∷ []) one.counter (one.port - 1) was.found;
        };
      }

  pub more_fits : (old new : InnerState M S D C) (end : EndpointState (Post C)) → new.ends ≡ old.ends ++ end ∷ []
      → (claimed : Claim) → Fits (Some old) claimed → Fits (Some new) claimed
  more_fits old new end more claimed fits = more_by claimed.opened old new end more fits

  -- and that is the next port's
  pub next_fits : (old new : InnerState M S D C) (end : EndpointState (Post C)) (port : ℕ) (counter : CounterId) → new.ends ≡ old.ends ++ end ∷ []
      → port ≡ length old.ends + 1 → end.counter ≡ counter → HasEnd new port counter
  next_fits old new end port counter more next same =
      let place : port - 1 ≡ length (counters_of old.ends) = omega (arith, next, length-map old.ends (λ (one : EndpointState (Post C)). one.counter)) in
      record {
        numbered = omega (arith, next);
        found = ap (λ counters. slice_get counters (port - 1)) (one_more old new end more)
            ∙ (ap (λ (n : ℕ). slice_get (counters_of old.ends ++ end.counter ∷ []) n) place
            ∙ (at_last (counters_of old.ends) end.counter ∙ ap (λ one. Some one) same));
      }

-- ---- the holder
module _ {T V : Type 0} where
  -- it has the value out with the claim that is its own
  pub own_out : (holder : Holder T V) (claimed : V) (value : T) → HasOut holder claimed value → HasOut holder (claim_of holder) value
  own_out holder claimed value out =
      let named : claim_of holder ≡ claimed = ap (λ me. me.0.claim) out in
      subst (λ (one : V). HasOut holder one value) (sym named) out

  -- and it claims the same again, after it gave the value back
  pub claims_again : (was now : Holder T V) (claimed : V) (value : T) → HasOut was claimed value → Claims now (claim_of was) → Claims now claimed
  claims_again was now claimed value out claims =
      let named : claim_of was ≡ claimed = ap (λ me. me.0.claim) out in
      subst (λ (one : V). Claims now one) named claims

  -- one that has nothing out claims what it claims
  pub own_claim : (holder : Holder T V) (claimed : V) → Claims holder claimed → HasNothingOut holder
  own_claim holder claimed claims =
      let named : claim_of holder ≡ claimed = ap (λ me. me.0.claim) claims in
      subst (λ (one : V). Claims holder one) (sym named) claims

  -- one that claimed this has the value out with that claim
  pub taken_out : (was now : Holder T V) (claimed : V) (value taken : T) → Claims was claimed → HasOut now (claim_of was) value → taken ≡ value → HasOut now claimed taken
  taken_out was now claimed value taken claims out same =
      let named : claim_of was ≡ claimed = ap (λ me. me.0.claim) claims in
      subst (λ (it : T). HasOut now claimed it) (sym same) (subst (λ (one : V). HasOut now one value) named out)

  -- one that has the value out with this claim has it out with its own
  pub newcomer_out : (holder : Holder T V) (claimed : V) (value taken : T) → HasOut holder claimed value → taken ≡ value → HasOut holder (claim_of holder) taken
  newcomer_out holder claimed value taken out same =
      own_out holder claimed taken (subst (λ (it : T). HasOut holder claimed it) (sym same) out)

module _ {M S D C : Type 0} where
  -- ---- what lies under the lock
  -- where a port is claimed, an inner state lies there, with its endpoint
  pub end_under : {T : Type 0} (under : Option (Box (InnerState M S D C))) (holder : Holder T Claim) (port : ℕ) (counter : CounterId)
      → Claims holder (claim port counter) → Fits (inner_of under) (claim_of holder) → HasEndOf (inner_of under) (record { port = port; counter = counter })
  end_under under holder port counter claims fits =
      let named : claim_of holder ≡ claim port counter = ap (λ me. me.0.claim) claims in
      subst (λ (one : Claim). Fits (inner_of under) one) named fits

  pub some_under : (under : Option (Box (InnerState M S D C))) (one : Opened) → HasEndOf (inner_of under) one → under ≡ None → ⊥
  some_under None one has none = let there : None ≡ Some has.inner = has.there in cc
  some_under (Some inner) one has none = cc

  pub taken_end : (under : Option (Box (InnerState M S D C))) (inner : Box (InnerState M S D C)) (one : Opened) → HasEndOf (inner_of under) one → under ≡ Some inner
      → HasEnd inner.value one.port one.counter
  taken_end under inner one has is =
      has_end inner.value one (subst (λ (lies : Option (Box (InnerState M S D C))). HasEndOf (inner_of lies) one) is has)

  -- the inner state that is given back has endpoints of the same counters as the one that was taken
  pub same_counters : (under : Option (Box (InnerState M S D C))) (was : Box (InnerState M S D C)) (now : InnerState M S D C) → under ≡ Some was
      → counters_of now.ends ≡ counters_of was.value.ends → HasSameCounters under now
  same_counters under was now is same = rw is same

-- The event that is shown is the next one.
use Rattle.std.proofs.Common.{refl, sym, inl, inr}
use Rattle.zumelivon.proofs.CallLemmas.{unlike}
use Rattle.zumelivon.proofs.turning.show.Goals as goal

pub returns-then-is_longer : goal.returns-then-is_longer
returns-then-is_longer c =
    record {
      shows = (
        (λ done. absurd (unlike 102 0 refl done)),
        (λ short. (_, sym c.in-Some.ensures, c.event_of.ensures, c.if-is_longer.ensures.longer)),
        (λ none. absurd (unlike 102 100 refl none)),
        (λ stays. refl),
        (λ stays other. absurd (other refl)),
        inr (inl refl),
      );
    }

pub returns-else-is_longer : goal.returns-else-is_longer
returns-else-is_longer c =
    record {
      shows = (
        (λ done. (_, sym c.in-Some.ensures, c.event_of.ensures, c.write_content.ensures)),
        (λ short. absurd (unlike 0 102 refl short)),
        (λ none. absurd (unlike 0 100 refl none)),
        (λ stays. absurd (stays refl)),
        (λ stays other. absurd (stays refl)),
        inl refl,
      );
    }

use Rattle.std.proofs.Common.{◌≡◌, max, min, ap, ◌∙◌}
use Rattle.clap.specs.Walk.{byte_or_zero}
use Rattle.clap.proofs.WalkLemmas.{byte_read}
use Rattle.st_words.proofs.asked.workers_in.Goals as goal

pub returns-in-Some-clause-number : goal.returns-in-Some-clause-number
returns-in-Some-clause-number c =
    let number : c.unwrap_or-number.result ≡ byte_or_zero c.in-Some.text.now =
    c.unwrap_or-number.ensures ∙ byte_read c.in-Some.text.now c.parse.result c.parse.ensures.value.0 in
    let kept : c.clamp.result ≡ max 1 (min (byte_or_zero c.in-Some.text.now) 16) = c.clamp.ensures ∙ ap (λ n. max 1 (min n 16)) number in
    rw c.in-Some.is kept

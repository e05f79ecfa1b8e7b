use Rattle.std.proofs.Common.{ap, ◌∙◌}
use Rattle.st_requests.proofs.RequestLemmas.{withdrawn}
use Rattle.st_requests.specs.Requests.{without_request}
use Rattle.st_core.proofs.post.withdraw.Goals as goal

pub returns-in-Call : goal.returns-in-Call
returns-in-Call g c earlier fresh opened =
    c.withdraw.ensures ∙ ap (λ requests. without_request requests c.args.tag) (rw c.in-Call.is at opened) ∙ withdrawn earlier c.args.tag fresh

use Rattle.std.proofs.Common.{◌≡◌, ap, ◌∙◌, codes, rules, true}
use Rattle.std.specs.Str.{bytes_eq}
use Rattle.clap.specs.Words.{first_of, found_of, rows_of, subcommand_rows_of}
use Rattle.clap.proofs.WalkLemmas.{first_value-rows}
use Rattle.st_words.specs.Order.{workers_of}
use Rattle.st_words.proofs.OrderLemmas.{name_of_pair, pool_is_asked_for}
use Rattle.st_words.proofs.asked.asked.Goals as goal

pub returns-then-eq-clause-order : goal.returns-then-eq-clause-order
returns-then-eq-clause-order c =
    let rows = rows_of (found_of c.in-Some.inner.now) in
    let number : c.workers_in.result ≡ workers_of (first_of (codes "workers") rows) =
    c.workers_in.ensures.number ∙ ap workers_of (c.get_str.ensures ∙ first_value-rows (found_of c.in-Some.inner.now) (codes "workers")) in
    let is_pool : bytes_eq c.in-Some.name.now (codes "pool") ≡ true = search rules in
    pool_is_asked_for (subcommand_rows_of c.args.matches.now) c.in-Some.name.now rows _ (c.in-Some.ensures.name ∙ name_of_pair _ _ _) c.in-Some.ensures.rows is_pool number

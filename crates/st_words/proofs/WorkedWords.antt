-- What clap's definitions give for words that are written out.
use Rattle.std.proofs.Common.{◌≡◌, List, [], ◌∷◌, codes, true, refl}
use Rattle.clap.specs.Words.{Kinds, Text, fault_of, subcommand_of, takes}
use Rattle.clap.specs.declared.error.kind.ErrorKind.TheVariants as kind
use Rattle.clap.proofs.OnLiterals.{clap_on_literals}
use Rattle.st_words.specs.Order.{order_of}
use Rattle.st_words.specs.Program.{statem}
use Rattle.st_words.specs.declared.order.Order.{Order}
use Rattle.st_words.specs.declared.order.Order.TheVariants.{Run, Trace, Pool}

-- the words after the program's name are taken, and ask for the order
abbrev AskFor : List Text → Order → Type 0
AskFor words order =
    let all = codes "statem" ∷ words in (takes statem all ≡ true) × (order_of (subcommand_of statem all) ≡ order)

-- the words after the program's name are refused with one of these kinds
abbrev AreRefused : List Text → Kinds → Type 0
AreRefused words kinds = fault_of statem (codes "statem" ∷ words) ≡ kinds

run_is_asked_for : AskFor (codes "run" ∷ []) Run
unfolding clap_on_literals
run_is_asked_for = (refl, refl)

trace_is_asked_for : AskFor (codes "trace" ∷ []) Trace
unfolding clap_on_literals
trace_is_asked_for = (refl, refl)

a_pool_alone_has_two_workers : AskFor (codes "pool" ∷ []) (Pool 2)
unfolding clap_on_literals
a_pool_alone_has_two_workers = (refl, refl)

a_pool_may_have_one_worker : AskFor (codes "pool" ∷ codes "--workers" ∷ codes "1" ∷ []) (Pool 1)
unfolding clap_on_literals
a_pool_may_have_one_worker = (refl, refl)

a_pool_may_have_sixteen_workers : AskFor (codes "pool" ∷ codes "--workers=16" ∷ []) (Pool 16)
unfolding clap_on_literals
a_pool_may_have_sixteen_workers = (refl, refl)

a_number_may_have_a_sign_and_zeros : AskFor (codes "pool" ∷ codes "--workers=+04" ∷ []) (Pool 4)
unfolding clap_on_literals
a_number_may_have_a_sign_and_zeros = (refl, refl)

no_word_is_refused : AreRefused [] (kind.MissingSubcommand ∷ [])
unfolding clap_on_literals
no_word_is_refused = refl

no_worker_is_refused : AreRefused (codes "pool" ∷ codes "--workers" ∷ codes "0" ∷ []) (kind.ValueValidation ∷ [])
unfolding clap_on_literals
no_worker_is_refused = refl

seventeen_workers_are_refused : AreRefused (codes "pool" ∷ codes "--workers" ∷ codes "17" ∷ []) (kind.ValueValidation ∷ [])
unfolding clap_on_literals
seventeen_workers_are_refused = refl

a_word_after_run_is_refused : AreRefused (codes "run" ∷ codes "x" ∷ []) (kind.UnknownArgument ∷ [])
unfolding clap_on_literals
a_word_after_run_is_refused = refl

help_is_told_apart : AreRefused (codes "pool" ∷ codes "--help" ∷ []) (kind.DisplayHelp ∷ [])
unfolding clap_on_literals
help_is_told_apart = refl

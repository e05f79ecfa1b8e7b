use Rattle.st_post_counter.proofs.StepLemmas.{counts}
use Rattle.st_post_counter.proofs.law.the_word_counts_one_history.Goals as goal

pub returns : goal.returns
returns g c = λ state rule. counts state.words state.views rule

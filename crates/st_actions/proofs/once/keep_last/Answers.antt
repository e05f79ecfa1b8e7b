use Rattle.std.proofs.Common.{◌≡◌, suc, ◌-◌, refl, sym, ap, ◌∙◌, length, take, drop, arith}
use Rattle.std.proofs.lemmas.List.{drop_all}
use Rattle.st_actions.specs.Plan.{replies_of, inserts_of, sends_of, postpone_or, settings_of, sets}
use Rattle.st_actions.specs.Taking.{all_settings_of, as_reply, as_insert, as_send}
use Rattle.st_actions.proofs.TakingLemmas.{replies_are, inserts_are, sends_are, setting_is_no_reply, setting_is_no_insert, setting_is_no_send}
use Rattle.st_actions.proofs.KeptLemmas.{front_kept, settings_kept_at, noted_at, others_kept, postpone_kept, length_kept}
use Rattle.st_events.proofs.Given.{given}
use Rattle.std.proofs.lemmas.Result.{err_from_is_err_and}
use Rattle.st_actions.proofs.once.keep_last.Goals as goal

-- at the end nothing is looked at yet
pub loop-index-init : goal.loop-index-init
loop-index-init g c =
    let none = drop_all c.len-index.result c.args.actions.now (omega (arith, c.len-index.ensures.length)) in
    record {
      front = refl;
      as_many = refl;
      within = omega (arith, c.len-index.ensures.length);
      settings = ap all_settings_of none ∙ sym (ap settings_of none);
      replies = refl;
      inserts = refl;
      sends = refl;
      postpone = λ given. refl;
      noted = λ timer. c.in_ok-noted.ensures.empty timer ∙ sym (ap (λ actions. sets timer actions) none);
      room = omega (arith, c.in_ok-noted.ensures.room, c.len.ensures.length, c.len-index.ensures.length);
    }

pub loop-index-preserved : goal.loop-index-preserved
loop-index-preserved g c =
    let before = c.loop-index.invariant in
    let whole = c.args.actions.now in
    let now = c.loop-index.actions in
    let noted = c.loop-index.noted in
    let i = c.loop-index.index in
    let j = c.loop-index.index - 1 in
    let next : c.loop-index.index ≡ suc (c.loop-index.index - 1) = omega (arith, c.loop-index-test.true) in
    let same = c.keep_at.ensures.kept in
    record {
      front = ap (λ actions. take j actions) same ∙ front_kept whole now i j noted next before.front;
      as_many = ap length same ∙ (length_kept noted now j ∙ before.as_many);
      within = omega (arith, before.within);
      settings = ap (λ actions. all_settings_of (drop j actions)) same ∙ settings_kept_at whole now i j noted next before.front before.settings before.noted;
      replies = ap replies_of same ∙ (others_kept as_reply replies_of replies_are refl setting_is_no_reply noted now j ∙ before.replies);
      inserts = ap inserts_of same ∙ (others_kept as_insert inserts_of inserts_are refl setting_is_no_insert noted now j ∙ before.inserts);
      sends = ap sends_of same ∙ (others_kept as_send sends_of sends_are refl setting_is_no_send noted now j ∙ before.sends);
      postpone = λ given. ap (λ actions. postpone_or given actions) same ∙ (postpone_kept given noted now j ∙ before.postpone given);
      noted = λ timer. noted_at whole now i j timer _ _ next before.front (before.noted timer) (c.keep_at.ensures.noted timer);
      room = omega (arith, c.keep_at.ensures.room, before.room, c.loop-index-test.true);
    }

pub returns-clause-last : goal.returns-clause-last
returns-clause-last g c =
    let all : c.loop-index.index ≡ 0 = omega (arith, c.loop-index-test.false) in
    sym (ap (λ n. all_settings_of (drop n c.loop-index.actions)) all) ∙ (c.loop-index.invariant.settings ∙ ap (λ n. settings_of (drop n c.args.actions.now)) all)

pub len-requires : goal.len-requires
len-requires g c = search given

pub len-index-requires : goal.len-index-requires
len-index-requires g c = search given

pub keep_at-requires : goal.keep_at-requires
keep_at-requires g c = (search given, omega (arith, c.loop-index.invariant.room, c.loop-index-test.true))

pub overflow_sub-index : goal.overflow_sub-index
overflow_sub-index g c = omega (arith, c.loop-index-test.true)

pub loop-index-smaller : goal.loop-index-smaller
loop-index-smaller g c = omega (arith, c.loop-index-test.true)

pub returns-clause-same_replies : goal.returns-clause-same_replies
returns-clause-same_replies g c = c.loop-index.invariant.replies

pub returns-clause-same_inserts : goal.returns-clause-same_inserts
returns-clause-same_inserts g c = c.loop-index.invariant.inserts

pub returns-clause-same_sends : goal.returns-clause-same_sends
returns-clause-same_sends g c = c.loop-index.invariant.sends

pub returns-clause-same_postpone : goal.returns-clause-same_postpone
returns-clause-same_postpone g c = c.loop-index.invariant.postpone

pub returns-clause-as_many : goal.returns-clause-as_many
returns-clause-as_many g c = c.loop-index.invariant.as_many

pub returns-clause-inline : goal.returns-clause-inline
returns-clause-inline g c = λ few. refl

pub returns-clause-unchanged : goal.returns-clause-unchanged
returns-clause-unchanged g c = tt

pub returns-in_err-noted-clause-last : goal.returns-in_err-noted-clause-last
returns-in_err-noted-clause-last g c = rw (err_from_is_err_and c.from_residual.result c.from_residual.ensures.1).1 tt

pub returns-in_err-noted-clause-same_replies : goal.returns-in_err-noted-clause-same_replies
returns-in_err-noted-clause-same_replies g c = refl

pub returns-in_err-noted-clause-same_inserts : goal.returns-in_err-noted-clause-same_inserts
returns-in_err-noted-clause-same_inserts g c = refl

pub returns-in_err-noted-clause-same_sends : goal.returns-in_err-noted-clause-same_sends
returns-in_err-noted-clause-same_sends g c = refl

pub returns-in_err-noted-clause-as_many : goal.returns-in_err-noted-clause-as_many
returns-in_err-noted-clause-as_many g c = refl

pub returns-in_err-noted-clause-unchanged : goal.returns-in_err-noted-clause-unchanged
returns-in_err-noted-clause-unchanged g c = rw (err_from_is_err_and c.from_residual.result c.from_residual.ensures.1).1 refl

pub returns-in_err-noted-clause-same_postpone : goal.returns-in_err-noted-clause-same_postpone
returns-in_err-noted-clause-same_postpone g c = λ given. refl

pub returns-in_err-noted-clause-inline : goal.returns-in_err-noted-clause-inline
returns-in_err-noted-clause-inline g c = λ few. let no = c.in_err-noted.ensures.inline (omega (arith, few, c.len.ensures.length)) in cc

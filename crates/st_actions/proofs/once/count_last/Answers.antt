use Rattle.std.proofs.Common.{◌≤◌, length, refl, arith}
use Rattle.st_actions.specs.Taking.{all_settings_of}
use Rattle.st_actions.proofs.KeptLemmas.{one_is_last}
use Rattle.st_events.proofs.Given.{given}
use Rattle.std.proofs.lemmas.Result.{err_from_is_err_and}
use Rattle.st_actions.proofs.once.count_last.Goals as goal

-- one setting is the last of its timer
pub returns-then-counts-le1-clause-last : goal.returns-then-counts-le1-clause-last
returns-then-counts-le1-clause-last g c =
    let few : length (all_settings_of c.args.actions.now) ≤ 1 = omega (arith, c.count-counts.ensures.settings, c.if-counts-le1.true) in
    one_is_last c.args.actions.now few

-- the list is the caller's, and so is its layout
pub count-counts-requires : goal.count-counts-requires
count-counts-requires g c = search given

pub keep_last-requires : goal.keep_last-requires
keep_last-requires g c = search given

pub count-requires : goal.count-requires
count-requires g c = search given

-- else what is left was counted again
pub returns : goal.returns
returns g c = record {
  counted = c.count.ensures;
  last = c.in_ok-keep_last.ensures.last;
  same_replies = c.keep_last.ensures.same_replies;
  same_inserts = c.keep_last.ensures.same_inserts;
  same_sends = c.keep_last.ensures.same_sends;
  same_postpone = c.keep_last.ensures.same_postpone;
  as_many = c.keep_last.ensures.as_many;
  inline = λ few. refl;
  unchanged = tt;
}

-- which stays
pub returns-then-counts-le1-clause-counted : goal.returns-then-counts-le1-clause-counted
returns-then-counts-le1-clause-counted g c = c.count-counts.ensures

pub returns-then-counts-le1-clause-same_replies : goal.returns-then-counts-le1-clause-same_replies
returns-then-counts-le1-clause-same_replies g c = refl

pub returns-then-counts-le1-clause-same_inserts : goal.returns-then-counts-le1-clause-same_inserts
returns-then-counts-le1-clause-same_inserts g c = refl

pub returns-then-counts-le1-clause-same_sends : goal.returns-then-counts-le1-clause-same_sends
returns-then-counts-le1-clause-same_sends g c = refl

pub returns-then-counts-le1-clause-as_many : goal.returns-then-counts-le1-clause-as_many
returns-then-counts-le1-clause-as_many g c = refl

pub returns-then-counts-le1-clause-same_postpone : goal.returns-then-counts-le1-clause-same_postpone
returns-then-counts-le1-clause-same_postpone g c = λ given. refl

pub returns-then-counts-le1-clause-inline : goal.returns-then-counts-le1-clause-inline
returns-then-counts-le1-clause-inline g c = λ few. refl

pub returns-then-counts-le1-clause-unchanged : goal.returns-then-counts-le1-clause-unchanged
returns-then-counts-le1-clause-unchanged g c = tt

-- without memory nothing changes
pub returns-in_err-keep_last-clause-counted : goal.returns-in_err-keep_last-clause-counted
returns-in_err-keep_last-clause-counted g c = rw (err_from_is_err_and c.from_residual.result c.from_residual.ensures.1).1 tt

pub returns-in_err-keep_last-clause-last : goal.returns-in_err-keep_last-clause-last
returns-in_err-keep_last-clause-last g c = rw (err_from_is_err_and c.from_residual.result c.from_residual.ensures.1).1 tt

pub returns-in_err-keep_last-clause-same_replies : goal.returns-in_err-keep_last-clause-same_replies
returns-in_err-keep_last-clause-same_replies g c = c.keep_last.ensures.same_replies

pub returns-in_err-keep_last-clause-same_inserts : goal.returns-in_err-keep_last-clause-same_inserts
returns-in_err-keep_last-clause-same_inserts g c = c.keep_last.ensures.same_inserts

pub returns-in_err-keep_last-clause-same_sends : goal.returns-in_err-keep_last-clause-same_sends
returns-in_err-keep_last-clause-same_sends g c = c.keep_last.ensures.same_sends

pub returns-in_err-keep_last-clause-same_postpone : goal.returns-in_err-keep_last-clause-same_postpone
returns-in_err-keep_last-clause-same_postpone g c = c.keep_last.ensures.same_postpone

pub returns-in_err-keep_last-clause-as_many : goal.returns-in_err-keep_last-clause-as_many
returns-in_err-keep_last-clause-as_many g c = c.keep_last.ensures.as_many

pub returns-in_err-keep_last-clause-inline : goal.returns-in_err-keep_last-clause-inline
returns-in_err-keep_last-clause-inline g c = λ few. let no = c.in_err-keep_last.ensures.inline few in cc

pub returns-in_err-keep_last-clause-unchanged : goal.returns-in_err-keep_last-clause-unchanged
returns-in_err-keep_last-clause-unchanged g c = rw (err_from_is_err_and c.from_residual.result c.from_residual.ensures.1).1 c.in_err-keep_last.ensures.unchanged

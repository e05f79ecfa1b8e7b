use Rattle.std.proofs.Common.{◌≡◌, true, false, refl, sym, ap, subst, ◌∙◌}
use Rattle.st_timeouts.specs.declared.key.Key.{Key}
use Rattle.st_timeouts.specs.Entries.{listed_row, listed_of}
use Rattle.st_timeouts.specs.Order.{OnceEach, is_other}
use Rattle.st_timeouts.specs.Running.{is_zero}
use Rattle.st_timeouts.specs.Waiting.{waits}
use Rattle.st_timeouts.specs.Zeros.{OnceZeros, other_zero}
use Rattle.std.specs.List.{filter}
use Rattle.st_timeouts.proofs.WaitingLemmas.{due_keys_none, due_keys_without, once_due}
use Rattle.st_timeouts.proofs.ZerosLemmas.{zeros_none, zeros_without, once_zeros}
use Rattle.st_timeouts.proofs.RowLemmas.{not_found, found_listed, still_keys, still_zeros, else_key}
use Rattle.st_timeouts.proofs.timeouts.forget.Goals as goal

pub returns-in_default-clause-zeros : goal.returns-in_default-clause-zeros
returns-in_default-clause-zeros g c =
    let entries = c.args.entries.now.rows in
    c.requires.zeros ∙ sym (zeros_none c.args.timer (listed_of entries) (not_found c.args.timer entries (sym c.in_default.ensures)))

pub returns-in_default-clause-keys : goal.returns-in_default-clause-keys
returns-in_default-clause-keys g c =
    let entries = c.args.entries.now.rows in
    c.requires.keys ∙ sym (due_keys_none c.args.timer (listed_of entries) (not_found c.args.timer entries (sym c.in_default.ensures)))

pub forget-requires : goal.forget-requires
forget-requires g c = record { once = subst OnceZeros (sym c.requires.zeros) (once_zeros (listed_of c.args.entries.now.rows) c.requires.one_each) }

pub forget-requires-then-not-entry-clause-none_else : goal.forget-requires-then-not-entry-clause-none_else
forget-requires-then-not-entry-clause-none_else g c =
    let entries = c.args.entries.now.rows in
    let entry = c.in-Some.entry.now in
    let found = found_listed c.args.timer entries entry (sym c.in-Some.ensures) in
    rw (c.requires.keys, c.key.ensures) (else_key c.args.timer (listed_of entries) (listed_row (c.args.timer, entry)) c.in-At.moment c.requires.one_each found refl c.in-At.is)

pub forget-requires-then-not-entry-clause-once_each : goal.forget-requires-then-not-entry-clause-once_each
forget-requires-then-not-entry-clause-once_each g c = subst OnceEach (sym c.requires.keys) (once_due (listed_of c.args.entries.now.rows) c.requires.one_each)

pub returns-in-Zero-clause-zeros : goal.returns-in-Zero-clause-zeros
returns-in-Zero-clause-zeros g c =
    c.forget.ensures.items ∙ (ap (filter (other_zero c.args.timer)) c.requires.zeros ∙ sym (zeros_without c.args.timer (listed_of c.args.entries.now.rows)))

pub returns-in-Zero-clause-keys : goal.returns-in-Zero-clause-keys
returns-in-Zero-clause-keys g c =
    let entries = c.args.entries.now.rows in
    let entry = c.in-Some.entry.now in
    let found = found_listed c.args.timer entries entry (sym c.in-Some.ensures) in
    let still : waits (listed_row (c.args.timer, entry)) ≡ false = rw c.in-Zero.is refl in
    c.requires.keys ∙ sym (still_keys c.args.timer (listed_of entries) (listed_row (c.args.timer, entry)) c.requires.one_each found refl still)

pub returns-then-not-entry-clause-zeros : goal.returns-then-not-entry-clause-zeros
returns-then-not-entry-clause-zeros g c =
    let entries = c.args.entries.now.rows in
    let entry = c.in-Some.entry.now in
    let found = found_listed c.args.timer entries entry (sym c.in-Some.ensures) in
    let no_zero : is_zero entry.due ≡ false = ap is_zero c.in-At.is in
    c.requires.zeros ∙ sym (still_zeros c.args.timer (listed_of entries) (listed_row (c.args.timer, entry)) c.requires.one_each found refl no_zero)

pub returns-then-not-entry-clause-keys : goal.returns-then-not-entry-clause-keys
returns-then-not-entry-clause-keys g c =
    c.forget-then-not-entry.ensures.keys
    ∙ (ap (λ (key : Key). filter (is_other key.timer) c.args.order.now.keys) c.key.ensures
    ∙ (ap (filter (is_other c.args.timer)) c.requires.keys ∙ sym (due_keys_without c.args.timer (listed_of c.args.entries.now.rows))))

pub returns-else-not-entry-clause-zeros : goal.returns-else-not-entry-clause-zeros
returns-else-not-entry-clause-zeros g c =
    let entries = c.args.entries.now.rows in
    let entry = c.in-Some.entry.now in
    let found = found_listed c.args.timer entries entry (sym c.in-Some.ensures) in
    let no_zero : is_zero entry.due ≡ false = ap is_zero c.in-At.is in
    c.requires.zeros ∙ sym (still_zeros c.args.timer (listed_of entries) (listed_row (c.args.timer, entry)) c.requires.one_each found refl no_zero)

pub returns-else-not-entry-clause-keys : goal.returns-else-not-entry-clause-keys
returns-else-not-entry-clause-keys g c =
    let entries = c.args.entries.now.rows in
    let entry = c.in-Some.entry.now in
    let found = found_listed c.args.timer entries entry (sym c.in-Some.ensures) in
    let expired : entry.expired ≡ true = c.if-not-entry.false in
    let still : waits (listed_row (c.args.timer, entry)) ≡ false = rw (c.in-At.is, expired) refl in
    c.requires.keys ∙ sym (still_keys c.args.timer (listed_of entries) (listed_row (c.args.timer, entry)) c.requires.one_each found refl still)

use Rattle.std.proofs.Common.{◌≡◌, ◌<◌, ◌^◌, true, rules, arith}
use Rattle.std.specs.Str.Parse.{ParsesUnsigned}
use Rattle.st_door.specs.WordForms.{is_digits, number_of}
use Rattle.st_door.proofs.WordLemmas.{digits_are_text, number-beyond, number-read, number-within, number-unread}
use Rattle.st_door.proofs.word_forms.number_of.Goals as goal

-- digits are text
pub returns-in_default : goal.returns-in_default
returns-in_default c =
    let digits : is_digits c.args.most c.args.word.now ≡ true = search rules in
    absurd (c.in_default.ensures.cases.0 (digits_are_text c.args.most c.args.word.now digits))

-- a number that is not too great
pub returns-in-Ok-parse : goal.returns-in-Ok-parse
returns-in-Ok-parse c =
    let digits : is_digits c.args.most c.args.word.now ≡ true = search rules in
    let text : c.in-Ok.text.now ≡ c.args.word.now = search rules in
    let parsed : ParsesUnsigned 64 10 c.args.word.now c.parse.result = rw text at c.parse.ensures.value.0 in
    number-within c.args.most c.args.greatest c.args.word.now c.parse.result c.in-Ok-parse.number digits parsed c.in-Ok-parse.is c.if-number-greatest.true

-- one that is
pub returns-in_default-parse : goal.returns-in_default-parse
returns-in_default-parse c =
    let digits : is_digits c.args.most c.args.word.now ≡ true = search rules in
    let text : c.in-Ok.text.now ≡ c.args.word.now = search rules in
    let parsed : ParsesUnsigned 64 10 c.args.word.now c.parse.result = rw text at c.parse.ensures.value.0 in
    let same : c.in-Ok-parse.number ≡ number_of c.args.word.now =
    number-read c.args.most c.args.greatest c.args.word.now c.parse.result c.in-Ok-parse.number digits parsed c.in-Ok-parse.is in
    number-beyond c.args.most c.args.greatest c.args.word.now digits (omega (arith, same, c.if-number-greatest.false))

-- one that does not fit in 64 bits
pub returns-in_default-parse-2 : goal.returns-in_default-parse-2
returns-in_default-parse-2 c =
    let digits : is_digits c.args.most c.args.word.now ≡ true = search rules in
    let text : c.in-Ok.text.now ≡ c.args.word.now = search rules in
    let parsed : ParsesUnsigned 64 10 c.args.word.now c.parse.result = rw text at c.parse.ensures.value.0 in
    let small : c.args.greatest < 2 ^ 64 = c.ranges.greatest.fits in
    number-beyond c.args.most c.args.greatest c.args.word.now digits
    (number-unread c.args.most c.args.greatest c.args.word.now c.parse.result _ digits parsed c.in_default-parse.is small)

use Rattle.std.proofs.Common.{◌≡◌, vec_len, vec_capacity}
use Rattle.std.specs.List.{range_with_len}
use Rattle.st_core.proofs.numbers.numbers_from.Given as goal

abbrev pub invariant-loop-place : goal.invariant-loop-place
invariant-loop-place l = record {
  numbers : l.numbers.items ≡ range_with_len l.fn.first l.place;
  count : vec_len l.numbers ≡ l.place;
  reserved : vec_capacity l.numbers ≡ l.fn.count;
}

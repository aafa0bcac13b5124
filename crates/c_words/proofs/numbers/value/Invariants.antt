use Rattle.std.proofs.Common.{◌≡◌, ◌≤◌, ◌^◌, length}
use Rattle.c_words.specs.Magnitudes.{with_digits}
use Rattle.c_words.proofs.numbers.value.Given as goal

abbrev pub invariant-loop-byte : goal.invariant-loop-byte
invariant-loop-byte l = record {
  digits : with_digits l.value l.cursor.left ≡ with_digits 0 l.initial.cursor.left;
  small : l.value ≤ 2 ^ 60;
  same : l.cursor.whole ≡ l.initial.cursor.whole;
}

abbrev pub decreases-loop-byte : goal.decreases-loop-byte
decreases-loop-byte l = length l.cursor.left

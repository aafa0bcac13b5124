use Rattle.std.proofs.Common.{◌≡◌, drop}
use Rattle.c_words.specs.Fixed.{starts_with}
use Rattle.c_words.proofs.fixed.goes_over.Given as goal

abbrev pub invariant-loop-byte : goal.invariant-loop-byte
invariant-loop-byte l = record {
  whole : l.cursor.whole ≡ l.initial.cursor.whole;
  asked : starts_with (drop l.byte-index l.text) l.cursor.left ≡ starts_with l.text l.initial.cursor.left;
  left : l.cursor.left ≡ drop l.byte-index l.initial.cursor.left;
}

use Rattle.std.proofs.Common.{◌≡◌, length}
use Rattle.c_words.proofs.MangledWalks.{Behind}
use Rattle.c_words.proofs.manglings.mangled_symbol.Given as goal

abbrev pub invariant-loop-byte : goal.invariant-loop-byte
invariant-loop-byte l = record {
  behind : Behind l.initial.cursor.left l.symbol l.cursor.left;
  whole : l.cursor.whole ≡ l.initial.cursor.whole;
}

abbrev pub decreases-loop-byte : goal.decreases-loop-byte
decreases-loop-byte l = length l.cursor.left

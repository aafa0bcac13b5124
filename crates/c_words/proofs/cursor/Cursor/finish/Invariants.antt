use Rattle.std.proofs.Common.{◌≡◌, length}
use Rattle.c_words.proofs.cursor.Cursor.finish.Given as goal

abbrev pub invariant-loop-self : goal.invariant-loop-self
invariant-loop-self l = l.self.whole ≡ l.initial.self.whole

abbrev pub decreases-loop-self : goal.decreases-loop-self
decreases-loop-self l = length l.self.left

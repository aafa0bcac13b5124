use Rattle.std.proofs.Common.{◌≡◌, length}
use Rattle.std.specs.Prelude.{IsTrue}
use Rattle.c_words.specs.Search.{are_in_order, with_rest}
use Rattle.c_words.proofs.search.Search.find.Given as goal

abbrev pub invariant-bytes : goal.invariant-bytes
invariant-bytes g l = record {
  order : IsTrue (are_in_order g.T.Named.spelled l.self.depth l.self.rows.now);
  asked : with_rest g.T.Named.spelled l.self.depth l.cursor.left l.self.rows.now ≡ with_rest g.T.Named.spelled l.initial.self.depth l.initial.cursor.left l.initial.self.rows.now;
  whole : l.cursor.whole ≡ l.initial.cursor.whole;
}

abbrev pub decreases-bytes : goal.decreases-bytes
decreases-bytes g l = length l.cursor.left

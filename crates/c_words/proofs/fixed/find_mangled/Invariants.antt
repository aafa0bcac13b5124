use Rattle.std.proofs.Common.{◌≡◌, length}
use Rattle.std.specs.Prelude.{IsTrue}
use Rattle.c_words.specs.Search.{are_in_order}
use Rattle.c_words.specs.Fixed.{with_mangling}
use Rattle.c_words.proofs.fixed.find_mangled.Given as goal

abbrev pub invariant-bytes : goal.invariant-bytes
invariant-bytes g l = record {
  order : IsTrue (are_in_order g.T.Named.spelled l.search.depth l.search.rows.now);
  asked : with_mangling g.T.Named.spelled l.search.depth l.cursor.left l.search.rows.now ≡ with_mangling g.T.Named.spelled l.initial.search.depth l.initial.cursor.left l.initial.search.rows.now;
  whole : l.cursor.whole ≡ l.initial.cursor.whole;
}

abbrev pub decreases-bytes : goal.decreases-bytes
decreases-bytes g l = length l.cursor.left

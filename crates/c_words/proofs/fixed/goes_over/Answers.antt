use Rattle.std.proofs.Common.{List, ℕ, drop, ◌+◌, sym, ap, ◌∙◌}
use Rattle.std.proofs.lemmas.List.{drop-drop}
use Rattle.c_words.specs.Walks.{Walk}
use Rattle.c_words.specs.Fixed.{starts_with}
use Rattle.c_words.proofs.FixedWords.{starts_on}
use Rattle.c_words.proofs.fixed.goes_over.Goals as goal

pub loop-byte-preserved : goal.loop-byte-preserved
loop-byte-preserved c =
    let text : List ℕ = c.args.text.now in
    let i = c.loop-byte.byte-index in
    let left = ap (λ (w : Walk). w.left) c.advance.ensures in
    record {
      whole = ap (λ (w : Walk). w.whole) c.advance.ensures ∙ c.loop-byte.invariant.whole;
      asked = ap (starts_with (drop (i + 1) text)) left ∙ starts_on text c.loop-byte.cursor.left i c.loop-byte-test.true (sym c.is_next.ensures ∙ c.if-not-is_next.false) ∙ c.loop-byte.invariant.asked;
      left = left ∙ ap (drop 1) c.loop-byte.invariant.left ∙ drop-drop 1 i c.args.cursor.now.left;
    }

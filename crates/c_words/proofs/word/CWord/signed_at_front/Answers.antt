use Rattle.std.proofs.Common.{◌∷◌, length, sym, ap, ◌∙◌, List, ℕ}
use Rattle.std.specs.List.{take_while}
use Rattle.std.proofs.lemmas.List.{take_rest}
use Rattle.c_tree.specs.Lexical.{is_word_byte}
use Rattle.c_words.specs.Walks.{Walk}
use Rattle.c_words.specs.Kinds.{word_kind}
use Rattle.c_words.proofs.Walks.{signed_word}
use Rattle.c_words.proofs.word.CWord.signed_at_front.Goals as goal

pub invariant_of-result : goal.invariant_of-result
invariant_of-result c =
    let text : List ℕ = c.args.text.now in
    let whole : Walk → List ℕ = λ w. w.whole in
    let left : Walk → List ℕ = λ w. w.left in
    let is = ap left c.new-cursor.ensures ∙ ap (take_while is_word_byte) (take_rest text 1) in
    let long = c.len.ensures ∙ ap (λ w. length (whole w)) c.signed_kind-kind.ensures.end ∙ ap length (ap whole c.new-cursor.ensures ∙ sym (ap left c.new-cursor.ensures)) in
    c.signed_kind-kind.ensures.kind ∙ ap word_kind (sym (signed_word text c.new-cursor.result.left c.len.result c.requires is long))

pub returns : goal.returns
returns c =
    let text : List ℕ = c.args.text.now in
    let whole : Walk → List ℕ = λ w. w.whole in
    let left : Walk → List ℕ = λ w. w.left in
    let is = ap left c.new-cursor.ensures ∙ ap (take_while is_word_byte) (take_rest text 1) in
    let long = c.len.ensures ∙ ap (λ w. length (whole w)) c.signed_kind-kind.ensures.end ∙ ap length (ap whole c.new-cursor.ensures ∙ sym (ap left c.new-cursor.ensures)) in
    signed_word text c.new-cursor.result.left c.len.result c.requires is long ∙ ap (λ w. 45 ∷ w) is

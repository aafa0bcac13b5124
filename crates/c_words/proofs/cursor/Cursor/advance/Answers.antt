use Rattle.std.proofs.Common.{◌≡◌, ℕ, List, drop, true, sym, ap, ◌∙◌}
use Rattle.std.specs.Option.{is_some}
use Rattle.std.specs.List.{take_while}
use Rattle.c_tree.specs.Lexical.{is_word_byte}
use Rattle.c_words.specs.Walks.{first, stepped}
use Rattle.c_words.proofs.Walks.{on_left, on_place, on_within}
use Rattle.c_words.proofs.cursor.Cursor.advance.Goals as goal

pub invariant_of-self : goal.invariant_of-self
invariant_of-self c =
    let text = c.self.inside.text.now in
    let place = c.self.inside.place in
    let some : is_some (first (take_while is_word_byte (drop place text))) ≡ true = sym (ap is_some c.self.invariant.2) ∙ c.if-is_none.ensures {u = tt} in
    (on_place text place some c.self.invariant.0, on_within text place some, c.byte_at-self-inside.ensures)

pub returns : goal.returns
returns c =
    let text = c.self.inside.text.now in
    let place = c.self.inside.place in
    let some : is_some (first (take_while is_word_byte (drop place text))) ≡ true = sym (ap is_some c.self.invariant.2) ∙ c.if-is_none.ensures {u = tt} in
    ap (λ (left : List ℕ). record { whole = take_while is_word_byte text; left = left }) (on_left text place some) ∙ ap stepped c.self.view_is

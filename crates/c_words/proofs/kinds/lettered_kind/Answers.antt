use Rattle.std.proofs.Common.{◌∷◌, drop, sym, ap, ◌∙◌}
use Rattle.c_words.specs.Kinds.{prefixed_kind, word_kind}
use Rattle.c_words.specs.Walks.{Walk}
use Rattle.c_words.proofs.FirstBytes.{name_kind, bare_kind, underscore, no_underscore}
use Rattle.c_words.proofs.kinds.lettered_kind.Goals as goal

pub returns-then-eq-clause-kind : goal.returns-then-eq-clause-kind
returns-then-eq-clause-kind c =
    let letter = c.args.letter in
    let left = c.args.cursor.now.left in
    c.prefixed_kind.ensures.kind ∙ ap (λ (w : Walk). prefixed_kind letter w.left) c.advance.ensures
    ∙ sym (name_kind letter (drop 1 left) c.requires)
    ∙ ap (λ w. word_kind (letter ∷ w)) (sym (underscore c.next.result left c.next.ensures.left (sym c.if-eq.ensures)))

pub returns-clause-kind : goal.returns-clause-kind
returns-clause-kind c =
    let left = c.args.cursor.now.left in
    c.fixed_kind.ensures.kind ∙ sym (bare_kind c.args.letter left c.requires (no_underscore c.next.result left c.next.ensures.left (sym c.if-eq.ensures)))

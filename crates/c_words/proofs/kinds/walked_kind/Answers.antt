use Rattle.std.proofs.Common.{◌≡◌, ◌∷◌, false, nat_eq, sym, ap, ◌∙◌, arith}
use Rattle.std.proofs.lemmas.Bool.Decides.{nat_tests}
use Rattle.c_tree.specs.Names.{is_numeral}
use Rattle.c_words.specs.Kinds.{if_named, fixed_kind}
use Rattle.c_words.specs.Walks.{Walk}
use Rattle.c_words.specs.declared.kind.WordKind.TheVariants as kind
use Rattle.c_words.proofs.FirstBytes.{nothing_left, digit_left, local_left, label_left, end_label_left, other_left}
use Rattle.c_words.proofs.kinds.walked_kind.Goals as goal

pub returns-in_default-clause-kind : goal.returns-in_default-clause-kind
returns-in_default-clause-kind c = nothing_left c.args.cursor.now.left c.in_default.ensures.left

pub returns-then-is_digit-clause-kind : goal.returns-then-is_digit-clause-kind
returns-then-is_digit-clause-kind c =
    c.number_kind.ensures.kind ∙ digit_left c.args.cursor.now.left c.in-Some.first c.in-Some.ensures.left (sym c.if-is_digit.ensures)

pub returns-in-120-clause-kind : goal.returns-in-120-clause-kind
returns-in-120-clause-kind c =
    c.numbered_kind.ensures.kind ∙ ap (λ (w : Walk). if_named (is_numeral w.left) kind.Local) c.advance.ensures
    ∙ local_left c.args.cursor.now.left c.in-Some.first c.in-Some.ensures.left c.in-120.is

pub returns-in-76-clause-kind : goal.returns-in-76-clause-kind
returns-in-76-clause-kind c =
    c.numbered_kind-in-76.ensures.kind ∙ ap (λ (w : Walk). if_named (is_numeral w.left) kind.Label) c.advance.ensures
    ∙ label_left c.args.cursor.now.left c.in-Some.first c.in-Some.ensures.left c.in-76.is

pub returns-in-69-clause-kind : goal.returns-in-69-clause-kind
returns-in-69-clause-kind c =
    c.numbered_kind-in-69.ensures.kind ∙ ap (λ (w : Walk). if_named (is_numeral w.left) kind.EndLabel) c.advance.ensures
    ∙ end_label_left c.args.cursor.now.left c.in-Some.first c.in-Some.ensures.left c.in-69.is

pub returns-in_default-first-clause-kind : goal.returns-in_default-first-clause-kind
returns-in_default-first-clause-kind c =
    let first = c.in-Some.first in
    let local : nat_eq first 120 ≡ false = grind (arith, nat_tests) in
    let label : nat_eq first 76 ≡ false = grind (arith, nat_tests) in
    let end_label : nat_eq first 69 ≡ false = grind (arith, nat_tests) in
    c.fixed_kind.ensures.kind ∙ ap (λ (w : Walk). fixed_kind (first ∷ w.left)) c.advance.ensures
    ∙ other_left c.args.cursor.now.left first c.in-Some.ensures.left c.in-Some.ensures.word (sym c.if-is_digit.ensures) (sym c.if-begins_names.ensures) local label end_label

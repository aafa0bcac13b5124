use Rattle.std.proofs.Common.{◌∷◌, ◌++◌, codes, List, ℕ, drop, sym, ap, ◌∙◌}
use Rattle.std.specs.Option.{option_map}
use Rattle.prim_table.specs.Table.{name_of}
use Rattle.c_tree.specs.Names.{begins_with}
use Rattle.c_tree.specs.Operations.{op_named}
use Rattle.c_tree.specs.declared.op.Op.TheVariants.{Primitive as Does}
use Rattle.c_words.specs.Walks.{Walk}
use Rattle.c_words.specs.Search.{with_rest}
use Rattle.c_words.specs.Fixed.{plain_name, plain_operations, with_mangling}
use Rattle.c_words.proofs.FixedWords.{plain, by_mangling, plain_order, primitives_order, no_p, p_first, no_bar, p_bar}
use Rattle.c_words.proofs.fixed.operation.Goals as goal

pub returns-then-not-is_next-clause-op : goal.returns-then-not-is_next-clause-op
returns-then-not-is_next-clause-op c =
    let left : List ℕ = c.args.cursor.now.left in
    c.find.ensures.row
    ∙ (λ i. with_rest plain_name (c.new-search.ensures.depth i) left ((c.new-search.ensures.rows ∙ c.plain_operations.ensures) i))
    ∙ plain left (no_p left (sym c.is_next.ensures ∙ c.if-not-is_next.true))

pub narrow-requires-after_bounds : goal.narrow-requires-after_bounds
narrow-requires-after_bounds c _ = rw (c.new-search.ensures.depth, c.new-search.ensures.rows, c.plain_operations.ensures) plain_order

pub returns-then-not-is_next-2-clause-op : goal.returns-then-not-is_next-2-clause-op
returns-then-not-is_next-2-clause-op c =
    let left : List ℕ = c.args.cursor.now.left in
    let on = ap (λ (w : Walk). w.left) c.advance.ensures in
    let is_p = sym c.is_next.ensures ∙ c.if-not-is_next.false in
    c.find-then-not-is_next-2.ensures.row
    ∙ c.narrow.ensures.rest c.advance.new.self.left
    ∙ (λ i. with_rest plain_name (c.new-search.ensures.depth i) (112 ∷ on i) ((c.new-search.ensures.rows ∙ c.plain_operations.ensures) i))
    ∙ ap (λ xs. with_rest plain_name 4 xs plain_operations) (sym (p_first left is_p))
    ∙ plain left (no_bar left is_p (ap (begins_with 95) (sym on) ∙ sym c.is_next-2.ensures ∙ c.if-not-is_next-2.true))

pub find_mangled-requires-after_bounds : goal.find_mangled-requires-after_bounds
find_mangled-requires-after_bounds c _ = rw (c.new.ensures.depth, c.new.ensures.rows, c.primitives_by_name.ensures) primitives_order

pub returns-in-Some-clause-op : goal.returns-in-Some-clause-op
returns-in-Some-clause-op c =
    let left : List ℕ = c.args.cursor.now.left in
    let on = ap (λ (w : Walk). w.left) c.advance.ensures in
    let further = ap (λ (w : Walk). w.left) c.advance-2.ensures ∙ ap (drop 1) on in
    let is_p = sym c.is_next.ensures ∙ c.if-not-is_next.false in
    let is_bar = ap (begins_with 95) (sym on) ∙ sym c.is_next-2.ensures ∙ c.if-not-is_next-2.false in
    ap (option_map Does) (c.in-Some.ensures.row ∙ (λ i. with_mangling name_of (c.new.ensures.depth i) (further i) ((c.new.ensures.rows ∙ c.primitives_by_name.ensures) i)))
    ∙ by_mangling (drop 1 (drop 1 left))
    ∙ ap (λ xs. op_named (codes "bgl_" ++ xs)) (sym (p_bar left is_p is_bar))

pub returns-in-None-clause-op : goal.returns-in-None-clause-op
returns-in-None-clause-op c =
    let left : List ℕ = c.args.cursor.now.left in
    let on = ap (λ (w : Walk). w.left) c.advance.ensures in
    let further = ap (λ (w : Walk). w.left) c.advance-2.ensures ∙ ap (drop 1) on in
    let is_p = sym c.is_next.ensures ∙ c.if-not-is_next.false in
    let is_bar = ap (begins_with 95) (sym on) ∙ sym c.is_next-2.ensures ∙ c.if-not-is_next-2.false in
    ap (option_map Does) (c.in-None.ensures.row ∙ (λ i. with_mangling name_of (c.new.ensures.depth i) (further i) ((c.new.ensures.rows ∙ c.primitives_by_name.ensures) i)))
    ∙ by_mangling (drop 1 (drop 1 left))
    ∙ ap (λ xs. op_named (codes "bgl_" ++ xs)) (sym (p_bar left is_p is_bar))

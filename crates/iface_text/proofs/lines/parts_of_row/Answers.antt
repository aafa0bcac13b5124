use Rattle.std.proofs.Common.{◌≡◌, None, Some, false, true}
use Rattle.std.specs.Prelude.{codes}
use Rattle.std.proofs.lemmas.Bool.Decides.{Decides-eqb}
use Rattle.std.proofs.lemmas.Slice.Eq.{strip_prefix_is, strip_suffix_is}
use Rattle.iface_text.proofs.RowParts.{first_cut, no_blank, no_name, no_bracket, no_result, no_types, row_found}
use Rattle.iface_text.proofs.lines.parts_of_row.Goals as goal

pub returns-in_err-cut-clause-none : goal.returns-in_err-cut-clause-none
returns-in_err-cut-clause-none c =
    let e = strip_prefix_is Decides-eqb c.args.line.now (codes "fun ") (Some c.in_ok-strip_prefix.field-0) c.in_ok-strip_prefix.ensures.cases in
    rw c.from_residual-in_err-cut.ensures (no_blank c.args.line.now c.in_ok-strip_prefix.field-0.now e c.in_err-cut.ensures.none)

pub returns-then-not-is_symbol-clause-none : goal.returns-then-not-is_symbol-clause-none
returns-then-not-is_symbol-clause-none c =
    let cut = c.in_ok-cut.cut in
    let e = strip_prefix_is Decides-eqb c.args.line.now (codes "fun ") (Some c.in_ok-strip_prefix.field-0) c.in_ok-strip_prefix.ensures.cases in
    no_name c.args.line.now cut.before.now cut.after.now
    (first_cut _ c.in_ok-strip_prefix.field-0.now _ _ e c.in_ok-cut.ensures.some c.in_ok-cut.ensures.before)
    (λ h. let q : false ≡ true = c.if-not-is_symbol.ensures.meaning.1 h in absurd (cc))

pub returns-in_err-strip_prefix-2-clause-none : goal.returns-in_err-strip_prefix-2-clause-none
returns-in_err-strip_prefix-2-clause-none c =
    let cut = c.in_ok-cut.cut in
    let e = strip_prefix_is Decides-eqb c.args.line.now (codes "fun ") (Some c.in_ok-strip_prefix.field-0) c.in_ok-strip_prefix.ensures.cases in
    rw c.from_residual-in_err-strip_prefix-2.ensures (no_bracket c.args.line.now cut.before.now cut.after.now
    (first_cut _ c.in_ok-strip_prefix.field-0.now _ _ e c.in_ok-cut.ensures.some c.in_ok-cut.ensures.before)
    (strip_prefix_is Decides-eqb cut.after.now (codes "(") None c.in_err-strip_prefix-2.ensures.cases))

pub returns-in_err-types-clause-none : goal.returns-in_err-types-clause-none
returns-in_err-types-clause-none c =
    let cut = c.in_ok-cut.cut in
    let types = c.in_ok-strip_prefix-2.field-0 in
    let e = strip_prefix_is Decides-eqb c.args.line.now (codes "fun ") (Some c.in_ok-strip_prefix.field-0) c.in_ok-strip_prefix.ensures.cases in
    rw c.from_residual-in_err-types.ensures (no_result c.args.line.now cut.before.now cut.after.now types.now
    (first_cut _ c.in_ok-strip_prefix.field-0.now _ _ e c.in_ok-cut.ensures.some c.in_ok-cut.ensures.before)
    (strip_prefix_is Decides-eqb cut.after.now (codes "(") (Some types) c.in_ok-strip_prefix-2.ensures.cases)
    (strip_suffix_is Decides-eqb types.now (codes ") obj") None c.in_err-types.ensures.cases))

pub returns-in_err-params-clause-none : goal.returns-in_err-params-clause-none
returns-in_err-params-clause-none c =
    let cut = c.in_ok-cut.cut in
    let types = c.in_ok-strip_prefix-2.field-0 in
    let e = strip_prefix_is Decides-eqb c.args.line.now (codes "fun ") (Some c.in_ok-strip_prefix.field-0) c.in_ok-strip_prefix.ensures.cases in
    rw c.from_residual-in_err-params.ensures (no_types c.args.line.now cut.before.now cut.after.now types.now c.in_ok-types.types.now
    (first_cut _ c.in_ok-strip_prefix.field-0.now _ _ e c.in_ok-cut.ensures.some c.in_ok-cut.ensures.before)
    (strip_prefix_is Decides-eqb cut.after.now (codes "(") (Some types) c.in_ok-strip_prefix-2.ensures.cases)
    (strip_suffix_is Decides-eqb types.now (codes ") obj") (Some c.in_ok-types.types) c.in_ok-types.ensures.cases)
    c.in_err-params.ensures)

pub returns-clause-are : goal.returns-clause-are
returns-clause-are c =
    let cut = c.in_ok-cut.cut in
    let types = c.in_ok-strip_prefix-2.field-0 in
    let e = strip_prefix_is Decides-eqb c.args.line.now (codes "fun ") (Some c.in_ok-strip_prefix.field-0) c.in_ok-strip_prefix.ensures.cases in
    row_found c.args.line.now cut.before.now cut.after.now types.now c.in_ok-types.types.now c.in_ok-params.params
    (first_cut _ c.in_ok-strip_prefix.field-0.now _ _ e c.in_ok-cut.ensures.some c.in_ok-cut.ensures.before)
    (strip_prefix_is Decides-eqb cut.after.now (codes "(") (Some types) c.in_ok-strip_prefix-2.ensures.cases)
    (strip_suffix_is Decides-eqb types.now (codes ") obj") (Some c.in_ok-types.types) c.in_ok-types.ensures.cases)
    c.in_ok-params.ensures

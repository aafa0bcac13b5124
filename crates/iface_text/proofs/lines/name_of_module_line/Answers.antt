use Rattle.std.proofs.Common.{◌≡◌, ◌++◌, None, Some, sym, ◌∙◌, ap, subst, false, true, refl}
use Rattle.std.specs.Prelude.{codes}
use Rattle.std.proofs.lemmas.Bool.Decides.{Decides-eqb}
use Rattle.std.proofs.lemmas.List.{append_cancel_left}
use Rattle.std.proofs.lemmas.Slice.Eq.{strip_prefix_is}
use Rattle.scheme_data.specs.Symbols.{IsSymbol}
use Rattle.iface_text.specs.Lines.{module_line_name}
use Rattle.iface_text.proofs.RowLines.{module_line_none, module_line_name_is}
use Rattle.iface_text.proofs.lines.name_of_module_line.Goals as goal

pub returns-in_err-name-clause-none : goal.returns-in_err-name-clause-none
returns-in_err-name-clause-none c =
    rw c.from_residual.ensures (module_line_none c.args.line.now (λ name _ e. strip_prefix_is Decides-eqb c.args.line.now (codes "module ") None c.in_err-name.ensures.cases name e))

pub returns-then-not-is_symbol-clause-none : goal.returns-then-not-is_symbol-clause-none
returns-then-not-is_symbol-clause-none c =
    let e : c.args.line.now ≡ codes "module " ++ c.in_ok-name.name.now = strip_prefix_is Decides-eqb c.args.line.now (codes "module ") (Some c.in_ok-name.name) c.in_ok-name.ensures.cases in
    module_line_none c.args.line.now (λ name h f.
    let same : name ≡ c.in_ok-name.name.now = append_cancel_left (codes "module ") name c.in_ok-name.name.now (sym f ∙ e) in
    let q : false ≡ true = c.if-not-is_symbol.ensures.meaning.1 (subst IsSymbol same h) in
    absurd (cc))

pub returns-clause-some : goal.returns-clause-some
returns-clause-some c =
    let e : c.args.line.now ≡ codes "module " ++ c.in_ok-name.name.now = strip_prefix_is Decides-eqb c.args.line.now (codes "module ") (Some c.in_ok-name.name) c.in_ok-name.ensures.cases in
    ap module_line_name e ∙ module_line_name_is c.in_ok-name.name.now (c.if-not-is_symbol.ensures.meaning.0 refl)

use Rattle.std.proofs.Common.{◌≡◌, ◌++◌, List, OnOk, map, subst, sym, ap, ◌∙◌}
use Rattle.std.proofs.lemmas.List.{append-nil}
use Rattle.std.proofs.lemmas.Result.{err_from_is_err_and}
use Rattle.scheme_data.specs.Forms.{form, forms}
use Rattle.scheme_data.specs.declared.datum.Datum.{Datum}
use Rattle.syntax_rules.specs.Templates.{numbers_of, numbers_in, listed_number}
use Rattle.marked_names.specs.MarkedNames.{marked_place}
use Rattle.syntax_rules.proofs.Atoms.{form-Sym, neither}
use Rattle.syntax_rules.proofs.Layers.{form-List}
use Rattle.syntax_rules.proofs.names.Names.+numbering.Goals as goal

pub add_numbers-returns-in-List : goal.add_numbers-returns-in-List
add_numbers-returns-in-List t c = rw c.in-List.is (rw (form-List c.in-List.field-0 c.in-List.ds)
    (subst (λ (es : List Datum). OnOk c.add_all_numbers.result (c.add_all_numbers.new.numbers ≡ c.args.numbers.now ++ numbers_in c.args.self.now.table (forms (map form es)))) c.as_slice.ensures c.add_all_numbers.ensures))

pub add_numbers-returns-in_err-i-in-Sym : goal.add_numbers-returns-in_err-i-in-Sym
add_numbers-returns-in_err-i-in-Sym t c = let p = err_from_is_err_and c.from_residual.result c.from_residual.ensures.1 in rw p.1 tt

pub add_numbers-returns-in_err-push-in-Sym : goal.add_numbers-returns-in_err-push-in-Sym
add_numbers-returns-in_err-push-in-Sym t c = let p = err_from_is_err_and c.from_residual-in_err-push-in-Sym.result c.from_residual-in_err-push-in-Sym.ensures.1 in rw p.1 tt

pub add_numbers-returns-in_ok-push-in-Sym : goal.add_numbers-returns-in_ok-push-in-Sym
add_numbers-returns-in_ok-push-in-Sym t c = rw (c.in-Sym.is, form-Sym)
    (c.in_ok-push-in-Sym.ensures.ok ∙ ap (λ o. c.args.numbers.now ++ listed_number o) (sym c.in-Some.is ∙ c.in_ok-i-in-Sym.ensures ∙ ap (λ x. marked_place x c.in-Sym.mark c.args.self.now.table) c.as_bytes.ensures))

pub add_numbers-returns-in_default-2 : goal.add_numbers-returns-in_default-2
add_numbers-returns-in_default-2 t c = rw (c.in-Sym.is, form-Sym)
    (sym (append-nil c.args.numbers.now) ∙ ap (λ o. c.args.numbers.now ++ listed_number o) (sym c.in_default-2.is ∙ c.in_ok-i-in-Sym.ensures ∙ ap (λ x. marked_place x c.in-Sym.mark c.args.self.now.table) c.as_bytes.ensures))

pub add_numbers-returns-in_default : goal.add_numbers-returns-in_default
add_numbers-returns-in_default t c =
    let ns = c.args.numbers.now in
    let same = append-nil ns in
    neither (λ f. ns ≡ ns ++ numbers_of c.args.self.now.table f) (λ _ _. sym same) (λ _ _ _. sym same) (λ _ _. sym same) c.args.d.now c.in_default.not-Sym c.in_default.not-List

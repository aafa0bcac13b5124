use Rattle.std.proofs.Common.{◌≡◌, ◌+◌, ◌++◌, ◌∷◌, [], map, drop}
use Rattle.scheme_data.specs.Forms.{form, forms, form_place, forms_size}
use Rattle.syntax_rules.specs.Filling.{filled, all_filled, in_rows}
use Rattle.syntax_rules.specs.TreeViews.{the_template, templates}
use Rattle.syntax_rules.proofs.usage.Usage.+filling.Given as goal

abbrev pub invariant-fill_all-loop-t : goal.invariant-fill_all-loop-t
invariant-fill_all-loop-t l =
    let rest = all_filled l.self.paths.now (form l.self.call.now) (form_place (form l.self.call.now)) l.self.mark l.rows (templates (map the_template (drop l.t-index l.ts))) in
    let whole = all_filled l.self.paths.now (form l.self.call.now) (form_place (form l.self.call.now)) l.self.mark l.rows (templates (map the_template l.ts)) in
    record {
      made : map form l.made ++ rest ≡ map form l.initial.made ++ whole;
      count : l.initial.left + forms_size (forms rest) ≡ forms_size (forms whole) + l.left;
    }

abbrev pub invariant-fill_rows-loop-row : goal.invariant-fill_rows-loop-row
invariant-fill_rows-loop-row l =
    let done = in_rows l.row (λ r. filled l.self.paths.now (form l.self.call.now) (form_place (form l.self.call.now)) l.self.mark (l.rows ++ r ∷ []) (the_template l.t)) in
    record {
      made : map form l.made ≡ map form l.initial.made ++ done;
      count : l.initial.left ≡ forms_size (forms done) + l.left;
    }

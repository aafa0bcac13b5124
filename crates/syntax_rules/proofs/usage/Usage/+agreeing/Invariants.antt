use Rattle.std.proofs.Common.{◌≡◌, ◌++◌, ◌∷◌, [], map, drop, true}
use Rattle.scheme_data.specs.Forms.{form}
use Rattle.syntax_rules.specs.Filling.{agrees, all_agree, in_all_rows}
use Rattle.syntax_rules.specs.TreeViews.{the_template, templates}
use Rattle.syntax_rules.proofs.usage.Usage.+agreeing.Given as goal

abbrev pub invariant-all_agree-loop-t : goal.invariant-all_agree-loop-t
invariant-all_agree-loop-t l = all_agree l.self.paths.now (form l.self.call.now) l.rows (templates (map the_template l.ts))
    ≡ all_agree l.self.paths.now (form l.self.call.now) l.rows (templates (map the_template (drop l.t-index l.ts)))

abbrev pub invariant-rows_agree-loop-row : goal.invariant-rows_agree-loop-row
invariant-rows_agree-loop-row l = in_all_rows l.row (λ r. agrees l.self.paths.now (form l.self.call.now) (l.rows ++ r ∷ []) (the_template l.t)) ≡ true

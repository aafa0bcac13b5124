use Rattle.std.proofs.Common.{sym, ap, ◌∙◌}
use Rattle.scheme_data.specs.Forms.{form}
use Rattle.core_forms.specs.Modules as modules
use Rattle.expansion_steps.specs.Heads.{macros_of, meaning_of}
use Rattle.expander.specs.Tops.{all_tops}
use Rattle.expander.proofs.TopSteps.{taken, added}
use Rattle.expander.proofs.TopTurns.{top_is, macros_kept, scope_kept}
use Rattle.expander.proofs.expander.Expander.top.Goals as goal

pub returns-in-Macro-clause-advances : goal.returns-in-Macro-clause-advances
returns-in-Macro-clause-advances c =
    taken (macros_of c.args.self.now.macros) c.args.self.now.counts c.args.forms.now (modules.form (form c.args.datum)) _ (all_tops c.args.tops.now) c.use_macro.result (macros_of c.args.self.now.macros) _ _
    (top_is (macros_of c.args.self.now.macros) c.args.self.now.counts c.args.self.now.scope (form c.args.datum) _ c.requires (ap meaning_of (sym c.in-Macro.is) ∙ c.in_ok-rules.ensures {u = tt})) (c.use_macro.ensures (macros_of c.args.self.now.macros))

pub returns-in-Special-clause-advances : goal.returns-in-Special-clause-advances
returns-in-Special-clause-advances c =
    c.special.ensures.advances (modules.form (form c.args.datum))
    (top_is (macros_of c.args.self.now.macros) c.args.self.now.counts c.args.self.now.scope (form c.args.datum) _ c.requires (ap meaning_of (sym c.in-Special.is) ∙ c.in_ok-rules.ensures {u = tt}))

pub returns-in-Plain-clause-advances : goal.returns-in-Plain-clause-advances
returns-in-Plain-clause-advances c =
    added (macros_of c.args.self.now.macros) c.args.self.now.counts c.args.forms.now (modules.form (form c.args.datum)) (all_tops c.args.tops.now) c.evaluate.result c.add.result _ _ _
    (c.evaluate.ensures.walked (modules.form (form c.args.datum)) (top_is (macros_of c.args.self.now.macros) c.args.self.now.counts c.args.self.now.scope (form c.args.datum) _ c.requires (ap meaning_of (sym c.in-Plain.is) ∙ c.in_ok-rules.ensures {u = tt}))) c.add.ensures
    (macros_kept c.evaluate.result c.args.self.now c.evaluate.new.self c.evaluate.ensures.around)

pub returns-in-Plain-clause-scope : goal.returns-in-Plain-clause-scope
returns-in-Plain-clause-scope c = scope_kept c.evaluate.result c.add.result _ _ c.args.self.now c.evaluate.new.self c.add.ensures c.evaluate.ensures.around c.requires

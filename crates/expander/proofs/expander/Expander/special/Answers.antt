use Rattle.std.proofs.Common.{Ok, ◌∙◌}
use Rattle.scheme_data.specs.Forms.{form}
use Rattle.core_forms.specs.Scope.{special}
use Rattle.core_forms.specs.Modules.{top_as}
use Rattle.core_forms.specs.declared.words.Keyword.TheVariants as key
use Rattle.expansion_steps.specs.Heads.{macros_of}
use Rattle.expander.specs.Tops.{all_tops}
use Rattle.expander.proofs.TopSteps.{taken, added}
use Rattle.expander.proofs.TopForms.{spliced_taken, expression_word}
use Rattle.expander.proofs.TopTurns.{macros_kept, scope_kept}
use Rattle.expander.proofs.expander.Expander.special.Goals as goal

pub returns-in_ok-splice-in-Begin-clause-advances : goal.returns-in_ok-splice-in-Begin-clause-advances
returns-in_ok-splice-in-Begin-clause-advances c =
    rw c.in-Begin.is (λ t e. taken (macros_of c.args.self.now.macros) c.args.self.now.counts c.args.forms.now t (top_as (special key.Begin) (macros_of c.args.self.now.macros) c.args.self.now.counts (form c.args.datum)) (all_tops c.args.tops.now) (Ok tt) (macros_of c.args.self.now.macros) c.args.self.now.counts _ e
    (spliced_taken (macros_of c.args.self.now.macros) c.args.self.now.counts (form c.args.datum) (all_tops c.args.tops.now) _ (c.in_ok-splice-in-Begin.ensures {u = tt})))

pub returns-in-DefineSyntax-clause-advances : goal.returns-in-DefineSyntax-clause-advances
returns-in-DefineSyntax-clause-advances c =
    rw c.in-DefineSyntax.is (λ t e. taken (macros_of c.args.self.now.macros) c.args.self.now.counts c.args.forms.now t _ (all_tops c.args.tops.now) c.add_macro.result _ c.args.self.now.counts _ e (c.add_macro.ensures c.args.self.now.counts))

pub returns-in-Define-clause-advances : goal.returns-in-Define-clause-advances
returns-in-Define-clause-advances c =
    rw c.in-Define.is (λ t e. added (macros_of c.args.self.now.macros) c.args.self.now.counts c.args.forms.now t (all_tops c.args.tops.now) c.define.result c.add.result _ _ _ (c.define.ensures.walked t e) c.add.ensures
    (macros_kept c.define.result c.args.self.now c.define.new.self c.define.ensures.around))

pub returns-in-Define-clause-scope : goal.returns-in-Define-clause-scope
returns-in-Define-clause-scope c = scope_kept c.define.result c.add.result _ _ c.args.self.now c.define.new.self c.add.ensures c.define.ensures.around c.requires

pub returns-in-DefineInline-clause-advances : goal.returns-in-DefineInline-clause-advances
returns-in-DefineInline-clause-advances c =
    rw c.in-DefineInline.is (λ t e. added (macros_of c.args.self.now.macros) c.args.self.now.counts c.args.forms.now t (all_tops c.args.tops.now) c.define_inline.result c.add-in-DefineInline.result _ _ _ (c.define_inline.ensures.walked t e) c.add-in-DefineInline.ensures
    (macros_kept c.define_inline.result c.args.self.now c.define_inline.new.self c.define_inline.ensures.around))

pub returns-in-DefineInline-clause-scope : goal.returns-in-DefineInline-clause-scope
returns-in-DefineInline-clause-scope c = scope_kept c.define_inline.result c.add-in-DefineInline.result _ _ c.args.self.now c.define_inline.new.self c.add-in-DefineInline.ensures c.define_inline.ensures.around c.requires

pub returns-in_default-clause-advances : goal.returns-in_default-clause-advances
returns-in_default-clause-advances c t e =
    added (macros_of c.args.self.now.macros) c.args.self.now.counts c.args.forms.now t (all_tops c.args.tops.now) c.evaluate.result c.add-in_default.result _ _ _
    (c.evaluate.ensures.walked t (e ∙ expression_word c.args.keyword (macros_of c.args.self.now.macros) c.args.self.now.counts (form c.args.datum) c.in_default.not-Begin c.in_default.not-DefineSyntax c.in_default.not-Define c.in_default.not-DefineInline)) c.add-in_default.ensures
    (macros_kept c.evaluate.result c.args.self.now c.evaluate.new.self c.evaluate.ensures.around)

pub returns-in_default-clause-scope : goal.returns-in_default-clause-scope
returns-in_default-clause-scope c = scope_kept c.evaluate.result c.add-in_default.result _ _ c.args.self.now c.evaluate.new.self c.add-in_default.ensures c.evaluate.ensures.around c.requires

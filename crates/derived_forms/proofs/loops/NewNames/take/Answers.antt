use Rattle.std.proofs.Common.{◌∙◌}
use Rattle.scheme_data.specs.Forms.{form}
use Rattle.core_forms.specs.Names.{new_name}
use Rattle.core_forms.specs.Table.{two}
use Rattle.derived_forms.proofs.LoopForms.{pushed, first-name}
use Rattle.derived_forms.proofs.NamedForms.{pair_form}
use Rattle.derived_forms.proofs.loops.NewNames.take.Goals as goal

pub returns-clause-named : goal.returns-clause-named
returns-clause-named c = pushed c.args.self.now.names c.push-2.new.self c.in_ok-new_name.field-0 (new_name c.args.at c.args.n.now 0) (c.in_ok-push-2.ensures {u = tt}).ok
    (c.in_ok-new_name.ensures ∙ first-name c.args.at c.args.n.now c.in_ok-mark.mark c.in_ok-mark.ensures.first)

pub returns-clause-bound : goal.returns-clause-bound
returns-clause-bound c = pushed c.args.self.now.bindings c.push-4.new.self _ (two c.args.at (new_name c.args.at c.args.n.now 0) (form c.args.value)) (c.in_ok-push-4.ensures {u = tt}).ok
    (pair_form c.args.at c.args.n.now c.in_ok-mark.mark c.args.value c.in_ok-new_name-2.field-0 c.new-pair.result c.push.new.self c.push-3.new.self c.in_ok-pair.pair c.new-pair.ensures (c.in_ok-push.ensures {u = tt}).ok (c.in_ok-push-3.ensures {u = tt}).ok
    (c.in_ok-new_name-2.ensures {u = tt}) (c.in_ok-mark.ensures {u = tt}).first (c.in_ok-pair.ensures {u = tt}))

use Rattle.std.proofs.Common.{ap}
use Rattle.std.specs.Prelude.{codes}
use Rattle.core_forms.specs.Table.{core}
use Rattle.derived_forms.proofs.NamedForms.{case_parts}
use Rattle.derived_forms.proofs.derived.case_of.Goals as goal

pub returns : goal.returns
returns c = ap (core c.args.at (codes "let")) (case_parts c.args.at c.args.mark c.args.pair c.in_ok-pair.pair c.new-bindings.result c.push.new.self c.new-behind.result c.push-2.new.self c.append.new.self c.new-all.result c.push-3.new.self c.push-4.new.self
    c.in_ok-new_name.field-0 c.in_ok-core.field-0 c.args.clauses (c.in_ok-pair.ensures {u = tt}) c.new-bindings.ensures (c.in_ok-push.ensures {u = tt}).ok c.new-behind.ensures (c.in_ok-push-2.ensures {u = tt}).ok (c.in_ok-new_name.ensures {u = tt})
    (c.in_ok-append.ensures {u = tt}) (c.in_ok-core.ensures {u = tt}) c.new-all.ensures (c.in_ok-push-3.ensures {u = tt}).ok (c.in_ok-push-4.ensures {u = tt}).ok)

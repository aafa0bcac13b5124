use Rattle.derived_forms.proofs.NamedForms.{equal_test}
use Rattle.derived_forms.proofs.derived.is_equal.Goals as goal

pub returns : goal.returns
returns c = equal_test c.args.at c.args.key.now c.args.datum c.in_ok-copy.field-0 c.in_ok-core.field-0 c.new-behind.result c.push.new.self c.new-parts.result c.push-2.new.self c.push-3.new.self c.core-2.result
    c.new-behind.ensures (c.in_ok-push.ensures {u = tt}).ok c.new-parts.ensures (c.in_ok-push-2.ensures {u = tt}).ok (c.in_ok-copy.ensures {u = tt}) (c.in_ok-core.ensures {u = tt}) (c.in_ok-push-3.ensures {u = tt}).ok c.core-2.ensures

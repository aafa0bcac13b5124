use Rattle.core_forms.specs.Table.{t}
use Rattle.derived_forms.proofs.LoopForms.{pushed}
use Rattle.derived_forms.proofs.NamedForms.{two_items, second_in, left_alone, first_in, by_mark, bound_by}
use Rattle.derived_forms.proofs.derived.new_bound.Goals as goal

pub remove-requires : goal.remove-requires
remove-requires c = second_in c.push-3.new.self c.args.value c.in_ok-new_name-2.field-0 (two_items c.new-parts.result c.push.new.self c.push-3.new.self c.args.value c.in_ok-new_name-2.field-0 c.new-parts.ensures (c.in_ok-push.ensures {u = tt}).ok (c.in_ok-push-3.ensures {u = tt}).ok)

pub remove-requires-2 : goal.remove-requires-2
remove-requires-2 c = first_in c.remove.new.self c.args.value (left_alone c.push-3.new.self c.remove.new.self c.args.value c.in_ok-new_name-2.field-0
    (two_items c.new-parts.result c.push.new.self c.push-3.new.self c.args.value c.in_ok-new_name-2.field-0 c.new-parts.ensures (c.in_ok-push.ensures {u = tt}).ok (c.in_ok-push-3.ensures {u = tt}).ok) c.remove.ensures.rest)

pub returns-clause-bound : goal.returns-clause-bound
returns-clause-bound c = bound_by c.args.at c.args.n.now c.take_names.new.self c.in_ok-mark.mark c.args.value c.in_ok-new_name-2.field-0 c.in_ok-new_name-3.field-0 c.remove.result c.remove-2.result
    c.new-parts.result c.push.new.self c.push-3.new.self c.remove.new.self c.new-parts.ensures (c.in_ok-push.ensures {u = tt}).ok (c.in_ok-push-3.ensures {u = tt}).ok c.remove.ensures.item c.remove.ensures.rest c.remove-2.ensures.item
    (c.in_ok-new_name-2.ensures {u = tt}) (c.in_ok-new_name-3.ensures {u = tt}) (c.in_ok-mark.ensures {u = tt}).first (c.in_ok-mark.ensures {u = tt}).counted

pub returns-clause-used : goal.returns-clause-used
returns-clause-used c = pushed c.args.uses.now c.push-2.new.self c.in_ok-new_name.field-0 (t c.args.n.now c.args.at) (c.in_ok-push-2.ensures {u = tt}).ok
    (by_mark c.args.at c.args.n.now c.in_ok-mark.mark _ (c.in_ok-new_name.ensures {u = tt}) (c.in_ok-mark.ensures {u = tt}).first)

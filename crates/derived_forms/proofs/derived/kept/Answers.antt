use Rattle.scheme_data.specs.Forms.{end}
use Rattle.core_forms.specs.Table.{t}
use Rattle.derived_forms.proofs.NamedForms.{first_use, has_first, first_form, kept_means}
use Rattle.derived_forms.proofs.derived.kept.Goals as goal

pub remove-name-requires : goal.remove-name-requires
remove-name-requires c = has_first c.new_bound.new.uses (t c.args.n.now c.args.at) end (first_use c.new-uses.result c.new_bound.new.uses (t c.args.n.now c.args.at) c.new-uses.ensures (c.in_ok-bound.ensures {u = tt}).used)

pub returns : goal.returns
returns c = kept_means c.args.n.now c.new_bound.new.n c.args.at c.args.value c.remove-name.result c.in_ok-bound.bound c.args.keyword c.args.forms (c.in_ok-bound.ensures {u = tt}).bound
    (first_form c.new_bound.new.uses c.remove-name.result (t c.args.n.now c.args.at) end (first_use c.new-uses.result c.new_bound.new.uses (t c.args.n.now c.args.at) c.new-uses.ensures (c.in_ok-bound.ensures {u = tt}).used) c.remove-name.ensures.item)

use Rattle.std.proofs.Common.{refl}
use Rattle.scheme_data.specs.Forms.{form, end, next}
use Rattle.core_forms.specs.Table.{core, core_if}
use Rattle.core_forms.specs.Code.{data_of, spelling}
use Rattle.expansion_steps.proofs.Turns.{one-name}
use Rattle.expansion_steps.proofs.turning.kept.Goals as goal

pub returns : goal.returns
returns c = λ n.
    let bs = next (core_if c.args.at (form c.args.bound.name) (form c.args.arm) (core c.args.at (spelling c.args.keyword) (data_of c.args.forms))) end in
    one-name n c.args.at c.new-names.result c.push.new.self c.args.bound.binder (next (form c.args.bound.value) end) bs c.let_one.result (c.in_ok-push.ensures {u = tt}).ok c.new-names.ensures (c.let_one.ensures n bs refl)

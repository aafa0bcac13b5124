use Rattle.std.proofs.Common.{ap}
use Rattle.std.specs.Prelude.{codes}
use Rattle.scheme_data.specs.Forms.{form, symbol}
use Rattle.core_forms.specs.Code.{data_of}
use Rattle.core_forms.specs.Working.{open_of}
use Rattle.derived_forms.proofs.LoopForms.{first-name}
use Rattle.derived_forms.proofs.Repeats.{first-loop}
use Rattle.derived_forms.proofs.loops.loop_of_do.Goals as goal

pub returns-clause-meant : goal.returns-clause-meant
returns-clause-meant c =
    let at = c.args.at in
    let v = c.args.variables in
    let m = c.in_ok-made.made in
    first-loop at c.args.n.now c.take_names.new.self (open_of c.in_ok-open.open) (form m.name) (symbol at (codes "t") c.in_ok-mark.mark) (form c.args.test) (form c.args.ending)
    (data_of m.values) (data_of v.values) (data_of m.variables) (data_of v.names) (data_of v.steps) (data_of c.args.body) (data_of m.body)
    c.in_ok-open.ensures.meant c.in_ok-made.ensures.named (first-name at c.args.n.now c.in_ok-mark.mark c.in_ok-mark.ensures.first) c.in_ok-mark.ensures.counted
    (ap data_of c.in_ok-made.ensures.from) (ap data_of c.in_ok-made.ensures.over) c.in_ok-made.ensures.does

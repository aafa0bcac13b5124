use Rattle.std.proofs.Common.{ap, sym, ◌∙◌}
use Rattle.std.specs.Option.{option_map}
use Rattle.core_forms.specs.Code.{data_of}
use Rattle.derived_forms.specs.LoopViews.{columns_of, columns_view, variable_view}
use Rattle.derived_forms.proofs.LoopForms.{columns-step, columns-end}
use Rattle.derived_forms.proofs.loops.variables_of.Goals as goal

pub loop-datum-preserved : goal.loop-datum-preserved
loop-datum-preserved c =
    let l = c.loop-datum in
    columns-step (columns_view l.variables) (columns_view c.take.new.self) l.header c.pop.new.self c.in-Some.datum (variable_view c.in-Some-2.variable) (columns_of (data_of c.args.header)) c.in-Some.ensures
    (sym (ap (option_map variable_view) c.in-Some-2.is) ∙ c.in_ok-variable.ensures) c.in_ok-take.ensures.named c.in_ok-take.ensures.valued c.in_ok-take.ensures.stepped l.invariant

pub returns : goal.returns
returns c = columns-end (columns_view c.loop-datum.variables) c.loop-datum.header (columns_of (data_of c.args.header)) c.in_default.ensures.0 c.loop-datum.invariant

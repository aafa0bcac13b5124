use Rattle.std.proofs.Common.{rules, sym, ◌∙◌}
use Rattle.core_forms.specs.Code.{data_of}
use Rattle.derived_forms.proofs.LoopForms.{let-found}
use Rattle.derived_forms.proofs.loops.let_parts.Goals as goal

pub returns : goal.returns
returns c = let-found c.args.forms c.pop.new.self c.pop-2.new.self c.in_ok-name.name c.in_ok-second.second (data_of c.in_ok-bindings.bindings) c.in_ok-name.ensures c.in_ok-second.ensures c.in_ok-bindings.ensures
    (search rules) (sym c.is_typed.ensures ∙ c.if-is_typed.false)

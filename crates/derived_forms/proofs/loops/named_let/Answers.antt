use Rattle.std.proofs.Common.{Option, ap, subst, ◌∙◌}
use Rattle.scheme_data.specs.Forms.{form}
use Rattle.core_forms.specs.Names.{new_names}
use Rattle.core_forms.specs.Table.{core_loop}
use Rattle.core_forms.specs.Code.{data_of}
use Rattle.core_forms.specs.Working.{open_of}
use Rattle.core_forms.specs.declared.binders.Bindings.{Bindings}
use Rattle.derived_forms.specs.LoopViews.{let_view, SidesAs}
use Rattle.derived_forms.proofs.NamedLets.{let-means}
use Rattle.derived_forms.proofs.loops.named_let.Goals as goal

pub returns : goal.returns
returns c =
    let n = c.args.n.now in
    let at = c.args.at in
    let p = c.in-Some.parts in
    let b = c.in-Some-2.sides in
    let-means n c.loop_form.new.n at (data_of c.args.forms) (let_view p) b.names b.values (open_of c.in_ok-open.open) c.in-Some.ensures
    (subst (λ (o : Option Bindings). SidesAs (data_of p.bindings) o) c.in-Some-2.is c.in_ok-sides.ensures)
    (c.in_ok-open.ensures.meant ∙ ap (λ bs. core_loop at (form p.name) (new_names at n 0 (data_of b.values)) (data_of b.values) (data_of b.names) (data_of bs)) c.in_ok-body.ensures) c.in_ok-open.ensures.counted

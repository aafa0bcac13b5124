use Rattle.std.proofs.Common.{is_some, true, refl, sym, ap, ◌∙◌}
use Rattle.std.specs.Option.{option_map}
use Rattle.scheme_data.specs.Forms.{form}
use Rattle.core_forms.specs.Names.{new_name, new_names, binders_of}
use Rattle.core_forms.specs.Code.{data_of}
use Rattle.core_forms.specs.Working.{open_of}
use Rattle.derived_forms.specs.LoopViews.{do_view, columns_view, columns_of}
use Rattle.derived_forms.proofs.Repeats.{do-refused, do-doubled, do-means, body-same}
use Rattle.derived_forms.proofs.loops.repeated.Goals as goal

pub returns-in_default-2 : goal.returns-in_default-2
returns-in_default-2 c =
    let p = c.in-Some.parts in
    record {
      is = do-refused c.args.n.now c.args.at (data_of c.args.forms) (do_view p) c.in-Some.ensures
          (sym (ap (option_map columns_view) c.in_default-2.is) ∙ (c.in_ok-variables.ensures ∙ ap (λ ds. columns_of (data_of ds)) c.in_ok-stacked.ensures));
      there = refl;
      same = refl;
    }

pub returns-then-not-branch : goal.returns-then-not-branch
returns-then-not-branch c =
    let p = c.in-Some.parts in
    let v = c.in-Some-2.variables in
    record {
      is = do-doubled c.args.n.now c.args.at (data_of c.args.forms) (do_view p) (columns_view v) c.in-Some.ensures
          (sym (ap (option_map columns_view) c.in-Some-2.is) ∙ (c.in_ok-variables.ensures ∙ ap (λ ds. columns_of (data_of ds)) c.in_ok-stacked.ensures))
          (sym (c.in_ok-are_distinct.ensures ∙ ap (λ ds. is_some (binders_of true (data_of ds))) c.as_slice.ensures) ∙ c.if-not-branch.true);
      there = refl;
      same = refl;
    }

pub returns : goal.returns
returns c =
    let p = c.in-Some.parts in
    let v = c.in-Some-2.variables in
    do-means c.args.n.now c.loop_of_do.new.n c.args.at (data_of c.args.forms) (do_view p) (columns_view v) (open_of c.in_ok-open.open) c.in-Some.ensures
    (sym (ap (option_map columns_view) c.in-Some-2.is) ∙ (c.in_ok-variables.ensures ∙ ap (λ ds. columns_of (data_of ds)) c.in_ok-stacked.ensures))
    (sym (c.in_ok-are_distinct.ensures ∙ ap (λ ds. is_some (binders_of true (data_of ds))) c.as_slice.ensures) ∙ c.if-not-branch.false)
    (body-same c.args.at (new_name c.args.at c.args.n.now 0) (open_of c.in_ok-open.open) (new_names c.args.at c.args.n.now 1 (data_of v.values)) (columns_view v) (do_view p) (form c.in_ok-ending.ending) (data_of c.in_ok-body.body)
    c.in_ok-open.ensures.meant c.in_ok-ending.ensures (ap data_of c.in_ok-body.ensures))
    c.in_ok-open.ensures.counted

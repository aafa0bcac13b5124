use Rattle.std.proofs.Common.{ap, sym, ◌∙◌}
use Rattle.scheme_data.specs.Forms.{form, join}
use Rattle.core_forms.specs.Names.{new_names, pairs_of, with_names}
use Rattle.core_forms.specs.Table.{count}
use Rattle.core_forms.specs.Code.{data_of}
use Rattle.derived_forms.proofs.LoopForms.{named-step, bound-step, counted-step, join-none}
use Rattle.derived_forms.proofs.loops.new_names.Goals as goal

pub loop-value-preserved : goal.loop-value-preserved
loop-value-preserved c =
    let l = c.loop-value in
    let e = c.in-Some.ensures in
    record {
      named = named-step c.args.at l.n c.take.new.n (form c.in-Some.value) (data_of c.pop.new.self) (data_of l.made.names) (data_of c.take.new.self.names) (new_names c.args.at c.args.n.now 0 (data_of c.in_ok-values.values))
          c.in_ok-take.ensures.named c.in_ok-take.ensures.counted (ap (λ ds. join (data_of l.made.names) (new_names c.args.at l.n 0 (data_of ds))) (sym e) ∙ l.invariant.named);
      bound = bound-step c.args.at l.n c.take.new.n (form c.in-Some.value) (data_of c.pop.new.self) (data_of l.made.bindings) (data_of c.take.new.self.bindings) (pairs_of c.args.at (new_names c.args.at c.args.n.now 0 (data_of c.in_ok-values.values)) (data_of c.in_ok-values.values))
          c.in_ok-take.ensures.bound c.in_ok-take.ensures.counted (ap (λ ds. join (data_of l.made.bindings) (pairs_of c.args.at (new_names c.args.at l.n 0 (data_of ds)) (data_of ds))) (sym e) ∙ l.invariant.bound);
      counted = counted-step l.n c.take.new.n (form c.in-Some.value) (data_of c.pop.new.self) (with_names c.args.n.now (count (data_of c.in_ok-values.values)))
          c.in_ok-take.ensures.counted (ap (λ ds. with_names l.n (count (data_of ds))) (sym e) ∙ l.invariant.counted);
    }

pub returns-clause-named : goal.returns-clause-named
returns-clause-named c =
    let l = c.loop-value in
    sym (join-none (data_of l.made.names)) ∙ (ap (λ ds. join (data_of l.made.names) (new_names c.args.at l.n 0 (data_of ds))) (sym c.in_default.ensures.0)
    ∙ (l.invariant.named ∙ ap (λ ds. new_names c.args.at c.args.n.now 0 (data_of ds)) c.in_ok-values.ensures))

pub returns-clause-bound : goal.returns-clause-bound
returns-clause-bound c =
    let l = c.loop-value in
    sym (join-none (data_of l.made.bindings)) ∙ (ap (λ ds. join (data_of l.made.bindings) (pairs_of c.args.at (new_names c.args.at l.n 0 (data_of ds)) (data_of ds))) (sym c.in_default.ensures.0)
    ∙ (l.invariant.bound ∙ ap (λ ds. pairs_of c.args.at (new_names c.args.at c.args.n.now 0 (data_of ds)) (data_of ds)) c.in_ok-values.ensures))

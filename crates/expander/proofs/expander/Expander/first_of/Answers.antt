use Rattle.std.proofs.Common.{Ok, Err}
use Rattle.std.proofs.lemmas.Result.{err_from_is_err_and}
use Rattle.scheme_data.specs.Forms.{form, next}
use Rattle.core_forms.specs.Code.{data_of}
use Rattle.expansion_steps.specs.Heads.{macros_of}
use Rattle.expansion_steps.specs.Steps.{Looks, LooksAs}
use Rattle.expander.proofs.Arounds.{same_self, same_on, around_by}
use Rattle.expander.proofs.BodyWalks.{body_ends, body_instead, body_starts, body_refused}
use Rattle.expander.proofs.expander.Expander.first_of.Goals as goal

pub looks-init : goal.looks-init
looks-init c = record { around = same_self c.args.self.now; path = Looks.here }

pub returns-in_default-clause-starts : goal.returns-in_default-clause-starts
returns-in_default-clause-starts c = body_ends _ _ _ c.looks.self.counts c.args.at _ c.looks.forms c.looks.invariant.path c.in_default.ensures.0

pub returns-in_default-clause-around : goal.returns-in_default-clause-around
returns-in_default-clause-around c = c.looks.invariant.around

pub returns-in_err-others-clause-starts : goal.returns-in_err-others-clause-starts
returns-in_err-others-clause-starts c = let p = err_from_is_err_and c.from_residual.result c.from_residual.ensures.1 in
    rw (p.1, p.2) (body_refused _ _ _ c.looks.self.counts c.args.at _ c.looks.forms c.looks.invariant.path c.in-Some.form c.pop.new.self c.in-Some.ensures c.in_err-others.field-0.0 c.look.new.self.counts
    (around_by (λ ks s. LooksAs (macros_of ks) s c.looks.self.counts (next (form c.in-Some.form) (data_of c.pop.new.self)) (Err c.in_err-others.field-0.0) c.look.new.self.counts) c.args.self.now c.looks.self c.looks.invariant.around c.in_err-others.ensures.looks))

pub returns-in_err-others-clause-around : goal.returns-in_err-others-clause-around
returns-in_err-others-clause-around c = same_on c.args.self.now c.looks.self c.look.new.self c.looks.invariant.around c.look.ensures.around

pub returns-in-First-clause-starts : goal.returns-in-First-clause-starts
returns-in-First-clause-starts c = body_starts _ _ _ c.looks.self.counts c.args.at _ c.looks.forms c.looks.invariant.path c.in-Some.form c.pop.new.self c.in-Some.ensures c.in_ok-others.field-0 c.in-First.first c.look.new.self.counts c.in-First.is
    (around_by (λ ks s. LooksAs (macros_of ks) s c.looks.self.counts (next (form c.in-Some.form) (data_of c.pop.new.self)) (Ok c.in_ok-others.field-0) c.look.new.self.counts) c.args.self.now c.looks.self c.looks.invariant.around c.in_ok-others.ensures.looks)

pub returns-in-First-clause-around : goal.returns-in-First-clause-around
returns-in-First-clause-around c = same_on c.args.self.now c.looks.self c.look.new.self c.looks.invariant.around c.look.ensures.around

pub looks-preserved : goal.looks-preserved
looks-preserved c = record {
  around = same_on c.args.self.now c.looks.self c.look.new.self c.looks.invariant.around c.look.ensures.around;
  path = body_instead _ _ _ c.looks.self.counts c.args.at _ c.looks.forms c.looks.invariant.path c.in-Some.form c.pop.new.self c.in-Some.ensures c.in_ok-others.field-0 c.in-Instead.others c.look.new.self.counts c.in-Instead.is
      (around_by (λ ks s. LooksAs (macros_of ks) s c.looks.self.counts (next (form c.in-Some.form) (data_of c.pop.new.self)) (Ok c.in_ok-others.field-0) c.look.new.self.counts) c.args.self.now c.looks.self c.looks.invariant.around c.in_ok-others.ensures.looks);
}

pub returns-clause-around : goal.returns-clause-around
returns-clause-around c = c.looks.invariant.around

use Rattle.std.proofs.Common.{refl}
use Rattle.scheme_data.specs.Forms.{form}
use Rattle.derived_forms.proofs.LoopForms.{pushed}
use Rattle.derived_forms.proofs.loops.Variables.take.Goals as goal

pub returns-clause-named : goal.returns-clause-named
returns-clause-named c = pushed c.args.self.now.names c.push.new.self c.args.variable.name (form c.args.variable.name) c.in_ok-push.ensures.ok refl

pub returns-clause-valued : goal.returns-clause-valued
returns-clause-valued c = pushed c.args.self.now.values c.push-2.new.self c.args.variable.value (form c.args.variable.value) c.in_ok-push-2.ensures.ok refl

pub returns-clause-stepped : goal.returns-clause-stepped
returns-clause-stepped c = pushed c.args.self.now.steps c.push-3.new.self c.args.variable.step (form c.args.variable.step) c.in_ok-push-3.ensures.ok refl

use Rattle.scheme_data.specs.Forms.{form}
use Rattle.derived_forms.proofs.ClauseSteps.{tests_begin, tests_go_on, tests_end}
use Rattle.derived_forms.proofs.derived.is_one_of.Goals as goal

pub loop-datum-init : goal.loop-datum-init
loop-datum-init c = tests_begin c.args.at (form c.args.key.now) c.push.new.self c.new-tests.result c.in_ok-choices.choices c.args.choices c.in_ok-sure.field-0 c.new-tests.ensures (c.in_ok-push.ensures {u = tt}).ok (c.in_ok-sure.ensures {u = tt}) (c.in_ok-choices.ensures {u = tt})

pub loop-datum-preserved : goal.loop-datum-preserved
loop-datum-preserved c = tests_go_on c.args.at (form c.args.key.now) c.loop-datum.tests c.push-in-Some.new.self c.loop-datum.choices c.pop.new.self c.in-Some.datum c.in_ok-test.test _
    (c.in-Some.ensures {u = tt}) (c.in_ok-push-2.ensures {u = tt}).ok (c.in_ok-test.ensures {u = tt}) c.loop-datum.invariant

pub returns : goal.returns
returns c = tests_end c.args.at (form c.args.key.now) c.loop-datum.tests c.loop-datum.choices _ (c.in_default.ensures {u = tt}).0 c.loop-datum.invariant

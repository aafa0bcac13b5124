use Rattle.expander.specs.Tops.{all_tops}
use Rattle.expander.proofs.TopForms.{put_one}
use Rattle.expander.proofs.module.put_tops.Goals as goal

pub loop-form-preserved : goal.loop-form-preserved
loop-form-preserved c =
    rw (c.in_ok-push.ensures {u = tt}).ok (put_one c.pop.new.self c.loop-form.forms c.in-Some.form (all_tops c.loop-form.tops) _ c.in-Some.ensures c.loop-form.invariant)

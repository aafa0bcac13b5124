use Rattle.std.proofs.Common.{◌∙◌, sym, ap, ◌++◌, ◌∷◌, [], if◌then◌else◌}
use Rattle.c_check.specs.Roles.{role_as}
use Rattle.c_check.specs.Heads.{takes_before}
use Rattle.c_check.proofs.Rest.{rest_at}
use Rattle.c_check.proofs.HeadParts.{param_right}
use Rattle.c_check.proofs.heads.Head.params_fault.Goals as goal

pub loop-place-preserved : goal.loop-place-preserved
loop-place-preserved c =
    param_right (role_as c.args.self.now.role) (takes_before c.args.self.now.before) c.args.params.now c.loop-place.place c.loop-place.variables c.loop-place.invariant
    c.index-params-place.result (rest_at c.args.params.now c.loop-place.place c.index-params-place.result c.loop-place-test.true c.index-params-place.is)
    c.param_fault-fault.result c.param_fault-fault.ensures (sym c.is_some.ensures ∙ c.if-is_some.false)
    c.in_ok-add.field-0 c.in_ok-add.ensures.added c.if-not-branch.false c.add.new.self (c.in_ok-add.ensures.ok ∙ ap (λ b. if b then c.loop-place.variables ++ c.index-params-place.result ∷ [] else c.loop-place.variables) c.if-not-branch.false)

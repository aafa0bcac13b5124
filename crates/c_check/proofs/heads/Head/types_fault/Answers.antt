use Rattle.std.proofs.Common.{◌∙◌, sym, get_or}
use Rattle.c_tree.specs.declared.tree.CTy.TheVariants.{Obj}
use Rattle.c_check.specs.Roles.{role_as}
use Rattle.c_check.specs.Heads.{takes_before}
use Rattle.c_check.proofs.Rest.{rest_got}
use Rattle.c_check.proofs.HeadParts.{type_right}
use Rattle.c_check.proofs.heads.Head.types_fault.Goals as goal

pub loop-place-preserved : goal.loop-place-preserved
loop-place-preserved c =
    type_right (role_as c.args.self.now.role) (takes_before c.args.self.now.before) c.args.types.now c.loop-place.place c.loop-place.invariant
    (get_or c.args.types.now c.loop-place.place Obj) (rest_got c.args.types.now c.loop-place.place Obj c.loop-place-test.true)
    c.param_fault-fault.result c.param_fault-fault.ensures (sym c.is_some.ensures ∙ c.if-is_some.false)

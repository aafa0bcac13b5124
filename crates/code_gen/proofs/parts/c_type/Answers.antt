use Rattle.std.proofs.Common.{ap, sym}
use Rattle.plan_rules.specs.Representation.{c_type_of}
use Rattle.code_gen.proofs.parts.c_type.Goals as goal

pub returns-in-Obj : goal.returns-in-Obj
returns-in-Obj c = ap c_type_of (sym c.in-Obj.is)

pub returns-in-Long : goal.returns-in-Long
returns-in-Long c = ap c_type_of (sym c.in-Long.is)

pub returns-in-Bool : goal.returns-in-Bool
returns-in-Bool c = ap c_type_of (sym c.in-Bool.is)

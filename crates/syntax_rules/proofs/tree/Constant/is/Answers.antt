use Rattle.std.proofs.Common.{rules, refl}
use Rattle.syntax_rules.proofs.Atoms.{form-Int, form-Chr, form-Bool, form-Unspec, form-Str, other_Int, other_Chr, other_Bool, other_Unspec, other_Str}
use Rattle.syntax_rules.proofs.tree.Constant.is.Goals as goal

pub returns-in-Int-d : goal.returns-in-Int-d
returns-in-Int-d c = rw (c.in-Int.is, c.in-Int-d.is, form-Int) (search rules)

pub returns-in_default : goal.returns-in_default
returns-in_default c = rw c.in-Int.is (other_Int c.args.d.now c.in-Int.n c.in_default.not-Int)

pub returns-in-Chr-d : goal.returns-in-Chr-d
returns-in-Chr-d c = rw (c.in-Chr.is, c.in-Chr-d.is, form-Chr) refl

pub returns-in_default-d : goal.returns-in_default-d
returns-in_default-d c = rw c.in-Chr.is (other_Chr c.args.d.now c.in-Chr.b c.in_default-d.not-Chr)

pub returns-in-Bool-d : goal.returns-in-Bool-d
returns-in-Bool-d c = rw (c.in-Bool.is, c.in-Bool-d.is, form-Bool) (search rules)

pub returns-in_default-d-2 : goal.returns-in_default-d-2
returns-in_default-d-2 c = rw c.in-Bool.is (other_Bool c.args.d.now c.in-Bool.t c.in_default-d-2.not-Bool)

pub returns-in-Unspec-d : goal.returns-in-Unspec-d
returns-in-Unspec-d c = rw (c.in-Unspec.is, c.in-Unspec-d.is, form-Unspec) refl

pub returns-in_default-d-3 : goal.returns-in_default-d-3
returns-in_default-d-3 c = rw c.in-Unspec.is (other_Unspec c.args.d.now c.in_default-d-3.not-Unspec)

pub returns-in-Str-d : goal.returns-in-Str-d
returns-in-Str-d c = rw (c.in-Str.is, c.in-Str-d.is, form-Str) (cc)

pub returns-in_default-d-4 : goal.returns-in_default-d-4
returns-in_default-d-4 c = rw c.in-Str.is (other_Str c.args.d.now c.in-Str.text c.in_default-d-4.not-Str)

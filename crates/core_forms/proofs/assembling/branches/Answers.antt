use Rattle.std.proofs.Common.{refl}
use Rattle.std.proofs.lemmas.Result.{err_from_is_err_and}
use Rattle.core_forms.proofs.Trees.{one_armed_parts, two_armed_parts}
use Rattle.core_forms.proofs.assembling.branches.Goals as goal

pub returns-then-is_empty : goal.returns-then-is_empty
returns-then-is_empty c = one_armed_parts c.args.at c.args.cs c.last.new.cs c.last-2.new.cs c.in_ok-b.b c.in_ok-c.c c.in_ok-c.ensures c.in_ok-b.ensures (c.if-is_empty.ensures.0 refl)

pub returns : goal.returns
returns c = two_armed_parts c.args.at c.args.cs c.last.new.cs c.last-2.new.cs c.in_ok-a.a c.in_ok-b.b c.in_ok-c.c c.in_ok-c.ensures c.in_ok-b.ensures c.in_ok-a.ensures

pub returns-in_err-c : goal.returns-in_err-c
returns-in_err-c c = let p = err_from_is_err_and c.from_residual.result c.from_residual.ensures.1 in rw (p.1, p.2) c.in_err-c.ensures

pub returns-in_err-b : goal.returns-in_err-b
returns-in_err-b c = let p = err_from_is_err_and c.from_residual-in_err-b.result c.from_residual-in_err-b.ensures.1 in rw (p.1, p.2) c.in_err-b.ensures

pub returns-in_err-a : goal.returns-in_err-a
returns-in_err-a c = let p = err_from_is_err_and c.from_residual-in_err-a.result c.from_residual-in_err-a.ensures.1 in rw (p.1, p.2) c.in_err-a.ensures

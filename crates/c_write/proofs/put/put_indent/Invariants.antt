use Rattle.c_write.specs.Adds.{Adds, anything}
use Rattle.c_write.proofs.put.put_indent.Given as goal

abbrev pub invariant-loop : goal.invariant-loop
invariant-loop l = Adds anything anything l.fn.out l.out (λ ts. ts)

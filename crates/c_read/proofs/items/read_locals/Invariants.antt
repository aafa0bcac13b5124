use Rattle.std.proofs.Common.{◌≡◌, length}
use Rattle.c_tree.specs.Spelling.{local_tokens, NamedVars}
use Rattle.c_read.specs.Sequences.{all}
use Rattle.c_read.specs.Productions.{local, no_type}
use Rattle.c_read.proofs.Many.{Going}
use Rattle.c_read.proofs.items.read_locals.Given as goal

abbrev pub invariant-loop-alloc : goal.invariant-loop-alloc
invariant-loop-alloc l = record {
  going : Going local no_type (all local no_type l.fn.tokens) l.locals l.tokens;
  spelled : l.fn.tokens ≡ local_tokens l.locals l.tokens;
  named : NamedVars l.locals;
}

abbrev pub decreases-loop-alloc : goal.decreases-loop-alloc
decreases-loop-alloc l = length l.tokens

use Rattle.std.proofs.Common.{◌≡◌, ◌<◌, [], ◌∷◌, length}
use Rattle.c_tree.specs.Spelling.{argument_tokens_of, argument_tokens, NamedArgument, NamedArguments}
use Rattle.c_read.specs.Sequences.{onto, all, after_mark}
use Rattle.c_read.specs.Productions.{next_argument}
use Rattle.c_read.proofs.Many.{Going}
use Rattle.c_read.proofs.calls.read_more_arguments.Given as goal

abbrev pub invariant-loop-alloc : goal.invariant-loop-alloc
invariant-loop-alloc l = record {
  going : Going next_argument (after_mark 41) (onto (l.fn.first ∷ []) (all next_argument (after_mark 41) l.fn.tokens)) l.args l.tokens;
  spelled : argument_tokens_of l.fn.first l.fn.tokens ≡ argument_tokens l.args l.tokens;
  named : NamedArgument l.fn.first → NamedArguments l.args;
  some : 0 < length l.args;
}

abbrev pub decreases-loop-alloc : goal.decreases-loop-alloc
decreases-loop-alloc l = length l.tokens

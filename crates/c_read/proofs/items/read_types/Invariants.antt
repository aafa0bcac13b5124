use Rattle.std.proofs.Common.{◌≡◌, ◌<◌, [], ◌∷◌, length}
use Rattle.c_tree.specs.Lexical.{Word}
use Rattle.c_tree.specs.Spelling.{type_text, type_tokens}
use Rattle.c_read.specs.Sequences.{onto, all, after_mark}
use Rattle.c_read.specs.Productions.{next_type}
use Rattle.c_read.proofs.Many.{Going}
use Rattle.c_read.proofs.items.read_types.Given as goal

abbrev pub invariant-loop-tokens : goal.invariant-loop-tokens
invariant-loop-tokens l = record {
  going : Going next_type (after_mark 41) (onto (l.fn.first ∷ []) (all next_type (after_mark 41) l.fn.tokens)) l.types l.tokens;
  spelled : Word (type_text l.fn.first) ∷ l.fn.tokens ≡ type_tokens l.types l.tokens;
  some : 0 < length l.types;
}

abbrev pub decreases-loop-tokens : goal.decreases-loop-tokens
decreases-loop-tokens l = length l.tokens

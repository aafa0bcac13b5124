use Rattle.std.proofs.Common.{◌≡◌, ◌<◌, [], ◌∷◌, length}
use Rattle.std.specs.Prelude.{IsTrue}
use Rattle.c_tree.specs.Lexical.{Word}
use Rattle.c_tree.specs.Names.{is_local_name}
use Rattle.c_tree.specs.Spelling.{type_text, param_tokens, NamedVars}
use Rattle.c_read.specs.Sequences.{onto, all, after_mark}
use Rattle.c_read.specs.Productions.{next_variable}
use Rattle.c_read.proofs.Many.{Going}
use Rattle.c_read.proofs.items.read_params.Given as goal

abbrev pub invariant-loop-alloc : goal.invariant-loop-alloc
invariant-loop-alloc l = record {
  going : Going next_variable (after_mark 41) (onto (l.fn.first ∷ []) (all next_variable (after_mark 41) l.fn.tokens)) l.params l.tokens;
  spelled : Word (type_text l.fn.first.ty) ∷ Word l.fn.first.name ∷ l.fn.tokens ≡ param_tokens l.params l.tokens;
  named : IsTrue (is_local_name l.fn.first.name) → NamedVars l.params;
  some : 0 < length l.params;
}

abbrev pub decreases-loop-alloc : goal.decreases-loop-alloc
decreases-loop-alloc l = length l.tokens

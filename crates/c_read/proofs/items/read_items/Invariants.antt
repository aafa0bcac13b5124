use Rattle.std.proofs.Common.{◌≡◌, length}
use Rattle.c_tree.specs.Functions.{items_of}
use Rattle.c_tree.specs.Spelling.{items_tokens, NamedItems}
use Rattle.c_read.specs.Sequences.{all}
use Rattle.c_read.specs.Productions.{item, at_end}
use Rattle.c_read.proofs.Many.{Going}
use Rattle.c_read.proofs.items.read_items.Given as goal

abbrev pub invariant-loop-alloc : goal.invariant-loop-alloc
invariant-loop-alloc l = record {
  going : Going item at_end (all item at_end l.fn.tokens) (items_of l.items) l.tokens;
  spelled : l.fn.tokens ≡ items_tokens (items_of l.items) l.tokens;
  named : NamedItems (items_of l.items);
}

abbrev pub decreases-loop-alloc : goal.decreases-loop-alloc
decreases-loop-alloc l = length l.tokens

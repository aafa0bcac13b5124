use Rattle.std.proofs.Common.{◌≡◌, take, ◌++◌}
use Rattle.c_tree.specs.Names.{mangled}
use Rattle.c_tree.proofs.name_texts.push_mangled.Given as goal

abbrev pub invariant-loop-byte : goal.invariant-loop-byte
invariant-loop-byte l = l.text ≡ l.fn.text ++ mangled (take l.byte-index l.name)

use Rattle.std.proofs.Common.{◌≡◌, List, ℕ, ◌++◌, refl, subst, sym}
use Rattle.std.specs.Prelude.{IsTrue, codes}
use Rattle.c_tree.specs.Names.{mangled, maker_name, is_function_name}
use Rattle.c_tree.proofs.NameShapes.{maker_name-is_function_name}
use Rattle.c_tree.proofs.name_texts.maker_name_text.Goals as goal

written : (front text m : List ℕ) → front ≡ codes "c_" → text ≡ front ++ mangled m → text ≡ maker_name m
unfolding maker_name
written front text m e f = rw (f, e) refl

pub returns-clause-named : goal.returns-clause-named
returns-clause-named c is_symbol =
    let m = c.args.module_name.now in
    let is : c.push_mangled.new.text ≡ maker_name m = written c.in_ok-text.text c.push_mangled.new.text m c.in_ok-text.ensures c.in_ok-push_mangled.ensures in
    subst (λ t. IsTrue (is_function_name t)) (sym is) (maker_name-is_function_name m is_symbol)

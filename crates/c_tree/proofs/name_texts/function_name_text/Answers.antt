use Rattle.std.proofs.Common.{◌≡◌, List, ℕ, ◌++◌, refl, subst, sym}
use Rattle.std.specs.Prelude.{IsTrue, codes}
use Rattle.c_tree.specs.Names.{mangled, function_name, is_function_name}
use Rattle.c_tree.proofs.NameShapes.{function_name-is_function_name}
use Rattle.c_tree.proofs.name_texts.function_name_text.Goals as goal

written : (front middle joined text m n : List ℕ) → front ≡ codes "f_" → middle ≡ front ++ mangled m → joined ≡ middle ++ codes "__" → text ≡ joined ++ mangled n → text ≡ function_name m n
unfolding function_name
written front middle joined text m n e f g h = rw (h, g, f, e) refl

pub returns-clause-named : goal.returns-clause-named
returns-clause-named c of_module of_name =
    let m = c.args.module_name.now in
    let n = c.args.name.now in
    let is : c.push_mangled-2.new.text ≡ function_name m n = written c.in_ok-text.text c.push_mangled.new.text c.extend.new.self c.push_mangled-2.new.text m n c.in_ok-text.ensures c.in_ok-push_mangled.ensures c.in_ok-extend.ensures.ok c.in_ok-push_mangled-2.ensures in
    subst (λ t. IsTrue (is_function_name t)) (sym is) (function_name-is_function_name m n of_module of_name)

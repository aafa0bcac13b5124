-- Texts that were put together piece by piece.
use Rattle.std.proofs.Common.{◌≡◌, ℕ, List, [], ◌∷◌, ◌++◌, ap, sym, ◌∙◌, append_assoc}
use Rattle.std.specs.Prelude.{codes}
use Rattle.iface_text.specs.Format.{ended}
use Rattle.core_tree.specs.declared.tree.ImportItem.{ImportItem}
use Rattle.object_text.specs.Format.{ObjectTree, header_lines}
use Rattle.object_text.specs.Header.{name_text, import_text, use_text, export_text, main_text}
use Rattle.object_text.specs.Parts.{texts}
use Rattle.object_text.proofs.HeaderLines.{names_text}
use Rattle.object_text.proofs.HeaderParts.{front, header_text}

one_more : (x t u y : List ℕ) → t ≡ u → x ≡ t ++ y → x ≡ u ++ y
one_more x t u y e f = f ∙ ap (λ (z : List ℕ). z ++ y) e

import_grouped : (t a m n : List ℕ) → (((t ++ a) ++ m) ++ n) ++ 10 ∷ [] ≡ t ++ ((a ++ (m ++ n)) ++ 10 ∷ [])
import_grouped t a m n = simp append_assoc

pub import_written : (i : ImportItem) (t0 t1 t2 t3 t4 : List ℕ) → t1 ≡ t0 ++ codes "import " → t2 ≡ t1 ++ i.module_name → t3 ≡ t2 ++ texts name_text i.names → t4 ≡ t3 ++ 10 ∷ [] → t4 ≡ t0 ++ import_text i
import_written i t0 t1 t2 t3 t4 e1 e2 e3 e4 =
    one_more t4 t3 _ (10 ∷ []) (one_more t3 t2 _ (texts name_text i.names) (one_more t2 t1 _ i.module_name e1 e2) e3) e4
    ∙ import_grouped t0 (codes "import ") i.module_name (texts name_text i.names)
    ∙ ap (λ (ns : List ℕ). t0 ++ ((codes "import " ++ (i.module_name ++ ns)) ++ 10 ∷ [])) (sym (names_text i.names))

header_grouped : (t a m i u e f k : List ℕ) → (((((((t ++ a) ++ m) ++ 10 ∷ []) ++ i) ++ u) ++ e) ++ f) ++ k ≡ t ++ (a ++ (m ++ 10 ∷ (i ++ (u ++ (e ++ (f ++ k))))))
header_grouped t a m i u e f k = simp append_assoc

pub header_written : (o : ObjectTree) (t0 t1 t2 t3 t4 t5 t6 t7 t8 : List ℕ) → t1 ≡ t0 ++ front → t2 ≡ t1 ++ o.module_name → t3 ≡ t2 ++ 10 ∷ []
    → t4 ≡ t3 ++ texts import_text o.imports → t5 ≡ t4 ++ texts use_text o.uses → t6 ≡ t5 ++ texts export_text o.exports → t7 ≡ t6 ++ main_text o.main → t8 ≡ t7 ++ codes "code\n"
    → t8 ≡ t0 ++ ended (header_lines o)
header_written o t0 t1 t2 t3 t4 t5 t6 t7 t8 e1 e2 e3 e4 e5 e6 e7 e8 =
    one_more t8 t7 _ (codes "code\n") (one_more t7 t6 _ (main_text o.main) (one_more t6 t5 _ (texts export_text o.exports) (one_more t5 t4 _ (texts use_text o.uses)
    (one_more t4 t3 _ (texts import_text o.imports) (one_more t3 t2 _ (10 ∷ []) (one_more t2 t1 _ o.module_name e1 e2) e3) e4) e5) e6) e7) e8
    ∙ header_grouped t0 front o.module_name (texts import_text o.imports) (texts use_text o.uses) (texts export_text o.exports) (main_text o.main) (codes "code\n")
    ∙ ap (λ (x : List ℕ). t0 ++ x) (sym (header_text o))

-- Texts of interfaces: which they are is one, text by text.
use Rattle.std.proofs.Common.{◌≡◌, ℕ, ◌<◌, ◌+◌, zero, suc, List, [], ◌∷◌, ◌++◌, length, get_or, take, map, Err, refl, ap, ap₂, sym, ◌∙◌, subst, take-suc, add-one, arith}
use Rattle.iface_text.specs.declared.interface.Iface.{Iface}
use Rattle.iface_text.specs.Format.{IfaceTree, iface_tree}
use Rattle.iface_text.specs.Answers.{IsText}
use Rattle.resolver.specs.Elaboration.{AreSpelled}
use Rattle.unit_compile.specs.Compilation.{AreTexts}
use Rattle.unit_compile.specs.Parts.{IsOnlyText, AreOnlyTexts, ReadsOne, ReadsEach}
use Rattle.unit_compile.specs.declared.error.UnitErr.{UnitErr}
use Rattle.unit_compile.specs.declared.error.UnitErr.TheVariants.{Syntax, Limit, Header, Duplicate, BadRules, NoRule, Form, NotBuilt, Memory}

pub texts_of : (texts : List (List ℕ)) (is : List IfaceTree) → AreOnlyTexts texts is → AreTexts texts is
texts_of [] [] are = tt
texts_of (t ∷ ts) (i ∷ is) are = (are.0.is_text, texts_of ts is are.1)
texts_of [] (i ∷ is) are = absurd are
texts_of (t ∷ ts) [] are = absurd are

pub spelled_of : (texts : List (List ℕ)) (is : List IfaceTree) → AreOnlyTexts texts is → AreSpelled is
spelled_of [] [] are = tt
spelled_of (t ∷ ts) (i ∷ is) are = (are.0.is_text.has_spelling, spelled_of ts is are.1)
spelled_of [] (i ∷ is) are = absurd are
spelled_of (t ∷ ts) [] are = absurd are

pub same_texts : (texts : List (List ℕ)) (is js : List IfaceTree) → AreOnlyTexts texts is → AreTexts texts js → js ≡ is
same_texts [] [] [] are texts = refl
same_texts [] [] (j ∷ js) are texts = absurd texts
same_texts [] (i ∷ is) js are texts = absurd are
same_texts (t ∷ ts) [] js are texts = absurd are
same_texts (t ∷ ts) (i ∷ is) [] are texts = absurd texts
same_texts (t ∷ ts) (i ∷ is) (j ∷ js) are texts = ap₂ (λ (x : IfaceTree) (xs : List IfaceTree). x ∷ xs) (are.0.only j texts.0) (same_texts ts is js are.1 texts.1)

-- one more text and its interface
pushed : (texts : List (List ℕ)) (is : List IfaceTree) (t : List ℕ) (i : IfaceTree) → AreOnlyTexts texts is → IsOnlyText t i → AreOnlyTexts (texts ++ t ∷ []) (is ++ i ∷ [])
pushed [] [] t i are one = (one, tt)
pushed (x ∷ xs) (j ∷ js) t i are one = (are.0, pushed xs js t i are.1 one)
pushed [] (j ∷ js) t i are one = absurd are
pushed (x ∷ xs) [] t i are one = absurd are

map_push : (is : List Iface) (i : Iface) → map iface_tree (is ++ i ∷ []) ≡ map iface_tree is ++ iface_tree i ∷ []
map_push [] i = refl
map_push (j ∷ js) i = ap (λ (is : List IfaceTree). iface_tree j ∷ is) (map_push js i)

pub one_more : (texts : List (List ℕ)) (k n : ℕ) (t read : List ℕ) (old new : List Iface) (i : Iface) → k < length texts → n ≡ k + 1 → t ≡ get_or texts k t → read ≡ t → new ≡ old ++ i ∷ []
    → AreOnlyTexts (take k texts) (map iface_tree old) → IsOnlyText read (iface_tree i) → AreOnlyTexts (take n texts) (map iface_tree new)
one_more texts k n t read old new i below next at same is are one =
    let all : take n texts ≡ take k texts ++ read ∷ [] = next_take ∙ ap (λ (x : List ℕ). take k texts ++ x ∷ []) (sym (same ∙ at)) in
    let trees : map iface_tree new ≡ map iface_tree old ++ iface_tree i ∷ [] = ap (map iface_tree) is ∙ map_push old i in
    rw (all, trees) (pushed (take k texts) (map iface_tree old) read (iface_tree i) are one)
  where
    next_take : take n texts ≡ take k texts ++ get_or texts k t ∷ []
    next_take = ap (λ (m : ℕ). take m texts) (next ∙ add-one k) ∙ take-suc texts k t below

-- where one is no interface's text, they are no interfaces'
one_refused : (texts : List (List ℕ)) (k : ℕ) (t read : List ℕ) → k < length texts → t ≡ get_or texts k t → read ≡ t → ((i : IfaceTree) → IsText read i → ⊥) → (is : List IfaceTree) → AreTexts texts is → ⊥
one_refused texts k t read below at same refused is are = go texts k below is are (λ i h. refused i (subst (λ (x : List ℕ). IsText x i) (sym (same ∙ at)) h))
  where
    go : (ts : List (List ℕ)) (n : ℕ) → n < length ts → (js : List IfaceTree) → AreTexts ts js → ((i : IfaceTree) → IsText (get_or ts n t) i → ⊥) → ⊥
    go [] n low js each none = absurd (omega arith)
    go (x ∷ xs) n low [] each none = each
    go (x ∷ xs) zero low (j ∷ js) each none = none j each.0
    go (x ∷ xs) (suc n) low (j ∷ js) each none = go xs n (omega arith) js each.1 none

pub first_refused : (texts : List (List ℕ)) (k : ℕ) (t read : List ℕ) (e : UnitErr) → k < length texts → t ≡ get_or texts k t → read ≡ t → ReadsOne read (Err e) → ReadsEach texts (Err e)
first_refused texts k t read (Syntax at) below is same refused = refused
first_refused texts k t read (Limit kind) below is same refused = refused
first_refused texts k t read (Header at) below is same refused = refused
first_refused texts k t read (Duplicate name) below is same refused = refused
first_refused texts k t read (BadRules at) below is same refused = refused
first_refused texts k t read (NoRule at) below is same refused = refused
first_refused texts k t read (Form at) below is same refused = refused
first_refused texts k t read NotBuilt below is same refused = one_refused texts k t read below is same refused
first_refused texts k t read Memory below is same refused = tt

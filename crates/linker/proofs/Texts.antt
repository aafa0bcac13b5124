-- Texts of objects: which objects they are is one, text by text.
use Rattle.std.proofs.Common.{◌≡◌, ℕ, ◌<◌, ◌+◌, zero, suc, List, [], ◌∷◌, ◌++◌, length, get_or, take, Ok, Err, inr, Result, refl, ap, ap₂, sym, ◌∙◌, subst, take-suc, add-one, arith}
use Rattle.std.proofs.lemmas.List.{map-append}
use Rattle.object_text.specs.Format.{ObjectTree, ObjectText, CanBeWritten}
use Rattle.object_text.specs.Parts.{AllAre}
use Rattle.linker.specs.declared.indexed.Indexed.{Indexed}
use Rattle.linker.specs.declared.linking.LinkErr.{LinkErr}
use Rattle.linker.specs.declared.linking.LinkErr.TheVariants.{MissingModule, MissingName, NotBuilt, Memory}
use Rattle.linker.specs.Links.{AreObjectTexts, AreObjects, AreNoObjects, Linked, LinksTo}
use Rattle.linker.specs.Modules.{tree_of, trees, IsOnlyObject, AreOnlyObjects, LinkedTrees, LinksTrees}

texts_of : (texts : List (List ℕ)) (os : List ObjectTree) → AreOnlyObjects texts os → AreObjectTexts texts os
texts_of [] [] are = tt
texts_of (t ∷ ts) (o ∷ os) are = (are.0.is_text, texts_of ts os are.1)
texts_of [] (o ∷ os) are = absurd are
texts_of (t ∷ ts) [] are = absurd are

same_objects : (texts : List (List ℕ)) (os others : List ObjectTree) → AreOnlyObjects texts os → AreObjectTexts texts others → others ≡ os
same_objects [] [] [] are texts = refl
same_objects [] [] (p ∷ ps) are texts = absurd texts
same_objects [] (o ∷ os) others are texts = absurd are
same_objects (t ∷ ts) [] others are texts = absurd are
same_objects (t ∷ ts) (o ∷ os) [] are texts = absurd texts
same_objects (t ∷ ts) (o ∷ os) (p ∷ ps) are texts = ap₂ (λ (x : ObjectTree) (xs : List ObjectTree). x ∷ xs) (are.0.only p texts.0) (same_objects ts os ps are.1 texts.1)

are_objects : (texts : List (List ℕ)) (os : List ObjectTree) → AreOnlyObjects texts os → AreObjects texts os
are_objects texts os are = record { texts_are = texts_of texts os are; only = λ others h. same_objects texts os others are h }

pub writable : (texts : List (List ℕ)) (os : List ObjectTree) → AreOnlyObjects texts os → AllAre CanBeWritten os
writable [] [] are = tt
writable (t ∷ ts) (o ∷ os) are = (record { named = are.0.is_text.text.named; header = are.0.is_text.header }, writable ts os are.1)
writable [] (o ∷ os) are = absurd are
writable (t ∷ ts) [] are = absurd are

pushed : (texts : List (List ℕ)) (os : List ObjectTree) (t : List ℕ) (o : ObjectTree) → AreOnlyObjects texts os → IsOnlyObject t o → AreOnlyObjects (texts ++ t ∷ []) (os ++ o ∷ [])
pushed [] [] t o are one = (one, tt)
pushed (x ∷ xs) (p ∷ ps) t o are one = (are.0, pushed xs ps t o are.1 one)
pushed [] (p ∷ ps) t o are one = absurd are
pushed (x ∷ xs) [] t o are one = absurd are

pub one_more : (texts : List (List ℕ)) (k n : ℕ) (t read : List ℕ) (old new : List Indexed) (o : Indexed) → k < length texts → n ≡ k + 1 → t ≡ get_or texts k t → read ≡ t → new ≡ old ++ o ∷ []
    → AreOnlyObjects (take k texts) (trees old) → IsOnlyObject read (tree_of o) → AreOnlyObjects (take n texts) (trees new)
one_more texts k n t read old new o below next at same is are one =
    let all : take n texts ≡ take k texts ++ read ∷ [] = next_take ∙ ap (λ (x : List ℕ). take k texts ++ x ∷ []) (sym (same ∙ at)) in
    let objects : trees new ≡ trees old ++ tree_of o ∷ [] = ap trees is ∙ map-append tree_of old (o ∷ []) in
    rw (all, objects) (pushed (take k texts) (trees old) read (tree_of o) are one)
  where
    next_take : take n texts ≡ take k texts ++ get_or texts k t ∷ []
    next_take = ap (λ (m : ℕ). take m texts) (next ∙ add-one k) ∙ take-suc texts k t below

-- where one is no object's text, they are no objects'
pub one_refused : (texts : List (List ℕ)) (k : ℕ) (t read : List ℕ) → k < length texts → t ≡ get_or texts k t → read ≡ t → ((o : ObjectTree) → ObjectText read o → ⊥) → AreNoObjects texts
one_refused texts k t read below at same refused os are = go texts k below os are (λ o h. refused o (subst (λ (x : List ℕ). ObjectText x o) (sym (same ∙ at)) h))
  where
    go : (ts : List (List ℕ)) (n : ℕ) → n < length ts → (ps : List ObjectTree) → AreObjectTexts ts ps → ((o : ObjectTree) → ObjectText (get_or ts n t) o → ⊥) → ⊥
    go [] n low ps each none = absurd (omega arith)
    go (x ∷ xs) n low [] each none = each
    go (x ∷ xs) zero low (p ∷ ps) each none = none p each.0
    go (x ∷ xs) (suc n) low (p ∷ ps) each none = go xs n (omega arith) ps each.1 none

-- Links -------------------------------------------------------------------------------------

linked : (texts : List (List ℕ)) (os : List ObjectTree) (text : List ℕ) → AreObjects texts os → LinkedTrees os text → Linked texts text
linked texts os text are l = record {
  objects = os;
  are_objects = are;
  accepted = l.accepted;
  root = l.program.root;
  is_root = l.program.is_root;
  order = l.program.order;
  is_order = l.program.is_order;
  main = l.program.main;
  is_main = l.program.is_main;
  is_text = l.program.is_text;
}

pub links : (texts : List (List ℕ)) (os : List ObjectTree) (result : Result (List ℕ) LinkErr) → AreOnlyObjects texts os → LinksTrees os result → LinksTo texts result
links texts os (Ok text) are l = linked texts os text (are_objects texts os are) l
links texts os (Err (MissingModule n name)) are l = record { objects = os; are_objects = are_objects texts os are; refused = l }
links texts os (Err (MissingName n m name)) are l = record { objects = os; are_objects = are_objects texts os are; refused = l }
links texts os (Err NotBuilt) are l = inr (record { objects = os; are_objects = are_objects texts os are; refused = l })
links texts os (Err Memory) are l = tt

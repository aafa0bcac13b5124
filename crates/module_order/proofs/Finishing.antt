-- What finishing the tasks of a walk does, in the terms of visits.
use Rattle.std.proofs.Common.{◌≡◌, ℕ, List, [], ◌∷◌, ◌++◌, true, false, refl, sym, ap, ◌∙◌, subst, append_assoc}
use Rattle.std.proofs.lemmas.List.{append-nil}
use Rattle.meaning.specs.Order.{Imports, imported, is_marked, Visits, no_more, skipped, visited}
use Rattle.module_order.specs.declared.walk.Task.{Task}
use Rattle.module_order.specs.declared.walk.Task.TheVariants.{Visit, Add}
use Rattle.module_order.specs.Tasks.{visits}

-- with these marked, the tasks mark more, and add some
pub data Finishes (g : Imports) : List Task → List ℕ → List ℕ → List ℕ → Type 0 where
  over : (marked : List ℕ) → Finishes g [] marked marked []
  visit : (n : ℕ) (ts : List Task) (marked between later first second : List ℕ) → Visits g marked (n ∷ []) between first → Finishes g ts between later second
      → Finishes g (Visit n ∷ ts) marked later (first ++ second)
  add : (n : ℕ) (ts : List Task) (marked later added : List ℕ) → Finishes g ts marked later added → Finishes g (Add n ∷ ts) marked later (n ∷ added)

-- a visit of one, and then of more
one_more : (g : Imports) (n : ℕ) (ns marked middle first : List ℕ) → Visits g marked (n ∷ []) middle first → (later second : List ℕ) → Visits g middle ns later second
    → Visits g marked (n ∷ ns) later (first ++ second)
one_more g n ns marked middle first (skipped _ _ _ _ _ is (no_more _)) later second others = skipped marked n ns later second is others
one_more g n ns marked middle first (visited _ _ _ _ _ before _ is_not imports (no_more _)) later second others =
    subst (Visits g marked (n ∷ ns) later) (sym (append_assoc before (n ∷ []) second)) (visited marked n ns middle later before second is_not imports others)

-- visits in turn, and what the tasks behind them do
record Parts (g : Imports) (ns : List ℕ) (ts : List Task) (marked later added : List ℕ) : Type 0 where
  pub between : List ℕ
  pub first : List ℕ
  pub second : List ℕ
  pub visits : Visits g marked ns between first
  pub others : Finishes g ts between later second
  pub whole : added ≡ first ++ second

parts : (g : Imports) (ns : List ℕ) (ts : List Task) (marked later added : List ℕ) → Finishes g (visits ns ts) marked later added → Parts g ns ts marked later added
parts g [] ts marked later added f = record { between = marked; first = []; second = added; visits = no_more marked; others = f; whole = refl }
parts g (n ∷ ns) ts marked later added (visit _ _ _ middle _ first second here f) =
    let p = parts g ns ts middle later second f in
    record {
      between = p.between;
      first = first ++ p.first;
      second = p.second;
      visits = one_more g n ns marked middle first here p.between p.first p.visits;
      others = p.others;
      whole = ap (λ (l : List ℕ). first ++ l) p.whole ∙ sym (append_assoc first p.first p.second);
    }

-- a module that is marked already
pub passes : (g : Imports) (n : ℕ) (ts : List Task) (marked later added : List ℕ) → is_marked marked n ≡ true → Finishes g ts marked later added → Finishes g (Visit n ∷ ts) marked later added
passes g n ts marked later added is f = visit n ts marked marked later [] added (skipped marked n [] marked [] is (no_more marked)) f

-- a module whose imports were visited
ends : (g : Imports) (n : ℕ) (ts : List Task) (marked between later first second : List ℕ) → is_marked marked n ≡ false → Visits g (n ∷ marked) (imported g n) between first
    → Finishes g (Add n ∷ ts) between later second → Finishes g (Visit n ∷ ts) marked later (first ++ second)
ends g n ts marked between later first second is_not imports (add _ _ _ _ rest f) =
    subst (Finishes g (Visit n ∷ ts) marked later) (append_assoc first (n ∷ []) rest)
    (visit n ts marked between later (first ++ n ∷ []) rest (visited marked n [] between between first [] is_not imports (no_more between)) f)

-- a module that is marked first, and added behind its imports
pub begins : (g : Imports) (n : ℕ) (ts : List Task) (marked later added : List ℕ) → is_marked marked n ≡ false → Finishes g (visits (imported g n) (Add n ∷ ts)) (n ∷ marked) later added
    → Finishes g (Visit n ∷ ts) marked later added
begins g n ts marked later added is_not f =
    let p = parts g (imported g n) (Add n ∷ ts) (n ∷ marked) later added f in
    subst (Finishes g (Visit n ∷ ts) marked later) (sym p.whole) (ends g n ts marked p.between later p.first p.second is_not p.visits p.others)

-- one visit alone
pub alone : (g : Imports) (n : ℕ) (marked later added : List ℕ) → Finishes g (Visit n ∷ []) marked later added → Visits g marked (n ∷ []) later added
alone g n marked later added (visit _ _ _ _ _ first _ here (over _)) = subst (Visits g marked (n ∷ []) later) (sym (append-nil first)) here

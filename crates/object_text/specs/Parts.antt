-- Parts of a text that stand one after another: what each is spelled, which are right, and what may follow one.
use Rattle.std.specs.Prelude.{◌≡◌, ℕ, List, [], ◌∷◌, ◌++◌}
use Rattle.std.specs.List.{AllByRecursion}

-- the texts of parts, one after another
abbrev pub texts : {A : Type 0} → (A → List ℕ) → List A → List ℕ
texts text [] = []
texts text (a ∷ as') = text a ++ texts text as'

abbrev pub AllAre : {A : Type 0} → (A → Type 0) → List A → Type 0
AllAre Is parts = AllByRecursion Is parts

-- the bytes begin with this part
pub record IsFirst {A : Type 0} (text : A → List ℕ) (Is : A → Type 0) (Ends : List ℕ → Type 0) (bytes : List ℕ) (part : A) (rest : List ℕ) : Type 0 where
  pub are : bytes ≡ text part ++ rest
  pub is_part : Is part
  pub ends : Ends rest

-- the bytes begin with no part
abbrev pub NoFirst : {A : Type 0} → (A → List ℕ) → (A → Type 0) → (List ℕ → Type 0) → List ℕ → Type 0
NoFirst {A} text Is Ends bytes = (part : A) (rest : List ℕ) → IsFirst text Is Ends bytes part rest → ⊥

-- the bytes begin with these parts, and then with no more
pub record IsRun {A : Type 0} (text : A → List ℕ) (Is : A → Type 0) (Ends : List ℕ → Type 0) (bytes : List ℕ) (parts : List A) (rest : List ℕ) : Type 0 where
  pub are : bytes ≡ texts text parts ++ rest
  pub are_parts : AllAre Is parts
  pub ends : Ends rest
  pub none : NoFirst text Is Ends rest

-- anything may follow
abbrev pub Anything : List ℕ → Type 0
Anything bytes = Unit {0}

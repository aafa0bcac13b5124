-- The order in which modules are initialised: depth first from the module that has `main`. A visit marks the module, visits its imports in clause order but for those that are marked, and then adds the module.
-- Modules have numbers, their places in a list; those that are never visited take no part.
use Rattle.std.specs.Prelude.{◌≡◌, ℕ, List, [], ◌∷◌, ◌++◌, map, nat_eq, slice_get, position, unwrap_or, Bool, true, false, Option}
use Rattle.std.specs.List.{list_any, filter_map}
use Rattle.std.specs.Option.{is_some}
use Rattle.name_table.specs.Names.{place_of}
use Rattle.core_tree.specs.declared.tree.ImportItem.{ImportItem}

-- for each module the numbers of those that it imports, in clause order
abbrev pub Imports : Type 0
Imports = List (List ℕ)

-- the numbers of the imported modules, where these are the names of all
abbrev pub numbers_of : List (List ℕ) → List ImportItem → List ℕ
numbers_of names is = filter_map (λ i. place_of i.module_name names) is

abbrev pub imports_of : List (List ℕ) → List (List ImportItem) → Imports
imports_of names items = map (numbers_of names) items

abbrev pub imported : Imports → ℕ → List ℕ
imported g n = unwrap_or (slice_get g n) []

abbrev pub is_marked : List ℕ → ℕ → Bool
is_marked marked n = list_any (nat_eq n) marked

-- with these marked, visits of these modules in turn mark more, and add some
pub data Visits (g : Imports) : List ℕ → List ℕ → List ℕ → List ℕ → Type 0 where
  no_more : (marked : List ℕ) → Visits g marked [] marked []
  skipped : (marked : List ℕ) (n : ℕ) (ns later added : List ℕ) → is_marked marked n ≡ true → Visits g marked ns later added → Visits g marked (n ∷ ns) later added
  visited : (marked : List ℕ) (n : ℕ) (ns between later before after : List ℕ) → is_marked marked n ≡ false
      → Visits g (n ∷ marked) (imported g n) between before → Visits g between ns later after → Visits g marked (n ∷ ns) later (before ++ n ∷ after)

-- the order from a module
pub record IsOrder (g : Imports) (root : ℕ) (order : List ℕ) : Type 0 where
  pub marked : List ℕ
  pub visits : Visits g [] (root ∷ []) marked order

-- the number of the first module that has a main function
abbrev pub root_of : List (Option (List ℕ)) → Option ℕ
root_of mains = position is_some mains

-- the modules of these numbers
abbrev pub chosen : {A : Type 0} → List A → List ℕ → List A
chosen xs ns = filter_map (slice_get xs) ns

-- Sources in any order are one program.
use Rattle.std.proofs.Common.{◌≡◌, ℕ, List, [], ◌∷◌, map, set, get_or, Some, refl, sym, ap, ap₂, ◌∙◌, subst}
use Rattle.std.specs.List.{swap}
use Rattle.std.specs.List.Sorted.{IsPermutation, apply_swaps, SwapsInRange}
use Rattle.std.proofs.Math.ListN.{get_or-map}
use Rattle.std.proofs.lemmas.List.{length-map, map-set}
use Rattle.std.proofs.lemmas.List.Sorted.{IsPermutation-map}
use Rattle.core_tree.specs.Tree.{ModuleTree}
use Rattle.meaning.specs.Order.{IsOrder, root_of, chosen}
use Rattle.whole_program.specs.Sources.{imports_in, IsProgramOf}
use Rattle.whole_program.proofs.Programs.{AreLinkable}
use Rattle.whole_program.proofs.Reordered.{linkable_too}
use Rattle.whole_program.proofs.SamePlaces.{same_program}
use Rattle.whole_program.proofs.Readings.{IsReadAs, AreReadAs, modules_of, one_program}

-- Orders of parts ---------------------------------------------------------------------------

map_swap : {A B : Type 0} (f : A → B) (xs : List A) (i j : ℕ) → map f (swap xs i j) ≡ swap (map f xs) i j
map_swap f [] i j = refl
map_swap f (x ∷ xs) i j =
    map-set f (set (x ∷ xs) i (get_or (x ∷ xs) j x)) j (get_or (x ∷ xs) i x)
    ∙ ap₂ (λ ys y. set ys j y) (map-set f (x ∷ xs) i (get_or (x ∷ xs) j x) ∙ ap (set (map f (x ∷ xs)) i) (sym (get_or-map f (x ∷ xs) j x))) (sym (get_or-map f (x ∷ xs) i x))

map_swaps : {A B : Type 0} (f : A → B) (xs : List A) (moves : List (ℕ × ℕ)) → map f (apply_swaps xs moves) ≡ apply_swaps (map f xs) moves
map_swaps f xs [] = refl
map_swaps f xs (m ∷ ms) = map_swap f (apply_swaps xs ms) m.0 m.1 ∙ ap (λ ys. swap ys m.0 m.1) (map_swaps f xs ms)

-- items in the order in which a part of each is given
record InOrder {A B : Type 0} (f : A → B) (xs : List A) (parts : List B) : Type 0 where
  items : List A
  moved : IsPermutation xs items
  are : map f items ≡ parts

in_order : {A B : Type 0} (f : A → B) (xs : List A) (parts : List B) → IsPermutation (map f xs) parts → InOrder f xs parts
in_order f xs parts p = record {
  items = apply_swaps xs p.moves;
  moved = record { moves = p.moves; below = subst (λ n. SwapsInRange n p.moves) (length-map xs f) p.below; is = refl };
  are = map_swaps f xs p.moves ∙ sym p.is;
}

-- Sources -----------------------------------------------------------------------------------

-- a source with its module
record Reading : Type 0 where
  source : List ℕ
  module_tree : ModuleTree
  is : IsReadAs source module_tree

record AreRead (sources : List (List ℕ)) (ms : List ModuleTree) : Type 0 where
  readings : List Reading
  sources_are : map (λ r. r.source) readings ≡ sources
  modules_are : map (λ r. r.module_tree) readings ≡ ms

together : (sources : List (List ℕ)) (ms : List ModuleTree) → AreReadAs sources ms → AreRead sources ms
together [] [] h = record { readings = []; sources_are = refl; modules_are = refl }
together [] (m ∷ ms) h = absurd h
together (s ∷ ss) [] h = absurd h
together (s ∷ ss) (m ∷ ms) h =
    let rest = together ss ms h.1 in
    record { readings = record { source = s; module_tree = m; is = h.0 } ∷ rest.readings; sources_are = ap (λ xs. s ∷ xs) rest.sources_are; modules_are = ap (λ xs. m ∷ xs) rest.modules_are }

each_read : (rs : List Reading) → AreReadAs (map (λ r. r.source) rs) (map (λ r. r.module_tree) rs)
each_read [] = tt
each_read (r ∷ rs) = (r.is, each_read rs)

-- the modules of the sources in another order
record ReadInOrder (ms : List ModuleTree) (others : List (List ℕ)) : Type 0 where
  modules : List ModuleTree
  read : AreReadAs others modules
  moved : IsPermutation ms modules

read_in_order : (sources : List (List ℕ)) (ms : List ModuleTree) → AreReadAs sources ms → (others : List (List ℕ)) → IsPermutation sources others → ReadInOrder ms others
read_in_order sources ms h others p =
    let all = together sources ms h in
    let now = in_order (λ (r : Reading). r.source) all.readings others (subst (λ ss. IsPermutation ss others) (sym all.sources_are) p) in
    record {
      modules = map (λ r. r.module_tree) now.items;
      read = subst (λ ss. AreReadAs ss (map (λ r. r.module_tree) now.items)) now.are (each_read now.items);
      moved = subst (λ ns. IsPermutation ns (map (λ r. r.module_tree) now.items)) all.modules_are (IsPermutation-map (λ (r : Reading). r.module_tree) all.readings now.items now.moved);
    }

-- Programs ----------------------------------------------------------------------------------

-- the sources have this program, and no other
pub record HaveProgram (sources : List (List ℕ)) (program : List ModuleTree) : Type 0 where
  pub is_program : IsProgramOf sources program
  pub only : (others : List ModuleTree) → IsProgramOf sources others → others ≡ program

pub program_in_any_order : (sources : List (List ℕ)) (ms : List ModuleTree) → AreReadAs sources ms → AreLinkable ms → (root : ℕ) → root_of (map (λ m. m.main) ms) ≡ Some root → (order : List ℕ) → IsOrder (imports_in ms) root order
    → (others : List (List ℕ)) → IsPermutation sources others → HaveProgram others (chosen ms order)
program_in_any_order sources ms h link root is_root order is_order others p =
    let now = read_in_order sources ms h others p in
    let link_too = linkable_too ms now.modules now.moved link in
    let same = same_program ms now.modules now.moved link root is_root order is_order in
    record {
      is_program = record { modules = now.modules; are_modules = modules_of others now.modules now.read link_too; root = same.root; is_root = same.is_root; order = same.order; is_order = same.is_order; is = same.is };
      only = λ ps is. one_program others now.modules now.read link_too same.root same.is_root same.order same.is_order ps is ∙ sym same.is;
    }

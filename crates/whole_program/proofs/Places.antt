-- Where the modules stand that a module imports.
use Rattle.std.proofs.Common.{◌≡◌, ℕ, ◌+◌, ◌<◌, Bool, true, false, not, ◌||◌, cond, List, [], ◌∷◌, map, length, get_or, Option, Some, None, position, slice_get, nat_eq, inl, inr, refl, sym, ap, ◌∙◌, arith}
use Rattle.std.specs.List.{list_any, position_or_len}
use Rattle.std.specs.Option.{option_map}
use Rattle.std.specs.Cmp.Lexicographic.{pointwise}
use Rattle.std.proofs.lemmas.Bool.{or_left, or_right, lt-ltb, eq-eqb}
use Rattle.std.proofs.lemmas.Option.{slice_get-map, slice_get-get_or}
use Rattle.std.proofs.lemmas.List.Quantifiers.{position-Some}
use Rattle.name_table.specs.Names.{has_name, place_of}
use Rattle.core_tree.specs.declared.tree.ImportItem.{ImportItem}
use Rattle.core_tree.specs.Tree.{ModuleTree}
use Rattle.std.specs.List.{cons_option}
use Rattle.std.specs.Option.{unwrap_or}
use Rattle.meaning.specs.Order.{is_marked, numbers_of, imports_of, imported}
use Rattle.whole_program.proofs.Members.{Among, same_name}

-- Names -------------------------------------------------------------------------------------

within : {A : Type 0} (p : A → Bool) (xs : List A) → list_any p xs ≡ true → position_or_len p xs < length xs
within p [] h = absurd (cc)
within p (x ∷ xs) h = go (p x) h (λ e. within p xs e)
  where
    go : (b : Bool) → (b || list_any p xs) ≡ true → (list_any p xs ≡ true → position_or_len p xs < length xs) → cond (not b) (1 + position_or_len p xs) 0 < length (x ∷ xs)
    go true any later = omega arith
    go false any later = let rest = later any in omega (arith, rest)

-- where one passes, the first that does has a place
pub is_found : {A : Type 0} (p : A → Bool) (xs : List A) → list_any p xs ≡ true → position p xs ≡ Some (position_or_len p xs)
is_found p xs h = ap (λ b. cond b (Some (position_or_len p xs)) None) (lt-ltb (position_or_len p xs) (length xs) (within p xs h))

-- the name stands there, and has this place
pub record Placed (names : List (List ℕ)) (x : List ℕ) : Type 0 where
  pub place : ℕ
  pub is : place_of x names ≡ Some place
  pub stands : slice_get names place ≡ Some x

pub placed : (names : List (List ℕ)) (x : List ℕ) → has_name names x ≡ true → Placed names x
placed names x h = record { place = place; is = is; stands = slice_get-get_or names place [] parts.0 ∙ ap Some (sym (same_name x (get_or names place []) parts.1)) }
  where
    place : ℕ
    place = position_or_len (pointwise nat_eq x) names

    is : place_of x names ≡ Some place
    is = is_found (pointwise nat_eq x) names h

    parts : (place < length names) × (pointwise nat_eq x (get_or names place []) ≡ true)
    parts = let all = position-Some (pointwise nat_eq x) names place [] is in (all.0, all.1)

-- Numbers -----------------------------------------------------------------------------------

marked_first : (q : Option ℕ) (ns : List ℕ) (j : ℕ) → q ≡ Some j → is_marked (cons_option q ns) j ≡ true
marked_first None ns j e = absurd (cc)
marked_first (Some n) ns j e = let same : j ≡ n = cc in or_left (nat_eq j n) (is_marked ns j) (eq-eqb j n same)

marked_later : (q : Option ℕ) (ns : List ℕ) (j : ℕ) → is_marked ns j ≡ true → is_marked (cons_option q ns) j ≡ true
marked_later None ns j h = h
marked_later (Some n) ns j h = or_right (nat_eq j n) (is_marked ns j) h

pub numbered : (names : List (List ℕ)) (is : List ImportItem) (i : ImportItem) → Among i is → (j : ℕ) → place_of i.module_name names ≡ Some j → is_marked (numbers_of names is) j ≡ true
numbered names [] i h j e = absurd h
numbered names (x ∷ xs) i (inl same) j e =
    marked_first (place_of x.module_name names) (numbers_of names xs) j (ap (λ (y : ImportItem). place_of y.module_name names) (sym same) ∙ e)
numbered names (x ∷ xs) i (inr h) j e = marked_later (place_of x.module_name names) (numbers_of names xs) j (numbered names xs i h j e)

-- what the module at a place imports
pub imports_at : (names : List (List ℕ)) (ms : List ModuleTree) (k : ℕ) (m : ModuleTree) → slice_get ms k ≡ Some m → imported (imports_of names (map (λ n. n.imports) ms)) k ≡ numbers_of names m.imports
imports_at names ms k m e =
    ap (λ (o : Option (List ℕ)). unwrap_or o []) (slice_get-map (numbers_of names) (map (λ (n : ModuleTree). n.imports) ms) k ∙ ap (option_map (numbers_of names)) (slice_get-map (λ (n : ModuleTree). n.imports) ms k ∙ ap (option_map (λ (n : ModuleTree). n.imports)) e))

-- Modules -----------------------------------------------------------------------------------

-- the module of this name stands there
pub record ModuleAt (ms : List ModuleTree) (k : ℕ) (x : List ℕ) : Type 0 where
  pub module_tree : ModuleTree
  pub stands : slice_get ms k ≡ Some module_tree
  pub name : module_tree.name ≡ x

pub module_at : (ms : List ModuleTree) (k : ℕ) (x : List ℕ) → slice_get (map (λ m. m.name) ms) k ≡ Some x → ModuleAt ms k x
module_at ms k x e = go (slice_get ms k) refl (sym (slice_get-map (λ (m : ModuleTree). m.name) ms k) ∙ e)
  where
    go : (q : Option ModuleTree) → slice_get ms k ≡ q → option_map (λ (m : ModuleTree). m.name) q ≡ Some x → ModuleAt ms k x
    go None is f = absurd (cc)
    go (Some m) is f = record { module_tree = m; stands = is; name = cc }

-- The end of the text.
use Rattle.std.proofs.Common.{◌≡◌, ℕ, ◌+◌, not, ◌||◌, codes, List, [], ◌∷◌, ◌++◌, map, drop, Option, Some, None, refl, sym, ap, ◌∙◌}
use Rattle.std.specs.Option.{option_map}
use Rattle.std.specs.List.{list_any, flat_map}
use Rattle.std.specs.Cmp.Lexicographic.{nat_list_eq_equiv}
use Rattle.c_tree.specs.Names.{is_main}
use Rattle.c_tree.specs.Code.{Item}
use Rattle.c_tree.specs.declared.function.CItem.{CItem}
use Rattle.c_tree.specs.Functions.{item_of, items_of}
use Rattle.c_meaning.specs.declared.breach.BadCause.{BadCause}
use Rattle.c_meaning.specs.declared.breach.BadCause.TheVariants.{Undeclared, Shape}
use Rattle.c_meaning.specs.declared.breach.Breach.{Breach}
use Rattle.c_meaning.specs.Plain.{is_called_once, defined_names}
use Rattle.c_meaning.specs.Breaches.{unless, has}
use Rattle.c_meaning.specs.Checked.{breach, name_of_item, items_breaches, used_by, wanted_breaches, ends_breaches, main_breaches, breaches, IsChecked}
use Rattle.c_check.specs.Firsts.{first}
use Rattle.c_check.specs.Used.{SameOf, IsUsedBy}
use Rattle.c_check.proofs.Firsts.{first_found, first_missed}
use Rattle.c_check.proofs.ItemWalk.{first-map}

module _ (used names : List (List ℕ)) (items : List CItem) where
  -- nothing is wanted of those in front
  abbrev pub WantedFrom : ℕ → Type 0
  WantedFrom i = first (ends_breaches used names (items_of items)) ≡ first (ends_breaches used names (items_of (drop i items)))

  module _ (i : ℕ) (so_far : WantedFrom i) (item : CItem) (at : drop i items ≡ item ∷ drop (i + 1) items) (r : Option BadCause) (is : r ≡ first (wanted_breaches used names (name_of_item (item_of item)))) where
    named : first (map (breach (name_of_item (item_of item))) (wanted_breaches used names (name_of_item (item_of item)))) ≡ option_map (breach (name_of_item (item_of item))) r
    named = first-map (breach (name_of_item (item_of item))) (wanted_breaches used names (name_of_item (item_of item))) ∙ ap (option_map (breach (name_of_item (item_of item)))) (sym is)

    split : first (ends_breaches used names (items_of items)) ≡ first (map (breach (name_of_item (item_of item))) (wanted_breaches used names (name_of_item (item_of item))) ++ ends_breaches used names (items_of (drop (i + 1) items)))
    split = so_far ∙ ap (λ l. first (ends_breaches used names (items_of l))) at

    pub wanted_here : (cause : BadCause) → r ≡ Some cause → Some (breach (name_of_item (item_of item)) cause) ≡ first (ends_breaches used names (items_of items))
    wanted_here cause some =
        sym (split ∙ first_found (map (breach (name_of_item (item_of item))) (wanted_breaches used names (name_of_item (item_of item)))) (ends_breaches used names (items_of (drop (i + 1) items)))
        (breach (name_of_item (item_of item)) cause) (named ∙ ap (option_map (breach (name_of_item (item_of item)))) some))

    pub wanted_on : r ≡ None → WantedFrom (i + 1)
    wanted_on none =
        split ∙ first_missed (map (breach (name_of_item (item_of item))) (wanted_breaches used names (name_of_item (item_of item)))) (ends_breaches used names (items_of (drop (i + 1) items)))
        (named ∙ ap (option_map (breach (name_of_item (item_of item)))) none)

-- Tables in which the same is found -------------------------------------------------------------

pub main_is_there : (names : List (List ℕ)) → has names (codes "main") ≡ list_any is_main names
main_is_there [] = refl
main_is_there (x ∷ xs) = λ i. nat_list_eq_equiv.symm (codes "main") x i || main_is_there xs i

module _ (used used2 names names2 : List (List ℕ)) (d : (n : List ℕ) → has names n ≡ has names2 n) where
  wanted-same : (n : List ℕ) → has used n ≡ has used2 n → wanted_breaches used names n ≡ wanted_breaches used2 names2 n
  wanted-same n u = λ i. unless Undeclared (not (u i) || d n i) ++ unless Shape (not (is_called_once n) || u i)

  pub ends-same : (is : List CItem) → SameOf is used used2 → ends_breaches used names (items_of is) ≡ ends_breaches used2 names2 (items_of is)
  ends-same [] u = refl
  ends-same (i ∷ is) u = λ j. map (breach (name_of_item (item_of i))) (wanted-same (name_of_item (item_of i)) u.0 j) ++ ends-same is u.1 j

  pub main-same : main_breaches names ≡ main_breaches names2
  main-same = ap (λ b. map (breach (codes "main")) (unless Shape b)) (sym (main_is_there names) ∙ d (codes "main") ∙ main_is_there names2)

module _ (used names : List (List ℕ)) (items : List CItem) (u : IsUsedBy items used) (d : (n : List ℕ) → has names n ≡ has (defined_names (items_of items)) n) (o : Option Breach) (found : o ≡ first (ends_breaches used names (items_of items))) where
  same_ends : first (ends_breaches used names (items_of items)) ≡ first (ends_breaches (flat_map used_by (items_of items)) (defined_names (items_of items)) (items_of items))
  same_ends = ap first (ends-same used (flat_map used_by (items_of items)) names (defined_names (items_of items)) d items u)

  pub end_wanted : (b : Breach) → o ≡ Some b → Some b ≡ first (ends_breaches (flat_map used_by (items_of items)) (defined_names (items_of items)) (items_of items) ++ main_breaches (defined_names (items_of items)))
  end_wanted b some =
      sym (first_found (ends_breaches (flat_map used_by (items_of items)) (defined_names (items_of items)) (items_of items)) (main_breaches (defined_names (items_of items))) b (sym (found ∙ same_ends) ∙ some))

  pub end_main : o ≡ None → (m : Option Breach) → m ≡ first (main_breaches names) → m ≡ first (ends_breaches (flat_map used_by (items_of items)) (defined_names (items_of items)) (items_of items) ++ main_breaches (defined_names (items_of items)))
  end_main none m main =
      main ∙ ap first (main-same used (flat_map used_by (items_of items)) names (defined_names (items_of items)) d)
      ∙ sym (first_missed (ends_breaches (flat_map used_by (items_of items)) (defined_names (items_of items)) (items_of items)) (main_breaches (defined_names (items_of items))) (sym (found ∙ same_ends) ∙ none))

-- The whole text --------------------------------------------------------------------------------

module _ (is : List Item) (o : Option Breach) (found : o ≡ first (items_breaches (record { functions = []; globals = []; names = [] }) is)) where
  pub text_wrong : (b : Breach) → o ≡ Some b → Some b ≡ first (breaches is)
  unfolding breaches
  text_wrong b some =
      sym (first_found (items_breaches (record { functions = []; globals = []; names = [] }) is) (ends_breaches (flat_map used_by is) (defined_names is) is ++ main_breaches (defined_names is)) b (sym found ∙ some))

  pub text_ends : o ≡ None → (m : Option Breach) → m ≡ first (ends_breaches (flat_map used_by is) (defined_names is) is ++ main_breaches (defined_names is)) → m ≡ first (breaches is)
  unfolding breaches
  text_ends none m ends =
      ends ∙ sym (first_missed (items_breaches (record { functions = []; globals = []; names = [] }) is) (ends_breaches (flat_map used_by is) (defined_names is) is ++ main_breaches (defined_names is)) (sym found ∙ none))

pub none-first : {A : Type 0} (xs : List A) → None ≡ first xs → xs ≡ []
none-first [] h = refl
none-first (x ∷ xs) h = absurd (cc)

pub no_breach : (is : List Item) (o : Option Breach) → o ≡ first (breaches is) → o ≡ None → IsChecked is
unfolding IsChecked
no_breach is o found none = none-first (breaches is) (sym none ∙ found)

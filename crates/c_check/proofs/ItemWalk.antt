-- Items, one after another.
use Rattle.std.proofs.Common.{◌≡◌, ℕ, ◌+◌, ◌≤◌, ◌||◌, List, [], ◌∷◌, ◌++◌, map, length, drop, Option, Some, None, refl, sym, ap, ◌∙◌, append_assoc}
use Rattle.std.specs.Option.{option_map}
use Rattle.std.proofs.lemmas.List.{drop_all}
use Rattle.std.proofs.lemmas.List.Folds.{list_any-append}
use Rattle.scheme_data.specs.Names.{is_same}
use Rattle.c_tree.specs.Code.{Item, external, global, declared, defined}
use Rattle.c_tree.specs.declared.function.CItem.{CItem}
use Rattle.c_tree.specs.Functions.{item_of, items_of}
use Rattle.c_meaning.specs.declared.breach.BadCause.{BadCause}
use Rattle.c_meaning.specs.Plain.{defined_names}
use Rattle.c_meaning.specs.Breaches.{has}
use Rattle.c_meaning.specs.Checked.{Known, item_breaches, after_item, breach, name_of_item, items_breaches}
use Rattle.c_check.specs.Firsts.{first}
use Rattle.c_check.specs.Knowns.{SameKnown}
use Rattle.c_check.proofs.Firsts.{first_found, first_missed}
use Rattle.c_check.proofs.Knowing.{items-same}

pub first-map : {A B : Type 0} (f : A → B) (xs : List A) → first (map f xs) ≡ option_map f (first xs)
first-map f [] = refl
first-map f (x ∷ xs) = refl

has-append : (a b : List (List ℕ)) (n : List ℕ) → has (a ++ b) n ≡ (has a n || has b n)
has-append a b n = list_any-append (is_same n) a b

names-after : (k : Known) (i : Item) (is : List Item) → (after_item k i).names ++ defined_names is ≡ k.names ++ defined_names (i ∷ is)
names-after k (external v) is = refl
names-after k (global v) is = append_assoc k.names (v.name ∷ []) (defined_names is)
names-after k (declared t name params) is = refl
names-after k (defined f) is = append_assoc k.names (f.name ∷ []) (defined_names is)

module _ (start : Known) (items : List CItem) where
  pub record ItemsFrom (i : ℕ) (now : Known) : Type 0 where
    pub wrong : first (items_breaches start (items_of items)) ≡ first (items_breaches now (items_of (drop i items)))
    pub names : (n : List ℕ) → has (now.names ++ defined_names (items_of (drop i items))) n ≡ has (start.names ++ defined_names (items_of items)) n

  module _ (i : ℕ) (now : Known) (so_far : ItemsFrom i now) (item : CItem) (at : drop i items ≡ item ∷ drop (i + 1) items) (r : Option BadCause) (is : r ≡ first (item_breaches now (item_of item))) where
    split : first (items_breaches start (items_of items)) ≡ first (map (breach (name_of_item (item_of item))) (item_breaches now (item_of item)) ++ items_breaches (after_item now (item_of item)) (items_of (drop (i + 1) items)))
    split = so_far.wrong ∙ ap (λ l. first (items_breaches now (items_of l))) at

    named : first (map (breach (name_of_item (item_of item))) (item_breaches now (item_of item))) ≡ option_map (breach (name_of_item (item_of item))) r
    named = first-map (breach (name_of_item (item_of item))) (item_breaches now (item_of item)) ∙ ap (option_map (breach (name_of_item (item_of item)))) (sym is)

    pub item_wrong : (cause : BadCause) → r ≡ Some cause → Some (breach (name_of_item (item_of item)) cause) ≡ first (items_breaches start (items_of items))
    item_wrong cause some =
        sym (split ∙ first_found (map (breach (name_of_item (item_of item))) (item_breaches now (item_of item))) (items_breaches (after_item now (item_of item)) (items_of (drop (i + 1) items)))
        (breach (name_of_item (item_of item)) cause) (named ∙ ap (option_map (breach (name_of_item (item_of item)))) some))

    pub item_right : r ≡ None → (next : Known) → SameKnown next (after_item now (item_of item)) → ItemsFrom (i + 1) next
    item_right none next same = record {
      wrong = split
          ∙ first_missed (map (breach (name_of_item (item_of item))) (item_breaches now (item_of item))) (items_breaches (after_item now (item_of item)) (items_of (drop (i + 1) items)))
          (named ∙ ap (option_map (breach (name_of_item (item_of item)))) none)
          ∙ ap first (sym (items-same (items_of (drop (i + 1) items)) next (after_item now (item_of item)) same));
      names = λ n.
          has-append next.names (defined_names (items_of (drop (i + 1) items))) n
          ∙ ap (λ b. b || has (defined_names (items_of (drop (i + 1) items))) n) (same.names n)
          ∙ sym (has-append (after_item now (item_of item)).names (defined_names (items_of (drop (i + 1) items))) n)
          ∙ ap (λ l. has l n) (names-after now (item_of item) (items_of (drop (i + 1) items)))
          ∙ ap (λ l. has (now.names ++ defined_names (items_of l)) n) (sym at)
          ∙ so_far.names n;
    }

  append-nil : {A : Type 0} (xs : List A) → xs ++ [] ≡ xs
  append-nil [] = refl
  append-nil (x ∷ xs) = ap (λ r. x ∷ r) (append-nil xs)

  module _ (i : ℕ) (now : Known) (so_far : ItemsFrom i now) (over : length items ≤ i) where
    pub items_end : None ≡ first (items_breaches start (items_of items))
    items_end = sym (so_far.wrong ∙ ap (λ l. first (items_breaches now (items_of l))) (drop_all i items over))

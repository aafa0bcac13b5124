-- Names of which none stands twice.
use Rattle.std.proofs.Common.{◌≡◌, ℕ, ◌+◌, ◌<◌, true, false, List, [], ◌∷◌, ◌++◌, map, length, drop, get_or, sym, ap, ◌∙◌, append_assoc}
use Rattle.std.proofs.lemmas.List.{drop_more}
use Rattle.std.specs.List.{list_any}
use Rattle.scheme_data.specs.Names.{are_distinct}
use Rattle.scheme_data.proofs.DistinctNames.{twice, added}
use Rattle.resolver.specs.declared.built_head.Export.{Export}
use Rattle.resolver.specs.BuiltHeads.{is_word, exported_names}
use Rattle.resolver.specs.Trees.{export_tree}

-- the names of these exports are listed, and none of them stands twice
pub record IsListed (es : List Export) (xs : List (List ℕ)) (i : ℕ) : Type 0 where
  pub none_twice : are_distinct xs ≡ true
  pub so_far : exported_names (map export_tree es) ≡ xs ++ exported_names (map export_tree (drop i es))

listed_next : (es : List Export) (xs : List (List ℕ)) (i : ℕ) (e : Export) → i < length es → e ≡ get_or es i e → IsListed es xs i
    → exported_names (map export_tree es) ≡ xs ++ e.name ∷ exported_names (map export_tree (drop (i + 1) es))
listed_next es xs i e l s h =
    h.so_far ∙ ap (λ (es : List Export). xs ++ exported_names (map export_tree es)) (drop_more es i e l)
    ∙ ap (λ (e : Export). xs ++ e.name ∷ exported_names (map export_tree (drop (i + 1) es))) (sym s)

pub listed_twice : (es : List Export) (xs : List (List ℕ)) (i : ℕ) (e : Export) → i < length es → e ≡ get_or es i e → IsListed es xs i
    → list_any (is_word e.name) xs ≡ true → false ≡ are_distinct (exported_names (map export_tree es))
listed_twice es xs i e l s h t =
    sym (ap are_distinct (listed_next es xs i e l s h) ∙ twice xs e.name (exported_names (map export_tree (drop (i + 1) es))) t)

pub listed_more : (es : List Export) (xs ys : List (List ℕ)) (i : ℕ) (e : Export) → i < length es → e ≡ get_or es i e → IsListed es xs i
    → list_any (is_word e.name) xs ≡ false → ys ≡ xs ++ e.name ∷ [] → IsListed es ys (i + 1)
listed_more es xs ys i e l s h t y = record {
  none_twice = ap are_distinct y ∙ added xs e.name h.none_twice t;
  so_far = listed_next es xs i e l s h ∙ sym (append_assoc xs (e.name ∷ []) (exported_names (map export_tree (drop (i + 1) es))))
      ∙ ap (λ ys. ys ++ exported_names (map export_tree (drop (i + 1) es))) (sym y);
}

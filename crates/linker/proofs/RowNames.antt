-- The names of rows, gathered one by one.
use Rattle.std.proofs.Common.{◌≡◌, ℕ, Bool, not, if◌then◌else◌, ◌++◌, List, [], ◌∷◌, sym, ap, subst, ◌∙◌, append_assoc}
use Rattle.iface_text.specs.Format.{AreRows}
use Rattle.iface_text.specs.declared.interface.Row.{Row}
use Rattle.name_table.specs.Names.{has_name}
use Rattle.linker.specs.Modules.{row_names}

pub one_more : (names new : List (List ℕ)) (key : List ℕ) (all left rest : List Row) (r : Row) (added : Bool) → AreRows names left → names ++ row_names left ≡ row_names all → left ≡ r ∷ rest → key ≡ r.name
    → added ≡ not (has_name names key) → new ≡ (if added then names ++ key ∷ [] else names) → AreRows new rest × (new ++ row_names rest ≡ row_names all)
one_more names new key all left rest r added are told e k a n =
    let now : AreRows names (r ∷ rest) = subst (AreRows names) e are in
    let is : new ≡ names ++ r.name ∷ [] = n ∙ (ap (λ added. if added then names ++ key ∷ [] else names) (a ∙ ap not (ap (has_name names) k ∙ now.0.is_new)) ∙ ap (λ k. names ++ k ∷ []) k) in
    (subst (λ new. AreRows new rest) (sym is) now.1, ap (λ n. n ++ row_names rest) is ∙ (append_assoc names (r.name ∷ []) (row_names rest) ∙ (ap (λ l. names ++ row_names l) (sym e) ∙ told)))

-- Names that are new behind others.
use Rattle.std.proofs.Common.{◌≡◌, ℕ, Bool, true, false, not, ◌&&◌, ◌||◌, if◌then◌else◌, ◌++◌, List, [], ◌∷◌, refl, sym, ap, ◌∙◌, append_assoc}
use Rattle.std.proofs.lemmas.List.{append-nil}
use Rattle.marked_names.specs.MarkedNames.{has_marked}
use Rattle.name_table.specs.Names.{has_name}
use Rattle.scheme_data.specs.Forms.{form, symbol}
use Rattle.scheme_data.specs.declared.datum.Place.{Place}
use Rattle.scheme_data.specs.declared.datum.Datum.{Datum}
use Rattle.scheme_data.specs.declared.datum.Datum as data_of
use Rattle.syntax_rules.specs.Patterns.{are_apart, is_dots, is_name, names_of, paths_of}
use Rattle.syntax_rules.specs.Trees.{Path}
use Rattle.syntax_rules.proofs.Atoms.{form-Sym}

and_assoc : (a b c : Bool) → (a && (b && c)) ≡ ((a && b) && c)
and_assoc true b c = refl
and_assoc false b c = refl

pub apart_join : (others a b : List (List ℕ × ℕ)) → are_apart others (a ++ b) ≡ (are_apart others a && are_apart (others ++ a) b)
apart_join others [] b = ap (λ o. are_apart o b) (sym (append-nil others))
apart_join others (n ∷ ns) b =
    ap (λ c. not (has_marked others n.0 n.1) && c) (apart_join (others ++ n ∷ []) ns b ∙ ap (λ o. are_apart (others ++ n ∷ []) ns && are_apart o b) (append_assoc others (n ∷ []) ns))
    ∙ and_assoc (not (has_marked others n.0 n.1)) (are_apart (others ++ n ∷ []) ns) (are_apart (others ++ n ∷ ns) b)

pub apart_stops : (whole others first rest all : List (List ℕ × ℕ)) (start : List (List ℕ × ℕ)) (b : Bool) → are_apart start whole ≡ are_apart others all → all ≡ first ++ rest → b ≡ are_apart others first → b ≡ false
    → false ≡ are_apart start whole
apart_stops whole others first rest all start b e f g h =
    sym (e ∙ ap (are_apart others) f ∙ apart_join others first rest ∙ ap (λ c. c && are_apart (others ++ first) rest) (sym g ∙ h))

pub apart_on : (whole others now first rest all : List (List ℕ × ℕ)) (start : List (List ℕ × ℕ)) (b : Bool) → are_apart start whole ≡ are_apart others all → all ≡ first ++ rest → b ≡ are_apart others first → b ≡ true → now ≡ others ++ first
    → are_apart start whole ≡ are_apart now rest
apart_on whole others now first rest all start b e f g h n =
    e ∙ ap (are_apart others) f ∙ apart_join others first rest ∙ ap (λ c. c && are_apart (others ++ first) rest) (sym g ∙ h) ∙ ap (λ o. are_apart o rest) (sym n)

pub joined_on : {A : Type 0} (others now first rest all sum : List A) → others ++ all ≡ sum → all ≡ first ++ rest → now ≡ others ++ first → now ++ rest ≡ sum
joined_on others now first rest all sum e f n = ap (λ o. o ++ rest) n ∙ append_assoc others first rest ∙ ap (λ r. others ++ r) (sym f) ∙ e

and_true : (b : Bool) → (b && true) ≡ b
and_true true = refl
and_true false = refl

module _ (literals : List (List ℕ)) where
  is_a_name : (d : Datum) (at : Place) (x y : List ℕ) (m : ℕ) → d ≡ data_of.Sym at x m → y ≡ x → false ≡ is_dots (form d) → false ≡ has_name literals y → true ≡ is_name literals x
  is_a_name d at x y m e f g h =
      let dots = ap is_dots (ap form e ∙ form-Sym at x m) in
      ap (λ b. not (b || false)) (g ∙ dots) ∙ ap (λ b. not (is_dots (symbol at x m) || b)) (h ∙ ap (has_name literals) f)

  -- a symbol that is a name of the pattern
  pub name_alone : (d : Datum) (at : Place) (x y : List ℕ) (m : ℕ) → d ≡ data_of.Sym at x m → y ≡ x → false ≡ is_dots (form d) → false ≡ has_name literals y → (x, m) ∷ [] ≡ names_of literals (form d)
  name_alone d at x y m e f g h = ap (λ b. if b then (x, m) ∷ [] else []) (is_a_name d at x y m e f g h) ∙ sym (ap (names_of literals) (ap form e ∙ form-Sym at x m))

  pub path_alone : (path : Path) (d : Datum) (at : Place) (x y : List ℕ) (m : ℕ) → d ≡ data_of.Sym at x m → y ≡ x → false ≡ is_dots (form d) → false ≡ has_name literals y → path ∷ [] ≡ paths_of literals path (form d)
  path_alone path d at x y m e f g h = ap (λ b. if b then path ∷ [] else []) (is_a_name d at x y m e f g h) ∙ sym (ap (paths_of literals path) (ap form e ∙ form-Sym at x m))

  pub name_apart : (others : List (List ℕ × ℕ)) (d : Datum) (at : Place) (x y : List ℕ) (m : ℕ) → d ≡ data_of.Sym at x m → y ≡ x → false ≡ is_dots (form d) → false ≡ has_name literals y
      → not (has_marked others x m) ≡ are_apart others (names_of literals (form d))
  name_apart others d at x y m e f g h = sym (and_true (not (has_marked others x m))) ∙ ap (are_apart others) (name_alone d at x y m e f g h)

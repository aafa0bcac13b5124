-- Elements of lists.
use Rattle.std.proofs.Common.{◌≡◌, ℕ, zero, suc, ◌≤◌, List, [], ◌∷◌, length, map, Option, Some, None, slice_get, refl, ap, arith}
use Rattle.scheme_data.specs.Forms.{Form, Forms, form, forms, listed, dotted, vector, atom, symbol, end, next}
use Rattle.scheme_data.specs.declared.datum.Place.{Place}
use Rattle.scheme_data.specs.declared.datum.Datum.{Datum}
use Rattle.scheme_data.specs.declared.datum.Datum.TheViews as datum
use Rattle.syntax_rules.specs.Filling.{item, count, element, length_of, part}
use Rattle.syntax_rules.specs.Trees.{Path}
use Rattle.syntax_rules.specs.declared.tree.Step.TheVariants.{Row}
use Rattle.scheme_data.specs.declared.datum.Datum as data_of
use Rattle.syntax_rules.proofs.Atoms.{no_list}
use Rattle.syntax_rules.proofs.Layers.{form-List}

item_there : (ds : List Datum) (i : ℕ) (other : Form) (d : Datum) → Some d ≡ slice_get ds i → form d ≡ item (forms (map form ds)) i other
item_there [] i other d e = absurd (cc)
item_there (x ∷ xs) zero other d e = let same : d ≡ x = cc in ap form same
item_there (x ∷ xs) (suc i) other d e = item_there xs i other d e

item_missing : (ds : List Datum) (i : ℕ) (other : Form) → length ds ≤ i → other ≡ item (forms (map form ds)) i other
item_missing [] i other h = refl
item_missing (x ∷ xs) zero other h = absurd (omega arith)
item_missing (x ∷ xs) (suc i) other h = item_missing xs i other (omega arith)

none_there : (ds : List Datum) (i : ℕ) → ◌≡◌ {A = Option Datum} None (slice_get ds i) → length ds ≤ i
none_there [] i e = omega arith
none_there (x ∷ xs) zero e = absurd (cc)
none_there (x ∷ xs) (suc i) e = let more = none_there xs i e in omega (arith, more)

pub found_element : (at : Place) (ds : List Datum) (i : ℕ) (d : Datum) → Some d ≡ slice_get ds i → form d ≡ element (form (datum.List at ds)) i
found_element at ds i d e = rw (form-List at ds) (item_there ds i (listed at (forms (map form ds))) d e)

pub missing_element : (at : Place) (ds : List Datum) (i : ℕ) → ◌≡◌ {A = Option Datum} None (slice_get ds i) → form (datum.List at ds) ≡ element (form (datum.List at ds)) i
missing_element at ds i e = rw (form-List at ds) (item_missing ds i (listed at (forms (map form ds))) (none_there ds i e))

pub no_list_element : (d : Datum) (i : ℕ) → ((at : Place) (ds : List Datum) → d ≡ data_of.List at ds → ⊥) → form d ≡ element (form d) i
no_list_element d i h = no_list (λ f. f ≡ element f i) (λ _ _. refl) (λ _ _ _. refl) (λ _ _. refl) (λ _ _ _. refl) d h

count_all : (ds : List Datum) → length ds ≡ count (forms (map form ds))
count_all [] = refl
count_all (d ∷ ds) = ap suc (count_all ds)

pub count_list : (at : Place) (ds : List Datum) → length ds ≡ length_of (form (datum.List at ds))
count_list at ds = rw (form-List at ds) (count_all ds)

item_behind : (fs : Forms) (i : ℕ) (other : Form) → count fs ≤ i → other ≡ item fs i other
item_behind end i other h = refl
item_behind (next d ds) zero other h = absurd (omega arith)
item_behind (next d ds) (suc i) other h = item_behind ds i other (omega arith)

pub element_behind_all : (f : Form) (i : ℕ) → length_of f ≤ i → f ≡ element f i
element_behind_all (listed at ds) i h = item_behind ds i (listed at ds) h
element_behind_all (atom at a) i h = refl
element_behind_all (symbol at x m) i h = refl
element_behind_all (dotted at ds d) i h = refl
element_behind_all (vector at ds) i h = refl

pub part_end : (d : Form) (ss : Path) (rows : List ℕ) → length ss ≡ 0 → d ≡ part d ss rows
part_end d [] rows h = refl
part_end d (s ∷ ss) rows h = absurd (omega arith)

pub part_no_rows : (d : Form) (ss : Path) (rows : List ℕ) (i : ℕ) → length rows ≡ 0 → d ≡ part d (Row i ∷ ss) rows
part_no_rows d ss [] i h = refl
part_no_rows d ss (r ∷ rows) i h = absurd (omega arith)

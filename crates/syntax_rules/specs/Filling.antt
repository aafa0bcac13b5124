-- How a template is filled from a use that its pattern matches.
use Rattle.std.specs.Prelude.{ℕ, zero, suc, ◌+◌, ◌-◌, Bool, true, ◌&&◌, nat_eq, List, [], ◌∷◌, ◌++◌}
use Rattle.scheme_data.specs.Forms.{Form, Forms, atom, symbol, listed, end, next, forms}
use Rattle.scheme_data.specs.declared.datum.Place.{Place}
use Rattle.syntax_rules.specs.declared.tree.Step.TheVariants.{Item, Row}
use Rattle.syntax_rules.specs.Templates.{path_at}
use Rattle.syntax_rules.specs.Trees.{Template, Templates, given, fresh, fixed, compound, repeated, none, then_template, Path}

abbrev pub item : Forms → ℕ → Form → Form
item end i other = other
item (next d ds) zero other = d
item (next d ds) (suc i) other = item ds i other

abbrev pub count : Forms → ℕ
count end = 0
count (next d ds) = suc (count ds)

-- an element of a list; a use that the pattern matches has each that is asked for
abbrev pub element : Form → ℕ → Form
element (listed at ds) i = item ds i (listed at ds)
element d i = d

abbrev pub length_of : Form → ℕ
length_of (listed at ds) = count ds
length_of d = 0

-- what stands at a path, where the repetitions on the way are in these rows, the outermost first
abbrev pub part : Form → Path → List ℕ → Form
part d [] rows = d
part d (Item i ∷ ss) rows = part (element d i) ss rows
part d (Row i ∷ ss) [] = d
part d (Row i ∷ ss) (r ∷ rows) = part (element d (i + r)) ss rows

-- how often the first repetition on the way repeats that is in none of these rows
abbrev pub width : Form → Path → List ℕ → ℕ
width d [] rows = 0
width d (Item i ∷ ss) rows = width (element d i) ss rows
width d (Row i ∷ ss) [] = length_of d - i
width d (Row i ∷ ss) (r ∷ rows) = width (element d (i + r)) ss rows

-- what is given in rows from 0 on, so many of them
abbrev pub in_rows : ℕ → (ℕ → List Form) → List Form
in_rows zero f = []
in_rows (suc n) f = in_rows n f ++ f n

abbrev pub in_all_rows : ℕ → (ℕ → Bool) → Bool
in_all_rows zero f = true
in_all_rows (suc n) f = in_all_rows n f && f n

module _ (paths : List Path) (use_form : Form) where
  -- how often an element with these names repeats
  abbrev pub times : List ℕ → List ℕ → ℕ
  times rows [] = 0
  times rows (i ∷ is) = width use_form (path_at paths i) rows

  abbrev pub all_times : ℕ → List ℕ → List ℕ → Bool
  all_times n rows [] = true
  all_times n rows (i ∷ is) = nat_eq (width use_form (path_at paths i) rows) n && all_times n rows is

  -- wherever elements repeat in step, they repeat equally often
  abbrev mutual
    pub agrees : List ℕ → Template → Bool
    agrees rows (given i) = true
    agrees rows (fresh x) = true
    agrees rows (fixed a) = true
    agrees rows (compound ts) = all_agree rows ts
    agrees rows (repeated ns t) = all_times (times rows ns) rows ns && in_all_rows (times rows ns) (λ r. agrees (rows ++ r ∷ []) t)

    pub all_agree : List ℕ → Templates → Bool
    all_agree rows none = true
    all_agree rows (then_template t ts) = agrees rows t && all_agree rows ts

  -- the data that a template gives: a new symbol bears the mark, and what is new has the place of the use
  module _ (at : Place) (mark : ℕ) where
    abbrev mutual
      pub filled : List ℕ → Template → List Form
      filled rows (given i) = part use_form (path_at paths i) rows ∷ []
      filled rows (fresh x) = symbol at x mark ∷ []
      filled rows (fixed a) = atom at a ∷ []
      filled rows (compound ts) = listed at (forms (all_filled rows ts)) ∷ []
      filled rows (repeated ns t) = in_rows (times rows ns) (λ r. filled (rows ++ r ∷ []) t)

      pub all_filled : List ℕ → Templates → List Form
      all_filled rows none = []
      all_filled rows (then_template t ts) = filled rows t ++ all_filled rows ts

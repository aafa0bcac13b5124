-- Data with their places as plain trees, and what their words say.
use Rattle.std.specs.Prelude.{ℕ, ◌+◌, max, ℤ, pos, negsuc, Bool, true, false, not, nat_eq, List, [], ◌∷◌}
use Rattle.scheme_data.specs.Names.{is_same}
use Rattle.scheme_data.specs.declared.datum.Place.{Place}
use Rattle.scheme_data.specs.declared.datum.Datum.{Datum, fold-Datum}
use Rattle.scheme_data.specs.declared.datum.Datum.TheOpen.{Datum-F}

pub data Atom : Type 0 where
  number : ℤ → Atom
  character : ℕ → Atom
  truth : Bool → Atom
  unspecified : Atom
  text : List ℕ → Atom

mutual
  pub data Form : Type 0 where
    atom : Place → Atom → Form
    -- a name and its mark
    symbol : Place → List ℕ → ℕ → Form
    listed : Place → Forms → Form
    -- items and a tail
    dotted : Place → Forms → Form → Form
    vector : Place → Forms → Form

  pub data Forms : Type 0 where
    end : Forms
    next : Form → Forms → Forms

abbrev pub forms : List Form → Forms
forms [] = end
forms (d ∷ ds) = next d (forms ds)

abbrev pub layer : Datum-F Form → Form
layer (Datum-F.Int at n) = atom at (number n)
layer (Datum-F.Chr at b) = atom at (character b)
layer (Datum-F.Bool at t) = atom at (truth t)
layer (Datum-F.Unspec at) = atom at unspecified
layer (Datum-F.Str at s) = atom at (text s)
layer (Datum-F.Sym at x m) = symbol at x m
layer (Datum-F.List at ds) = listed at (forms ds)
layer (Datum-F.Dotted at ds tail) = dotted at (forms ds) tail
layer (Datum-F.Vector at ds) = vector at (forms ds)

abbrev pub form : Datum → Form
form d = fold-Datum Form layer d

abbrev pub form_place : Form → Place
form_place (atom at a) = at
form_place (symbol at x m) = at
form_place (listed at ds) = at
form_place (dotted at ds d) = at
form_place (vector at ds) = at

abbrev pub join : Forms → Forms → Forms
join end es = es
join (next d ds) es = next d (join ds es)

-- how deep lists and vectors nest: an atom has 0, a list or vector one more than its deepest part
abbrev mutual
  pub form_nesting : Form → ℕ
  form_nesting (atom at a) = 0
  form_nesting (symbol at x m) = 0
  form_nesting (listed at ds) = 1 + forms_nesting ds
  form_nesting (dotted at ds d) = 1 + max (forms_nesting ds) (form_nesting d)
  form_nesting (vector at ds) = 1 + forms_nesting ds

  pub forms_nesting : Forms → ℕ
  forms_nesting end = 0
  forms_nesting (next d ds) = max (form_nesting d) (forms_nesting ds)

-- how many data stand there
abbrev mutual
  pub form_size : Form → ℕ
  form_size (atom at a) = 1
  form_size (symbol at x m) = 1
  form_size (listed at ds) = 1 + forms_size ds
  form_size (dotted at ds d) = 1 + (forms_size ds + form_size d)
  form_size (vector at ds) = 1 + forms_size ds

  pub forms_size : Forms → ℕ
  forms_size end = 0
  forms_size (next d ds) = form_size d + forms_size ds

abbrev pub same_number : ℤ → ℤ → Bool
same_number (pos a) (pos b) = nat_eq a b
same_number (pos a) (negsuc b) = false
same_number (negsuc a) (pos b) = false
same_number (negsuc a) (negsuc b) = nat_eq a b

abbrev pub same_truth : Bool → Bool → Bool
same_truth true b = b
same_truth false b = not b

-- of the same kind and value
abbrev pub same_atom : Atom → Atom → Bool
same_atom (number a) (number b) = same_number a b
same_atom (character a) (character b) = nat_eq a b
same_atom (truth a) (truth b) = same_truth a b
same_atom unspecified unspecified = true
same_atom (text a) (text b) = is_same a b
same_atom _ _ = false

-- whether it is the symbol of this word, whatever its mark
abbrev pub form_says : Form → List ℕ → Bool
form_says (symbol at x m) word = is_same x word
form_says _ word = false

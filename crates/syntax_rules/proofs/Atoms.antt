-- Constants and data of one kind or of two.
use Rattle.std.proofs.Common.{◌≡◌, ℕ, ℤ, Bool, false, List, map, rules, refl, sym, ap, subst, ◌∙◌}
use Rattle.scheme_data.specs.Forms.{Form, Forms, Atom, form, forms, atom, symbol, number, character, truth, unspecified, text, listed, dotted, vector}
use Rattle.syntax_rules.specs.Matching.{atom_is}
use Rattle.scheme_data.specs.declared.datum.Place.{Place}
use Rattle.scheme_data.specs.declared.datum.Datum.{Datum, out-Datum}
use Rattle.scheme_data.specs.declared.datum.Datum.TheOpen.{Datum-F}
use Rattle.scheme_data.specs.declared.datum.Datum as data_of

pub form-Int : (at : Place) (n : ℤ) → form (data_of.Int at n) ≡ atom at (number n)
form-Int at n = search (rules, data_of.the_lemmas)

pub form-Chr : (at : Place) (b : ℕ) → form (data_of.Chr at b) ≡ atom at (character b)
form-Chr at b = search (rules, data_of.the_lemmas)

pub form-Bool : (at : Place) (t : Bool) → form (data_of.Bool at t) ≡ atom at (truth t)
form-Bool at t = search (rules, data_of.the_lemmas)

pub form-Unspec : (at : Place) → form (data_of.Unspec at) ≡ atom at unspecified
form-Unspec at = search (rules, data_of.the_lemmas)

pub form-Str : (at : Place) (s : List ℕ) → form (data_of.Str at s) ≡ atom at (text s)
form-Str at s = search (rules, data_of.the_lemmas)

pub form-Sym : (at : Place) (x : List ℕ) (m : ℕ) → form (data_of.Sym at x m) ≡ symbol at x m
form-Sym at x m = search (rules, data_of.the_lemmas)

abbrev layered : Datum-F Datum → Form
layered (Datum-F.Int at n) = atom at (number n)
layered (Datum-F.Chr at b) = atom at (character b)
layered (Datum-F.Bool at t) = atom at (truth t)
layered (Datum-F.Unspec at) = atom at unspecified
layered (Datum-F.Str at s) = atom at (text s)
layered (Datum-F.Sym at x m) = symbol at x m
layered (Datum-F.List at ds) = listed at (forms (map form ds))
layered (Datum-F.Dotted at ds tail) = dotted at (forms (map form ds)) (form tail)
layered (Datum-F.Vector at ds) = vector at (forms (map form ds))

pub form_out : (d : Datum) → form d ≡ layered (out-Datum d)
form_out d = search (rules, data_of.the_lemmas)

out-Int : (d : Datum) (at : Place) (n : ℤ) → out-Datum d ≡ Datum-F.Int at n → d ≡ data_of.Int at n
out-Int d at n e = search (rules, data_of.the_lemmas)

no_Int : (d : Datum) (l : Datum-F Datum) (n : ℤ) → ((at : Place) (m : ℤ) → d ≡ data_of.Int at m → ⊥) → out-Datum d ≡ l → false ≡ atom_is (number n) (layered l)
no_Int d (Datum-F.Int at m) n h e = absurd (h at m (out-Int d at m e))
no_Int d (Datum-F.Chr at b) n h e = refl
no_Int d (Datum-F.Bool at t) n h e = refl
no_Int d (Datum-F.Unspec at) n h e = refl
no_Int d (Datum-F.Str at s) n h e = refl
no_Int d (Datum-F.Sym at x m) n h e = refl
no_Int d (Datum-F.List at ds) n h e = refl
no_Int d (Datum-F.Dotted at ds tail) n h e = refl
no_Int d (Datum-F.Vector at ds) n h e = refl

pub other_Int : (d : Datum) (n : ℤ) → ((at : Place) (m : ℤ) → d ≡ data_of.Int at m → ⊥) → false ≡ atom_is (number n) (form d)
other_Int d n h = no_Int d (out-Datum d) n h refl ∙ ap (atom_is (number n)) (sym (form_out d))

out-Chr : (d : Datum) (at : Place) (b : ℕ) → out-Datum d ≡ Datum-F.Chr at b → d ≡ data_of.Chr at b
out-Chr d at b e = search (rules, data_of.the_lemmas)

no_Chr : (d : Datum) (l : Datum-F Datum) (n : ℕ) → ((at : Place) (b : ℕ) → d ≡ data_of.Chr at b → ⊥) → out-Datum d ≡ l → false ≡ atom_is (character n) (layered l)
no_Chr d (Datum-F.Int at n0) n h e = refl
no_Chr d (Datum-F.Chr at b) n h e = absurd (h at b (out-Chr d at b e))
no_Chr d (Datum-F.Bool at t) n h e = refl
no_Chr d (Datum-F.Unspec at) n h e = refl
no_Chr d (Datum-F.Str at s) n h e = refl
no_Chr d (Datum-F.Sym at x m) n h e = refl
no_Chr d (Datum-F.List at ds) n h e = refl
no_Chr d (Datum-F.Dotted at ds tail) n h e = refl
no_Chr d (Datum-F.Vector at ds) n h e = refl

pub other_Chr : (d : Datum) (n : ℕ) → ((at : Place) (b : ℕ) → d ≡ data_of.Chr at b → ⊥) → false ≡ atom_is (character n) (form d)
other_Chr d n h = no_Chr d (out-Datum d) n h refl ∙ ap (atom_is (character n)) (sym (form_out d))

out-Bool : (d : Datum) (at : Place) (t : Bool) → out-Datum d ≡ Datum-F.Bool at t → d ≡ data_of.Bool at t
out-Bool d at t e = search (rules, data_of.the_lemmas)

no_Bool : (d : Datum) (l : Datum-F Datum) (n : Bool) → ((at : Place) (t : Bool) → d ≡ data_of.Bool at t → ⊥) → out-Datum d ≡ l → false ≡ atom_is (truth n) (layered l)
no_Bool d (Datum-F.Int at n0) n h e = refl
no_Bool d (Datum-F.Chr at b) n h e = refl
no_Bool d (Datum-F.Bool at t) n h e = absurd (h at t (out-Bool d at t e))
no_Bool d (Datum-F.Unspec at) n h e = refl
no_Bool d (Datum-F.Str at s) n h e = refl
no_Bool d (Datum-F.Sym at x m) n h e = refl
no_Bool d (Datum-F.List at ds) n h e = refl
no_Bool d (Datum-F.Dotted at ds tail) n h e = refl
no_Bool d (Datum-F.Vector at ds) n h e = refl

pub other_Bool : (d : Datum) (n : Bool) → ((at : Place) (t : Bool) → d ≡ data_of.Bool at t → ⊥) → false ≡ atom_is (truth n) (form d)
other_Bool d n h = no_Bool d (out-Datum d) n h refl ∙ ap (atom_is (truth n)) (sym (form_out d))

out-Unspec : (d : Datum) (at : Place) → out-Datum d ≡ Datum-F.Unspec at → d ≡ data_of.Unspec at
out-Unspec d at e = search (rules, data_of.the_lemmas)

no_Unspec : (d : Datum) (l : Datum-F Datum) → ((at : Place) → d ≡ data_of.Unspec at → ⊥) → out-Datum d ≡ l → false ≡ atom_is unspecified (layered l)
no_Unspec d (Datum-F.Int at n0) h e = refl
no_Unspec d (Datum-F.Chr at b) h e = refl
no_Unspec d (Datum-F.Bool at t) h e = refl
no_Unspec d (Datum-F.Unspec at) h e = absurd (h at (out-Unspec d at e))
no_Unspec d (Datum-F.Str at s) h e = refl
no_Unspec d (Datum-F.Sym at x m) h e = refl
no_Unspec d (Datum-F.List at ds) h e = refl
no_Unspec d (Datum-F.Dotted at ds tail) h e = refl
no_Unspec d (Datum-F.Vector at ds) h e = refl

pub other_Unspec : (d : Datum) → ((at : Place) → d ≡ data_of.Unspec at → ⊥) → false ≡ atom_is unspecified (form d)
other_Unspec d h = no_Unspec d (out-Datum d) h refl ∙ ap (atom_is unspecified) (sym (form_out d))

out-Str : (d : Datum) (at : Place) (s : List ℕ) → out-Datum d ≡ Datum-F.Str at s → d ≡ data_of.Str at s
out-Str d at s e = search (rules, data_of.the_lemmas)

no_Str : (d : Datum) (l : Datum-F Datum) (n : List ℕ) → ((at : Place) (s : List ℕ) → d ≡ data_of.Str at s → ⊥) → out-Datum d ≡ l → false ≡ atom_is (text n) (layered l)
no_Str d (Datum-F.Int at n0) n h e = refl
no_Str d (Datum-F.Chr at b) n h e = refl
no_Str d (Datum-F.Bool at t) n h e = refl
no_Str d (Datum-F.Unspec at) n h e = refl
no_Str d (Datum-F.Str at s) n h e = absurd (h at s (out-Str d at s e))
no_Str d (Datum-F.Sym at x m) n h e = refl
no_Str d (Datum-F.List at ds) n h e = refl
no_Str d (Datum-F.Dotted at ds tail) n h e = refl
no_Str d (Datum-F.Vector at ds) n h e = refl

pub other_Str : (d : Datum) (n : List ℕ) → ((at : Place) (s : List ℕ) → d ≡ data_of.Str at s → ⊥) → false ≡ atom_is (text n) (form d)
other_Str d n h = no_Str d (out-Datum d) n h refl ∙ ap (atom_is (text n)) (sym (form_out d))

-- Data of no other kinds than these -------------------------------------------------------

out-Sym : (d : Datum) (at : Place) (x : List ℕ) (m : ℕ) → out-Datum d ≡ Datum-F.Sym at x m → d ≡ data_of.Sym at x m
out-Sym d at x m e = search (rules, data_of.the_lemmas)

out-List : (d : Datum) (at : Place) (ds : List Datum) → out-Datum d ≡ Datum-F.List at ds → d ≡ data_of.List at ds
out-List d at ds e = search (rules, data_of.the_lemmas)

module _ (P : Form → Type 0) (atoms : (at : Place) (a : Atom) → P (atom at a)) (dotteds : (at : Place) (ds : Forms) (d : Form) → P (dotted at ds d)) (vectors : (at : Place) (ds : Forms) → P (vector at ds)) where
  neither_layer : (d : Datum) (l : Datum-F Datum) → ((at : Place) (x : List ℕ) (m : ℕ) → d ≡ data_of.Sym at x m → ⊥) → ((at : Place) (ds : List Datum) → d ≡ data_of.List at ds → ⊥) → out-Datum d ≡ l → P (layered l)
  neither_layer d (Datum-F.Int at m) g h e = atoms at (number m)
  neither_layer d (Datum-F.Chr at b) g h e = atoms at (character b)
  neither_layer d (Datum-F.Bool at t) g h e = atoms at (truth t)
  neither_layer d (Datum-F.Unspec at) g h e = atoms at unspecified
  neither_layer d (Datum-F.Str at s) g h e = atoms at (text s)
  neither_layer d (Datum-F.Sym at x m) g h e = absurd (g at x m (out-Sym d at x m e))
  neither_layer d (Datum-F.List at ds) g h e = absurd (h at ds (out-List d at ds e))
  neither_layer d (Datum-F.Dotted at ds tail) g h e = dotteds at (forms (map form ds)) (form tail)
  neither_layer d (Datum-F.Vector at ds) g h e = vectors at (forms (map form ds))

  -- neither a symbol nor a list
  pub neither : (d : Datum) → ((at : Place) (x : List ℕ) (m : ℕ) → d ≡ data_of.Sym at x m → ⊥) → ((at : Place) (ds : List Datum) → d ≡ data_of.List at ds → ⊥) → P (form d)
  neither d g h = subst P (sym (form_out d)) (neither_layer d (out-Datum d) g h refl)

  no_list_layer : (d : Datum) (l : Datum-F Datum) → ((at : Place) (x : List ℕ) (m : ℕ) → P (symbol at x m)) → ((at : Place) (ds : List Datum) → d ≡ data_of.List at ds → ⊥) → out-Datum d ≡ l → P (layered l)
  no_list_layer d (Datum-F.Int at m) g h e = atoms at (number m)
  no_list_layer d (Datum-F.Chr at b) g h e = atoms at (character b)
  no_list_layer d (Datum-F.Bool at t) g h e = atoms at (truth t)
  no_list_layer d (Datum-F.Unspec at) g h e = atoms at unspecified
  no_list_layer d (Datum-F.Str at s) g h e = atoms at (text s)
  no_list_layer d (Datum-F.Sym at x m) g h e = g at x m
  no_list_layer d (Datum-F.List at ds) g h e = absurd (h at ds (out-List d at ds e))
  no_list_layer d (Datum-F.Dotted at ds tail) g h e = dotteds at (forms (map form ds)) (form tail)
  no_list_layer d (Datum-F.Vector at ds) g h e = vectors at (forms (map form ds))

  -- no list
  pub no_list : ((at : Place) (x : List ℕ) (m : ℕ) → P (symbol at x m)) → (d : Datum) → ((at : Place) (ds : List Datum) → d ≡ data_of.List at ds → ⊥) → P (form d)
  no_list g d h = subst P (sym (form_out d)) (no_list_layer d (out-Datum d) g h refl)

  no_symbol_layer : (d : Datum) (l : Datum-F Datum) → ((at : Place) (ds : Forms) → P (listed at ds)) → ((at : Place) (x : List ℕ) (m : ℕ) → d ≡ data_of.Sym at x m → ⊥) → out-Datum d ≡ l → P (layered l)
  no_symbol_layer d (Datum-F.Int at m) g h e = atoms at (number m)
  no_symbol_layer d (Datum-F.Chr at b) g h e = atoms at (character b)
  no_symbol_layer d (Datum-F.Bool at t) g h e = atoms at (truth t)
  no_symbol_layer d (Datum-F.Unspec at) g h e = atoms at unspecified
  no_symbol_layer d (Datum-F.Str at s) g h e = atoms at (text s)
  no_symbol_layer d (Datum-F.Sym at x m) g h e = absurd (h at x m (out-Sym d at x m e))
  no_symbol_layer d (Datum-F.List at ds) g h e = g at (forms (map form ds))
  no_symbol_layer d (Datum-F.Dotted at ds tail) g h e = dotteds at (forms (map form ds)) (form tail)
  no_symbol_layer d (Datum-F.Vector at ds) g h e = vectors at (forms (map form ds))

  -- no symbol
  pub no_symbol : ((at : Place) (ds : Forms) → P (listed at ds)) → (d : Datum) → ((at : Place) (x : List ℕ) (m : ℕ) → d ≡ data_of.Sym at x m → ⊥) → P (form d)
  no_symbol g d h = subst P (sym (form_out d)) (no_symbol_layer d (out-Datum d) g h refl)

-- Data as plain trees, one layer at a time, and how deep they nest.
use Rattle.std.proofs.Common.{◌≡◌, ℕ, ◌+◌, ◌≤◌, max, List, [], ◌∷◌, ◌++◌, map, refl, sym, ap, ◌∙◌, arith, rules}
use Rattle.scheme_data.specs.Data.{Plain, Plains, Number, Character, Truth, Unspecified, String, Symbol, Listed, Dotted, Vector, none, more, plains, plain, plain_all, nesting, deepest}
use Rattle.scheme_data.specs.declared.datum.Place.{Place}
use Rattle.scheme_data.specs.declared.datum.Datum.{Datum, out-Datum}
use Rattle.scheme_data.specs.declared.datum.Datum.TheOpen.{Datum-F}
use Rattle.scheme_data.specs.declared.datum.Datum as data_of
use Rattle.scheme_data.specs.declared.datum.Datum.TheVariants as datum
use Rattle.scheme_tokens.specs.declared.token.Atom.{Atom}
use Rattle.scheme_tokens.specs.declared.token.Atom.TheVariants as atom
use Rattle.scheme_read.specs.Grammar.{simple, joined, joined_layer}

plains_all : (ds : List Datum) → plains (map plain ds) ≡ plain_all ds
plains_all [] = refl
plains_all (d ∷ ds) = ap (more (plain d)) (plains_all ds)

abbrev mapped : Datum-F Datum → Plain
mapped (Datum-F.Int at n) = Number n
mapped (Datum-F.Chr at b) = Character b
mapped (Datum-F.Bool at t) = Truth t
mapped (Datum-F.Unspec at) = Unspecified
mapped (Datum-F.Str at text) = String text
mapped (Datum-F.Sym at name mark) = Symbol name mark
mapped (Datum-F.List at ds) = Listed (plains (map plain ds))
mapped (Datum-F.Dotted at ds tail) = Dotted (plains (map plain ds)) (plain tail)
mapped (Datum-F.Vector at ds) = Vector (plains (map plain ds))

pub plain_out : (d : Datum) → plain d ≡ mapped (out-Datum d)
plain_out d = search (rules, data_of.the_lemmas)

list_layer : (at : Place) (ds : List Datum) → plain (datum.List at ds) ≡ Listed (plains (map plain ds))
list_layer at ds = search (rules, data_of.the_lemmas)

vector_layer : (at : Place) (ds : List Datum) → plain (datum.Vector at ds) ≡ Vector (plains (map plain ds))
vector_layer at ds = search (rules, data_of.the_lemmas)

dotted_layer : (at : Place) (ds : List Datum) (tail : Datum) → plain (datum.Dotted at ds tail) ≡ Dotted (plains (map plain ds)) (plain tail)
dotted_layer at ds tail = search (rules, data_of.the_lemmas)

pub plain_list : (at : Place) (ds : List Datum) → plain (datum.List at ds) ≡ Listed (plain_all ds)
plain_list at ds = list_layer at ds ∙ ap Listed (plains_all ds)

pub plain_vector : (at : Place) (ds : List Datum) → plain (datum.Vector at ds) ≡ Vector (plain_all ds)
plain_vector at ds = vector_layer at ds ∙ ap Vector (plains_all ds)

pub plain_dotted : (at : Place) (ds : List Datum) (tail : Datum) → plain (datum.Dotted at ds tail) ≡ Dotted (plain_all ds) (plain tail)
plain_dotted at ds tail = dotted_layer at ds tail ∙ ap (λ ds. Dotted ds (plain tail)) (plains_all ds)

pub plain_symbol : (at : Place) (name : List ℕ) (mark : ℕ) → plain (datum.Sym at name mark) ≡ Symbol name mark
plain_symbol at name mark = search (rules, data_of.the_lemmas)

-- the plain tree of a datum that is one token
abbrev pub simple_plain : Atom → Plain
simple_plain (atom.Int n) = Number n
simple_plain (atom.Chr b) = Character b
simple_plain (atom.Bool t) = Truth t
simple_plain atom.Unspec = Unspecified
simple_plain (atom.Str text) = String text
simple_plain (atom.Sym name) = Symbol name 0

pub plain_simple : (at : Place) (a : Atom) → plain (simple at a) ≡ simple_plain a
plain_simple at (atom.Int n) = search (rules, data_of.the_lemmas)
plain_simple at (atom.Chr b) = search (rules, data_of.the_lemmas)
plain_simple at (atom.Bool t) = search (rules, data_of.the_lemmas)
plain_simple at atom.Unspec = search (rules, data_of.the_lemmas)
plain_simple at (atom.Str text) = search (rules, data_of.the_lemmas)
plain_simple at (atom.Sym name) = search (rules, data_of.the_lemmas)

abbrev pub append_plains : Plains → Plains → Plains
append_plains none es = es
append_plains (more d ds) es = more d (append_plains ds es)

plain_append : (ds es : List Datum) → plain_all (ds ++ es) ≡ append_plains (plain_all ds) (plain_all es)
plain_append [] es = refl
plain_append (d ∷ ds) es = ap (more (plain d)) (plain_append ds es)

-- the plain tree of items and a tail, which are one list with a tail that is a list
abbrev pub joined_plain : Plains → Plain → Plain
joined_plain ds (Listed es) = Listed (append_plains ds es)
joined_plain ds (Dotted es tail) = Dotted (append_plains ds es) tail
joined_plain ds tail = Dotted ds tail

joined_list : (at : Place) (ds es : List Datum) → plain (datum.List at (ds ++ es)) ≡ Listed (append_plains (plain_all ds) (plains (map plain es)))
joined_list at ds es = plain_list at (ds ++ es) ∙ ap Listed (plain_append ds es ∙ ap (append_plains (plain_all ds)) (sym (plains_all es)))

joined_dotted : (at : Place) (ds es : List Datum) (tail : Datum) → plain (datum.Dotted at (ds ++ es) tail) ≡ Dotted (append_plains (plain_all ds) (plains (map plain es))) (plain tail)
joined_dotted at ds es tail = plain_dotted at (ds ++ es) tail ∙ ap (λ ds. Dotted ds (plain tail)) (plain_append ds es ∙ ap (append_plains (plain_all ds)) (sym (plains_all es)))

plain_joined_layer : (at : Place) (ds : List Datum) (tail : Datum) (l : Datum-F Datum) → plain tail ≡ mapped l
    → plain (joined_layer at ds tail l) ≡ joined_plain (plain_all ds) (mapped l)
plain_joined_layer at ds tail (Datum-F.Int o n) e = plain_dotted at ds tail ∙ ap (Dotted (plain_all ds)) e
plain_joined_layer at ds tail (Datum-F.Chr o b) e = plain_dotted at ds tail ∙ ap (Dotted (plain_all ds)) e
plain_joined_layer at ds tail (Datum-F.Bool o t) e = plain_dotted at ds tail ∙ ap (Dotted (plain_all ds)) e
plain_joined_layer at ds tail (Datum-F.Unspec o) e = plain_dotted at ds tail ∙ ap (Dotted (plain_all ds)) e
plain_joined_layer at ds tail (Datum-F.Str o text) e = plain_dotted at ds tail ∙ ap (Dotted (plain_all ds)) e
plain_joined_layer at ds tail (Datum-F.Sym o name mark) e = plain_dotted at ds tail ∙ ap (Dotted (plain_all ds)) e
plain_joined_layer at ds tail (Datum-F.List o es) e = joined_list at ds es
plain_joined_layer at ds tail (Datum-F.Dotted o es last) e = joined_dotted at ds es last
plain_joined_layer at ds tail (Datum-F.Vector o es) e = plain_dotted at ds tail ∙ ap (Dotted (plain_all ds)) e

pub plain_joined : (at : Place) (ds : List Datum) (tail : Datum) → plain (joined at ds tail) ≡ joined_plain (plain_all ds) (plain tail)
plain_joined at ds tail = plain_joined_layer at ds tail (out-Datum tail) (plain_out tail) ∙ sym (ap (joined_plain (plain_all ds)) (plain_out tail))

-- Nesting.

deepest_append : (ds es : Plains) → deepest (append_plains ds es) ≡ max (deepest ds) (deepest es)
deepest_append none es = omega arith
deepest_append (more d ds) es = let h = deepest_append ds es in omega arith

pub nesting_joined : (ds : Plains) (tail : Plain) → nesting (joined_plain ds tail) ≤ 1 + max (deepest ds) (nesting tail)
nesting_joined ds (Number n) = omega arith
nesting_joined ds (Character b) = omega arith
nesting_joined ds (Truth t) = omega arith
nesting_joined ds Unspecified = omega arith
nesting_joined ds (String text) = omega arith
nesting_joined ds (Symbol name mark) = omega arith
nesting_joined ds (Listed es) = let h = deepest_append ds es in omega arith
nesting_joined ds (Dotted es last) = let h = deepest_append ds es in omega arith
nesting_joined ds (Vector es) = omega arith

pub nesting_simple : (a : Atom) → nesting (simple_plain a) ≡ 0
nesting_simple (atom.Int n) = refl
nesting_simple (atom.Chr b) = refl
nesting_simple (atom.Bool t) = refl
nesting_simple atom.Unspec = refl
nesting_simple (atom.Str text) = refl
nesting_simple (atom.Sym name) = refl

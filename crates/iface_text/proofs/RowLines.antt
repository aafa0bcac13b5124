-- A line is the spelling of one row or name at most, and that is what is made of it.
use Rattle.std.proofs.Common.{◌≡◌, ◌≢◌, ℕ, zero, suc, ◌+◌, ◌-◌, ◌*◌, ◌/◌, List, [], ◌∷◌, length, drop, replicate, Bool, true, false, ◌&&◌, refl, ap, sym, ◌∙◌, subst, arith, Option, Some, None, if◌then◌else◌, length-append}
use Rattle.std.specs.Prelude.{codes}
use Rattle.std.proofs.lemmas.Bool.{and_parts}
use Rattle.std.proofs.lemmas.Slice.Eq.{bytes_eq-Decides}
use Rattle.scheme_data.specs.Names.{is_same}
use Rattle.scheme_data.specs.Symbols.{is_symbol_byte, is_symbol, IsSymbol}
use Rattle.scheme_data.proofs.SymbolTests.{symbol_by_test, symbol_test}
use Rattle.built_table.specs.declared.primitives.Ty.{Ty}
use Rattle.built_table.specs.declared.primitives.Ty.TheVariants.{Obj}
use Rattle.iface_text.specs.declared.interface.Row.{Row}
use Rattle.iface_text.specs.declared.interface.RowKind.{RowKind}
use Rattle.iface_text.specs.declared.interface.RowKind.TheVariants.{Fun}
use Rattle.iface_text.specs.Format.{more_types, types_text, kind_text, row_line, module_line, AreUntyped, IsUntyped}
use Rattle.iface_text.specs.Lines.{Lacks, checked_name, module_line_name, untyped_row, checked_row, first_word, candidate, row_of, NoRow, RowLine}
use Rattle.iface_text.proofs.Bytes.{passes_other, first_word_is}

-- Tests -------------------------------------------------------------------------------------

pub same_is : (xs ys : List ℕ) → is_same xs ys ≡ true → xs ≡ ys
same_is xs ys h = (bytes_eq-Decides xs ys).0 h

pub same_test : (xs ys : List ℕ) → xs ≡ ys → is_same xs ys ≡ true
same_test xs ys h = (bytes_eq-Decides xs ys).1 h

pub lacks_blank : (n : List ℕ) → IsSymbol n → Lacks 32 n
lacks_blank n h = passes_other is_symbol_byte 32 refl n h.bytes

pub lacks_line_end : (n : List ℕ) → IsSymbol n → Lacks 10 n
lacks_line_end n h = passes_other is_symbol_byte 10 refl n h.bytes

pub some_is : {A : Type 0} (x y : A) → Some x ≡ Some y → x ≡ y
some_is x y e = cc

-- The name of a module's line ---------------------------------------------------------------

checked_name_some : (line n : List ℕ) → IsSymbol n → line ≡ module_line n → checked_name line n ≡ Some n
checked_name_some line n h e = rw (symbol_test n h, same_test line (module_line n) e) refl

pub module_line_name_is : (name : List ℕ) → IsSymbol name → module_line_name (module_line name) ≡ Some name
unfolding module_line_name
module_line_name_is name h = checked_name_some (module_line name) name h refl

-- the line is that of this module
pub record ModuleLine (line name : List ℕ) : Type 0 where
  pub is_name : IsSymbol name
  pub are : line ≡ module_line name

checked_name_by : (line n name : List ℕ) (v : Bool) → (is_symbol n && is_same line (module_line n)) ≡ v → (if v then Some n else None) ≡ Some name → ModuleLine line name
checked_name_by line n name true e h =
    let p = and_parts (is_symbol n) (is_same line (module_line n)) e in
    subst (λ (m : List ℕ). ModuleLine line m) (some_is n name h) (record { is_name = symbol_by_test n p.0; are = same_is line (module_line n) p.1 })
checked_name_by line n name false e h = absurd (cc)

pub module_line_sound : (line name : List ℕ) → module_line_name line ≡ Some name → ModuleLine line name
unfolding module_line_name
module_line_sound line name h = checked_name_by line (drop 7 line) name (is_symbol (drop 7 line) && is_same line (module_line (drop 7 line))) refl h

module_none_by : (line : List ℕ) (o : Option (List ℕ)) → module_line_name line ≡ o → ((name : List ℕ) → IsSymbol name → line ≢ module_line name) → o ≡ None
module_none_by line None e h = refl
module_none_by line (Some name) e h = let m = module_line_sound line name e in absurd (h name m.is_name m.are)

pub module_line_none : (line : List ℕ) → ((name : List ℕ) → IsSymbol name → line ≢ module_line name) → module_line_name line ≡ None
module_line_none line h = module_none_by line (module_line_name line) refl h

-- A row -------------------------------------------------------------------------------------

objects_are : (ts : List Ty) → AreUntyped ts → ts ≡ replicate (length ts) Obj
objects_are [] h = refl
objects_are (t ∷ ts) h = let e : t ≡ Obj = h.0 in let f : ts ≡ replicate (length ts) Obj = objects_are ts h.1 in cc

pub are_objects : (n : ℕ) → AreUntyped (replicate n Obj)
are_objects zero = tt
are_objects (suc n) = (refl, are_objects n)

abbrev pub params_in : RowKind → ℕ
params_in (Fun params gives) = length params

kind_is : (k : RowKind) → IsUntyped k → k ≡ Fun (replicate (params_in k) Obj) Obj
kind_is (Fun params gives) h = let e = objects_are params h.0 in let f : gives ≡ Obj = h.1 in cc

pub untyped_is : (r : Row) → IsUntyped r.kind → untyped_row r.name (params_in r.kind) ≡ r
untyped_is r h = ap (λ (k : RowKind). let q : Row = record { name = r.name; kind = k } in q) (sym (kind_is r.kind h))

pub length-more : (n : ℕ) → length (more_types (replicate n Obj)) ≡ 4 * n
length-more zero = refl
length-more (suc n) = omega (arith, length-more n)

types_len : (n : ℕ) (k : ℕ) → ((4 + (k + (2 + (length (types_text (replicate n Obj)) + 5)))) - (k + 10)) / 4 ≡ n
types_len zero k = omega arith
types_len (suc n) k = omega (arith, length-more n)

line_len : (name : List ℕ) (n : ℕ) → length (row_line (untyped_row name n)) ≡ 4 + (length name + (2 + (length (types_text (replicate n Obj)) + 5)))
line_len name n = omega (arith, length-append name (kind_text (Fun (replicate n Obj) Obj)), length-append (types_text (replicate n Obj)) (codes ") obj"))

candidate_is : (name : List ℕ) (n : ℕ) → IsSymbol name → candidate (row_line (untyped_row name n)) (first_word (drop 4 (row_line (untyped_row name n)))) ≡ untyped_row name n
candidate_is name n h =
    let w : first_word (drop 4 (row_line (untyped_row name n))) ≡ name = first_word_is name _ (lacks_blank name h) in
    ap (candidate (row_line (untyped_row name n))) w ∙ ap (untyped_row name) (ap (λ (k : ℕ). (k - (length name + 10)) / 4) (line_len name n) ∙ types_len n (length name))

checked_some : (line : List ℕ) (r : Row) → IsSymbol r.name → line ≡ row_line r → checked_row line r ≡ Some r
checked_some line r h e = rw (symbol_test r.name h, same_test line (row_line r) e) refl

pub row_of_spelled : (name : List ℕ) (n : ℕ) → IsSymbol name → row_of (row_line (untyped_row name n)) ≡ Some (untyped_row name n)
unfolding row_of
row_of_spelled name n h = ap (checked_row (row_line (untyped_row name n))) (candidate_is name n h) ∙ checked_some (row_line (untyped_row name n)) (untyped_row name n) h refl

pub row_of_row : (line : List ℕ) (r : Row) → RowLine line r → row_of line ≡ Some r
row_of_row line r h = ap row_of h.are ∙ subst (λ (q : Row). row_of (row_line q) ≡ Some q) (untyped_is r h.is_untyped) (row_of_spelled r.name (params_in r.kind) h.is_name)

checked_by : (line name : List ℕ) (n : ℕ) (r : Row) (v : Bool) → (is_symbol name && is_same line (row_line (untyped_row name n))) ≡ v → (if v then Some (untyped_row name n) else None) ≡ Some r → RowLine line r
checked_by line name n r true e h =
    let p = and_parts (is_symbol name) (is_same line (row_line (untyped_row name n))) e in
    subst (λ (q : Row). RowLine line q) (some_is (untyped_row name n) r h) (record { is_name = symbol_by_test name p.0; is_untyped = (are_objects n, refl); are = same_is line (row_line (untyped_row name n)) p.1 })
checked_by line name n r false e h = absurd (cc)

pub row_of_sound : (line : List ℕ) (r : Row) → row_of line ≡ Some r → RowLine line r
unfolding row_of
row_of_sound line r h = checked_by line (first_word (drop 4 line)) ((length line - (length (first_word (drop 4 line)) + 10)) / 4) r _ refl h

row_none_by : (line : List ℕ) (o : Option Row) → row_of line ≡ o → NoRow line → o ≡ None
row_none_by line None e h = refl
row_none_by line (Some r) e h =
    let m = row_of_sound line r e in
    absurd (h r.name (params_in r.kind) m.is_name (m.are ∙ ap row_line (sym (untyped_is r m.is_untyped))))

pub row_of_none : (line : List ℕ) → NoRow line → row_of line ≡ None
row_of_none line h = row_none_by line (row_of line) refl h

-- two rows with one line are one
pub row_once : (r q : Row) → IsSymbol r.name → IsUntyped r.kind → IsSymbol q.name → IsUntyped q.kind → row_line r ≡ row_line q → r ≡ q
row_once r q r_named r_untyped q_named q_untyped e =
    some_is r q (sym (row_of_row (row_line r) r (record { is_name = r_named; is_untyped = r_untyped; are = refl })) ∙ row_of_row (row_line r) q (record { is_name = q_named; is_untyped = q_untyped; are = e }))

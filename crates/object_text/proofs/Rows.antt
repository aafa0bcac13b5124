-- The line of a row.
use Rattle.std.proofs.Common.{◌≡◌, ℕ, zero, suc, ◌*◌, List, [], ◌∷◌, ◌++◌, length, replicate, true, false, ◌&&◌, Result, Ok, Err, Option, Some, None, IfOk, IfSome, refl, ap, sym, ◌∙◌, subst, append_assoc, arith}
use Rattle.std.specs.Prelude.{codes}
use Rattle.std.specs.List.{list_all}
use Rattle.std.proofs.lemmas.Bool.{and_parts}
use Rattle.std.proofs.lemmas.List.Folds.{list_all-append}
use Rattle.std.proofs.lemmas.List.{append_cancel_left, append_cancel_right}
use Rattle.scheme_data.specs.Symbols.{is_symbol_byte, IsSymbol}
use Rattle.built_table.specs.declared.primitives.Ty.{Ty}
use Rattle.built_table.specs.declared.primitives.Ty.TheVariants.{Obj}
use Rattle.iface_text.specs.declared.interface.Row.{Row}
use Rattle.iface_text.specs.declared.interface.RowKind.{RowKind}
use Rattle.iface_text.specs.declared.interface.RowKind.TheVariants.{Fun}
use Rattle.iface_text.specs.Format.{more_types, types_text, kind_text, row_line, AreUntyped, IsUntyped}
use Rattle.iface_text.proofs.Bytes.{passes_other, lacks_append, cut_once}
use Rattle.iface_text.specs.Lines.{other_than, Lacks, untyped_row, NoRow}
use Rattle.object_text.specs.Header.{row_text, export_text, IsUntypedRow}
use Rattle.object_text.specs.Parts.{IsFirst, NoFirst, Anything}
use Rattle.object_text.proofs.Cuts.{named_once}
use Rattle.object_text.proofs.Runs.{Once}

-- Untyped rows ------------------------------------------------------------------------------

objects_are : (ts : List Ty) → AreUntyped ts → ts ≡ replicate (length ts) Obj
objects_are [] h = refl
objects_are (t ∷ ts) h = let e : t ≡ Obj = h.0 in let f : ts ≡ replicate (length ts) Obj = objects_are ts h.1 in cc

abbrev params_in : RowKind → ℕ
params_in (Fun params gives) = length params

kind_is : (k : RowKind) → IsUntyped k → k ≡ Fun (replicate (params_in k) Obj) Obj
kind_is (Fun params gives) h = let e = objects_are params h.0 in let f : gives ≡ Obj = h.1 in cc

untyped_is : (r : Row) → IsUntypedRow r → r ≡ untyped_row r.name (params_in r.kind)
untyped_is r h = ap (λ (k : RowKind). let q : Row = record { name = r.name; kind = k } in q) (kind_is r.kind h.untyped)

more_lacks : (n : ℕ) → Lacks 10 (more_types (replicate n Obj))
more_lacks zero = refl
more_lacks (suc n) = more_lacks n

types_lack : (n : ℕ) → Lacks 10 (types_text (replicate n Obj))
types_lack zero = refl
types_lack (suc n) = more_lacks n

untyped_lacks : (name : List ℕ) (n : ℕ) → IsSymbol name → Lacks 10 (row_line (untyped_row name n))
untyped_lacks name n h =
    lacks_append 10 name (kind_text (Fun (replicate n Obj) Obj)) (passes_other is_symbol_byte 10 refl name h.bytes)
    (lacks_append 10 (types_text (replicate n Obj)) (codes ") obj") (types_lack n) refl)

row_lacks : (r : Row) → IsUntypedRow r → Lacks 10 (row_line r)
row_lacks r h = subst (λ (q : Row). Lacks 10 (row_line q)) (sym (untyped_is r h)) (untyped_lacks r.name (params_in r.kind) h.name)

length-more : (n : ℕ) → length (more_types (replicate n Obj)) ≡ 4 * n
length-more zero = refl
length-more (suc n) = omega (arith, length-more n)

same_count : (n m : ℕ) → length (types_text (replicate n Obj)) ≡ length (types_text (replicate m Obj)) → n ≡ m
same_count zero zero e = refl
same_count zero (suc m) e = absurd (omega arith)
same_count (suc n) zero e = absurd (omega arith)
same_count (suc n) (suc m) e = omega (arith, length-more n, length-more m)

untyped_once : (x y : List ℕ) (n m : ℕ) → IsSymbol x → IsSymbol y → row_line (untyped_row x n) ≡ row_line (untyped_row y m) → untyped_row x n ≡ untyped_row y m
untyped_once x y n m h k e =
    let s = named_once (row_line (untyped_row x n)) (codes "fun ") x (kind_text (Fun (replicate n Obj) Obj)) y (kind_text (Fun (replicate m Obj) Obj))
    (record { are = refl; is_name = h; stops = refl }) (record { are = e; is_name = k; stops = refl }) in
    let t : types_text (replicate n Obj) ++ codes ") obj" ≡ types_text (replicate m Obj) ++ codes ") obj" = append_cancel_left (codes " (") (types_text (replicate n Obj) ++ codes ") obj") (types_text (replicate m Obj) ++ codes ") obj") s.rest in
    let u : types_text (replicate n Obj) ≡ types_text (replicate m Obj) = append_cancel_right (types_text (replicate n Obj)) (types_text (replicate m Obj)) (codes ") obj") t in
    ap (λ (z : List ℕ). untyped_row z n) s.name ∙ ap (untyped_row y) (same_count n m (ap length u))

rows_once : (r q : Row) → IsUntypedRow r → IsUntypedRow q → row_line r ≡ row_line q → r ≡ q
rows_once r q h k e =
    untyped_is r h
    ∙ untyped_once r.name q.name (params_in r.kind) (params_in q.kind) h.name k.name (ap row_line (sym (untyped_is r h)) ∙ e ∙ ap row_line (untyped_is q k))
    ∙ sym (untyped_is q k)

-- Lines -------------------------------------------------------------------------------------

line_of : (bytes rest : List ℕ) (r : Row) → bytes ≡ row_text r ++ rest → bytes ≡ row_line r ++ 10 ∷ rest
line_of bytes rest r e = e ∙ append_assoc (row_line r) (10 ∷ []) rest

pub row_once : Once row_text IsUntypedRow Anything
row_once bytes r q us vs h k =
    let s = cut_once 10 (row_line r) us (row_line q) vs (row_lacks r h.is_part) (row_lacks q k.is_part) (sym (line_of bytes us r h.are) ∙ line_of bytes vs q k.are) in
    record { part = rows_once r q h.is_part k.is_part s.before; rest = s.after }

-- the first line is no row's
pub no_row : (bytes before after : List ℕ) → bytes ≡ before ++ 10 ∷ after → Lacks 10 before → NoRow before → NoFirst row_text IsUntypedRow Anything bytes
no_row bytes before after e lacks none r rest h =
    let s = cut_once 10 before after (row_line r) rest lacks (row_lacks r h.is_part) (sym e ∙ line_of bytes rest r h.are) in
    none r.name (params_in r.kind) h.is_part.name (s.before ∙ ap row_line (untyped_is r h.is_part))

with_line_end : (line rest : List ℕ) → Lacks 10 (line ++ 10 ∷ rest) → ⊥
with_line_end line rest h =
    let both : (list_all (other_than 10) line && list_all (other_than 10) (10 ∷ rest)) ≡ true = sym (list_all-append (other_than 10) line (10 ∷ rest)) ∙ h in
    let q : false ≡ true = (and_parts (list_all (other_than 10) line) (list_all (other_than 10) (10 ∷ rest)) both).1 in
    absurd (cc)

-- without a line's end there is no row's line
pub no_line_end : (bytes : List ℕ) → Lacks 10 bytes → NoFirst row_text IsUntypedRow Anything bytes
no_line_end bytes h part rest f =
    with_line_end (row_line part) rest (subst (λ (bs : List ℕ). Lacks 10 bs) (f.are ∙ append_assoc (row_line part) (10 ∷ []) rest) h)

-- the line of an export is the word and a row's line
pub export_first : {F E : Type 0} (part : F → Row) (rest : F → List ℕ) (bytes after : List ℕ) (r : Result (Option F) E) → bytes ≡ codes "export " ++ after
    → IfOk r (λ o. IfSome o (λ f. IsFirst row_text IsUntypedRow Anything after (part f) (rest f))) → IfOk r (λ o. IfSome o (λ f. IsFirst export_text IsUntypedRow Anything bytes (part f) (rest f)))
export_first part rest bytes after (Ok None) e h = tt
export_first part rest bytes after (Ok (Some f)) e h = record { are = e ∙ ap (λ (bs : List ℕ). codes "export " ++ bs) h.are; is_part = h.is_part; ends = tt }
export_first part rest bytes after (Err x) e h = tt

-- The parts of a row's line.
use Rattle.std.proofs.Common.{◌≡◌, ◌≢◌, ℕ, List, ◌∷◌, ◌++◌, true, false, ◌&&◌, replicate, refl, ap, sym, ◌∙◌, subst}
use Rattle.std.specs.Prelude.{codes, Option, Some}
use Rattle.std.specs.List.{list_all}
use Rattle.std.proofs.lemmas.Bool.{and_parts}
use Rattle.std.proofs.lemmas.List.Folds.{list_all-append}
use Rattle.std.proofs.lemmas.List.{append_cancel_left, append_cancel_right}
use Rattle.scheme_data.specs.Symbols.{IsSymbol}
use Rattle.built_table.specs.declared.primitives.Ty.{Ty}
use Rattle.built_table.specs.declared.primitives.Ty.TheVariants.{Obj}
use Rattle.iface_text.specs.declared.interface.Row.{Row}
use Rattle.iface_text.specs.declared.interface.RowKind.TheVariants.{Fun}
use Rattle.iface_text.specs.Format.{row_line}
use Rattle.iface_text.specs.Lines.{other_than, Lacks, untyped_row, NoRow, RowLine, row_of}
use Rattle.iface_text.proofs.Bytes.{SameCut, cut_once}
use Rattle.iface_text.proofs.RowLines.{lacks_blank, are_objects, row_of_spelled}
use Rattle.iface_text.proofs.Counts.{objects_text}

-- what follows the name and the blank
abbrev pub row_tail : ℕ → List ℕ
row_tail n = codes "(" ++ (objects_text n ++ codes ") obj")

-- the line begins with `fun ` and a first word
pub record FirstCut (line before rest : List ℕ) : Type 0 where
  pub are : line ≡ codes "fun " ++ (before ++ 32 ∷ rest)
  pub lacks : Lacks 32 before

pub first_cut : (line after before rest : List ℕ) → line ≡ codes "fun " ++ after → after ≡ before ++ 32 ∷ rest → Lacks 32 before → FirstCut line before rest
first_cut line after before rest e f h = record { are = e ∙ ap (λ (bs : List ℕ). codes "fun " ++ bs) f; lacks = h }

same_parts : (line before rest name : List ℕ) (n : ℕ) → FirstCut line before rest → IsSymbol name → line ≡ row_line (untyped_row name n) → SameCut before rest name (row_tail n)
same_parts line before rest name n cut h e =
    cut_once 32 before rest name (row_tail n) cut.lacks (lacks_blank name h) (append_cancel_left (codes "fun ") (before ++ 32 ∷ rest) (name ++ 32 ∷ row_tail n) (sym cut.are ∙ e))

with_blank : (name tail : List ℕ) → Lacks 32 (name ++ 32 ∷ tail) → ⊥
with_blank name tail h =
    let both : (list_all (other_than 32) name && list_all (other_than 32) (32 ∷ tail)) ≡ true = sym (list_all-append (other_than 32) name (32 ∷ tail)) ∙ h in
    let q : false ≡ true = (and_parts (list_all (other_than 32) name) (list_all (other_than 32) (32 ∷ tail)) both).1 in
    absurd (cc)

-- a row's line has a blank behind the name
pub no_blank : (line after : List ℕ) → line ≡ codes "fun " ++ after → Lacks 32 after → NoRow line
no_blank line after e h name n named f =
    with_blank name (row_tail n) (subst (Lacks 32) (append_cancel_left (codes "fun ") after (name ++ 32 ∷ row_tail n) (sym e ∙ f)) h)

pub no_name : (line before rest : List ℕ) → FirstCut line before rest → (IsSymbol before → ⊥) → NoRow line
no_name line before rest cut none name n h e = none (subst IsSymbol (sym (same_parts line before rest name n cut h e).before) h)

pub no_bracket : (line before rest : List ℕ) → FirstCut line before rest → ((types : List ℕ) → rest ≢ codes "(" ++ types) → NoRow line
no_bracket line before rest cut none name n h e = none (objects_text n ++ codes ") obj") (same_parts line before rest name n cut h e).after

types_are : (line before rest types name : List ℕ) (n : ℕ) → FirstCut line before rest → rest ≡ codes "(" ++ types → IsSymbol name → line ≡ row_line (untyped_row name n) → types ≡ objects_text n ++ codes ") obj"
types_are line before rest types name n cut f h e = append_cancel_left (codes "(") types (objects_text n ++ codes ") obj") (sym f ∙ (same_parts line before rest name n cut h e).after)

pub no_result : (line before rest types : List ℕ) → FirstCut line before rest → rest ≡ codes "(" ++ types → ((front : List ℕ) → types ≢ front ++ codes ") obj") → NoRow line
no_result line before rest types cut f none name n h e = none (objects_text n) (types_are line before rest types name n cut f h e)

pub no_types : (line before rest types params : List ℕ) → FirstCut line before rest → rest ≡ codes "(" ++ types → types ≡ params ++ codes ") obj" → ((n : ℕ) → params ≢ objects_text n) → NoRow line
no_types line before rest types params cut f g none name n h e =
    none n (append_cancel_right params (objects_text n) (codes ") obj") (sym g ∙ types_are line before rest types name n cut f h e))

pub row_found : (line before rest types params : List ℕ) (n : ℕ) → FirstCut line before rest → rest ≡ codes "(" ++ types → types ≡ params ++ codes ") obj" → params ≡ objects_text n → line ≡ row_line (untyped_row before n)
row_found line before rest types params n cut f g k =
    cut.are ∙ ap (λ (bs : List ℕ). codes "fun " ++ (before ++ 32 ∷ bs)) (f ∙ ap (λ (bs : List ℕ). codes "(" ++ bs) (g ∙ ap (λ (bs : List ℕ). bs ++ codes ") obj") k))

-- the row that was put together
pub made_row : (line part name : List ℕ) (n : ℕ) (types : List Ty) → IsSymbol part → line ≡ row_line (untyped_row part n) → name ≡ part → types ≡ replicate n Obj
    → ◌≡◌ {A = Option Row} (Some (record { name = name; kind = Fun types Obj })) (row_of line)
made_row line part name n types h e f g = rw (f, g) (sym (ap row_of e ∙ row_of_spelled part n h))

pub made_row_line : (line part name : List ℕ) (n : ℕ) (types : List Ty) → IsSymbol part → line ≡ row_line (untyped_row part n) → name ≡ part → types ≡ replicate n Obj
    → RowLine line (record { name = name; kind = Fun types Obj })
made_row_line line part name n types h e f g = rw (f, g) (record { is_name = h; is_untyped = (are_objects n, refl); are = e })

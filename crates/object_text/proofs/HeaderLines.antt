-- Each kind of line stands in a text in one way.
use Rattle.std.proofs.Common.{◌≡◌, ◌≢◌, ℕ, List, [], ◌∷◌, ◌++◌, refl, ap, sym, ◌∙◌, subst, append_assoc, true, false, Option, Some, None}
use Rattle.std.specs.Prelude.{codes, length}
use Rattle.std.proofs.lemmas.List.{append_cancel_left}
use Rattle.scheme_data.specs.Symbols.{IsSymbol}
use Rattle.iface_text.specs.declared.interface.Row.{Row}
use Rattle.iface_text.specs.Format.{row_line}
use Rattle.core_tree.specs.declared.tree.ImportItem.{ImportItem}
use Rattle.core_tree.specs.declared.tree.Use.TheVariants.{From, Need}
use Rattle.core_tree.specs.WellFormed.{IsImport, AreNames, has_some}
use Rattle.object_text.specs.Format.{more_names, IsUseRow, main_line}
use Rattle.object_text.specs.Header.{EndsName, IsNamed, name_text, import_text, use_text, row_text, export_text, IsUntypedRow, IsUsed, NotUsed, main_text, IsMainRead}
use Rattle.object_text.specs.Parts.{texts, AllAre, IsFirst, NoFirst, IsRun, Anything}
use Rattle.object_text.proofs.Cuts.{named_once}
use Rattle.object_text.proofs.Rows.{row_once}
use Rattle.object_text.proofs.Runs.{Once, Follows, rest_ends, runs_once}
use Rattle.object_text.proofs.Starts.{starts_with}

-- Names -------------------------------------------------------------------------------------

name_once : Once name_text IsSymbol EndsName
name_once bytes a b r s h k =
    let z = named_once bytes (codes " ") a r b s (record { are = h.are; is_name = h.is_part; stops = h.ends }) (record { are = k.are; is_name = k.is_part; stops = k.ends }) in
    record { part = z.name; rest = z.rest }

name_follows : Follows name_text EndsName
name_follows a r = refl

pub names_text : (ns : List (List ℕ)) → more_names ns ≡ texts name_text ns
names_text [] = refl
names_text (x ∷ xs) = ap (λ (bs : List ℕ). 32 ∷ (x ++ bs)) (names_text xs)

all_names : (ns : List (List ℕ)) → AreNames ns → AllAre IsSymbol ns
all_names [] h = tt
all_names (x ∷ xs) h = (h.0, all_names xs h.1)

are_names : (ns : List (List ℕ)) → AllAre IsSymbol ns → AreNames ns
are_names [] h = tt
are_names (x ∷ xs) h = (h.0, are_names xs h.1)

-- Imports -----------------------------------------------------------------------------------

regrouped : (a b d r : List ℕ) → ((a ++ (b ++ d)) ++ 10 ∷ []) ++ r ≡ a ++ (b ++ (d ++ 10 ∷ r))
regrouped a b d r = simp append_assoc

import_bytes : (i : ImportItem) (rest : List ℕ) → import_text i ++ rest ≡ codes "import " ++ (i.module_name ++ (texts name_text i.names ++ 10 ∷ rest))
import_bytes i rest = regrouped (codes "import ") i.module_name (more_names i.names) rest ∙ ap (λ (bs : List ℕ). codes "import " ++ (i.module_name ++ (bs ++ 10 ∷ rest))) (names_text i.names)

import_named : (bytes : List ℕ) (i : ImportItem) (rest : List ℕ) → IsFirst import_text IsImport Anything bytes i rest → IsNamed bytes (codes "import ") i.module_name (texts name_text i.names ++ 10 ∷ rest)
import_named bytes i rest h = record { are = h.are ∙ import_bytes i rest; is_name = h.is_part.module_name; stops = rest_ends name_text EndsName i.names (10 ∷ rest) name_follows refl }

import_names : (i : ImportItem) (rest after : List ℕ) → IsImport i → after ≡ texts name_text i.names ++ 10 ∷ rest → IsRun name_text IsSymbol EndsName after i.names (10 ∷ rest)
import_names i rest after h e = record { are = e; are_parts = all_names i.names h.names; ends = refl; none = λ x r k. let q : 10 ∷ rest ≡ 32 ∷ (x ++ r) = k.are in absurd (cc) }

-- the parts of an import line
pub record SameImport (m : List ℕ) (ns : List (List ℕ)) (left : List ℕ) (i : ImportItem) (rest : List ℕ) : Type 0 where
  pub module_name : m ≡ i.module_name
  pub names : ns ≡ i.names
  pub rest_is : left ≡ 10 ∷ rest

pub same_import : (bytes m after : List ℕ) (ns : List (List ℕ)) (left : List ℕ) (i : ImportItem) (rest : List ℕ) → IsNamed bytes (codes "import ") m after → IsRun name_text IsSymbol EndsName after ns left
    → IsFirst import_text IsImport Anything bytes i rest → SameImport m ns left i rest
same_import bytes m after ns left i rest named run h =
    let s = named_once bytes (codes "import ") m after i.module_name (texts name_text i.names ++ 10 ∷ rest) named (import_named bytes i rest h) in
    let t = runs_once name_text IsSymbol EndsName name_once name_follows after ns i.names left (10 ∷ rest) run (import_names i rest after h.is_part s.rest) in
    record { module_name = s.name; names = t.parts; rest_is = t.rest }

pub import_once : Once import_text IsImport Anything
import_once bytes i j r s h k =
    let t = same_import bytes i.module_name (texts name_text i.names ++ 10 ∷ r) i.names (10 ∷ r) j s (import_named bytes i r h) (import_names i r (texts name_text i.names ++ 10 ∷ r) h.is_part refl) k in
    let a : i.module_name ≡ j.module_name = t.module_name in
    let b : i.names ≡ j.names = t.names in
    let d : 10 ∷ r ≡ 10 ∷ s = t.rest_is in
    record { part = same_item i j a b; rest = cc } where
      same_item : (i j : ImportItem) → i.module_name ≡ j.module_name → i.names ≡ j.names → i ≡ j
      same_item i j a b = ap (λ (m : List ℕ). let q : ImportItem = record { module_name = m; names = i.names } in q) a ∙ ap (λ (ns : List (List ℕ)). let q : ImportItem = record { module_name = j.module_name; names = ns } in q) b

some_names : (ns : List (List ℕ)) → length ns ≢ 0 → has_some ns ≡ true
some_names [] h = absurd (h refl)
some_names (x ∷ xs) h = refl

pub no_names : (bytes m after : List ℕ) (ns : List (List ℕ)) (left : List ℕ) → IsNamed bytes (codes "import ") m after → IsRun name_text IsSymbol EndsName after ns left → length ns ≡ 0 → NoFirst import_text IsImport Anything bytes
no_names bytes m after ns left named run none i rest h =
    let s = same_import bytes m after ns left i rest named run h in
    empty i.names (sym (ap length s.names) ∙ none) h.is_part.some where
      empty : (xs : List (List ℕ)) → length xs ≡ 0 → has_some xs ≡ true → ⊥
      empty [] z e = absurd (cc)
      empty (x ∷ xs) z e = absurd (cc)

pub no_import_end : (bytes m after : List ℕ) (ns : List (List ℕ)) (left : List ℕ) → IsNamed bytes (codes "import ") m after → IsRun name_text IsSymbol EndsName after ns left
    → ((r : List ℕ) → left ≢ 10 ∷ r) → NoFirst import_text IsImport Anything bytes
no_import_end bytes m after ns left named run none i rest h = let s = same_import bytes m after ns left i rest named run h in none rest s.rest_is

pub import_found : (bytes m after : List ℕ) (ns : List (List ℕ)) (left : List ℕ) (i : ImportItem) (rest : List ℕ) → IsNamed bytes (codes "import ") m after → IsRun name_text IsSymbol EndsName after ns left
    → length ns ≢ 0 → left ≡ 10 ∷ rest → i.module_name ≡ m → i.names ≡ ns → IsFirst import_text IsImport Anything bytes i rest
import_found bytes m after ns left i rest named run some e mi ni = record {
  are = named.are ∙ ap (λ (bs : List ℕ). codes "import " ++ (m ++ bs)) (run.are ∙ ap (λ (bs : List ℕ). texts name_text ns ++ bs) e) ∙ same_bytes ∙ sym (import_bytes i rest);
  is_part = record {
    module_name = subst IsSymbol (sym mi) named.is_name;
    names = subst AreNames (sym ni) (are_names ns run.are_parts);
    some = subst (λ (xs : List (List ℕ)). has_some xs ≡ true) (sym ni) (some_names ns some);
  };
  ends = tt;
} where
  same_bytes : codes "import " ++ (m ++ (texts name_text ns ++ 10 ∷ rest)) ≡ codes "import " ++ (i.module_name ++ (texts name_text i.names ++ 10 ∷ rest))
  same_bytes = rw (mi, ni) refl

-- Uses --------------------------------------------------------------------------------------

record SameUsed (m n : List ℕ) (r q : Row) (u v : List ℕ) : Type 0 where
  module_name : m ≡ n
  row : r ≡ q
  rest : u ≡ v

used_named : (bytes front m : List ℕ) (r : Row) (rest : List ℕ) → IsUsed bytes front m r rest → IsNamed bytes front m (32 ∷ (row_text r ++ rest))
used_named bytes front m r rest h = record { are = h.are; is_name = h.is_name; stops = refl }

used_once : (bytes front m n : List ℕ) (r q : Row) (u v : List ℕ) → IsUsed bytes front m r u → IsUsed bytes front n q v → SameUsed m n r q u v
used_once bytes front m n r q u v h k =
    let s = named_once bytes front m (32 ∷ (row_text r ++ u)) n (32 ∷ (row_text q ++ v)) (used_named bytes front m r u h) (used_named bytes front n q v k) in
    let e : 32 ∷ (row_text r ++ u) ≡ 32 ∷ (row_text q ++ v) = s.rest in
    let t = row_once (row_text r ++ u) r q u v (record { are = refl; is_part = h.row; ends = tt }) (record { are = cc; is_part = k.row; ends = tt }) in
    record { module_name = s.name; row = t.part; rest = t.rest }

pub no_blank : (bytes front m after : List ℕ) → IsNamed bytes front m after → ((r : List ℕ) → after ≢ 32 ∷ r) → NotUsed bytes front
no_blank bytes front m after named none n r rest h =
    let s = named_once bytes front m after n (32 ∷ (row_text r ++ rest)) named (used_named bytes front n r rest h) in
    none (row_text r ++ rest) s.rest

pub no_used_row : (bytes front m after left : List ℕ) → IsNamed bytes front m after → after ≡ 32 ∷ left → NoFirst row_text IsUntypedRow Anything left → NotUsed bytes front
no_used_row bytes front m after left named e none n r rest h =
    let s = named_once bytes front m after n (32 ∷ (row_text r ++ rest)) named (used_named bytes front n r rest h) in
    let t : 32 ∷ left ≡ 32 ∷ (row_text r ++ rest) = sym e ∙ s.rest in
    none r rest (record { are = cc; is_part = h.row; ends = tt })

use_grouped : (front m l rest : List ℕ) → ((front ++ (m ++ 32 ∷ l)) ++ 10 ∷ []) ++ rest ≡ front ++ (m ++ (32 ∷ ((l ++ 10 ∷ []) ++ rest)))
use_grouped front m l rest = simp append_assoc

from_used : (bytes m : List ℕ) (r : Row) (rest : List ℕ) → IsFirst use_text IsUseRow Anything bytes (From m r) rest → IsUsed bytes (codes "use ") m r rest
from_used bytes m r rest h = record { are = h.are ∙ use_grouped (codes "use ") m (row_line r) rest; is_name = h.is_part.module_name; row = record { name = h.is_part.name; untyped = h.is_part.untyped } }

need_used : (bytes m : List ℕ) (r : Row) (rest : List ℕ) → IsFirst use_text IsUseRow Anything bytes (Need m r) rest → IsUsed bytes (codes "need ") m r rest
need_used bytes m r rest h = record { are = h.are ∙ use_grouped (codes "need ") m (row_line r) rest; is_name = h.is_part.module_name; row = record { name = h.is_part.name; untyped = h.is_part.untyped } }

unlike : true ≡ false → ⊥
unlike e = absurd (cc)

no_use_of_need : (m : List ℕ) (r : Row) (u n : List ℕ) (q : Row) (v : List ℕ) → use_text (Need m r) ++ u ≡ use_text (From n q) ++ v → ⊥
no_use_of_need m r u n q v e = unlike (ap (starts_with 110) e)

pub use_once : Once use_text IsUseRow Anything
use_once bytes (From m r) (From n q) u v h k =
    let s = used_once bytes (codes "use ") m n r q u v (from_used bytes m r u h) (from_used bytes n q v k) in
    let a : m ≡ n = s.module_name in let b : r ≡ q = s.row in
    record { part = ap (λ (x : List ℕ). From x r) a ∙ ap (From n) b; rest = s.rest }
use_once bytes (From m r) (Need n q) u v h k = absurd (no_use_of_need n q v m r u (sym k.are ∙ h.are))
use_once bytes (Need m r) (From n q) u v h k = absurd (no_use_of_need m r u n q v (sym h.are ∙ k.are))
use_once bytes (Need m r) (Need n q) u v h k =
    let s = used_once bytes (codes "need ") m n r q u v (need_used bytes m r u h) (need_used bytes n q v k) in
    let a : m ≡ n = s.module_name in let b : r ≡ q = s.row in
    record { part = ap (λ (x : List ℕ). Need x r) a ∙ ap (Need n) b; rest = s.rest }

-- Exports -----------------------------------------------------------------------------------

export_grouped : (l rest : List ℕ) → ((codes "export " ++ l) ++ 10 ∷ []) ++ rest ≡ codes "export " ++ ((l ++ 10 ∷ []) ++ rest)
export_grouped l rest = refl

pub export_once : Once export_text IsUntypedRow Anything
export_once bytes r q u v h k =
    let e : row_text r ++ u ≡ row_text q ++ v = append_cancel_left (codes "export ") (row_text r ++ u) (row_text q ++ v) (sym h.are ∙ k.are) in
    row_once (row_text r ++ u) r q u v (record { are = refl; is_part = h.is_part; ends = tt }) (record { are = e; is_part = k.is_part; ends = tt })

-- The main function -------------------------------------------------------------------------

main_bytes : (f rest : List ℕ) → main_text (Some f) ++ rest ≡ codes "main fun " ++ (f ++ (codes " (obj) obj\n" ++ rest))
main_bytes f rest = grouped f (codes " (obj) obj") rest where
  grouped : (x y z : List ℕ) → ((codes "main fun " ++ (x ++ y)) ++ 10 ∷ []) ++ z ≡ codes "main fun " ++ (x ++ (y ++ 10 ∷ z))
  grouped x y z = simp append_assoc

main_end : (f rest : List ℕ) → main_text (Some f) ++ rest ≡ main_line f ++ 10 ∷ rest
main_end f rest = append_assoc (main_line f) (10 ∷ []) rest

main_named : (bytes f rest : List ℕ) → IsSymbol f → bytes ≡ main_line f ++ 10 ∷ rest → IsNamed bytes (codes "main fun ") f (codes " (obj) obj\n" ++ rest)
main_named bytes f rest h e = record { are = e ∙ sym (main_end f rest) ∙ main_bytes f rest; is_name = h; stops = refl }

pub no_main_end : (bytes f after : List ℕ) → IsNamed bytes (codes "main fun ") f after → ((r : List ℕ) → after ≢ codes " (obj) obj\n" ++ r) → IsMainRead bytes None bytes
no_main_end bytes f after named none = record {
  are = refl;
  is_name = tt;
  none = λ g rest h e.
      let s = named_once bytes (codes "main fun ") f after g (codes " (obj) obj\n" ++ rest) named (main_named bytes g rest h e) in none rest s.rest;
}

pub main_found : (bytes f name after rest : List ℕ) → IsNamed bytes (codes "main fun ") f after → after ≡ codes " (obj) obj\n" ++ rest → name ≡ f → IsMainRead bytes (Some name) rest
main_found bytes f name after rest named e q = record {
  are = named.are ∙ ap (λ (bs : List ℕ). codes "main fun " ++ (f ++ bs)) e ∙ ap (λ (x : List ℕ). codes "main fun " ++ (x ++ (codes " (obj) obj\n" ++ rest))) (sym q) ∙ sym (main_bytes name rest);
  is_name = subst IsSymbol (sym q) named.is_name;
  none = tt;
}

pub record SameMain (f g : Option (List ℕ)) (r s : List ℕ) : Type 0 where
  pub name : f ≡ g
  pub rest : r ≡ s

pub main_once : (bytes : List ℕ) (f g : Option (List ℕ)) (r s : List ℕ) → IsMainRead bytes f r → IsMainRead bytes g s → SameMain f g r s
main_once bytes None None r s h k = record { name = refl; rest = sym h.are ∙ k.are }
main_once bytes None (Some g) r s h k = absurd (h.none g s k.is_name (sym h.are ∙ k.are ∙ main_end g s))
main_once bytes (Some f) None r s h k = absurd (k.none f r h.is_name (sym k.are ∙ h.are ∙ main_end f r))
main_once bytes (Some f) (Some g) r s h k =
    let z = named_once bytes (codes "main fun ") f (codes " (obj) obj\n" ++ r) g (codes " (obj) obj\n" ++ s)
    (main_named bytes f r h.is_name (h.are ∙ main_end f r)) (main_named bytes g s k.is_name (k.are ∙ main_end g s)) in
    record { name = ap Some z.name; rest = append_cancel_left (codes " (obj) obj\n") r s z.rest }

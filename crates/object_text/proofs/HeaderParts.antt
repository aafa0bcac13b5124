-- A header, taken apart in the one way.
use Rattle.std.proofs.Common.{◌≡◌, ℕ, List, [], ◌∷◌, ◌++◌, map, refl, ap, sym, ◌∙◌, subst, append_assoc, append-nil, Option, Some, None}
use Rattle.std.specs.Prelude.{codes}
use Rattle.scheme_data.specs.Symbols.{IsSymbol}
use Rattle.iface_text.specs.declared.interface.Row.{Row}
use Rattle.iface_text.specs.Format.{ended}
use Rattle.core_tree.specs.declared.tree.ImportItem.{ImportItem}
use Rattle.core_tree.specs.declared.tree.Use.{Use}
use Rattle.core_tree.specs.WellFormed.{IsImport, AreImports}
use Rattle.object_text.specs.Format.{ObjectTree, import_line, use_line, export_line, main_line, main_lines, code_line, header_lines, IsUseRow, AreUseRows, IsMainName}
use Rattle.object_text.specs.Header.{IsNamed, import_text, use_text, export_text, IsUntypedRow, main_text, NoneLeft, IsMainRead}
use Rattle.object_text.specs.Headers.{AreLines, NoLines}
use Rattle.object_text.specs.Parts.{texts, AllAre, IsRun, Anything}
use Rattle.object_text.proofs.Cuts.{named_once}
use Rattle.object_text.proofs.HeaderLines.{import_once, use_once, export_once, main_once}
use Rattle.object_text.proofs.Runs.{runs_once}
use Rattle.object_text.proofs.Starts.{no_import, no_use, no_export, no_main, uses_start, exports_start, main_start}

abbrev pub front : List ℕ
front = codes "bigloo-object 1\nmodule "

-- The text of a header ----------------------------------------------------------------------

abbrev pub after_main : List ℕ → List ℕ
after_main unit = codes "code\n" ++ unit

abbrev pub after_exports : Option (List ℕ) → List ℕ → List ℕ
after_exports f unit = main_text f ++ after_main unit

abbrev pub after_uses : List Row → Option (List ℕ) → List ℕ → List ℕ
after_uses es f unit = texts export_text es ++ after_exports f unit

abbrev pub after_imports : List Use → List Row → Option (List ℕ) → List ℕ → List ℕ
after_imports us es f unit = texts use_text us ++ after_uses es f unit

abbrev pub after_name : List ImportItem → List Use → List Row → Option (List ℕ) → List ℕ → List ℕ
after_name is us es f unit = texts import_text is ++ after_imports us es f unit

lines_then : {A : Type 0} (line : A → List ℕ) (xs : List A) (ls : List (List ℕ)) (unit : List ℕ) → ended (map line xs ++ ls) ++ unit ≡ texts (λ x. line x ++ 10 ∷ []) xs ++ (ended ls ++ unit)
lines_then line [] ls unit = refl
lines_then line (x ∷ xs) ls unit =
    append_assoc (line x) (10 ∷ ended (map line xs ++ ls)) unit
    ∙ ap (λ (bs : List ℕ). line x ++ 10 ∷ bs) (lines_then line xs ls unit)
    ∙ sym (append_assoc (line x ++ 10 ∷ []) (texts (λ y. line y ++ 10 ∷ []) xs) (ended ls ++ unit) ∙ append_assoc (line x) (10 ∷ []) (texts (λ y. line y ++ 10 ∷ []) xs ++ (ended ls ++ unit)))

main_then : (f : Option (List ℕ)) (unit : List ℕ) → ended (main_lines f ++ code_line ∷ []) ++ unit ≡ after_exports f unit
main_then None unit = refl
main_then (Some f) unit = grouped (main_line f) (codes "code\n") unit where
  grouped : (x y z : List ℕ) → (x ++ 10 ∷ y) ++ z ≡ (x ++ 10 ∷ []) ++ (y ++ z)
  grouped x y z = append_assoc x (10 ∷ y) z ∙ sym (append_assoc x (10 ∷ []) (y ++ z))

pub header_bytes : (o : ObjectTree) (unit : List ℕ) → ended (header_lines o) ++ unit ≡ front ++ (o.module_name ++ 10 ∷ after_name o.imports o.uses o.exports o.main unit)
header_bytes o unit =
    ap (λ (bs : List ℕ). front ++ bs) (append_assoc o.module_name (10 ∷ ended others) unit)
    ∙ ap (λ (bs : List ℕ). front ++ (o.module_name ++ 10 ∷ bs)) after where
      exports_then : ended (map export_line o.exports ++ (main_lines o.main ++ code_line ∷ [])) ++ unit ≡ after_uses o.exports o.main unit
      exports_then = lines_then export_line o.exports (main_lines o.main ++ code_line ∷ []) unit ∙ ap (λ (bs : List ℕ). texts export_text o.exports ++ bs) (main_then o.main unit)

      uses_then : ended (map use_line o.uses ++ (map export_line o.exports ++ (main_lines o.main ++ code_line ∷ []))) ++ unit ≡ after_imports o.uses o.exports o.main unit
      uses_then = lines_then use_line o.uses (map export_line o.exports ++ (main_lines o.main ++ code_line ∷ [])) unit ∙ ap (λ (bs : List ℕ). texts use_text o.uses ++ bs) exports_then

      others : List (List ℕ)
      others = map import_line o.imports ++ (map use_line o.uses ++ (map export_line o.exports ++ (main_lines o.main ++ code_line ∷ [])))

      after : ended others ++ unit ≡ after_name o.imports o.uses o.exports o.main unit
      after = lines_then import_line o.imports (map use_line o.uses ++ (map export_line o.exports ++ (main_lines o.main ++ code_line ∷ []))) unit ∙ ap (λ (bs : List ℕ). texts import_text o.imports ++ bs) uses_then

-- All of a list -----------------------------------------------------------------------------

all_imports : (is : List ImportItem) → AreImports is → AllAre IsImport is
all_imports [] h = tt
all_imports (i ∷ is) h = (h.0, all_imports is h.1)

are_imports : (is : List ImportItem) → AllAre IsImport is → AreImports is
are_imports [] h = tt
are_imports (i ∷ is) h = (h.0, are_imports is h.1)

all_uses : (us : List Use) → AreUseRows us → AllAre IsUseRow us
all_uses [] h = tt
all_uses (u ∷ us) h = (h.0, all_uses us h.1)

are_uses : (us : List Use) → AllAre IsUseRow us → AreUseRows us
are_uses [] h = tt
are_uses (u ∷ us) h = (h.0, are_uses us h.1)

-- The lines of an object --------------------------------------------------------------------

imports_run : (bytes : List ℕ) (o : ObjectTree) (unit : List ℕ) → AllAre IsImport o.imports → bytes ≡ after_name o.imports o.uses o.exports o.main unit
    → IsRun import_text IsImport Anything bytes o.imports (after_imports o.uses o.exports o.main unit)
imports_run bytes o unit h e = record {
  are = e;
  are_parts = h;
  ends = tt;
  none = no_import (after_imports o.uses o.exports o.main unit) (uses_start 105 o.uses (after_uses o.exports o.main unit) refl refl (exports_start 105 o.exports (after_exports o.main unit) refl (main_start 105 o.main (after_main unit) refl refl)));
}

uses_run : (bytes : List ℕ) (o : ObjectTree) (unit : List ℕ) → AllAre IsUseRow o.uses → bytes ≡ after_imports o.uses o.exports o.main unit
    → IsRun use_text IsUseRow Anything bytes o.uses (after_uses o.exports o.main unit)
uses_run bytes o unit h e = record {
  are = e;
  are_parts = h;
  ends = tt;
  none = no_use (after_uses o.exports o.main unit)
      (exports_start 117 o.exports (after_exports o.main unit) refl (main_start 117 o.main (after_main unit) refl refl))
      (exports_start 110 o.exports (after_exports o.main unit) refl (main_start 110 o.main (after_main unit) refl refl));
}

exports_run : (bytes : List ℕ) (o : ObjectTree) (unit : List ℕ) → AllAre IsUntypedRow o.exports → bytes ≡ after_uses o.exports o.main unit
    → IsRun export_text IsUntypedRow Anything bytes o.exports (after_exports o.main unit)
exports_run bytes o unit h e = record {
  are = e;
  are_parts = h;
  ends = tt;
  none = no_export (after_exports o.main unit) (main_start 101 o.main (after_main unit) refl refl);
}

none_left : (f : Option (List ℕ)) (unit : List ℕ) → NoneLeft f (after_main unit)
none_left None unit = no_main (after_main unit) refl
none_left (Some f) unit = tt

pub name_found : (bytes : List ℕ) (o : ObjectTree) (unit : List ℕ) → AreLines bytes o unit → IsNamed bytes front o.module_name (10 ∷ after_name o.imports o.uses o.exports o.main unit)
name_found bytes o unit h = record { are = h.are ∙ header_bytes o unit; is_name = h.module_name; stops = refl }

-- What is read ------------------------------------------------------------------------------

-- lines as they were read up to the unit's
pub record AreRead (bytes m rest rest0 : List ℕ) (is : List ImportItem) (rest1 : List ℕ) (us : List Use) (rest2 : List ℕ) (es : List Row) (rest3 : List ℕ) (f : Option (List ℕ)) (rest4 : List ℕ) : Type 0 where
  pub named : IsNamed bytes front m rest
  pub line_end : rest ≡ 10 ∷ rest0
  pub imports : IsRun import_text IsImport Anything rest0 is rest1
  pub uses : IsRun use_text IsUseRow Anything rest1 us rest2
  pub exports : IsRun export_text IsUntypedRow Anything rest2 es rest3
  pub main : IsMainRead rest3 f rest4

pub record SameLines (m : List ℕ) (is : List ImportItem) (us : List Use) (es : List Row) (f : Option (List ℕ)) (rest : List ℕ) (o : ObjectTree) (unit : List ℕ) : Type 0 where
  pub module_name : m ≡ o.module_name
  pub imports : is ≡ o.imports
  pub uses : us ≡ o.uses
  pub exports : es ≡ o.exports
  pub main : f ≡ o.main
  pub rest_is : rest ≡ after_main unit

follows_any : {A : Type 0} (text : A → List ℕ) (a : A) (r : List ℕ) → Anything (text a ++ r)
follows_any text a r = tt

pub same_lines : (bytes m rest rest0 : List ℕ) (is : List ImportItem) (rest1 : List ℕ) (us : List Use) (rest2 : List ℕ) (es : List Row) (rest3 : List ℕ) (f : Option (List ℕ)) (rest4 : List ℕ) (o : ObjectTree) (unit : List ℕ)
    → AreRead bytes m rest rest0 is rest1 us rest2 es rest3 f rest4 → AreLines bytes o unit → SameLines m is us es f rest4 o unit
same_lines bytes m rest rest0 is rest1 us rest2 es rest3 f rest4 o unit r h =
    let s = named_once bytes front m rest o.module_name (10 ∷ after_name o.imports o.uses o.exports o.main unit) r.named (name_found bytes o unit h) in
    let e : 10 ∷ rest0 ≡ 10 ∷ after_name o.imports o.uses o.exports o.main unit = sym r.line_end ∙ s.rest in
    let a = runs_once import_text IsImport Anything import_once (follows_any import_text) rest0 is o.imports rest1 (after_imports o.uses o.exports o.main unit) r.imports (imports_run rest0 o unit (all_imports o.imports h.imports) (tail_is rest0 _ e)) in
    let b = runs_once use_text IsUseRow Anything use_once (follows_any use_text) rest1 us o.uses rest2 (after_uses o.exports o.main unit) r.uses (uses_run rest1 o unit (all_uses o.uses h.uses) a.rest) in
    let d = runs_once export_text IsUntypedRow Anything export_once (follows_any export_text) rest2 es o.exports rest3 (after_exports o.main unit) r.exports (exports_run rest2 o unit h.exports b.rest) in
    let g = main_once rest3 f o.main rest4 (after_main unit) r.main (record { are = d.rest; is_name = h.main; none = none_left o.main unit }) in
    record { module_name = s.name; imports = a.parts; uses = b.parts; exports = d.parts; main = g.name; rest_is = g.rest } where
      tail_is : (xs ys : List ℕ) → 10 ∷ xs ≡ 10 ∷ ys → xs ≡ ys
      tail_is xs ys e = cc

pub no_line_end : (bytes m rest : List ℕ) → IsNamed bytes front m rest → ((r : List ℕ) → rest ≡ 10 ∷ r → ⊥) → NoLines bytes
no_line_end bytes m rest named none o unit h =
    let s = named_once bytes front m rest o.module_name (10 ∷ after_name o.imports o.uses o.exports o.main unit) named (name_found bytes o unit h) in
    none (after_name o.imports o.uses o.exports o.main unit) s.rest

-- the lines that were read are those of this object
pub lines_found : (bytes m rest rest0 : List ℕ) (is : List ImportItem) (rest1 : List ℕ) (us : List Use) (rest2 : List ℕ) (es : List Row) (rest3 : List ℕ) (f : Option (List ℕ)) (rest4 unit : List ℕ) (o : ObjectTree)
    → AreRead bytes m rest rest0 is rest1 us rest2 es rest3 f rest4 → SameLines m is us es f rest4 o unit → AreLines bytes o unit
lines_found bytes m rest rest0 is rest1 us rest2 es rest3 f rest4 unit o r s = record {
  are = together ∙ same_text ∙ sym (header_bytes o unit);
  module_name = subst IsSymbol s.module_name r.named.is_name;
  imports = subst AreImports s.imports (are_imports is r.imports.are_parts);
  uses = subst AreUseRows s.uses (are_uses us r.uses.are_parts);
  exports = subst (AllAre IsUntypedRow) s.exports r.exports.are_parts;
  main = subst IsMainName s.main r.main.is_name;
} where
  together : bytes ≡ front ++ (m ++ 10 ∷ (texts import_text is ++ (texts use_text us ++ (texts export_text es ++ (main_text f ++ rest4)))))
  together = r.named.are ∙ ap (λ (x : List ℕ). front ++ (m ++ x)) (r.line_end ∙ ap (λ (x : List ℕ). 10 ∷ x) (r.imports.are ∙ ap (λ (x : List ℕ). texts import_text is ++ x)
      (r.uses.are ∙ ap (λ (x : List ℕ). texts use_text us ++ x) (r.exports.are ∙ ap (λ (x : List ℕ). texts export_text es ++ x) r.main.are))))

  same_text : front ++ (m ++ 10 ∷ (texts import_text is ++ (texts use_text us ++ (texts export_text es ++ (main_text f ++ rest4))))) ≡ front ++ (o.module_name ++ 10 ∷ after_name o.imports o.uses o.exports o.main unit)
  same_text = rw (s.module_name, s.imports, s.uses, s.exports, s.main, s.rest_is) refl

-- a header alone
pub header_text : (o : ObjectTree) → ended (header_lines o) ≡ front ++ (o.module_name ++ 10 ∷ (texts import_text o.imports ++ (texts use_text o.uses ++ (texts export_text o.exports ++ (main_text o.main ++ codes "code\n")))))
header_text o = sym (append-nil (ended (header_lines o))) ∙ header_bytes o []

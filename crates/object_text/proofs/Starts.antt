-- A header's lines tell by their first byte of which kind they are.
use Rattle.std.proofs.Common.{◌≡◌, ℕ, List, [], ◌∷◌, ◌++◌, ap, Bool, true, false, Option, Some, None}
use Rattle.std.specs.Prelude.{nat_eq}
use Rattle.iface_text.specs.declared.interface.Row.{Row}
use Rattle.core_tree.specs.declared.tree.Use.{Use}
use Rattle.core_tree.specs.declared.tree.Use.TheVariants.{From, Need}
use Rattle.core_tree.specs.WellFormed.{IsImport}
use Rattle.object_text.specs.Format.{IsUseRow}
use Rattle.object_text.specs.Header.{import_text, use_text, export_text, IsUntypedRow, main_text, NotMain}
use Rattle.object_text.specs.Parts.{texts, NoFirst, Anything}

abbrev pub starts_with : ℕ → List ℕ → Bool
starts_with b [] = false
starts_with b (c ∷ cs) = nat_eq c b

-- by the first bytes of `import`, `use`, `need`, `export` and `main`
pub no_import : (bytes : List ℕ) → starts_with 105 bytes ≡ false → NoFirst import_text IsImport Anything bytes
no_import bytes e i rest h = let q : starts_with 105 bytes ≡ true = ap (starts_with 105) h.are in absurd (cc)

pub no_use : (bytes : List ℕ) → starts_with 117 bytes ≡ false → starts_with 110 bytes ≡ false → NoFirst use_text IsUseRow Anything bytes
no_use bytes e f (From m r) rest h = let q : starts_with 117 bytes ≡ true = ap (starts_with 117) h.are in absurd (cc)
no_use bytes e f (Need m r) rest h = let q : starts_with 110 bytes ≡ true = ap (starts_with 110) h.are in absurd (cc)

pub no_export : (bytes : List ℕ) → starts_with 101 bytes ≡ false → NoFirst export_text IsUntypedRow Anything bytes
no_export bytes e r rest h = let q : starts_with 101 bytes ≡ true = ap (starts_with 101) h.are in absurd (cc)

pub no_main : (bytes : List ℕ) → starts_with 109 bytes ≡ false → NotMain bytes
no_main bytes e f rest h k = let q : starts_with 109 bytes ≡ true = ap (starts_with 109) k in absurd (cc)

-- what lines and what follows them start with
pub uses_start : (b : ℕ) (us : List Use) (rest : List ℕ) → nat_eq 117 b ≡ false → nat_eq 110 b ≡ false → starts_with b rest ≡ false → starts_with b (texts use_text us ++ rest) ≡ false
uses_start b [] rest u n e = e
uses_start b (From m r ∷ us) rest u n e = u
uses_start b (Need m r ∷ us) rest u n e = n

pub exports_start : (b : ℕ) (es : List Row) (rest : List ℕ) → nat_eq 101 b ≡ false → starts_with b rest ≡ false → starts_with b (texts export_text es ++ rest) ≡ false
exports_start b [] rest x e = e
exports_start b (r ∷ es) rest x e = x

pub main_start : (b : ℕ) (f : Option (List ℕ)) (rest : List ℕ) → nat_eq 109 b ≡ false → starts_with b rest ≡ false → starts_with b (main_text f ++ rest) ≡ false
main_start b None rest m e = e
main_start b (Some f) rest m e = m

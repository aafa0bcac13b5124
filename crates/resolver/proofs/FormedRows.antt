-- Rows of interfaces that have a spelling, and rows of what a head exports.
use Rattle.std.proofs.Common.{◌≡◌, ℕ, zero, suc, Bool, true, false, if◌then◌else◌, List, [], ◌∷◌, ◌++◌, map, replicate, find, Option, Some, None, refl, sym, ap, ◌∙◌, append_assoc}
use Rattle.std.specs.List.{list_all}
use Rattle.std.proofs.lemmas.Bool.{and_parts, and_from}
use Rattle.std.proofs.lemmas.List.{length-replicate}
use Rattle.scheme_data.specs.Names.{are_distinct}
use Rattle.scheme_data.specs.Symbols.{IsSymbol}
use Rattle.built_table.specs.declared.primitives.Ty.TheVariants.{Obj}
use Rattle.name_table.specs.Names.{has_name}
use Rattle.iface_text.specs.declared.interface.Row.{Row}
use Rattle.iface_text.specs.Format.{IfaceTree, AreUntyped, IsUntyped, AreRows, HasSpelling}
use Rattle.iface_text.specs.Lines.{untyped_row}
use Rattle.resolver.specs.BuiltHeads.{ExportTree, is_word, exported_names}
use Rattle.core_tree.specs.Tree.{ModuleTree, function_named}
use Rattle.core_tree.specs.WellFormed.{is_exported}
use Rattle.core_tree.specs.WellFormed as formed
use Rattle.resolver.specs.Drafts.{Definition, is_there}
use Rattle.resolver.specs.Elaboration.{AreSpelled, interface_named, row_in, row_for}
use Rattle.resolver.proofs.FormedParts.{Holds, word_is, not_before}
use Rattle.resolver.proofs.FormedHeads.{AreExports}
use Rattle.resolver.proofs.FormedDrafts.{AreOf, take_as_many}

-- Rows of interfaces ------------------------------------------------------------------------

-- an untyped row of this name
pub record IsRowOf (name : List ℕ) (r : Row) : Type 0 where
  pub same : r.name ≡ name
  pub is_name : IsSymbol r.name
  pub untyped : IsUntyped r.kind

row_found : (names : List (List ℕ)) (rs : List Row) (name : List ℕ) → AreRows names rs → Holds (IsRowOf name) (find (λ r. is_word r.name name) rs)
row_found names [] name h = tt
row_found names (r ∷ rs) name h = go (is_word r.name name) refl (row_found (names ++ r.name ∷ []) rs name h.1)
  where
    go : (b : Bool) → is_word r.name name ≡ b → Holds (IsRowOf name) (find (λ r. is_word r.name name) rs)
        → Holds (IsRowOf name) (if b then Some r else find (λ r. is_word r.name name) rs)
    go true e later = record { same = word_is r.name name e; is_name = h.0.is_name; untyped = h.0.is_untyped }
    go false e later = later

interface_found : (ifaces : List IfaceTree) (name : List ℕ) → AreSpelled ifaces → Holds HasSpelling (interface_named ifaces name)
interface_found [] name h = tt
interface_found (i ∷ is) name h = go (is_word i.module_name name) (interface_found is name h.1)
  where
    go : (b : Bool) → Holds HasSpelling (interface_named is name) → Holds HasSpelling (if b then Some i else interface_named is name)
    go true later = h.0
    go false later = later

row_inside : (o : Option IfaceTree) (name : List ℕ) → Holds HasSpelling o → Holds (IsRowOf name) (row_in o name)
row_inside None name h = tt
row_inside (Some i) name h = row_found [] i.rows name h.are_rows

pub row_formed : (ifaces : List IfaceTree) (m name : List ℕ) → AreSpelled ifaces → Holds (IsRowOf name) (row_for ifaces m name)
row_formed ifaces m name h = row_inside (interface_named ifaces m) name (interface_found ifaces m h)

-- Rows of exports ---------------------------------------------------------------------------

abbrev export_row : ExportTree → Row
export_row e = untyped_row e.name e.count

objects_untyped : (n : ℕ) → AreUntyped (replicate n Obj)
objects_untyped zero = tt
objects_untyped (suc n) = (refl, objects_untyped n)

-- rows behind those of other names
pub export_rows : (seen : List (List ℕ)) (es : List ExportTree) → AreExports es → are_distinct (seen ++ exported_names es) ≡ true → AreRows seen (map export_row es)
export_rows seen [] h d = tt
export_rows seen (e ∷ es) h d =
    let new : has_name seen e.name ≡ false = not_before seen e.name (exported_names es) d in (
      record { is_name = h.0; is_new = new; is_untyped = (objects_untyped e.count, refl) },
      export_rows (seen ++ e.name ∷ []) es h.1 (ap are_distinct (append_assoc seen (e.name ∷ []) (exported_names es)) ∙ d),
    )

exported_one : (ds : List Definition) (m : ModuleTree) (e : ExportTree) → AreOf ds m.functions → is_there ds e ≡ true → is_exported m (export_row e) ≡ true
exported_one ds m e h t =
    ap (λ n. formed.takes_as_many n (function_named m.functions e.name)) (length-replicate e.count Obj)
    ∙ sym (take_as_many ds m.functions h e.count e.name) ∙ t

pub exports_there : (ds : List Definition) (m : ModuleTree) (es : List ExportTree) → AreOf ds m.functions → list_all (is_there ds) es ≡ true
    → list_all (is_exported m) (map export_row es) ≡ true
exports_there ds m [] h t = refl
exports_there ds m (e ∷ es) h t =
    let parts = and_parts (is_there ds e) (list_all (is_there ds) es) t in
    and_from (is_exported m (export_row e)) (list_all (is_exported m) (map export_row es)) (exported_one ds m e h parts.0) (exports_there ds m es h parts.1)

-- What is compiled to, and why a source is refused.
use Rattle.std.proofs.Common.{◌≡◌, ℕ, List, map, Option, Some, None, Result, Err, ap, ap₂, sym, ◌∙◌, subst}
use Rattle.scheme_data.specs.Data.{plain_all}
use Rattle.scheme_data.specs.declared.datum.Datum.{Datum}
use Rattle.iface_text.specs.declared.interface.Iface.{Iface}
use Rattle.iface_text.specs.Format.{IfaceTree, HasSpelling, iface_tree, spelling}
use Rattle.core_tree.specs.declared.tree.Module.{Module}
use Rattle.core_tree.specs.Tree.{ModuleTree}
use Rattle.scheme_read.specs.Answers.{IsSource}
use Rattle.resolver.specs.Drafts.{exported}
use Rattle.resolver.specs.Elaboration.{elaborated}
use Rattle.object_text.specs.Format.{ObjectTree, ObjectText}
use Rattle.unit_compile.specs.declared.error.UnitErr.{UnitErr}
use Rattle.unit_compile.specs.declared.error.UnitErr.TheVariants.{Syntax, Limit, Header, Duplicate, BadRules, NoRule, Form, NotBuilt, Memory}
use Rattle.unit_compile.specs.Refusals.{AreRight}
use Rattle.unit_compile.specs.Compilation.{IsInterfaceOf, Exported, NotExported, IsModuleOf, IsObjectOf, Compiled, CompilesTo}
use Rattle.unit_compile.specs.Parts.{AreOnlyTexts, MakesModule, Makes}
use Rattle.unit_compile.proofs.Interfaces.{texts_of, same_texts}

-- no other data are the source's
abbrev pub IsOnly : List ℕ → List Datum → Type 0
IsOnly source forms = (ds : List Datum) → IsSource source ds → forms ≡ ds

-- Interfaces --------------------------------------------------------------------------------

exported_once : (source : List ℕ) (forms : List Datum) (found : Option IfaceTree) → IsOnly source forms → found ≡ exported (plain_all forms) → (i : IfaceTree) → IsInterfaceOf source i → found ≡ Some i
exported_once source forms found only is i it = is ∙ (ap (λ (ds : List Datum). exported (plain_all ds)) (only it.forms it.read) ∙ it.is)

pub is_exported : (source : List ℕ) (forms : List Datum) (i : Iface) (text : List ℕ) → IsSource source forms → IsOnly source forms → Some (iface_tree i) ≡ exported (plain_all forms)
    → HasSpelling (iface_tree i) → text ≡ spelling (iface_tree i) → Exported source text
is_exported source forms i text read only is spelled are = record {
  interface = iface_tree i;
  is_interface = record { forms = forms; read = read; is = sym is };
  only = other;
  is_text = record { has_spelling = spelled; are = are };
}
  where
    other : (j : IfaceTree) → IsInterfaceOf source j → j ≡ iface_tree i
    other j it =
        let same : Some (iface_tree i) ≡ Some j = exported_once source forms (Some (iface_tree i)) only is j it in
        cc

pub not_exported : (source : List ℕ) (forms : List Datum) → IsSource source forms → IsOnly source forms → AreRight forms → None ≡ exported (plain_all forms) → NotExported source
not_exported source forms read only are_right is = record { forms = forms; read = read; are_right = are_right; none = other }
  where
    other : (j : IfaceTree) → IsInterfaceOf source j → ⊥
    other j it =
        let same : None ≡ Some j = exported_once source forms None only is j it in
        absurd (cc)

-- Modules -----------------------------------------------------------------------------------

pub same_makes : (given interfaces : List Iface) (data_given forms : List Datum) (r : Result Module UnitErr) → given ≡ interfaces → data_given ≡ forms → Makes (map iface_tree given) data_given r → Makes (map iface_tree interfaces) forms r
same_makes given interfaces data_given forms r same same_data made =
    subst (λ (is : List Iface). Makes (map iface_tree is) forms r) same (subst (λ (ds : List Datum). Makes (map iface_tree given) ds r) same_data made)

module_once : (source : List ℕ) (texts : List (List ℕ)) (forms : List Datum) (is : List IfaceTree) → IsOnly source forms → AreOnlyTexts texts is
    → (m : ModuleTree) → IsModuleOf source texts m → elaborated is (plain_all forms) ≡ Some m
module_once source texts forms is only are m it =
    let same : is ≡ it.interfaces = sym (same_texts texts is it.interfaces are it.are_texts) in
    ap₂ (λ (js : List IfaceTree) (ds : List Datum). elaborated js (plain_all ds)) same (only it.forms it.read) ∙ it.is

pub compiled : (source : List ℕ) (texts : List (List ℕ)) (text : List ℕ) (forms : List Datum) (is : List IfaceTree) (m : ModuleTree) (o : ObjectTree)
    → IsSource source forms → IsOnly source forms → AreOnlyTexts texts is → MakesModule is forms m → IsObjectOf m o → ObjectText text o → Compiled source texts text
compiled source texts text forms is m o read only are made is_object is_text = record {
  forms = forms;
  read = read;
  read_once = only;
  module_tree = m;
  is_module = record { forms = forms; read = read; interfaces = is; are_texts = texts_of texts is are; is = made.is };
  only = other;
  formed = made.formed;
  object = o;
  is_text = is_text;
  is_object = is_object;
}
  where
    other : (t : ModuleTree) → IsModuleOf source texts t → t ≡ m
    other t it =
        let same : Some m ≡ Some t = sym made.is ∙ module_once source texts forms is only are t it in
        cc

pub not_made : (source : List ℕ) (texts : List (List ℕ)) (forms : List Datum) (is : List IfaceTree) (e : UnitErr) → IsSource source forms → IsOnly source forms → AreRight forms → AreOnlyTexts texts is
    → Makes is forms (Err e) → CompilesTo source texts (Err e)
not_made source texts forms is (Syntax at) read only are_right are none = absurd none
not_made source texts forms is (Limit kind) read only are_right are none = absurd none
not_made source texts forms is (Header at) read only are_right are none = absurd none
not_made source texts forms is (Duplicate name) read only are_right are none = absurd none
not_made source texts forms is (BadRules at) read only are_right are none = absurd none
not_made source texts forms is (NoRule at) read only are_right are none = absurd none
not_made source texts forms is (Form at) read only are_right are none = absurd none
not_made source texts forms is NotBuilt read only are_right are none = record { forms = forms; read = read; are_right = are_right; none = other }
  where
    other : (m : ModuleTree) → IsModuleOf source texts m → ⊥
    other m it =
        let same : None ≡ Some m = sym none ∙ module_once source texts forms is only are m it in
        absurd (cc)
not_made source texts forms is Memory read only are_right are none = tt

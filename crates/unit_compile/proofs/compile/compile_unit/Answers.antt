use Rattle.std.proofs.Common.{ℕ, List, Ok, Err, map, subst}
use Rattle.std.proofs.lemmas.Result.{err_from_is_err_and}
use Rattle.iface_text.specs.Format.{iface_tree}
use Rattle.core_tree.specs.Tree.{module_tree}
use Rattle.object_text.specs.Format.{object_tree}
use Rattle.unit_compile.specs.Parts.{AreOnlyTexts}
use Rattle.unit_compile.proofs.Interfaces.{spelled_of}
use Rattle.unit_compile.proofs.Units.{same_makes, compiled, not_made}
use Rattle.unit_compile.proofs.compile.compile_unit.Goals as goal

pub module_of-requires-clause-spelled : goal.module_of-requires-clause-spelled
module_of-requires-clause-spelled c = rw c.as_slice-3.ensures (spelled_of c.as_slice.result.now (map iface_tree c.in_ok-interfaces.interfaces) c.in_ok-interfaces.ensures)

pub returns-in_err-module-clause-value : goal.returns-in_err-module-clause-value
returns-in_err-module-clause-value c =
    let p = err_from_is_err_and c.from_residual-in_err-module.result c.from_residual-in_err-module.ensures.1 in
    let is = c.in_ok-interfaces.interfaces in
    let are = subst (λ (texts : List (List ℕ)). AreOnlyTexts texts (map iface_tree is)) c.as_slice.ensures c.in_ok-interfaces.ensures in
    let made = same_makes c.as_slice-3.result.now is c.as_slice-2.result.now c.in_ok-forms.forms (Err c.in_err-module.field-0.0) c.as_slice-3.ensures c.as_slice-2.ensures c.in_err-module.ensures in
    rw (p.1, p.2) (not_made c.args.source.now c.args.interfaces.now c.in_ok-forms.forms (map iface_tree is) c.in_err-module.field-0.0 c.in_ok-forms.ensures.value.read c.in_ok-forms.ensures.value.read_once c.in_ok-forms.ensures.value.are_right are made)

pub returns-clause-value : goal.returns-clause-value
returns-clause-value c =
    let is = c.in_ok-interfaces.interfaces in
    let are = subst (λ (texts : List (List ℕ)). AreOnlyTexts texts (map iface_tree is)) c.as_slice.ensures c.in_ok-interfaces.ensures in
    let made = same_makes c.as_slice-3.result.now is c.as_slice-2.result.now c.in_ok-forms.forms (Ok c.in_ok-module.module) c.as_slice-3.ensures c.as_slice-2.ensures c.in_ok-module.ensures in
    compiled c.args.source.now c.args.interfaces.now c.in_ok-write_object.field-0 c.in_ok-forms.forms (map iface_tree is) (module_tree c.in_ok-module.module) (object_tree c.in_ok-object.object)
    c.in_ok-forms.ensures.value.read c.in_ok-forms.ensures.value.read_once are made c.in_ok-object.ensures.is c.in_ok-write_object.ensures

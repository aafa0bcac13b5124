-- What is given is as every later pass asks.
use Rattle.std.proofs.Common.{◌≡◌, List, Option, Some, None, Result, Ok, Err, IfOk, IfSome, sym, ap, subst, ◌∙◌}
use Rattle.std.specs.Option.{option_map}
use Rattle.scheme_data.specs.Data.{Plains, AreProper}
use Rattle.iface_text.specs.Format.{IfaceTree, HasSpelling}
use Rattle.core_tree.specs.declared.tree.Module.{Module}
use Rattle.core_tree.specs.Tree.{module_tree}
use Rattle.core_tree.specs.WellFormed.{IsWellFormed}
use Rattle.resolver.specs.Drafts.{Draft, draft, interface_of}
use Rattle.resolver.specs.Elaboration.{AreSpelled, completed, elaborated}
use Rattle.resolver.proofs.Formed.{elaborated_is_formed, exported_is_spelled}

pub interface_spelled : (forms : Plains) (d : Draft) (i : IfaceTree) → AreProper forms → Some d ≡ draft forms → Some i ≡ interface_of (Some d) → HasSpelling i
interface_spelled forms d i p e s = exported_is_spelled forms i p (ap interface_of (sym e) ∙ sym s)

formed_where : {E : Type 0} (r : Result (Option Module) E) (ifaces : List IfaceTree) (forms : Plains) → AreProper forms → AreSpelled ifaces
    → IfOk r (λ m. option_map module_tree m ≡ elaborated ifaces forms) → IfOk r (λ m. IfSome m (λ it. IsWellFormed (module_tree it)))
formed_where (Err e) ifaces forms p s h = tt
formed_where (Ok None) ifaces forms p s h = tt
formed_where (Ok (Some m)) ifaces forms p s h = elaborated_is_formed ifaces forms (module_tree m) p s (sym h)

pub module_formed : {E : Type 0} (r : Result (Option Module) E) (ifaces : List IfaceTree) (forms : Plains) (d : Draft) → AreProper forms → AreSpelled ifaces → Some d ≡ draft forms
    → IfOk r (λ m. option_map module_tree m ≡ completed ifaces (Some d)) → IfOk r (λ m. IfSome m (λ it. IsWellFormed (module_tree it)))
module_formed r ifaces forms d p s e h =
    formed_where r ifaces forms p s (subst (λ o. IfOk r (λ m. option_map module_tree m ≡ completed ifaces o)) e h)

-- Sources that are compiled have one list of modules with their own interfaces, and one program.
use Rattle.std.proofs.Common.{◌≡◌, ℕ, List, [], ◌∷◌, map, Some, refl, sym, ap, ap₂, ◌∙◌, subst}
use Rattle.std.specs.List.{AllByRecursion as Each}
use Rattle.std.proofs.lemmas.Option.{same_Some}
use Rattle.scheme_data.specs.Data.{plain_all}
use Rattle.scheme_data.specs.declared.datum.Datum.{Datum}
use Rattle.scheme_read.specs.Answers.{IsSource}
use Rattle.iface_text.specs.Format.{IfaceTree}
use Rattle.core_tree.specs.Tree.{ModuleTree}
use Rattle.meaning.specs.Order.{IsOrder, root_of, chosen}
use Rattle.resolver.specs.Drafts.{exported}
use Rattle.resolver.specs.Elaboration.{elaborated}
use Rattle.unit_compile.specs.Compilation.{IsInterfaceOf}
use Rattle.whole_program.specs.Sources.{AreInterfacesOf, IsModuleWith, AreModulesWith, AreModulesOf, imports_in, IsProgramOf}
use Rattle.whole_program.proofs.Visits.{one_order}
use Rattle.whole_program.proofs.Rows.{HasRow, elaborated_own, interface_in, exports}
use Rattle.whole_program.proofs.Programs.{AreLinkable}

-- the one reading of the source is that of the module, with some interfaces
pub record IsReadAs (source : List ℕ) (m : ModuleTree) : Type 0 where
  pub forms : List Datum
  pub read : IsSource source forms
  pub read_once : (others : List Datum) → IsSource source others → forms ≡ others
  pub interfaces : List IfaceTree
  pub is : elaborated interfaces (plain_all forms) ≡ Some m

abbrev pub AreReadAs : List (List ℕ) → List ModuleTree → Type 0
AreReadAs [] [] = Unit {0}
AreReadAs (s ∷ ss) (m ∷ ms) = IsReadAs s m × AreReadAs ss ms
AreReadAs _ _ = ⊥

-- Interfaces --------------------------------------------------------------------------------

own_interfaces : (sources : List (List ℕ)) (ms : List ModuleTree) → AreReadAs sources ms → AreInterfacesOf sources (map interface_in ms)
own_interfaces [] [] h = tt
own_interfaces [] (m ∷ ms) h = absurd h
own_interfaces (s ∷ ss) [] h = absurd h
own_interfaces (s ∷ ss) (m ∷ ms) h =
    (record { forms = h.0.forms; read = h.0.read; is = exports h.0.interfaces (plain_all h.0.forms) m h.0.is }, own_interfaces ss ms h.1)

one_interface : (source : List ℕ) (m : ModuleTree) → IsReadAs source m → (i : IfaceTree) → IsInterfaceOf source i → i ≡ interface_in m
one_interface source m h i it =
    same_Some i (interface_in m)
    (sym it.is ∙ ap (λ (ds : List Datum). exported (plain_all ds)) (sym (h.read_once it.forms it.read)) ∙ exports h.interfaces (plain_all h.forms) m h.is)

one_interfaces : (sources : List (List ℕ)) (ms : List ModuleTree) → AreReadAs sources ms → (is : List IfaceTree) → AreInterfacesOf sources is → is ≡ map interface_in ms
one_interfaces [] [] h [] its = refl
one_interfaces [] [] h (i ∷ is) its = absurd its
one_interfaces [] (m ∷ ms) h is its = absurd h
one_interfaces (s ∷ ss) [] h is its = absurd h
one_interfaces (s ∷ ss) (m ∷ ms) h [] its = absurd its
one_interfaces (s ∷ ss) (m ∷ ms) h (i ∷ is) its = ap₂ (λ x xs. x ∷ xs) (one_interface s m h.0 i its.0) (one_interfaces ss ms h.1 is its.1)

-- Modules -----------------------------------------------------------------------------------

own_modules : (own : List IfaceTree) (sources : List (List ℕ)) (ms : List ModuleTree) → AreReadAs sources ms → Each (λ m. Each (HasRow own) m.uses) ms → AreModulesWith own sources ms
own_modules own [] [] h rows = tt
own_modules own [] (m ∷ ms) h rows = absurd h
own_modules own (s ∷ ss) [] h rows = absurd h
own_modules own (s ∷ ss) (m ∷ ms) h rows =
    (record { forms = h.0.forms; read = h.0.read; is = elaborated_own h.0.interfaces own (plain_all h.0.forms) m h.0.is rows.0 }, own_modules own ss ms h.1 rows.1)

one_module : (own : List IfaceTree) (source : List ℕ) (m : ModuleTree) → IsReadAs source m → Each (HasRow own) m.uses → (other : ModuleTree) → IsModuleWith own source other → other ≡ m
one_module own source m h rows other it =
    same_Some other m
    (sym it.is ∙ ap (λ (ds : List Datum). elaborated own (plain_all ds)) (sym (h.read_once it.forms it.read)) ∙ elaborated_own h.interfaces own (plain_all h.forms) m h.is rows)

one_modules : (own : List IfaceTree) (sources : List (List ℕ)) (ms : List ModuleTree) → AreReadAs sources ms → Each (λ m. Each (HasRow own) m.uses) ms → (others : List ModuleTree) → AreModulesWith own sources others → others ≡ ms
one_modules own [] [] h rows [] its = refl
one_modules own [] [] h rows (n ∷ ns) its = absurd its
one_modules own [] (m ∷ ms) h rows others its = absurd h
one_modules own (s ∷ ss) [] h rows others its = absurd h
one_modules own (s ∷ ss) (m ∷ ms) h rows [] its = absurd its
one_modules own (s ∷ ss) (m ∷ ms) h rows (n ∷ ns) its = ap₂ (λ x xs. x ∷ xs) (one_module own s m h.0 rows.0 n its.0) (one_modules own ss ms h.1 rows.1 ns its.1)

pub modules_of : (sources : List (List ℕ)) (ms : List ModuleTree) → AreReadAs sources ms → AreLinkable ms → AreModulesOf sources ms
modules_of sources ms h link = record { interfaces = map interface_in ms; own = own_interfaces sources ms h; are = own_modules (map interface_in ms) sources ms h link.current }

pub one_modules_of : (sources : List (List ℕ)) (ms : List ModuleTree) → AreReadAs sources ms → AreLinkable ms → (others : List ModuleTree) → AreModulesOf sources others → others ≡ ms
one_modules_of sources ms h link others its =
    one_modules (map interface_in ms) sources ms h link.current others
    (subst (λ is. AreModulesWith is sources others) (one_interfaces sources ms h its.interfaces its.own) its.are)

-- Programs ----------------------------------------------------------------------------------

pub one_program : (sources : List (List ℕ)) (ms : List ModuleTree) → AreReadAs sources ms → AreLinkable ms → (root : ℕ) → root_of (map (λ m. m.main) ms) ≡ Some root → (order : List ℕ) → IsOrder (imports_in ms) root order
    → (others : List ModuleTree) → IsProgramOf sources others → others ≡ chosen ms order
one_program sources ms h link root is_root order is_order others it =
    let modules : it.modules ≡ ms = one_modules_of sources ms h link it.modules it.are_modules in
    let roots : it.root ≡ root = same_Some it.root root (sym it.is_root ∙ ap (λ (ns : List ModuleTree). root_of (map (λ n. n.main) ns)) modules ∙ is_root) in
    let orders : it.order ≡ order =
    one_order (imports_in ms) root it.order order (subst (λ k. IsOrder (imports_in ms) k it.order) roots (subst (λ ns. IsOrder (imports_in ns) it.root it.order) modules it.is_order)) is_order in
    it.is ∙ ap₂ (λ (ns : List ModuleTree) (ks : List ℕ). chosen ns ks) modules orders

-- Each function that a module of a program calls is there.
use Rattle.std.proofs.Common.{◌≡◌, ℕ, List, [], ◌∷◌, length, true, Option, Some, None, refl, ap, ◌∙◌, subst, inl, inr}
use Rattle.std.specs.Prelude.{slice_get}
use Rattle.std.specs.List.{list_all}
use Rattle.std.proofs.lemmas.Cmp.{nat_eq_equiv}
use Rattle.std.specs.Cmp.Lexicographic.{bytes_decides}
use Rattle.scheme_data.specs.Names.{is_same}
use Rattle.iface_text.specs.declared.interface.Row.{Row}
use Rattle.core_tree.specs.declared.tree.GlobalRef.TheVariants.{Own, Used}
use Rattle.core_tree.specs.declared.tree.Use.{Use}
use Rattle.core_tree.specs.declared.tree.Use.TheVariants.{From, Need}
use Rattle.core_tree.specs.Tree.{FunctionTree, ModuleTree, Callee, function_named, own_callee, row_callee, found_own, found_use, used_callees, is_called}
use Rattle.core_tree.specs.WellFormed.{IsWellFormed}
use Rattle.meaning.specs.Procedures.{Procedure, module_named, found_in, procedure_in, procedure_of, takes, is_there}
use Rattle.meaning.specs.Program.{AreWellFormed, IsProgram}
use Rattle.simulation.proofs.Members.{Has, has_at, all_have, passing, found_by_name}
use Rattle.simulation.proofs.Callees.{Linked}

-- Procedures --------------------------------------------------------------------------------

-- a procedure is a function of a module of the program
pub record Placed (program : List ModuleTree) (c : Callee) (q : Procedure) : Type 0 where
  pub home : Has program q.home
  pub home_named : q.home.name ≡ c.module_name
  pub function : Has q.home.functions q.function
  pub function_named : q.function.name ≡ c.name

placed_in : (program : List ModuleTree) (c : Callee) (q : Procedure) (m : ModuleTree) → module_named program c.module_name ≡ Some m → (f : Option FunctionTree) → function_named m.functions c.name ≡ f → found_in m f ≡ Some q → Placed program c q
placed_in program c q m at None is e = absurd (cc)
placed_in program c q m at (Some f) is e =
    let home = passing (λ x. is_same x.name c.module_name) program m at in
    let function = passing (is_called c.name) m.functions f is in
    let here : Placed program c (record { home = m; function = f }) = record { home = home.member; home_named = (bytes_decides m.name c.module_name).0 home.passes; function = function.member; function_named = (bytes_decides f.name c.name).0 function.passes } in
    let same : record { home = m; function = f } ≡ q = cc in
    subst (λ x. Placed program c x) same here

pub placed : (program : List ModuleTree) (c : Callee) (q : Procedure) → procedure_of program (Some c) ≡ Some q → Placed program c q
placed program c q e = go (module_named program c.module_name) refl e
  where
    go : (home : Option ModuleTree) → module_named program c.module_name ≡ home → procedure_in home c.name ≡ Some q → Placed program c q
    go None at e1 = absurd (cc)
    go (Some m) at e1 = placed_in program c q m at (function_named m.functions c.name) refl e1

-- Calls of a module -------------------------------------------------------------------------

pub formed_at : (ms : List ModuleTree) (m : ModuleTree) → Has ms m → AreWellFormed ms → IsWellFormed m
formed_at [] m h are = absurd h
formed_at (x ∷ ms) m (inl same) are = subst IsWellFormed same are.0
formed_at (x ∷ ms) m (inr h) are = formed_at ms m h are.1

-- a module's function is found by the names of both
pub own_there : (program : List ModuleTree) → IsProgram program → (m : ModuleTree) → Has program m → (f : FunctionTree) → Has m.functions f → is_there program (own_callee m.name f) ≡ true
own_there program is m h f here =
    let home : module_named program m.name ≡ Some m = found_by_name (λ x. x.name) program m h is.distinct in
    let function : function_named m.functions f.name ≡ Some f = found_by_name (λ x. x.name) m.functions f here (formed_at program m h is.formed).distinct in
    ap (λ x. takes (length f.params) (procedure_in x f.name)) home ∙ ap (λ x. takes (length f.params) (found_in m x)) function ∙ nat_eq_equiv.refl (length f.params)

used_has : (us : List Use) (k : ℕ) (name : List ℕ) (r : Row) → slice_get us k ≡ Some (From name r) → Has (used_callees us) (row_callee name r)
used_has us k name r e = go us (From name r) (has_at us k (From name r) e) refl
  where
    go : (vs : List Use) (u : Use) → Has vs u → u ≡ From name r → Has (used_callees vs) (row_callee name r)
    go [] u h is = absurd h
    go (From n q ∷ vs) u (inl same) is = inl (let one : From n q ≡ From name r = same ∙ is in cc)
    go (From n q ∷ vs) u (inr h) is = inr (go vs u h is)
    go (Need n q ∷ vs) u (inl same) is = absurd (let bad : Need n q ≡ From name r = same ∙ is in cc)
    go (Need n q ∷ vs) u (inr h) is = go vs u h is

pub links : (program : List ModuleTree) → IsProgram program → (m : ModuleTree) → Has program m → Linked program m
links program is m h (Own n) c e = own (slice_get m.functions n) refl e
  where
    own : (found : Option FunctionTree) → slice_get m.functions n ≡ found → found_own m.name found ≡ Some c → is_there program c ≡ true
    own None at e1 = absurd (cc)
    own (Some f) at e1 = let same : own_callee m.name f ≡ c = cc in subst (λ x. is_there program x ≡ true) same (own_there program is m h f (has_at m.functions n f at))
links program is m h (Used n) c e = used (slice_get m.uses n) refl e
  where
    used : (found : Option Use) → slice_get m.uses n ≡ found → found_use found ≡ Some c → is_there program c ≡ true
    used None at e1 = absurd (cc)
    used (Some (Need name r)) at e1 = absurd (cc)
    used (Some (From name r)) at e1 =
        let same : row_callee name r ≡ c = cc in
        let all = all_have (λ x. list_all (is_there program) (used_callees x.uses)) program m h is.linked in
        subst (λ x. is_there program x ≡ true) same (all_have (is_there program) (used_callees m.uses) (row_callee name r) (used_has m.uses n name r at) all)

-- Values that are needed at the same time stand in different locals.
use Rattle.std.proofs.Common.{◌≡◌, List, [], ◌∷◌, sym, ◌∙◌, inl}
use Rattle.built_table.specs.declared.primitives.Ty.{Ty}
use Rattle.core_tree.specs.Tree.{Tree, none, more, ModuleTree}
use Rattle.c_tree.specs.declared.tree.CVar.{CVar}
use Rattle.c_tree.specs.Code.{Code}
use Rattle.plan_rules.specs.Representation.{Scope}
use Rattle.plan_rules.specs.Translation.{Name, Tr, TrArguments}

pub arguments_apart : (m : ModuleTree) (scope : Scope) (vars : List CVar) (t u : Ty) (a b : Tree) (live : List Name) (x y : Name) (code rest : Code) → TrArguments m scope vars (t ∷ u ∷ []) (more a (more b none)) live (x ∷ y ∷ []) code rest → x ≡ y → ⊥
unfolding Tr
arguments_apart m scope vars t u a b live x y code rest one same =
    let other = one.all in
    let first : x ≡ one.first = cc (one.are) in
    let second : y ≡ other.first = cc (one.are, other.are) in
    other.fresh (inl (sym second ∙ sym same ∙ first))

-- The parameters of a function in its locals.
use Rattle.std.specs.Prelude.{◌≡◌, ℕ, suc, List, [], ◌∷◌, Option, Some, None}
use Rattle.std.specs.Ordering.{nat_cmp}
use Rattle.std.specs.BTreeMap.{BTreeMap, get}
use Rattle.core_tree.specs.declared.tree.VarId.{VarId}
use Rattle.c_tree.specs.declared.tree.CTy.TheVariants as c_ty
use Rattle.c_tree.specs.declared.tree.CVar.{CVar}
use Rattle.c_tree.specs.Names.{local_name}
use Rattle.plan_rules.specs.declared.rep.Rep.TheVariants.{Obj}
use Rattle.plan_rules.specs.Representation.{Slot, PlainAt, Scope, slot_of}
use Rattle.plan_rules.specs.Translation.{scope_of}

-- a word for each parameter, with names from a number on
abbrev pub words : ℕ → List VarId → List CVar
words n [] = []
words n (x ∷ xs) = record { ty = c_ty.Obj; name = local_name n } ∷ words (suc n) xs

abbrev pub scope_from : ℕ → List VarId → Scope
scope_from n params = scope_of params (words n params)

abbrev pub scope_with : List VarId → Scope
scope_with params = scope_from 0 params

abbrev pub slot_at : Option ℕ → Option Slot
slot_at None = None
slot_at (Some n) = Some (PlainAt Obj (local_name n))

-- a table finds each of the parameters that stand from a number on
abbrev pub HasLocals : BTreeMap ℕ ℕ → ℕ → List VarId → Type 0
HasLocals locals n params = (x : VarId) → slot_of x (scope_from n params) ≡ slot_at (get nat_cmp locals x.0)

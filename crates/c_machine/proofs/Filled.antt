-- The slots of a call hold its arguments, and then zeros.
use Rattle.std.proofs.Common.{◌≡◌, ℕ, zero, suc, true, List, [], ◌∷◌, ◌++◌, length, Some, slice_get, get_or, map, replicate, refl, ap, subst}
use Rattle.std.proofs.lemmas.Bool.{and_parts}
use Rattle.c_tree.specs.declared.tree.CTy.{CTy}
use Rattle.c_tree.specs.declared.tree.CTy.TheVariants.{Obj, Long, Char, Int}
use Rattle.c_tree.specs.declared.tree.CArg.{CArg}
use Rattle.c_tree.specs.declared.tree.CArg.TheVariants as arg
use Rattle.c_tree.specs.declared.tree.CVar.{CVar}
use Rattle.c_tree.specs.declared.function.CFun.{CFun}
use Rattle.c_tree.specs.Functions.{fun_of}
use Rattle.c_meaning.specs.State.{Cell, Frame, blank, frame_of}
use Rattle.c_meaning.specs.Execution.{arguments, cells, entry}
use Rattle.c_tree.specs.declared.op.Wants.TheVariants.{AType}
use Rattle.c_meaning.specs.Plain.{arguments_fit, atom_fits}
use Rattle.c_machine.specs.Steps.{look, ReadsAll}
use Rattle.c_machine.specs.Decoded.{operand_in, variables_of, variable_names}
use Rattle.c_machine.proofs.Typing.{Slot, Holds, atom_reading}

-- slots hold the cells of variables, one by one
abbrev pub Filled : List CVar → List Cell → List ℕ → Type 0
Filled [] [] [] = Unit {0}
Filled [] [] (n ∷ ns) = ⊥
Filled [] (c ∷ cs) ns = ⊥
Filled (v ∷ vs) [] ns = ⊥
Filled (v ∷ vs) (c ∷ cs) [] = ⊥
Filled (v ∷ vs) (c ∷ cs) (n ∷ ns) = Slot v.ty c n × Filled vs cs ns

blank_slot : (t : CTy) → Slot t (blank t) 0
blank_slot Obj = record { fits = refl; is = refl }
blank_slot Long = record { fits = refl; is = refl }
blank_slot Char = record { fits = refl; is = refl }
blank_slot Int = record { fits = refl; is = refl }

blanks_filled : (vs : List CVar) → Filled vs (map (λ v. blank v.ty) vs) (replicate (length vs) 0)
blanks_filled [] = tt
blanks_filled (v ∷ vs) = (blank_slot v.ty, blanks_filled vs)

filled-append : (vs us : List CVar) (cs ds : List Cell) (ns ms : List ℕ) → Filled vs cs ns → Filled us ds ms → Filled (vs ++ us) (cs ++ ds) (ns ++ ms)
filled-append [] us [] ds [] ms h k = k
filled-append [] us [] ds (n ∷ ns) ms h k = absurd h
filled-append [] us (c ∷ cs) ds ns ms h k = absurd h
filled-append (v ∷ vs) us [] ds ns ms h k = absurd h
filled-append (v ∷ vs) us (c ∷ cs) ds [] ms h k = absurd h
filled-append (v ∷ vs) us (c ∷ cs) ds (n ∷ ns) ms h k = (h.0, filled-append vs us cs ds ns ms h.1 k)

filled_each : (vs : List CVar) (cs : List Cell) (ns : List ℕ) → Filled vs cs ns → (k : ℕ) (v : CVar) → slice_get vs k ≡ Some v → Slot v.ty (frame_of cs k) (get_or ns k 0)
filled_each [] cs ns h k v e = absurd (cc)
filled_each (u ∷ vs) [] ns h k v e = absurd h
filled_each (u ∷ vs) (c ∷ cs) [] h k v e = absurd h
filled_each (u ∷ vs) (c ∷ cs) (n ∷ ns) h zero v e = let same : u ≡ v = cc in subst (λ (x : CVar). Slot x.ty c n) same h.0
filled_each (u ∷ vs) (c ∷ cs) (n ∷ ns) h (suc k) v e = filled_each vs cs ns h.1 k v e

filled_long : (vs : List CVar) (cs : List Cell) (ns : List ℕ) → Filled vs cs ns → length ns ≡ length vs
filled_long [] [] [] h = refl
filled_long [] [] (n ∷ ns) h = absurd h
filled_long [] (c ∷ cs) ns h = absurd h
filled_long (v ∷ vs) [] ns h = absurd h
filled_long (v ∷ vs) (c ∷ cs) [] h = absurd h
filled_long (v ∷ vs) (c ∷ cs) (n ∷ ns) h = ap (λ n. suc n) (filled_long vs cs ns h.1)

abbrev types_of : List CVar → List CTy
types_of params = map (λ v. v.ty) params

module _ (vars : List CVar) (f : Frame) (below env : List ℕ) (hs : Holds vars f env) where
  pub args_filled : (params : List CVar) (args : List CArg) → arguments_fit vars (map AType (types_of params)) args ≡ true → Filled params (cells (arguments (variable_names vars) f args)) (map (look (length below) (below ++ env)) (map (operand_in (variable_names vars)) args))
  args_filled [] [] h = tt
  args_filled [] (a ∷ args) h = absurd (cc)
  args_filled (v ∷ params) [] h = absurd (cc)
  args_filled (v ∷ params) (arg.Str t ∷ args) h = absurd (cc)
  args_filled (v ∷ params) (arg.Entry n ∷ args) h = absurd (cc)
  args_filled (v ∷ params) (arg.Atom a ∷ args) h =
      let p = and_parts (atom_fits vars a v.ty) (arguments_fit vars (map AType (types_of params)) args) h in
      let r = atom_reading vars f below env v.ty a p.0 hs in
      (r.slot, args_filled params args p.1)

  pub args_read : (params : List CVar) (args : List CArg) → arguments_fit vars (map AType (types_of params)) args ≡ true → ReadsAll (length below) (below ++ env) (map (operand_in (variable_names vars)) args)
  args_read [] [] h = tt
  args_read [] (a ∷ args) h = absurd (cc)
  args_read (v ∷ params) [] h = absurd (cc)
  args_read (v ∷ params) (arg.Str t ∷ args) h = absurd (cc)
  args_read (v ∷ params) (arg.Entry n ∷ args) h = absurd (cc)
  args_read (v ∷ params) (arg.Atom a ∷ args) h =
      let p = and_parts (atom_fits vars a v.ty) (arguments_fit vars (map AType (types_of params)) args) h in
      let r = atom_reading vars f below env v.ty a p.0 hs in
      (r.reads, args_read params args p.1)

pub entry_holds : (g : CFun) (cs : List Cell) (ns : List ℕ) → Filled g.params cs ns → Holds (variables_of g) (entry (fun_of g) cs) (ns ++ replicate (length g.locals) 0)
entry_holds g cs ns h =
    let blanks = map (λ (v : CVar). blank v.ty) g.locals in
    let zeros = replicate (length g.locals) 0 in
    let all = filled-append g.params g.locals cs blanks ns zeros h (blanks_filled g.locals) in
    record {
      long = filled_long (variables_of g) (cs ++ blanks) (ns ++ zeros) all;
      each = filled_each (variables_of g) (cs ++ blanks) (ns ++ zeros) all;
    }

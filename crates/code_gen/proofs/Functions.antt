-- A function that was written: its variables, and what its statements rest on.
use Rattle.std.proofs.Common.{◌≡◌, ℕ, suc, ◌+◌, ◌≤◌, ◌^◌, Bool, true, false, List, [], ◌∷◌, ◌++◌, length, map, replicate, Option, Some, refl, sym, ap, ◌∙◌, subst, arith}
use Rattle.std.specs.Prelude.{if◌then◌else◌, IsTrue}
use Rattle.std.proofs.lemmas.Bool.{and_from}
use Rattle.scheme_data.specs.Names.{are_distinct}
use Rattle.core_tree.specs.declared.tree.VarId.{VarId}
use Rattle.core_tree.specs.Tree.{Tree, Constant, Variable, If, Sequence, Call, Primitive, none, more, FunctionTree, ModuleTree, Callee, own_callee}
use Rattle.core_tree.specs.WellFormed.{same_variable, IsFunction, IsWellFormed}
use Rattle.c_tree.specs.declared.tree.CTy.TheVariants as c_ty
use Rattle.c_tree.specs.declared.tree.CVar.{CVar}
use Rattle.c_tree.specs.Code.{Code, done, loop, Fun, defined}
use Rattle.c_tree.specs.Names.{local_name, label_name, is_function_name}
use Rattle.c_tree.specs.Spelling.{NamedVars, NamedCode, NamedItem}
use Rattle.c_tree.proofs.NameShapes.{is_label_name-label_name, local_name_is_variable}
use Rattle.c_meaning.specs.Plain.{Signature, signature_of, variables_of, code_fits, Function, role_of, is_looped, has_shape, function_fits}
use Rattle.plan_rules.specs.declared.rep.Rep.{Rep}
use Rattle.plan_rules.specs.declared.rep.Rep.TheVariants.{Obj}
use Rattle.plan_rules.specs.Representation.{Slot, PlainAt, slot_of, c_type_of}
use Rattle.plan_rules.specs.Translation.{Name, IsLocal, back, scope_of, c_name_of, callees, Tr, TrFunction}
use Rattle.code_gen.specs.Scopes.{words, scope_from}
use Rattle.code_gen.specs.Settings.{Setting, IsBodyIn, TrIn}
use Rattle.code_gen.specs.Emission.{AreBelow, AreCounted, AreLocals, setting_of, word_names, variables_with, IsFunctionOf}
use Rattle.code_gen.proofs.Counts.{below_none, below_one}
use Rattle.code_gen.proofs.Variables.{counted_distinct, counted_locals, counted_named, local_named}
use Rattle.plan_rules.proofs.NameKinds.{function_role}
use Rattle.code_gen.proofs.Soundness.{signature, Grounds, Fine, fine_done, fine_last}
use Rattle.c_tree.proofs.CNames.{named_function}
use Rattle.code_gen.proofs.Declared.{Within, called, callees_distinct, callees_named, named_at, signed}

-- Parameters --------------------------------------------------------------------------------

pub words_below : (n k : ℕ) (params : List VarId) → n + length params ≤ k → AreBelow k (map (λ v. v.name) (words n params))
words_below n k [] within = below_none k
words_below n k (x ∷ xs) within = below_one k n (map (λ v. v.name) (words (suc n) xs)) (omega arith) (words_below (suc n) k xs (omega arith))

words_counted : (n k : ℕ) (params : List VarId) (vs : List CVar) (last : ℕ) → n + length params ≡ k → AreCounted vs k last → AreCounted (words n params ++ vs) n last
unfolding AreCounted
words_counted n k [] vs last e h = let same : k ≡ n = omega arith in subst (λ i. AreCounted vs i last) same h
words_counted n k (x ∷ xs) vs last e h = (refl, words_counted (suc n) k xs vs last (omega arith) h)

words_typed : (n : ℕ) (params : List VarId) → map (λ v. v.ty) (words n params) ≡ map (λ _. c_ty.Obj) params
words_typed n [] = refl
words_typed n (x ∷ xs) = ap (λ ts. c_ty.Obj ∷ ts) (words_typed (suc n) xs)

scoped_at : (b : Bool) (vars : List CVar) (n : ℕ) (other : Option Slot) (r : Rep) (y : Name) → IsLocal vars (local_name n) c_ty.Obj → (other ≡ Some (PlainAt r y) → IsLocal vars y (c_type_of r))
    → (if b then Some (PlainAt Obj (local_name n)) else other) ≡ Some (PlainAt r y) → IsLocal vars y (c_type_of r)
scoped_at true vars n other r y here others e =
    let name : local_name n ≡ y = cc in
    let rep : Obj ≡ r = cc in
    subst (λ k. IsLocal vars y (c_type_of k)) rep (subst (λ z. IsLocal vars z c_ty.Obj) name here)
scoped_at false vars n other r y here others e = others e

-- a variable in scope is a local
scoped : (vars : List CVar) (n : ℕ) (params : List VarId) → AreLocals vars (words n params) → (x : VarId) (r : Rep) (y : Name) → slot_of x (scope_from n params) ≡ Some (PlainAt r y) → IsLocal vars y (c_type_of r)
unfolding AreLocals
scoped vars n [] l x r y e = absurd (cc)
scoped vars n (p ∷ ps) l x r y e = scoped_at (same_variable x p) vars n (slot_of x (scope_from (suc n) ps)) r y l.0 (scoped vars (suc n) ps l.1 x r y) e

-- Its variables -----------------------------------------------------------------------------

pub record HasVariables (params : List VarId) (added : List CVar) : Type 0 where
  pub distinct : are_distinct (map (λ v. v.name) (variables_with params added)) ≡ true
  pub all_named : NamedVars (variables_with params added)
  pub params_named : NamedVars (words 0 params)
  pub locals_named : NamedVars added
  pub words_local : AreLocals (variables_with params added) (words 0 params)
  pub locals : AreLocals (variables_with params added) added

first_named : (xs ys : List CVar) → NamedVars (xs ++ ys) → NamedVars xs
first_named [] ys h = tt
first_named (x ∷ xs) ys h = (h.0, first_named xs ys h.1)

others_named : (xs ys : List CVar) → NamedVars (xs ++ ys) → NamedVars ys
others_named [] ys h = h
others_named (x ∷ xs) ys h = others_named xs ys h.1

first_locals : (vars xs ys : List CVar) → AreLocals vars (xs ++ ys) → AreLocals vars xs
unfolding AreLocals
first_locals vars [] ys h = tt
first_locals vars (x ∷ xs) ys h = (h.0, first_locals vars xs ys h.1)

others_locals : (vars xs ys : List CVar) → AreLocals vars (xs ++ ys) → AreLocals vars ys
unfolding AreLocals
others_locals vars [] ys h = h
others_locals vars (x ∷ xs) ys h = others_locals vars xs ys h.1

pub has_variables : (params : List VarId) (locals : List CVar) (last : ℕ) → AreCounted locals (length params) last → last ≤ 2 ^ 32 → HasVariables params locals
has_variables params locals last counted small =
    let ws = words 0 params in
    let all = words_counted 0 (length params) params locals last (omega arith) counted in
    let named = counted_named (ws ++ locals) 0 last all small in
    let local = counted_locals (ws ++ locals) 0 last all small in
    record {
      distinct = counted_distinct (ws ++ locals) 0 last all small;
      all_named = named;
      params_named = first_named ws locals named;
      locals_named = others_named ws locals named;
      words_local = first_locals (ws ++ locals) ws locals local;
      locals = others_locals (ws ++ locals) ws locals local;
    }

-- Its statements ----------------------------------------------------------------------------

whole_body : (w : Setting) (vars : List CVar) (b : Tree) (live : List Name) (code : Code) → IsBodyIn w b → TrIn w vars b Obj live back code done → TrIn w vars (Sequence (more b none)) Obj live back code done
unfolding Tr
whole_body w vars (Constant c) live code h t = absurd h
whole_body w vars (Variable x) live code h t = absurd h
whole_body w vars (If a b c) live code h t = absurd h
whole_body w vars (Sequence ts) live code h t = t
whole_body w vars (Call g ns) live code h t = absurd h
whole_body w vars (Primitive p ns) live code h t = absurd h

fine_body : (w : Setting) (sigs : List Signature) (vars : List CVar) (grounds : Grounds w sigs vars) (b : Tree) (live : List Name) (code : Code) → IsBodyIn w b → TrIn w vars b Obj live back code done
    → Fine w sigs vars grounds false code
unfolding Tr
fine_body w sigs vars grounds (Constant c) live code h t = absurd h
fine_body w sigs vars grounds (Variable x) live code h t = absurd h
fine_body w sigs vars grounds (If a b c) live code h t = absurd h
fine_body w sigs vars grounds (Sequence none) live code h t = absurd h
fine_body w sigs vars grounds (Sequence (more n ns)) live code h t = fine_last w sigs vars grounds (more n ns) h live code done t (fine_done w sigs vars grounds)
fine_body w sigs vars grounds (Call g ns) live code h t = absurd h
fine_body w sigs vars grounds (Primitive p ns) live code h t = absurd h

looped_fits : (sigs : List Signature) (g : Fun) (l : Name) (body : Code) → role_of g.name ≡ Function → are_distinct (map (λ v. v.name) (variables_of g)) ≡ true → g.result ≡ c_ty.Obj → g.code ≡ loop l body done
    → code_fits sigs (variables_of g) c_ty.Obj body ≡ true → function_fits sigs g ≡ true
looped_fits sigs g l body role distinct result code_is fits =
    let vars = variables_of g in
    let loops : has_shape sigs (role_of g.name) g ≡ true =
    ap (λ r. has_shape sigs r g) role ∙ ap (λ t. is_looped sigs vars t g.code) result ∙ ap (is_looped sigs vars c_ty.Obj) code_is ∙ fits in
    and_from (are_distinct (map (λ v. v.name) vars)) (has_shape sigs (role_of g.name) g) distinct loops

-- what a function of a unit is, where these are the signatures before it
pub record Fits (m : ModuleTree) (sigs : List Signature) (f : FunctionTree) (g : Fun) : Type 0 where
  pub role : role_of g.name ≡ Function
  pub fits : function_fits sigs g ≡ true
  pub signature_is : signature_of (defined g) ≡ signature (own_callee m.name f)
  pub named : NamedItem (defined g)
  pub translated : TrFunction m f g

as_many_words : (params : List VarId) → map (λ _. c_ty.Obj) params ≡ replicate (length params) c_ty.Obj
as_many_words [] = refl
as_many_words (x ∷ xs) = ap (λ ts. c_ty.Obj ∷ ts) (as_many_words xs)

signature_at : (c : Callee) (g : Fun) → g.name ≡ c_name_of c → g.result ≡ c_ty.Obj → map (λ v. v.ty) g.params ≡ replicate c.params c_ty.Obj → signature_of (defined g) ≡ signature c
signature_at c g name result params = cc

-- what the statements of a unit's function rest on
pub grounded : (m : ModuleTree) (w : IsWellFormed m) (cs : List Callee) (params : List VarId) (locals : List CVar) → Within cs (callees m) → Within (callees m) cs → HasVariables params locals
    → Grounds (record { in_module = m; params = params }) (map signature cs) (variables_with params locals)
grounded m w cs params locals within covers has =
    let vars = variables_with params locals in
    record {
      locals_named = λ x t l. local_name_is_variable x (local_named vars x t has.all_named l);
      scoped = scoped vars 0 params has.words_local;
      signed = λ r c found. let here = called m r c found in signed (callees m) (callees_distinct m w) c cs here within (covers c here);
      called_named = λ r c found. named_at (callees m) c (callees_named m w) (called m r c found);
    }

pub function_fits_module : (m : ModuleTree) (w : IsWellFormed m) (cs : List Callee) (f : FunctionTree) (g : Fun) → Within cs (callees m) → Within (callees m) cs → IsFunction m f
    → IsFunctionOf m f g → Fits m (map signature cs) f g
function_fits_module m w cs f g within covers formed is =
    let has = has_variables f.params g.locals is.last is.counted is.small in
    let s = setting_of m f in
    let vars = variables_with f.params g.locals in
    let are : vars ≡ variables_of g = ap (λ ps. ps ++ g.locals) (sym is.params) in
    let sigs = map signature cs in
    let grounds : Grounds s sigs vars = grounded m w cs f.params g.locals within covers has in
    let fine = fine_body s sigs vars grounds f.body (word_names f.params) is.code formed.body is.translated in
    let role : role_of g.name ≡ Function = ap role_of is.name_is ∙ function_role m.name f.name in
    let types : map (λ v. v.ty) g.params ≡ map (λ _. c_ty.Obj) f.params = ap (map (λ v. v.ty)) is.params ∙ words_typed 0 f.params in
    record {
      role = role;
      fits = looped_fits sigs g (label_name 0) is.code role (subst (λ vs. are_distinct (map (λ v. v.name) vs) ≡ true) are has.distinct) is.result is.looped (subst (λ vs. code_fits sigs vs c_ty.Obj is.code ≡ true) are fine.fits);
      signature_is = signature_at (own_callee m.name f) g is.name_is is.result (types ∙ as_many_words f.params);
      named = (
        subst (λ x. IsTrue (is_function_name x)) (sym is.name_is) (named_function m.name f.name w.name formed.name),
        subst NamedVars (sym is.params) has.params_named,
        has.locals_named,
        subst NamedCode (sym is.looped) (is_label_name-label_name 0 (omega arith), fine.named, tt),
      );
      translated = record {
        name = is.name_is;
        result = is.result;
        params = types;
        label = label_name 0;
        body = is.code;
        looped = is.looped;
        translated = subst (λ ps. Tr m (scope_of f.params ps) (ps ++ g.locals) (Sequence (more f.body none)) Obj (map (λ v. v.name) ps) back is.code done) (sym is.params)
            (whole_body s vars f.body (word_names f.params) is.code formed.body is.translated);
      };
    }

-- Variables in scope have their values where their slots say.
use Rattle.std.proofs.Common.{◌≡◌, ℕ, suc, ◌≤◌, List, [], ◌∷◌, ◌++◌, length, Bool, true, false, Some, refl, sym, ap, ◌∙◌, subst, inl, inr, arith}
use Rattle.std.specs.Prelude.{map, not, ◌||◌, if◌then◌else◌}
use Rattle.std.specs.List.{list_any}
use Rattle.std.proofs.lemmas.Bool.{and_parts, not-true}
use Rattle.std.specs.Cmp.Lexicographic.{nat_list_eq_equiv}
use Rattle.scheme_data.specs.Names.{are_distinct, is_same}
use Rattle.core_tree.specs.declared.tree.VarId.{VarId}
use Rattle.core_tree.specs.WellFormed.{same_variable}
use Rattle.meaning.specs.Value.{Value}
use Rattle.meaning.specs.Evaluation.{Environment, bound, value_of}
use Rattle.c_tree.specs.declared.tree.CTy.TheVariants as c_ty
use Rattle.c_tree.specs.declared.tree.CVar.{CVar}
use Rattle.c_meaning.specs.State.{Cell, Frame, State as CState, frame_of}
use Rattle.c_meaning.specs.Execution.{position_of}
use Rattle.plan_rules.specs.declared.rep.Rep.{Rep}
use Rattle.plan_rules.specs.declared.rep.Rep.TheVariants.{Obj}
use Rattle.plan_rules.specs.Representation.{Slot, PlainAt, Scope, slot_of}
use Rattle.plan_rules.specs.Translation.{Name, In, Fresh, scope_of}
use Rattle.plan_rules.proofs.NameKinds.{other_name}
use Rattle.simulation.proofs.Frames.{names, Kept}
use Rattle.simulation.proofs.Worlds.{World, IsRep, rep_moves, rep_grows, Grows, Words, no_words, a_word, Same}
use Rattle.simulation.proofs.Ends.{Base, Moved}

-- Slots -------------------------------------------------------------------------------------

-- a value in a live local
pub record InLocal (vars : List CVar) (world : World) (f : Frame) (live : List Name) (r : Rep) (y : Name) (v : Value) : Type 0 where
  pub here : IsRep world r v (f (position_of y (names vars)))
  pub live_name : In y live

abbrev pub InSlot : List CVar → World → Frame → List Name → Slot → Value → Type 0
InSlot vars world f live (PlainAt r y) v = InLocal vars world f live r y v

slot_moves : (vars : List CVar) (world later : World) (f g : Frame) (live more : List Name) → Grows world later → Kept vars live f g → ((x : Name) → In x live → In x more) → (slot : Slot) (v : Value) → InSlot vars world f live slot v → InSlot vars later g more slot v
slot_moves vars world later f g live more grows kept sub (PlainAt r y) v h =
    let at = position_of y (names vars) in
    record { here = rep_moves later r v (f at) (g at) (kept.by y h.live_name) (rep_grows r v (f at) world later grows h.here); live_name = sub y h.live_name }

-- Scopes ------------------------------------------------------------------------------------

-- a scope beside the environment
pub data Scoped (vars : List CVar) (world : World) (f : Frame) (live : List Name) : Scope → Environment → Type 0 where
  no_variables : Scoped vars world f live [] []
  variable : {x : VarId} {slot : Slot} {v : Value} {scope : Scope} {env : Environment} → InSlot vars world f live slot v → Scoped vars world f live scope env → Scoped vars world f live ((x, slot) ∷ scope) ((x, v) ∷ env)

pub scoped_moves : (vars : List CVar) (world later : World) (f g : Frame) (live more : List Name) → Grows world later → Kept vars live f g → ((x : Name) → In x live → In x more) → {scope : Scope} {env : Environment} → Scoped vars world f live scope env → Scoped vars later g more scope env
scoped_moves vars world later f g live more grows kept sub no_variables = no_variables
scoped_moves vars world later f g live more grows kept sub (variable here others) =
    variable (slot_moves vars world later f g live more grows kept sub _ _ here) (scoped_moves vars world later f g live more grows kept sub others)

-- the value of a variable whose slot this is
pub record Stands (vars : List CVar) (world : World) (f : Frame) (live : List Name) (x : VarId) (env : Environment) (slot : Slot) : Type 0 where
  pub v : Value
  pub is : value_of x env ≡ Some v
  pub at : InSlot vars world f live slot v

stands_first : (vars : List CVar) (world : World) (f : Frame) (live : List Name) (x y : VarId) (found slot : Slot) (v : Value) (scope : Scope) (env : Environment) (b : Bool) → same_variable x y ≡ b → (if b then Some slot else slot_of x scope) ≡ Some found → InSlot vars world f live slot v → (slot_of x scope ≡ Some found → Stands vars world f live x env found) → Stands vars world f live x ((y, v) ∷ env) found
stands_first vars world f live x y found slot v scope env true e is here others =
    let same : slot ≡ found = cc in record { v = v; is = ap (λ b. if b then Some v else value_of x env) e; at = subst (λ z. InSlot vars world f live z v) same here }
stands_first vars world f live x y found slot v scope env false e is here others =
    let h = others is in record { v = h.v; is = ap (λ b. if b then Some v else value_of x env) e ∙ h.is; at = h.at }

pub stands : (vars : List CVar) (world : World) (f : Frame) (live : List Name) (x : VarId) (found : Slot) {scope : Scope} {env : Environment} → Scoped vars world f live scope env → slot_of x scope ≡ Some found → Stands vars world f live x env found
stands vars world f live x found no_variables e = absurd (cc)
stands vars world f live x found (variable {x = y} {slot = slot} {v = v} {scope = scope} {env = env} here others) e =
    stands_first vars world f live x y found slot v scope env (same_variable x y) refl e here (λ e1. stands vars world f live x found others e1)

-- what evaluation needs where it begins
pub record Ready (vars : List CVar) (scope : Scope) (env : Environment) (limit : ℕ) (b : Base) (t : CState) : Type 0 where
  pub scoped : Scoped vars b.world b.frame b.live scope env
  pub same : Same b.world b.state t
  pub turns : b.state.turns ≤ limit

pub ready_on : (vars : List CVar) (scope : Scope) (env : Environment) (limit : ℕ) (b d : Base) (t t1 : CState) → Ready vars scope env limit b t → ((x : Name) → In x b.live → In x d.live) → Moved vars b d.world d.state d.frame → Same d.world d.state t1 → Ready vars scope env limit d t1
ready_on vars scope env limit b d t t1 h sub m same =
    record { scoped = scoped_moves vars b.world d.world b.frame d.frame b.live d.live m.grows m.kept sub h.scoped; same = same; turns = omega (arith, h.turns, m.frozen.turns) }

-- Parameters --------------------------------------------------------------------------------

-- one more local before the others
slot_under : (v : CVar) (vars : List CVar) (world : World) (f : Frame) (live : List Name) → Fresh v.name live → (slot : Slot) (u : Value) → InSlot vars world (λ k. f (suc k)) live slot u → InSlot (v ∷ vars) world f (v.name ∷ live) slot u
slot_under v vars world f live fresh (PlainAt r y) u h =
    let other : is_same y v.name ≡ false = other_name y v.name (λ e. fresh (subst (λ z. In z live) e h.live_name)) in
    let below = position_of y (names vars) in
    let at : position_of y (names (v ∷ vars)) ≡ suc below = ap (λ b. if b then 0 else suc below) other in
    record { here = rep_moves world r u (f (suc below)) (f (position_of y (names (v ∷ vars)))) (ap f at) h.here; live_name = inr h.live_name }

scoped_under : (v : CVar) (vars : List CVar) (world : World) (f : Frame) (live : List Name) → Fresh v.name live → {scope : Scope} {env : Environment} → Scoped vars world (λ k. f (suc k)) live scope env → Scoped (v ∷ vars) world f (v.name ∷ live) scope env
scoped_under v vars world f live fresh no_variables = no_variables
scoped_under v vars world f live fresh (variable here others) = variable (slot_under v vars world f live fresh _ _ here) (scoped_under v vars world f live fresh others)

not_in : (x : Name) (ps locals : List CVar) → list_any (is_same x) (names (ps ++ locals)) ≡ false → Fresh x (names ps)
not_in x [] locals e i = i
not_in x (p ∷ ps) locals e (inl q) = go (is_same x p.name) (ap (is_same x) (sym q) ∙ nat_list_eq_equiv.refl x) e
  where
    go : (b : Bool) → b ≡ true → (b || list_any (is_same x) (names (ps ++ locals))) ≡ false → ⊥
    go true e1 e2 = absurd (cc)
    go false e1 e2 = absurd (cc)
not_in x (p ∷ ps) locals e (inr i) = not_in x ps locals (go (is_same x p.name) e) i
  where
    go : (b : Bool) → (b || list_any (is_same x) (names (ps ++ locals))) ≡ false → list_any (is_same x) (names (ps ++ locals)) ≡ false
    go true e1 = absurd (cc)
    go false e1 = e1

-- the frame of a call has the parameters' values in their locals
pub parameters : (world : World) (xs : List VarId) (ps locals : List CVar) (blanks : List Cell) {vs : List Value} {cs : List Cell} → Words world vs cs → length vs ≡ length xs → map (λ v. v.ty) ps ≡ map (λ _. c_ty.Obj) xs → are_distinct (names (ps ++ locals)) ≡ true → Scoped (ps ++ locals) world (frame_of (cs ++ blanks)) (names ps) (scope_of xs ps) (bound xs vs [])
parameters world [] [] locals blanks no_words e types dist = no_variables
parameters world [] [] locals blanks (a_word here others) e types dist = absurd (omega arith)
parameters world [] (p ∷ ps) locals blanks words e types dist = absurd (cc)
parameters world (x ∷ xs) [] locals blanks words e types dist = absurd (cc)
parameters world (x ∷ xs) (p ∷ ps) locals blanks no_words e types dist = absurd (omega arith)
parameters world (x ∷ xs) (p ∷ ps) locals blanks (a_word {v = v} {c = c} {vs = vs} {cs = cs} here others) e types dist =
    let parts = and_parts (not (list_any (is_same p.name) (names (ps ++ locals)))) (are_distinct (names (ps ++ locals))) dist in
    let f = frame_of (c ∷ cs ++ blanks) in
    let below : length vs ≡ length xs = omega (arith, e) in
    let types_below : map (λ v. v.ty) ps ≡ map (λ _. c_ty.Obj) xs = cc in
    let fresh : Fresh p.name (names ps) = not_in p.name ps locals (not-true (list_any (is_same p.name) (names (ps ++ locals))) parts.0) in
    let at : position_of p.name (names (p ∷ ps ++ locals)) ≡ 0 = ap (λ b. if b then 0 else suc (position_of p.name (names (ps ++ locals)))) (nat_list_eq_equiv.refl p.name) in
    variable (record { here = rep_moves world Obj v c (f (position_of p.name (names (p ∷ ps ++ locals)))) (ap f at) here; live_name = inl refl })
    (scoped_under p (ps ++ locals) world f (names ps) fresh (parameters world xs ps locals blanks others below types_below parts.1))

-- A call of a function of the program, where calls of functions do the same on both sides.
use Rattle.std.proofs.Common.{◌≡◌, ℕ, suc, ◌≤◌, List, [], ◌∷◌, length, Bool, true, false, Option, Some, None, refl, sym, ap, ◌∙◌, subst}
use Rattle.std.specs.Prelude.{nat_eq, map, if◌then◌else◌}
use Rattle.std.proofs.lemmas.Bool.{eqb-true}
use Rattle.scheme_data.specs.Decimal.{decimal_text}
use Rattle.prim_table.specs.Errors.{number_of}
use Rattle.prim_table.specs.declared.errors.ErrCode.TheVariants.{ArgumentCount}
use Rattle.core_tree.specs.declared.tree.GlobalRef.{GlobalRef}
use Rattle.core_tree.specs.Tree.{Trees, none, more, count, ModuleTree, Callee, callee_of}
use Rattle.meaning.specs.Value.{Value, State, Outcome, bind, take_turn}
use Rattle.meaning.specs.Value as src
use Rattle.meaning.specs.Primitives.{counted, tested}
use Rattle.meaning.specs.Procedures.{Procedure, procedure_of, takes, is_there}
use Rattle.meaning.specs.Evaluation.{bound, apply, called}
use Rattle.meaning.specs.Evaluation as source
use Rattle.c_tree.specs.declared.tree.CVar.{CVar}
use Rattle.c_tree.specs.Code.{Code, Fun}
use Rattle.c_meaning.specs.State.{Cell, Frame, State as CState, Flow}
use Rattle.c_meaning.specs.Execution.{Lower, arguments, cells, enter, exec, fun_named}
use Rattle.plan_rules.specs.declared.rep.Rep.TheVariants.{Obj}
use Rattle.plan_rules.specs.Representation.{Scope, call_of, local}
use Rattle.plan_rules.specs.Translation.{Name, Target, Miscounted, haves, objects, is_counted, c_name_of, TrCounted, TrCall}
use Rattle.simulation.proofs.Frames.{names}
use Rattle.simulation.proofs.Worlds.{World, Words, no_words, a_word, Same}
use Rattle.simulation.proofs.Ends.{Base, Answered, Reached, bind_ends}
use Rattle.simulation.proofs.Fits.{AllRep, no_values, value, AllArgs, no_arguments, argument}
use Rattle.simulation.proofs.Arguments.{finish, Open, Settled, Settles, Work, Evaluated, applied}

-- calls of the program's functions do the same, where at most so many turns are left
abbrev pub CallsDo : List Fun → Lower → List ModuleTree → source.Lower → ℕ → Type 0
CallsDo p lower program lo limit =
    (c : Callee) (q : Procedure) → procedure_of program (Some c) ≡ Some q → (vs : List Value) (cs : List Cell) (world : World) (s : State) (t : CState) → Words world vs cs → length vs ≡ length q.function.params → Same world s t → s.turns ≤ limit → Answered world s Obj (take_turn s (λ s1. lo q.home q.function.body (bound q.function.params vs []) s1)) (enter lower (fun_named p (c_name_of c)) cs t)

-- what a module calls is there, with as many parameters
abbrev pub Linked : List ModuleTree → ModuleTree → Type 0
Linked program m = (g : GlobalRef) (c : Callee) → callee_of m g ≡ Some c → is_there program c ≡ true

-- Arguments that are words ------------------------------------------------------------------

objects_long : (ns : Trees) → length (objects ns) ≡ count ns
objects_long none = refl
objects_long (more n ns) = ap suc (objects_long ns)

-- their tests always pass
objects_pass : {A : Type 0} (ns : Trees) (vs : List Value) (s : State) (next : Outcome A) → tested (objects ns) vs s next ≡ next
objects_pass none vs s next = refl
objects_pass (more n ns) [] s next = refl
objects_pass (more n ns) (v ∷ vs) s next = objects_pass ns vs s next

as_words : (vars : List CVar) (world : World) (f : Frame) (ns : Trees) {vs : List Value} {made : List Name} → AllArgs vars world f (objects ns) vs made → Words world vs (cells (arguments (names vars) f (map local made)))
as_words vars world f none no_arguments = no_words
as_words vars world f (more n ns) (argument here ok others) = a_word here (as_words vars world f ns others)

arguments_long : (vars : List CVar) (world : World) (f : Frame) (ns : Trees) {vs : List Value} {made : List Name} → AllArgs vars world f (objects ns) vs made → length vs ≡ count ns
arguments_long vars world f none no_arguments = refl
arguments_long vars world f (more n ns) (argument here ok others) = ap suc (arguments_long vars world f ns others)

values_long : (scope : Scope) (vars : List CVar) (world : World) (f : Frame) (ns : Trees) {vs : List Value} {temporaries : List Name} → AllRep vars world f (haves scope (objects ns) ns) vs temporaries → length vs ≡ count ns
values_long scope vars world f none no_values = refl
values_long scope vars world f (more n ns) (value here others) = ap suc (values_long scope vars world f ns others)

-- Calls -------------------------------------------------------------------------------------

module _ (program : List ModuleTree) (m : ModuleTree) (linked : Linked program m) (scope : Scope) (vars : List CVar) (p : List Fun) (lower : Lower) (lo : source.Lower) (limit : ℕ) where
  abbrev call_work : CallsDo p lower program lo limit → (c : Callee) (q : Procedure) → procedure_of program (Some c) ≡ Some q → (ns : Trees) → count ns ≡ length q.function.params → Work vars p lower limit (objects ns) Obj
  call_work calls c q at ns many =
      record {
        core = λ vs s. take_turn s (λ s1. lo q.home q.function.body (bound q.function.params vs []) s1);
        doing = λ args. call_of (c_name_of c) args;
        acts = λ world vs made frame s t low all same. calls c q at vs (cells (arguments (names vars) frame (map local made))) world s t (as_words vars world frame ns all) (arguments_long vars world frame ns all ∙ many) same low;
      }

  -- a call, as it counts and tests words
  call_whole : (q : Procedure) (ns : Trees) (vs : List Value) (s : State) → count ns ≡ length q.function.params → apply lo q.home q.function vs s ≡ counted (length (objects ns)) (length vs) s (tested (objects ns) vs s (take_turn s (λ s1. lo q.home q.function.body (bound q.function.params vs []) s1)))
  call_whole q ns vs s many =
      let next = take_turn s (λ s1. lo q.home q.function.body (bound q.function.params vs []) s1) in
      ap (λ k. counted k (length vs) s next) (sym (objects_long ns ∙ many)) ∙ ap (λ o. counted (length (objects ns)) (length vs) s o) (sym (objects_pass ns vs s next))

  -- the wrong number of arguments raises the same error on both sides
  miscounted : (q : Procedure) (args : List Name → Code → Code → Type 0) (ns : Trees) (to : Option Target) (rest code : Code) (b : Base) (o : Outcome (List Value)) (flow : Flow) → nat_eq (count ns) (length q.function.params) ≡ false → (a : Miscounted vars args (length q.function.params) code rest) → Evaluated vars p lower (haves scope (objects ns) ns) a.temporaries a.middle b o flow → Settles vars p lower to Obj rest b (bind o (λ vs s. apply lo q.home q.function vs s)) flow
  miscounted q args ns to rest code b o flow wrong a evaluated =
      bind_ends vars (λ vs s x. Reached vars p lower b a.middle (λ world g. AllRep vars world g (haves scope (objects ns) ns) vs a.temporaries) s x) (λ v s x. Settled vars p lower to Obj rest b v s x) b o (λ vs s. apply lo q.home q.function vs s) flow evaluated
      (λ vs s h.
      let next = take_turn s (λ s1. lo q.home q.function.body (bound q.function.params vs []) s1) in
      let want = length q.function.params in
      let counts : nat_eq (length vs) want ≡ false = ap (λ k. nat_eq k want) (values_long scope vars h.later h.g ns h.here) ∙ wrong in
      let raises : apply lo q.home q.function vs s ≡ src.Raises (number_of ArgumentCount) (decimal_text want) s = ap (λ x. if x then next else src.Raises (number_of ArgumentCount) (decimal_text want) s) counts in
      subst (λ z. Settles vars p lower to Obj rest b z flow) (sym raises) (record { later = h.later; t = h.t; is = h.is ∙ ap (λ x. exec p lower (names vars) x h.g h.t) a.is; same = h.same }))

  -- what the arguments' statements do
  abbrev pub ArgumentsDo : (List Name → Code → Code → Type 0) → Trees → Base → Code → Outcome (List Value) → CState → Type 0
  ArgumentsDo args ns b code o t = (temporaries : List Name) (middle : Code) → args temporaries code middle → Evaluated vars p lower (haves scope (objects ns) ns) temporaries middle b o (exec p lower (names vars) code b.frame t)

  counted_ends : CallsDo p lower program lo limit → (c : Callee) (q : Procedure) → procedure_of program (Some c) ≡ Some q → length q.function.params ≡ c.params → (right : Bool) (args : List Name → Code → Code → Type 0) (ns : Trees) (to : Option Target) (rest code : Code) (b : Base) (o : Outcome (List Value)) (t : CState) → is_counted c ns ≡ right → b.state.turns ≤ limit → Open vars b.live to → TrCounted m scope vars right c args ns b.live (λ k. finish to rest k) code rest → ArgumentsDo args ns b code o t → Settles vars p lower to Obj rest b (bind o (λ vs s. apply lo q.home q.function vs s)) (exec p lower (names vars) code b.frame t)
  counted_ends calls c q at takes_so true args ns to rest code b o t counts low free a evaluated =
      let many : count ns ≡ length q.function.params = eqb-true (count ns) c.params counts ∙ sym takes_so in
      applied vars p lower limit (objects ns) Obj (call_work calls c q at ns many) to rest (λ vs s. apply lo q.home q.function vs s) (λ vs s. call_whole q ns vs s many) args (haves scope (objects ns) ns) b code o _ low free a (evaluated a.temporaries a.middle a.values)
  counted_ends calls c q at takes_so false args ns to rest code b o t counts low free a evaluated =
      let wrong : Miscounted vars args (length q.function.params) code rest = subst (λ k. Miscounted vars args k code rest) (sym takes_so) a in
      miscounted q args ns to rest code b o _ (ap (nat_eq (count ns)) takes_so ∙ counts) wrong (evaluated wrong.temporaries wrong.middle wrong.values)

  there_ends : CallsDo p lower program lo limit → (c : Callee) (there : Option Procedure) → procedure_of program (Some c) ≡ there → takes c.params there ≡ true → (args : List Name → Code → Code → Type 0) (ns : Trees) (to : Option Target) (rest code : Code) (b : Base) (o : Outcome (List Value)) (t : CState) → b.state.turns ≤ limit → Open vars b.live to → TrCall m scope vars (Some c) args ns b.live (λ k. finish to rest k) code rest → ArgumentsDo args ns b code o t → Settles vars p lower to Obj rest b (bind o (λ vs s. called lo there vs s)) (exec p lower (names vars) code b.frame t)
  there_ends calls c None at takes_so args ns to rest code b o t low free a evaluated = absurd (cc)
  there_ends calls c (Some q) at takes_so args ns to rest code b o t low free a evaluated = counted_ends calls c q at (eqb-true (length q.function.params) c.params takes_so) (is_counted c ns) args ns to rest code b o t refl low free a evaluated

  found_ends : CallsDo p lower program lo limit → (g : GlobalRef) (found : Option Callee) → callee_of m g ≡ found → (args : List Name → Code → Code → Type 0) (ns : Trees) (to : Option Target) (rest code : Code) (b : Base) (o : Outcome (List Value)) (t : CState) → b.state.turns ≤ limit → Open vars b.live to → TrCall m scope vars found args ns b.live (λ k. finish to rest k) code rest → ArgumentsDo args ns b code o t → Settles vars p lower to Obj rest b (bind o (λ vs s. called lo (procedure_of program found) vs s)) (exec p lower (names vars) code b.frame t)
  found_ends calls g None at args ns to rest code b o t low free a evaluated = absurd a
  found_ends calls g (Some c) at args ns to rest code b o t low free a evaluated = there_ends calls c (procedure_of program (Some c)) refl (linked g c at) args ns to rest code b o t low free a evaluated

  pub call_ends : CallsDo p lower program lo limit → (g : GlobalRef) (args : List Name → Code → Code → Type 0) (ns : Trees) (to : Option Target) (rest code : Code) (b : Base) (o : Outcome (List Value)) (t : CState) → b.state.turns ≤ limit → Open vars b.live to → TrCall m scope vars (callee_of m g) args ns b.live (λ k. finish to rest k) code rest → ArgumentsDo args ns b code o t → Settles vars p lower to Obj rest b (bind o (λ vs s. called lo (procedure_of program (callee_of m g)) vs s)) (exec p lower (names vars) code b.frame t)
  call_ends calls g args ns to rest code b o t low free a evaluated = found_ends calls g (callee_of m g) refl args ns to rest code b o t low free a evaluated

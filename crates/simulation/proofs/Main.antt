-- The linked program does what its modules do.
use Rattle.std.proofs.Common.{◌≡◌, ℕ, zero, suc, ◌≤◌, List, [], ◌∷◌, ◌++◌, length, Some, true, false, refl, sym, ap, ◌∙◌, subst, arith, inl, inr}
use Rattle.std.specs.Prelude.{codes, map, slice_get, nat_eq, pos, negsuc, if◌then◌else◌}
use Rattle.std.specs.List.{flat_map}
use Rattle.scheme_data.specs.Names.{are_distinct}
use Rattle.scheme_data.specs.Decimal.{decimal_text}
use Rattle.base_io.specs.declared.end.End.{End}
use Rattle.base_io.specs.declared.end.End.TheVariants.{Ended, Raised, Spent}
use Rattle.base_io.specs.Observation.{Observation}
use Rattle.prim_table.specs.Errors.{number_of}
use Rattle.prim_table.specs.declared.errors.ErrCode.TheVariants.{ArgumentCount}
use Rattle.core_tree.specs.declared.tree.VarId.{VarId}
use Rattle.core_tree.specs.Tree.{FunctionTree, ModuleTree, Callee}
use Rattle.meaning.specs.Value.{Value, Fixnum, Boolean, Empty, Unspecified, Object, State, Outcome, bind, take_turn}
use Rattle.meaning.specs.Value as source
use Rattle.meaning.specs.Primitives.{counted}
use Rattle.meaning.specs.Procedures.{Procedure, procedure_of}
use Rattle.meaning.specs.Evaluation.{bound, called, ev_last}
use Rattle.meaning.specs.Evaluation as evaluation
use Rattle.meaning.specs.Program.{src, observed, status_of, initialized, IsProgram}
use Rattle.meaning.specs.Program as program_of
use Rattle.c_tree.specs.declared.tree.CAtom.TheVariants as atom
use Rattle.c_tree.specs.declared.tree.CExpr.TheVariants as expr
use Rattle.c_tree.specs.declared.op.Op.TheVariants.{Status}
use Rattle.c_tree.specs.declared.tree.CTy.TheVariants as c_ty
use Rattle.c_tree.specs.declared.tree.CVar.{CVar}
use Rattle.c_tree.specs.Code.{Fun, Code, done, loop, return}
use Rattle.c_tree.specs.Names.{maker_name, initializer_name}
use Rattle.c_meaning.specs.Word.{Word, Nil, Unspec}
use Rattle.c_meaning.specs.Word as word
use Rattle.c_meaning.specs.State.{Cell, AWord, State as CState, Frame, put, frame_of, Answer, Has as HasCell, Flow, Next, Goes, Returns, Escapes, Raises, Spends, Fails, with, after, answer}
use Rattle.c_meaning.specs.Operations.{ACell, operate, status_in}
use Rattle.c_meaning.specs.Execution.{Lower, fun_named, names_of, entry, iterate, looped, run, enter, enter_any, exec, exec_main}
use Rattle.c_meaning.specs.Plain.{defined_names}
use Rattle.c_meaning.specs.Program.{cm, functions_of, shown, start, run_main, main_of}
use Rattle.plan_rules.specs.declared.rep.Rep.TheVariants.{Obj}
use Rattle.plan_rules.specs.Translation.{Name, IsEmpty, TrFunction, TrForms, c_name_of}
use Rattle.plan_rules.specs.Joined.{Part, calls_alone, call_main, main_code, main_function, first_local, second_local, joined}
use Rattle.simulation.specs.Law.{AreTranslated}
use Rattle.simulation.proofs.Worlds.{World, AtBlock, Away, WordOf, Words, no_words, a_word, no_globals, Same}
use Rattle.simulation.proofs.Ends.{Base, Answered, Passed}
use Rattle.simulation.proofs.Scopes.{no_variables}
use Rattle.simulation.proofs.Members.{Has}
use Rattle.simulation.proofs.Links.{placed, links}
use Rattle.simulation.proofs.Found.{defined_after, is_found, Found, function_found, maker_found, initializer_found}
use Rattle.simulation.proofs.Callees.{CallsDo, Linked}
use Rattle.simulation.proofs.Nodes.{sim_all_unused}
use Rattle.simulation.proofs.Calls.{functions_do}

-- The main function -------------------------------------------------------------------------

-- the definition of `main`
abbrev main_fun : List (List ℕ) → Name → Fun
main_fun ms f = record { result = c_ty.Int; name = codes "main"; params = []; locals = record { ty = c_ty.Obj; name = first_local } ∷ record { ty = c_ty.Obj; name = second_local } ∷ []; code = main_code ms f }

abbrev main_names : List Name
main_names = first_local ∷ second_local ∷ []

abbrev first_frame : Frame
first_frame = frame_of (AWord (word.Fixnum (pos 0)) ∷ AWord (word.Fixnum (pos 0)) ∷ [])

abbrev main_frame : Frame
main_frame = put 0 (AWord Nil) first_frame

-- `main` after its call of the main function
abbrev main_ends : Answer → Observation
main_ends a = shown (with a main_frame (λ k t. with (operate Status (ACell k ∷ []) t) (put 1 k main_frame) (λ k2 t2. Returns k2 t2)))

-- what is left of `main`
abbrev main_runs : List Fun → Lower → Code → CState → Flow
main_runs p lower code t = exec_main p lower main_names code first_frame t

after_next : (x : Flow) → after x (λ f s. Next f s) ≡ x
after_next (Next f s) = refl
after_next (Goes l f s) = refl
after_next (Returns c s) = refl
after_next (Escapes x w f s) = refl
after_next (Raises c t s) = refl
after_next (Spends s) = refl
after_next (Fails k s) = refl

-- `main` calls a function that is one loop as other functions do
loop_enters : (p : List Fun) (lower : Lower) (g : Fun) (l : Name) (body : Code) (cs : List Cell) (s : CState) → g.code ≡ loop l body done → enter_any p lower (Some g) cs s ≡ enter lower (Some g) cs s
loop_enters p lower g l body cs s e =
    ap (λ c. answer (exec p lower (names_of g) c (entry g cs) s)) e
    ∙ ap answer (after_next (iterate lower (names_of g) l body (entry g cs) s))
    ∙ sym (ap (λ c. answer (looped lower (names_of g) c (entry g cs) s)) e)

found_loop : (p : List Fun) (lower : Lower) (n : Name) (g : Fun) (l : Name) (body : Code) (cs : List Cell) (s : CState) → fun_named p n ≡ Some g → g.code ≡ loop l body done → enter_any p lower (fun_named p n) cs s ≡ enter lower (fun_named p n) cs s
found_loop p lower n g l body cs s at e = ap (λ o. enter_any p lower o cs s) at ∙ loop_enters p lower g l body cs s e ∙ sym (ap (λ o. enter lower o cs s) at)

-- Ends --------------------------------------------------------------------------------------

status_alike : (world : World) (v : Value) (w : Word) → WordOf world v w → status_in w ≡ status_of v
status_alike world (Fixnum (pos n)) w h = ap status_in h
status_alike world (Fixnum (negsuc n)) w h = ap status_in h
status_alike world (Boolean true) w h = ap status_in h
status_alike world (Boolean false) w h = ap status_in h
status_alike world Empty w h = ap status_in h
status_alike world Unspecified w h = ap status_in h

abbrev seen : List ℕ → End → Observation
seen output end = record { output = output; end = end }

ends_alike : (world : World) (s0 : State) (o : Outcome Value) (a : Answer) → Answered world s0 Obj o a → main_ends a ≡ observed o
ends_alike world s0 (source.Gives v s) a h =
    ap main_ends (h.is) ∙ ap (λ k. shown (with (operate Status (ACell k ∷ []) h.t) (put 1 h.cell main_frame) (λ k2 t2. Returns k2 t2))) h.here.is
    ∙ ap (λ x. seen x (Ended (status_in h.here.w))) (sym h.same.output) ∙ ap (λ n. seen s.output (Ended n)) (status_alike h.later v h.here.w h.here.means)
ends_alike world s0 (source.Escapes x v s) a h = ap main_ends h.is ∙ ap (λ x. seen x (Raised 7 [])) (sym h.same.output)
ends_alike world s0 (source.Raises code text s) a h = ap main_ends h.is ∙ ap (λ x. seen x (Raised code text)) (sym h.same.output)
ends_alike world s0 (source.Spends s) a h = ap main_ends h.is ∙ ap (λ x. seen x Spent) (sym h.same.output)

-- Makers ------------------------------------------------------------------------------------

-- a function that does nothing takes no turn
empty_enters : (p : List Fun) (lower : Lower) (n : Name) (g : Fun) (s : CState) → IsEmpty n g → enter_any p lower (Some g) [] s ≡ HasCell (AWord Unspec) s
empty_enters p lower n g s empty = ap (λ c. answer (exec p lower (names_of g) c (entry g []) s)) empty.code

makers_do : (p : List Fun) (lower : Lower) (ms : List ModuleTree) → ((m : ModuleTree) → Has ms m → Found p (maker_name m.name) (IsEmpty (maker_name m.name))) → (rest : Code) (t : CState) → main_runs p lower (calls_alone (map maker_name (map (λ m. m.name) ms)) rest) t ≡ main_runs p lower rest t
makers_do p lower [] found rest t = refl
makers_do p lower (m ∷ ms) found rest t =
    let h = found m (inl refl) in
    let made : enter_any p lower (fun_named p (maker_name m.name)) [] t ≡ HasCell (AWord Unspec) t = ap (λ o. enter_any p lower o [] t) h.at ∙ empty_enters p lower (maker_name m.name) h.g t h.is in
    ap (λ a. with a first_frame (λ _ t1. main_runs p lower (calls_alone (map maker_name (map (λ x. x.name) ms)) rest) t1)) made
    ∙ makers_do p lower ms (λ x i. found x (inr i)) rest t

-- Initialisations ---------------------------------------------------------------------------

abbrev gives_nothing : Code
gives_nothing = return (expr.Atom atom.Unspec) done

-- what `main` does after a call of an initialisation, where the rest does the same from every state that it may reach
goes_on : (vars : List CVar) (p : List Fun) (lower : Lower) (b : Base) (o : Outcome Value) (flow : Flow) (k : Value → State → Outcome Value) (next : CState → Flow) → ((later : World) (v : Value) (s : State) (t : CState) → Same later s t → s.turns ≤ b.state.turns → shown (next t) ≡ observed (k v s)) → Passed vars p lower gives_nothing b o flow → shown (with (answer flow) first_frame (λ _ t. next t)) ≡ observed (bind o k)
goes_on vars p lower b (source.Gives v s) flow k next on h =
    ap (λ x. shown (with (answer x) first_frame (λ _ t. next t))) h.is ∙ on h.later v s h.t h.same h.moved.frozen.turns
goes_on vars p lower b (source.Escapes x v s) flow k next on h = ap (λ y. shown (with (answer y) first_frame (λ _ t. next t))) h.is ∙ ap (λ y. seen y (Raised 7 [])) (sym h.same.output)
goes_on vars p lower b (source.Raises code text s) flow k next on h = ap (λ y. shown (with (answer y) first_frame (λ _ t. next t))) h.is ∙ ap (λ y. seen y (Raised code text)) (sym h.same.output)
goes_on vars p lower b (source.Spends s) flow k next on h = ap (λ y. shown (with (answer y) first_frame (λ _ t. next t))) h.is ∙ ap (λ y. seen y Spent) (sym h.same.output)

bind_assoc : {A B C : Type 0} (o : Outcome A) (f : A → State → Outcome B) (g : B → State → Outcome C) → bind (bind o f) g ≡ bind o (λ a s. bind (f a s) g)
bind_assoc (source.Gives a s) f g = refl
bind_assoc (source.Escapes x v s) f g = refl
bind_assoc (source.Raises code text s) f g = refl
bind_assoc (source.Spends s) f g = refl

module _ (p : List Fun) (program : List ModuleTree) (lower : Lower) (lo : evaluation.Lower) (limit : ℕ) (calls : CallsDo p lower program lo limit) where
  -- the statements of an initialisation
  forms_do : (m : ModuleTree) → Linked program m → (g : Fun) → TrForms m g → (world : World) (s : State) (t : CState) → Same world s t → s.turns ≤ limit → Passed g.locals p lower gives_nothing (record { live = []; frame = entry g []; world = world; state = s }) (ev_last program m lo m.forms Unspecified [] s) (exec p lower (names_of g) g.code (entry g []) t)
  forms_do m linked g tr world s t same low =
      let b : Base = record { live = []; frame = entry g []; world = world; state = s } in
      let o = ev_last program m lo m.forms Unspecified [] s in
      let here = sim_all_unused g.locals p lower program m linked [] lo limit calls m.forms b g.code gives_nothing Unspecified [] t tr.translated (record { scoped = no_variables; same = same; turns = low }) in
      subst (λ ps. Passed g.locals p lower gives_nothing b o (exec p lower (map (λ v. v.name) (ps ++ g.locals)) g.code (entry g []) t)) (sym tr.params) here

  -- the initialisations that are left, and what comes after them
  forms_all_do : (ms : List ModuleTree) → ((m : ModuleTree) → Has ms m → Found p (initializer_name m.name) (TrForms m)) → ((m : ModuleTree) → Has ms m → Linked program m) → (k : Value → State → Outcome Value) (rest : Code) → ((world : World) (v : Value) (s : State) (t : CState) → Same world s t → s.turns ≤ limit → shown (main_runs p lower rest t) ≡ observed (k v s)) → (world : World) (s : State) (t : CState) → Same world s t → s.turns ≤ limit → shown (main_runs p lower (calls_alone (map initializer_name (map (λ m. m.name) ms)) rest) t) ≡ observed (bind (initialized program lo ms s) k)
  forms_all_do [] found linked k rest on world s t same low = on world Unspecified s t same low
  forms_all_do (m ∷ ms) found linked k rest on world s t same low =
      let h = found m (inl refl) in
      let b : Base = record { live = []; frame = entry h.g []; world = world; state = s } in
      let others = calls_alone (map initializer_name (map (λ x. x.name) ms)) rest in
      let o = ev_last program m lo m.forms Unspecified [] s in
      ap (λ g. shown (with (enter_any p lower g [] t) first_frame (λ _ t1. main_runs p lower others t1))) h.at
      ∙ goes_on h.g.locals p lower b o (exec p lower (names_of h.g) h.g.code (entry h.g []) t) (λ _ s1. bind (initialized program lo ms s1) k) (λ t1. main_runs p lower others t1)
      (λ later v s1 t1 same1 fewer. forms_all_do ms (λ x i. found x (inr i)) (λ x i. linked x (inr i)) k rest on later s1 t1 same1 (let low1 : s1.turns ≤ limit = omega (arith, low, fewer) in low1))
      (forms_do m (linked m (inl refl)) h.g h.is world s t same low)
      ∙ ap observed (sym (bind_assoc o (λ _ s1. initialized program lo ms s1) k))

-- The start ---------------------------------------------------------------------------------

abbrev all_away : List Object → World
all_away [] = []
all_away (o ∷ os) = Away ∷ all_away os

away_long : (os : List Object) → length (all_away os) ≡ length os
away_long [] = refl
away_long (o ∷ os) = ap suc (away_long os)

no_block : (os : List Object) (k j : ℕ) → slice_get (all_away os) k ≡ Some (AtBlock j) → ⊥
no_block [] k j e = absurd (cc)
no_block (o ∷ os) zero j e = absurd (cc)
no_block (o ∷ os) (suc k) j e = no_block os k j e

starts_alike : (program : List ModuleTree) (input : List ℕ) (turns : ℕ) → Same (all_away (program_of.made program)) (program_of.start program input turns) (start input turns)
starts_alike program input turns =
    let os = program_of.made program in
    record { output = refl; input = refl; turns = refl; size = away_long os; one_place = λ k i j a b. absurd (no_block os k j a); blocks = λ k j a. absurd (no_block os k j a); globals = no_globals }

-- The law -----------------------------------------------------------------------------------

same_names : (ms : List ModuleTree) (parts : List Part) → AreTranslated ms parts → map (λ q. q.module_name) parts ≡ map (λ m. m.name) ms
same_names [] [] are = refl
same_names [] (q ∷ qs) are = absurd are
same_names (m ∷ ms) [] are = absurd are
same_names (m ∷ ms) (q ∷ qs) are = ap (λ n. n ∷ map (λ x. x.module_name) qs) are.0.named ∙ ap (λ ns. m.name ∷ ns) (same_names ms qs are.1)

-- a function of one parameter is called with one value
counted_one : {A : Type 0} (f : FunctionTree) (x : VarId) → f.params ≡ x ∷ [] → (s : State) (o : Outcome A) → counted (length f.params) 1 s o ≡ o
counted_one f x one s o = ap (λ ps. if nat_eq 1 (length ps) then o else source.Raises (number_of ArgumentCount) (decimal_text (length ps)) s) one

-- the call of the main function, and its value's status
main_does : (p : List Fun) (program : List ModuleTree) (is : IsProgram program) (turns limit : ℕ) → CallsDo p (run p turns) program (evaluation.run program turns) limit → Found p (c_name_of is.main) (TrFunction is.function.home is.function.function) → (world : World) (s : State) (t : CState) → Same world s t → s.turns ≤ limit → shown (main_runs p (run p turns) (call_main (c_name_of is.main)) t) ≡ observed (program_of.run_main program (evaluation.run program turns) s)
main_does p program is turns limit calls h world s t same low =
    let q = is.function in
    let f = q.function in
    let n = c_name_of is.main in
    let cs = AWord Nil ∷ [] in
    let lo = evaluation.run program turns in
    let empty : Words world (Empty ∷ []) cs = a_word (record { w = Nil; is = refl; means = refl }) no_words in
    let o = take_turn s (λ s1. lo q.home f.body (bound f.params (Empty ∷ []) []) s1) in
    let here = calls is.main q is.is (Empty ∷ []) cs world s t empty (sym (ap length is.one.1)) same low in
    ap main_ends (found_loop p (run p turns) n h.g h.is.label h.is.body cs t h.at h.is.looped)
    ∙ ends_alike world s o _ here
    ∙ ap observed (sym (counted_one f is.one.0 is.one.1 s o))
    ∙ ap (λ x. observed (called lo x (Empty ∷ []) s)) (sym is.is)
    ∙ ap (λ x. observed (called lo (procedure_of program x) (Empty ∷ []) s)) (sym is.is_main)

-- `main` of the linked program
main_found : (program : List ModuleTree) (parts : List Part) (main : Callee) → AreTranslated program parts → are_distinct (defined_names (joined parts main)) ≡ true → main_of (joined parts main) ≡ Some (main_fun (map (λ m. m.name) program) (c_name_of main))
unfolding joined
main_found program parts main are distinct =
    let last = main_function (map (λ q. q.module_name) parts) (c_name_of main) in
    let g = main_fun (map (λ q. q.module_name) parts) (c_name_of main) in
    is_found (joined parts main) g (codes "main") distinct (defined_after (flat_map (λ q. q.items) parts) (last ∷ []) g (inl refl)) refl
    ∙ ap (λ ns. Some (main_fun ns (c_name_of main))) (same_names program parts are)

-- where no name is defined twice, the linked program prints and ends as its modules do
pub does_the_same : (program : List ModuleTree) (parts : List Part) (is : IsProgram program) → AreTranslated program parts → are_distinct (defined_names (joined parts is.main)) ≡ true → (input : List ℕ) (args : List (List ℕ)) (turns : ℕ) → cm (joined parts is.main) input args turns ≡ src program input args turns
unfolding cm src
does_the_same program parts is are distinct input args turns =
    let p = functions_of (joined parts is.main) in
    let lower = run p turns in
    let lo = evaluation.run program turns in
    let finds : (c : Callee) (q : Procedure) → procedure_of program (Some c) ≡ Some q → Found p (c_name_of c) (TrFunction q.home q.function) = λ c q at. function_found program parts is.main are distinct c q at in
    let calls = functions_do p program finds (λ c q at. links program is q.home (placed program c q at).home) turns turns turns (omega arith) (omega arith) in
    let rest = call_main (c_name_of is.main) in
    let t = start input turns in
    ap (λ g. run_main p g input turns) (main_found program parts is.main are distinct)
    ∙ ap shown (makers_do p lower program (λ m h. maker_found program parts is.main are distinct m h) (calls_alone (map initializer_name (map (λ m. m.name) program)) rest) t)
    ∙ forms_all_do p program lower lo turns calls program (λ m h. initializer_found program parts is.main are distinct m h) (λ m h. links program is m h) (λ _ s. program_of.run_main program lo s) rest
    (λ world v s t1 same low. main_does p program is turns turns calls (finds is.main is.function is.is) world s t1 same low)
    (all_away (program_of.made program)) (program_of.start program input turns) t (starts_alike program input turns) (omega arith)

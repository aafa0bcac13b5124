-- The loop of a run: how it begins, goes on and ends.
use Rattle.std.proofs.Common.{◌≡◌, ℕ, ◌<◌, List, [], ◌∷◌, ◌++◌, length, Option, Some, None, slice_get, replicate, refl, sym, ap, ◌∙◌, subst, arith, inl, append_assoc}
use Rattle.std.specs.Prelude.{codes, Ok, Err, IsSome}
use Rattle.std.specs.Prelude.{true}
use Rattle.std.proofs.lemmas.List.{append-nil}
use Rattle.std.proofs.lemmas.Option.{slice_get_within}
use Rattle.base_io.specs.declared.end.End.{End}
use Rattle.base_io.specs.declared.end.RunErr.{RunErr}
use Rattle.base_io.specs.Observation.{Observation}
use Rattle.c_tree.specs.declared.tree.CVar.{CVar}
use Rattle.c_tree.specs.declared.function.CFun.{CFun}
use Rattle.c_tree.specs.declared.function.CItem.{CItem}
use Rattle.c_tree.specs.declared.function.CProgram.{CProgram}
use Rattle.c_tree.specs.Code.{Code, Fun}
use Rattle.c_tree.specs.Functions.{fun_of, items_of}
use Rattle.c_meaning.specs.Execution.{entry, exec_main, run, fun_named}
use Rattle.c_meaning.specs.Program.{cm, run_main, start, shown}
use Rattle.c_meaning.specs.Plain.{code_fits}
use Rattle.c_machine.specs.Added.{Added, AddedPart}
use Rattle.c_machine.specs.Runs.{Ran}
use Rattle.c_machine.specs.declared.program.Instr.{Instr}
use Rattle.c_machine.specs.declared.program.Line.{Line}
use Rattle.c_machine.specs.declared.program.Function.{Function}
use Rattle.c_machine.specs.declared.stepping.Flow.{Flow as How}
use Rattle.c_machine.specs.declared.stepping.Flow.TheVariants.{Going, Over, WriteFault, Memory}
use Rattle.c_machine.specs.Steps.{Config, Move, Goes, Ends, Needs, act, line_at, advanced, Does}
use Rattle.c_machine.specs.Decoded.{line, definitions, function_names, function_of, variables_of, IsDecoded}
use Rattle.c_machine.proofs.Means.{meant, decoded, Shape, Straight, statements_of, statements_in, names_in, Level, exec_at, flow_of, Callers, Means, Kept, Sound, work}
use Rattle.c_machine.proofs.Places.{function_there}
use Rattle.c_machine.proofs.Leading.{main_leads}
use Rattle.c_machine.proofs.Filled.{Filled, entry_holds}
use Rattle.c_machine.proofs.Sound.{place_in, begins_with, means_sound}
use Rattle.c_machine.proofs.Grows.{means_begins}
use Rattle.c_machine.proofs.Checking.{functions_meant, all_typed, main_there}
use Rattle.c_machine.proofs.Sinks.{added_twice, added_none}

-- what the state of a machine for this program means
abbrev pub MeansIn : List CItem → Config → List ℕ → Observation → Type 0
MeansIn items c o w = Means (definitions items) (place_in (definitions items)) c o w

-- Beginning ---------------------------------------------------------------------------------

nothing_filled : (params : List CVar) → params ≡ [] → Filled params [] []
nothing_filled params e = subst (λ (ps : List CVar). Filled ps [] []) (sym e) tt

pub begins : (items : List CItem) (functions : List Function) (main : ℕ) (f : Function) (input : List ℕ) (args : List (List ℕ)) (turns : ℕ) → IsDecoded items functions main → slice_get functions main ≡ Some f → MeansIn items (record { fun = main; pc = 1; base = 0; turns = turns; slots = replicate f.locals 0; frames = []; value = 0 }) [] (cm (items_of items) input args turns)
unfolding cm Callers
begins items functions main f input args turns d there =
    let fs = definitions items in
    let p = meant fs in
    let m = main_there items d.checked in
    let t = all_typed items d.checked main (m.fun) (ap (slice_get fs) d.main_is ∙ m.there) in
    let fn = function_of (function_names fs) m.fun in
    let at : slice_get fs main ≡ Some m.fun = ap (slice_get fs) d.main_is ∙ m.there in
    let which : Some f ≡ Some fn = sym there ∙ ap (λ (l : List Function). slice_get l main) d.functions_are ∙ function_there fs main m.fun at in
    let same : f ≡ fn = cc in
    let locals : f.locals ≡ length m.fun.locals = ap (λ (g : Function). g.locals) same in
    let ps = functions_meant items in
    let code = statements_in m.fun in
    let block : List Code = code ∷ [] in
    let fr = entry (fun_of m.fun) [] in
    let s = start input turns in
    let whole : cm (items_of items) input args turns ≡ shown (exec_main p (run p turns) (names_in m.fun) code fr s) =
    ap (λ (q : List Fun). run_main q (fun_named q (codes "main")) input turns) ps ∙ ap (λ (o : Option Fun). run_main p o input turns) m.found in
    let flow : exec_main p (run p turns) (names_in m.fun) code fr s ≡ flow_of p turns m.fun block fr s =
    ap (λ (l : Level). exec_at l p turns (names_in m.fun) code fr s) (sym m.outer) ∙ begins_with fs turns m.fun fr s (Straight code) m.straight in
    let fits : code_fits t.sigs (variables_of m.fun) m.fun.result code ≡ true = ap (λ (x : Shape). code_fits t.sigs (variables_of m.fun) m.fun.result (statements_of x)) (sym m.straight) ∙ t.fits in
    inl (record {
      fn = main;
      pc = 1;
      below = [];
      env = replicate (length m.fun.locals) 0;
      frames = [];
      value = 0;
      state = s;
      bound = turns;
      fun = m.fun;
      left = block;
      frame = fr;
      outer = shown;
      is = ap (λ (n : ℕ). record { fun = main; pc = 1; base = 0; turns = turns; slots = replicate n 0; frames = []; value = 0 }) locals;
      out = refl;
      stands = record {
        there = at;
        sigs = t.sigs;
        callees = t.callees;
        fits = (fits, tt);
        leads = main_leads (names_in m.fun) (function_names fs) t.sigs (variables_of m.fun) m.fun.result code fits;
        holds = entry_holds m.fun [] [] (nothing_filled m.fun.params m.params);
      };
      enough = omega arith;
      callers = (refl, m.result, λ x. refl);
      whole = whole ∙ ap shown flow;
    })

pub main_within : (items : List CItem) (functions : List Function) (main : ℕ) → IsDecoded items functions main → main < length functions
main_within items functions main d =
    let fs = definitions items in
    let m = main_there items d.checked in
    slice_get_within functions main (function_of (function_names fs) m.fun) (ap (λ (l : List Function). slice_get l main) d.functions_are ∙ function_there fs main m.fun (ap (slice_get fs) d.main_is ∙ m.there))

-- Steps -------------------------------------------------------------------------------------

sound_in : (items : List CItem) (functions : List Function) (main : ℕ) (c : Config) (o : List ℕ) (w : Observation) → IsDecoded items functions main → MeansIn items c o w → Sound (definitions items) (place_in (definitions items)) c o w (line_at functions c.fun c.pc)
sound_in items functions main c o w d m =
    let fs = definitions items in
    subst (λ (l : List Function). Sound fs (place_in fs) c o w (line_at l c.fun c.pc)) (sym d.functions_are) (means_sound fs (all_typed items d.checked) c o w m)

needs_some : (fs : List CFun) (c : Config) (o : List ℕ) (w : Observation) (l : Option Line) → Sound fs (place_in fs) c o w l → IsSome l
needs_some fs c o w None h = absurd h.0
needs_some fs c o w (Some l) h = refl

-- there is a line
pub line_is_there : (items : List CItem) (functions : List Function) (main : ℕ) (c : Config) (o : List ℕ) (w : Observation) → IsDecoded items functions main → MeansIn items c o w → IsSome (line_at functions c.fun c.pc)
line_is_there items functions main c o w d m = needs_some (definitions items) c o w (line_at functions c.fun c.pc) (sound_in items functions main c o w d m)

-- what is known of a step at this instruction, after which there is a place to go on
pub record Known (items : List CItem) (functions : List Function) (c : Config) (o : List ℕ) (w : Observation) (i : Instr) (next : ℕ) : Type 0 where
  pub needs : Needs i functions (advanced next c)
  pub kept : Kept (definitions items) (place_in (definitions items)) c o w (act i functions (advanced next c))

pub known : (items : List CItem) (functions : List Function) (main : ℕ) (c : Config) (o : List ℕ) (w : Observation) (i : Instr) (next : ℕ) → IsDecoded items functions main → MeansIn items c o w → line_at functions c.fun c.pc ≡ Some (line i next) → Known items functions c o w i next
known items functions main c o w i next d m e =
    let fs = definitions items in
    let s = subst (λ (l : Option Line). Sound fs (place_in fs) c o w l) e (sound_in items functions main c o w d m) in
    record {
      needs = subst (λ (l : List Function). Needs i l (advanced next c)) (sym d.functions_are) s.0;
      kept = subst (λ (l : List Function). Kept fs (place_in fs) c o w (act i l (advanced next c))) (sym d.functions_are) s.1;
    }

-- the invariant of the loop
pub record Goes_on (items : List CItem) (c : Config) (w : Observation) (before now : Option (List ℕ)) : Type 0 where
  pub output : List ℕ
  pub told : Added before now output
  pub means : MeansIn items c output w

pub begun : (items : List CItem) (c : Config) (w : Observation) (before : Option (List ℕ)) → MeansIn items c [] w → Goes_on items c w before before
begun items c w before m = record { output = []; told = added_none before; means = m }

pub record Went (items : List CItem) (c d : Config) (w : Observation) (before now : Option (List ℕ)) : Type 0 where
  pub goes : Goes_on items d w before now
  pub falls : work (decoded (definitions items)) d < work (decoded (definitions items)) c

pub going : (items : List CItem) (c d : Config) (o : List ℕ) (w : Observation) (m : Move) (end : End) (a b e : Option (List ℕ)) → Kept (definitions items) (place_in (definitions items)) c o w m → Does m Going d end b e → Added a b o → Went items c d w a e
going items c d o w (Goes n bytes) end a b e k h t = record {
  goes = record {
    output = o ++ bytes;
    told = added_twice a b e o bytes t h.1;
    means = subst (λ (x : Config). MeansIn items x (o ++ bytes) w) (sym h.0) k.0;
  };
  falls = subst (λ (x : Config). work (decoded (definitions items)) x < work (decoded (definitions items)) c) (sym h.0) k.1;
}
going items c d o w (Ends x) end a b e k h t = absurd h

pub record Ended_as (w : Observation) (before now : Option (List ℕ)) (end : End) : Type 0 where
  pub is : end ≡ w.end
  pub told : Added before now w.output

pub over : (items : List CItem) (c d : Config) (o : List ℕ) (w : Observation) (m : Move) (end : End) (a b e : Option (List ℕ)) → Kept (definitions items) (place_in (definitions items)) c o w m → Does m Over d end b e → Added a b o → Ended_as w a e end
over items c d o w (Goes n bytes) end a b e k h t = absurd h
over items c d o w (Ends x) end a b e k h t = record {
  is = h.0 ∙ sym (ap (λ (s : Observation). s.end) k);
  told = λ u f. added_twice a b e o [] t h.1 u f ∙ ap (λ (l : List ℕ). Some (u ++ l)) (append-nil o ∙ sym (ap (λ (s : Observation). s.output) k));
}

part_of : (items : List CItem) (c n : Config) (o bytes : List ℕ) (w : Observation) (a b e : Option (List ℕ)) → MeansIn items n (o ++ bytes) w → AddedPart b e bytes → Added a b o → AddedPart a e w.output
part_of items c n o bytes w a b e m h t =
    let more = means_begins (definitions items) (place_in (definitions items)) n (o ++ bytes) w m in
    let eq : w.output ≡ (o ++ h.part) ++ (h.rest ++ more.0) = more.1 ∙ ap (λ (l : List ℕ). l ++ more.0) (ap (λ (l : List ℕ). o ++ l) h.is ∙ sym (append_assoc o h.part h.rest)) ∙ append_assoc (o ++ h.part) h.rest more.0 in
    record { part = o ++ h.part; rest = h.rest ++ more.0; is = eq; added = added_twice a b e o h.part t h.added }

pub write_failed : (items : List CItem) (c d : Config) (o : List ℕ) (w : Observation) (m : Move) (end : End) (a b e : Option (List ℕ)) → Kept (definitions items) (place_in (definitions items)) c o w m → Does m WriteFault d end b e → Added a b o → AddedPart a e w.output
write_failed items c d o w (Goes n bytes) end a b e k h t = part_of items c n o bytes w a b e k.0 h t
write_failed items c d o w (Ends x) end a b e k h t = absurd h

pub memory_failed : (items : List CItem) (c d : Config) (o : List ℕ) (w : Observation) (m : Move) (end : End) (a b e : Option (List ℕ)) → Kept (definitions items) (place_in (definitions items)) c o w m → Does m Memory d end b e → Added a b o → AddedPart a e w.output
memory_failed items c d o w (Goes n bytes) end a b e k h t = part_of items c n o bytes w a b e k.0 h t
memory_failed items c d o w (Ends x) end a b e k h t = record {
  part = o;
  rest = [];
  is = ap (λ (s : Observation). s.output) k ∙ sym (append-nil o);
  added = λ u f. added_twice a b e o [] t h u f ∙ ap (λ (l : List ℕ). Some (u ++ l)) (append-nil o);
}

-- What is told ------------------------------------------------------------------------------

pub ran_ok : (before now : Option (List ℕ)) (w : Observation) (end : End) → Added before now w.output → Ran before now w (Ok end)
ran_ok None now w end h = tt
ran_ok (Some old) now w end h = h old refl

pub ran_err : (before now : Option (List ℕ)) (w : Observation) (e : RunErr) → AddedPart before now w.output → Ran before now w (Err e)
ran_err None now w e h = tt
ran_err (Some old) now w e h = record { added = h.part; rest = h.rest; is = h.is; written = h.added old refl }

-- One iteration -----------------------------------------------------------------------------

-- the facts of a machine, where its fields are seen through it
pub seen_through : (p q : CProgram) (fs gs : List Function) (main : ℕ) → p ≡ q → gs ≡ fs → IsDecoded p.items fs main → IsDecoded q.items gs main
seen_through p q fs gs main ep ef d =
    subst (λ (l : List Function). IsDecoded q.items l main) (sym ef) (subst (λ (r : CProgram). IsDecoded r.items fs main) ep d)

module _ (items : List CItem) (functions : List Function) (main : ℕ) (d : IsDecoded items functions main) (c c1 : Config) (w : Observation) (a b : Option (List ℕ)) (g : Goes_on items c w a b) (i : Instr) (next : ℕ) (at : line_at functions c.fun c.pc ≡ Some (line i next)) (is : c1 ≡ advanced next c) where
  known_here : Known items functions c g.output w i next
  known_here = known items functions main c g.output w i next d g.means at

  does_here : (how : How) (n : Config) (end : End) (e : Option (List ℕ)) → Does (act i functions c1) how n end b e → Does (act i functions (advanced next c)) how n end b e
  does_here how n end e h = subst (λ (x : Config). Does (act i functions x) how n end b e) is h

  pub step_needs : Needs i functions c1
  step_needs = subst (λ (x : Config). Needs i functions x) (sym is) known_here.needs

  pub step_goes : (n : Config) (end : End) (e : Option (List ℕ)) → Does (act i functions c1) Going n end b e → Goes_on items n w a e
  step_goes n end e h = (going items c n g.output w (act i functions (advanced next c)) end a b e known_here.kept (does_here Going n end e h) g.told).goes

  pub step_falls : (n : Config) (end : End) (e : Option (List ℕ)) → Does (act i functions c1) Going n end b e → work functions n < work functions c
  step_falls n end e h =
      subst (λ (l : List Function). work l n < work l c) (sym d.functions_are) (going items c n g.output w (act i functions (advanced next c)) end a b e known_here.kept (does_here Going n end e h) g.told).falls

  pub step_ends : (n : Config) (end : End) (e : Option (List ℕ)) → Does (act i functions c1) Over n end b e → Ended_as w a e end
  step_ends n end e h = over items c n g.output w (act i functions (advanced next c)) end a b e known_here.kept (does_here Over n end e h) g.told

  pub step_cannot_write : (n : Config) (end : End) (e : Option (List ℕ)) → Does (act i functions c1) WriteFault n end b e → AddedPart a e w.output
  step_cannot_write n end e h = write_failed items c n g.output w (act i functions (advanced next c)) end a b e known_here.kept (does_here WriteFault n end e h) g.told

  pub step_lacks_memory : (n : Config) (end : End) (e : Option (List ℕ)) → Does (act i functions c1) Memory n end b e → AddedPart a e w.output
  step_lacks_memory n end e h = memory_failed items c n g.output w (act i functions (advanced next c)) end a b e known_here.kept (does_here Memory n end e h) g.told

-- A run of a text, in its steps.
use Rattle.std.proofs.Common.{◌≡◌, ℕ, List, ◌++◌, false, Option, Some, None, Result, Ok, Err, inl, inr, refl, ap, sym, ◌∙◌, subst, append_assoc}
use Rattle.base_io.specs.Contents.{Bytes}
use Rattle.base_io.specs.Observation.{Observation}
use Rattle.base_io.specs.declared.end.End.{End}
use Rattle.base_io.specs.declared.end.RunErr.{RunErr}
use Rattle.c_tree.specs.Code.{Item}
use Rattle.c_tree.specs.declared.function.CProgram.{CProgram}
use Rattle.c_meaning.specs.Program.{cm}
use Rattle.c_meaning.specs.Checked.{IsChecked}
use Rattle.c_meaning.specs.Runnable.{is_runnable, IsRunnable}
use Rattle.c_tree.specs.Functions.{items_of}
use Rattle.session.specs.declared.answer.Refusal.TheVariants.{NotBuilt, Syntax, Limit, Header, Duplicate, BadRules, NoRule, Form, NotC, BadC, MissingModule, MissingName}
use Rattle.c_machine.specs.Runs.{Ran}
use Rattle.base_io.specs.declared.end.RunErr.TheVariants as run
use Rattle.session.specs.declared.errors.MakeErr.{MakeErr}
use Rattle.session.specs.declared.errors.MakeErr.TheVariants as make
use Rattle.session.specs.declared.errors.WorkErr.{WorkErr}
use Rattle.session.specs.Halts.{work_of_make, work_of_run}
use Rattle.base_io.specs.Writing.{PutAll}
use Rattle.session.specs.Works.{IsProgramText, TextRuns, RunRefuses, last_line, no_input}
use Rattle.session.specs.Done.{HasTree, ProgramRead, ProgramChecked, Loaded, RanTo, TextRan}

-- the machine failed
pub machine_failed : (old new : Option Bytes) (seen : Observation) (e : RunErr) → Ran old new seen (Err e) → RanTo old new seen (Err e)
machine_failed None new seen e ran = tt
machine_failed (Some o) new seen e ran = record {
  added = ran.added;
  rest = ran.rest ++ last_line seen.end;
  is = ap (λ (l : Bytes). l ++ last_line seen.end) ran.is ∙ append_assoc ran.added ran.rest (last_line seen.end);
  written = ran.written;
}

-- the error line was cut off
pub line_cut : (old mid new : Option Bytes) (seen : Observation) (end : End) (e : RunErr) → end ≡ seen.end → Ran old mid seen (Ok end) → PutAll {E = RunErr} mid new (last_line end) (Err e) → RanTo old new seen (Err e)
line_cut None mid new seen end e end_is ran put = tt
line_cut (Some o) mid new seen end e end_is ran put =
    let from : PutAll {E = RunErr} (Some (o ++ seen.output)) new (last_line end) (Err e) = subst (λ (m : Option Bytes). PutAll {E = RunErr} m new (last_line end) (Err e)) ran put in
    record {
      added = seen.output ++ from.0;
      rest = from.1.0;
      is = ap (λ (l : Bytes). seen.output ++ l) (ap (λ (q : End). last_line q) (sym end_is) ∙ from.1.1) ∙ sym (append_assoc seen.output from.0 from.1.0);
      written = from.1.2 ∙ ap (λ (l : Bytes). Some l) (append_assoc o seen.output from.0);
    }

-- a run of the program of a text
runs_of : (bytes : Bytes) (items : List Item) (args : List Bytes) (turns : ℕ) → IsProgramText bytes items → TextRuns bytes args turns (cm items no_input args turns)
runs_of bytes items args turns program = record { items = items; program = program; is = refl }

pub text_ran : (old new : Option Bytes) (bytes : Bytes) (items : List Item) (args : List Bytes) (turns : ℕ) (end : End) → IsProgramText bytes items → RanTo old new (cm items no_input args turns) (Ok end) → TextRan old new bytes args turns (Ok end)
text_ran None new bytes items args turns end program told = tt
text_ran (Some o) new bytes items args turns end program told = (cm items no_input args turns, (runs_of bytes items args turns program, told.0, told.1))

pub text_cut : (old new : Option Bytes) (bytes : Bytes) (items : List Item) (args : List Bytes) (turns : ℕ) (e : RunErr) (r : Result End WorkErr) → IsProgramText bytes items → RanTo old new (cm items no_input args turns) (Err e) → r ≡ Err (work_of_run e) → TextRan old new bytes args turns r
text_cut old new bytes items args turns e r program told is = subst (λ (x : Result End WorkErr). TextRan old new bytes args turns x) (sym is) (go old e told)
  where
    go : (old : Option Bytes) (e : RunErr) → RanTo old new (cm items no_input args turns) (Err e) → TextRan old new bytes args turns (Err (work_of_run e))
    go None e told = tt
    go (Some o) run.WriteFault told = (cm items no_input args turns, (runs_of bytes items args turns program, told))
    go (Some o) run.Memory told = inr (cm items no_input args turns, (runs_of bytes items args turns program, told))

-- no program was loaded
not_loaded : (old : Option Bytes) (bytes : Bytes) (args : List Bytes) (turns : ℕ) (e : MakeErr) → Loaded bytes (Err e) → TextRan old old bytes args turns (Err (work_of_make e))
not_loaded None bytes args turns e told = tt
not_loaded (Some o) bytes args turns (make.Refused r) told = (told, refl)
not_loaded (Some o) bytes args turns make.Memory told = inl refl

pub text_not_loaded : (old : Option Bytes) (bytes : Bytes) (args : List Bytes) (turns : ℕ) (e : MakeErr) (r : Result End WorkErr) → Loaded bytes (Err e) → r ≡ Err (work_of_make e) → TextRan old old bytes args turns r
text_not_loaded old bytes args turns e r told is = subst (λ (x : Result End WorkErr). TextRan old old bytes args turns x) (sym is) (not_loaded old bytes args turns e told)

-- Loading -----------------------------------------------------------------------------------

pub not_read : (bytes : Bytes) (e : MakeErr) (r : Result CProgram MakeErr) → ProgramRead bytes (Err e) → r ≡ Err e → Loaded bytes r
not_read bytes e r told is = subst (λ (x : Result CProgram MakeErr). Loaded bytes x) (sym is) (go e told)
  where
    go : (e : MakeErr) → ProgramRead bytes (Err e) → Loaded bytes (Err e)
    go (make.Refused r) told = told
    go make.Memory told = tt

pub not_checked : (bytes : Bytes) (p : CProgram) (e : MakeErr) (r : Result CProgram MakeErr) → HasTree bytes (items_of p.items) → ProgramChecked p (Err e) → r ≡ Err e → Loaded bytes r
not_checked bytes p e r tree told is = subst (λ (x : Result CProgram MakeErr). Loaded bytes x) (sym is) (go e told)
  where
    go : (e : MakeErr) → ProgramChecked p (Err e) → Loaded bytes (Err e)
    go (make.Refused (BadC name cause)) told = record { items = items_of p.items; text = tree.text; first = told }
    go (make.Refused NotBuilt) told = absurd told
    go (make.Refused (Syntax at)) told = absurd told
    go (make.Refused (Limit kind)) told = absurd told
    go (make.Refused (Header at)) told = absurd told
    go (make.Refused (Duplicate name)) told = absurd told
    go (make.Refused (BadRules at)) told = absurd told
    go (make.Refused (NoRule at)) told = absurd told
    go (make.Refused (Form at)) told = absurd told
    go (make.Refused (NotC at)) told = absurd told
    go (make.Refused (MissingModule n m)) told = absurd told
    go (make.Refused (MissingName n m name)) told = absurd told
    go make.Memory told = tt

pub not_runnable : (bytes : Bytes) (items : List Item) → HasTree bytes items → IsChecked items → is_runnable items ≡ false → RunRefuses bytes NotBuilt
not_runnable bytes items tree checked beyond = record { items = items; text = tree.text; checked = checked; beyond = beyond }

pub loaded : (bytes : Bytes) (items : List Item) → HasTree bytes items → IsChecked items → IsRunnable items → IsProgramText bytes items
loaded bytes items tree checked runnable = record { text = tree.text; checked = checked; runnable = runnable; only = tree.only }

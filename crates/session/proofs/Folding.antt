-- The lines of a script, one after another.
use Rattle.std.proofs.Common.{◌≡◌, Result, ℕ, zero, suc, ◌+◌, ◌≤◌, ◌<◌, List, [], ◌∷◌, ◌++◌, map, take, drop, get_or, length, Option, Some, None, Ok, Err, refl, ap, sym, ◌∙◌, arith, subst, unwrap_or, add-one}
use Rattle.std.proofs.lemmas.List.{append-nil, drop_all}
use Rattle.std.specs.Ordering.{nat_cmp}
use Rattle.std.specs.Cmp.Lexicographic.{slice_cmp}
use Rattle.std.specs.FinMap.{get, get-empty}
use Rattle.base_io.specs.Causes.{Rose}
use Rattle.base_io.specs.Contents.{Bytes, Contents}
use Rattle.base_io.specs.declared.end.End.{End}
use Rattle.commands.specs.Commands.{parsed}
use Rattle.commands.specs.declared.command.Command.{Command}
use Rattle.session.specs.declared.answer.Effect.{Effect}
use Rattle.session.specs.declared.answer.Effect.TheVariants.{Nothing, Wrote, Ran}
use Rattle.session.specs.declared.errors.Halt.{Halt}
use Rattle.session.specs.declared.answer.Answer.{Answer}
use Rattle.session.specs.declared.answer.Answer.TheVariants as answer
use Rattle.session.specs.Works.{Kind, as_given, Stands}
use Rattle.session.specs.Scripts.{State, start, after, Steps, Reaches, Kept, Agrees, LineDid, finished, bad_line, halted, no_memory, ScriptDid, answer_of, answer_of_line}

abbrev Lines : Type 0
Lines = List (Option Command)

pub reaches_more : (xs : Lines) (c : Command) (s t u : State) → Reaches xs s t → Steps c t u → Reaches (xs ++ Some c ∷ []) s u
unfolding Reaches
reaches_more [] c s t u reached steps = (u, (subst (λ (x : State). Steps c x u) reached steps, refl))
reaches_more (None ∷ xs) c s t u reached steps = absurd reached
reaches_more (Some d ∷ xs) c s t u reached steps = (reached.0, (reached.1.0, reaches_more xs c reached.0 t u reached.1.1 steps))

at_most : (a b : ℕ) → a ≡ b → a ≤ b
at_most a b e = omega arith

at_least : (a b : ℕ) → a ≡ b → b ≤ a
at_least a b e = omega arith

pub within : (a b : ℕ) → a < b → a ≤ b
within a b e = omega arith

-- no line reads the input
after_left : (kind : Kind) (added : Bytes) (effect : Effect) (s : State) → (after kind added effect s).left ≡ s.left
after_left kind added Nothing s = refl
after_left kind added (Wrote name bytes) s = refl
after_left kind added (Ran end) s = refl

steps_left : (c : Command) (s t : State) → Steps c s t → t.left ≡ s.left
steps_left c s t steps = ap (λ (x : State). x.left) steps.then ∙ after_left _ steps.added steps.effect s

-- what is known between two lines
pub record Known (lines : Lines) (m : Contents) (source base : Bytes) (count : ℕ) (contents : Option Contents) (written : Option Bytes) (ends : List End) : Type 0 where
  pub state : State
  pub reached : Reaches (take count lines) (start m source) state
  pub agrees : Agrees state base contents written ends
  pub left_is : Some source ≡ Some state.left

unfoldable pub ScriptSoFar : Lines → Option Contents → Option Bytes → ℕ → Option Contents → Option Bytes → List End → Type 0
ScriptSoFar lines contents written count contents' written' ends =
    (m : Contents) (source base : Bytes) → contents ≡ Some m → written ≡ Some base → Known lines m source base count contents' written' ends

kept_start : (m : Contents) (source : Bytes) → Kept (start m source)
unfolding Kept Stands
kept_start m source name = subst (λ (k : Option Kind). Stands (unwrap_or k as_given) (unwrap_or (get m name) [])) (sym (get-empty (slice_cmp nat_cmp) name)) tt

pub so_far_start : (lines : Lines) (contents : Option Contents) (written : Option Bytes) (ends : List End) → ends ≡ [] → ScriptSoFar lines contents written 0 contents written ends
unfolding ScriptSoFar Reaches
so_far_start lines contents written ends none = λ m source base c_is w_is.
    record {
      state = start m source;
      reached = refl;
      agrees = record {
        same = record { files_are = c_is; written_is = w_is ∙ ap (λ (l : Bytes). Some l) (sym (append-nil base)) };
        ends_are = none;
        kept = kept_start m source;
      };
      left_is = refl;
    }

-- the element at a place
pub record IsAt {A : Type 0} (xs : List A) (i : ℕ) (x : A) : Type 0 where
  pub front : take (i + 1) xs ≡ take i xs ++ x ∷ []
  pub back : drop i xs ≡ x ∷ drop (suc i) xs

pub is_at : {A B : Type 0} (f : A → B) (xs : List A) (i : ℕ) (x : A) → i < length xs → x ≡ get_or xs i x → IsAt (map f xs) i (f x)
is_at f [] i x below is = absurd (omega arith)
is_at f (y ∷ xs) zero x below is = record { front = ap (λ a. a ∷ []) (ap f (sym is)); back = ap (λ a. a ∷ map f xs) (ap f (sym is)) }
is_at f (y ∷ xs) (suc i) x below is =
    let rest = is_at f xs i x (omega arith) is in
    record { front = rw add-one (ap (λ l. f y ∷ l) (rw add-one at rest.front)); back = rest.back }

pub so_far_more : (lines : Lines) (contents : Option Contents) (written : Option Bytes) (count : ℕ) (c1 : Option Contents) (w1 : Option Bytes) (e1 : List End) (c2 : Option Contents) (w2 : Option Bytes) (e2 : List End) (c : Command) → IsAt lines count (Some c) → ScriptSoFar lines contents written count c1 w1 e1 → ((s : State) (base : Bytes) → Agrees s base c1 w1 e1 → LineDid c s (Ok tt) base c2 w2 e2) → ScriptSoFar lines contents written (count + 1) c2 w2 e2
unfolding ScriptSoFar LineDid
so_far_more lines contents written count c1 w1 e1 c2 w2 e2 c place so_far did = λ m source base c_is w_is.
    let before = so_far m source base c_is w_is in
    let now = did before.state base before.agrees in
    record {
      state = now.0;
      reached = subst (λ (l : Lines). Reaches l (start m source) now.0) (sym place.front) (reaches_more (take count lines) c (start m source) before.state now.0 before.reached now.1.0);
      agrees = now.1.1;
      left_is = before.left_is ∙ ap (λ (b : Bytes). Some b) (sym (steps_left c before.state now.0 now.1.0));
    }

abbrev pub Told : Lines → Option Contents → Option Bytes → Answer → Option Contents → Option Bytes → Type 0
Told lines contents written a contents' written' =
    (m : Contents) (source base : Bytes) → contents ≡ Some m → written ≡ Some base → ScriptDid lines m source base a contents' (Some source) written'

pub script_finished : (lines : Lines) (contents : Option Contents) (written : Option Bytes) (count : ℕ) (c1 : Option Contents) (w1 : Option Bytes) (e1 : List End) → count ≡ length lines → ScriptSoFar lines contents written count c1 w1 e1 → Told lines contents written (answer.Done e1) c1 w1
unfolding ScriptSoFar
script_finished lines contents written count c1 w1 e1 all so_far = λ m source base c_is w_is.
    let now = so_far m source base c_is w_is in
    record {
      count = count;
      few = at_most count (length lines) all;
      state = now.state;
      reached = now.reached;
      kept = now.agrees.kept;
      left_is = now.left_is;
      last = finished (drop_all count lines (at_least count (length lines) all)) (ap (λ (e : List End). answer.Done e) now.agrees.ends_are) now.agrees.same;
    }

pub script_bad : (lines : Lines) (contents : Option Contents) (written : Option Bytes) (count : ℕ) (c1 : Option Contents) (w1 : Option Bytes) (e1 : List End) (a : Answer) → count < length lines → IsAt lines count None → a ≡ answer.BadLine (count + 1) → ScriptSoFar lines contents written count c1 w1 e1 → Told lines contents written a c1 w1
unfolding ScriptSoFar
script_bad lines contents written count c1 w1 e1 a below place a_is so_far = λ m source base c_is w_is.
    let now = so_far m source base c_is w_is in
    record { count = count; few = within count (length lines) below; state = now.state; reached = now.reached; kept = now.agrees.kept; left_is = now.left_is; last = bad_line (drop (suc count) lines) place.back a_is now.agrees.same }

pub script_no_memory : (lines : Lines) (contents : Option Contents) (written : Option Bytes) (count : ℕ) (c1 : Option Contents) (w1 : Option Bytes) (e1 : List End) → count ≤ length lines → ScriptSoFar lines contents written count c1 w1 e1 → Told lines contents written answer.Memory c1 w1
unfolding ScriptSoFar
script_no_memory lines contents written count c1 w1 e1 below so_far = λ m source base c_is w_is.
    let now = so_far m source base c_is w_is in
    record { count = count; few = below; state = now.state; reached = now.reached; kept = now.agrees.kept; left_is = now.left_is; last = no_memory refl now.agrees.same }

pub script_halted : (lines : Lines) (contents : Option Contents) (written : Option Bytes) (count : ℕ) (c1 : Option Contents) (w1 : Option Bytes) (e1 : List End) (c2 : Option Contents) (w2 : Option Bytes) (e2 : List End) (c : Command) (h : Halt) (a : Answer) → count < length lines → IsAt lines count (Some c) → a ≡ answer_of h (count + 1) → ScriptSoFar lines contents written count c1 w1 e1 → ((s : State) (base : Bytes) → Agrees s base c1 w1 e1 → LineDid c s (Err h) base c2 w2 e2) → Told lines contents written a c2 w2
unfolding ScriptSoFar LineDid
script_halted lines contents written count c1 w1 e1 c2 w2 e2 c h a below place a_is so_far did = λ m source base c_is w_is.
    let now = so_far m source base c_is w_is in
    let stopped = did now.state base now.agrees in
    record { count = count; few = within count (length lines) below; state = now.state; reached = now.reached; kept = now.agrees.kept; left_is = now.left_is; last = halted c (drop (suc count) lines) h place.back a_is stopped.0 stopped.1 }

length_parsed : (lines : List Bytes) → length (map parsed lines) ≡ length lines
length_parsed [] = refl
length_parsed (l ∷ lines) = ap suc (length_parsed lines)

pub in_parsed : (lines : List Bytes) (i : ℕ) → i < length lines → i < length (map parsed lines)
in_parsed lines i below = omega (arith, length_parsed lines)

pub all_parsed : (lines : List Bytes) (i : ℕ) → i ≡ length lines → i ≡ length (map parsed lines)
all_parsed lines i all = omega (arith, length_parsed lines)

pub here_is : (lines : List Bytes) (i : ℕ) (line bytes : Bytes) (x : Option Command) → i < length lines → line ≡ get_or lines i line → bytes ≡ line → x ≡ parsed bytes → IsAt (map parsed lines) i x
here_is lines i line bytes x below is same x_is = subst (λ (o : Option Command). IsAt (map parsed lines) i o) (sym (x_is ∙ ap parsed same)) (is_at parsed lines i line below is)

pub rose_since : (a b c : ℕ) → a ≤ b → Rose b c → Rose a c
rose_since a b c later rose = omega arith

-- One command -------------------------------------------------------------------------------

one_at : (c : Command) → IsAt (Some c ∷ []) 0 (Some c)
one_at c = record { front = refl; back = refl }

pub one_done : (c : Command) (contents : Option Contents) (written : Option Bytes) (e1 : List End) (c2 : Option Contents) (w2 : Option Bytes) (e2 : List End) → e1 ≡ [] → ((s : State) (base : Bytes) → Agrees s base contents written e1 → LineDid c s (Ok tt) base c2 w2 e2) → Told (Some c ∷ []) contents written (answer.Done e2) c2 w2
one_done c contents written e1 c2 w2 e2 ends did =
    script_finished (Some c ∷ []) contents written 1 c2 w2 e2 refl (so_far_more (Some c ∷ []) contents written 0 contents written e1 c2 w2 e2 c (one_at c) (so_far_start (Some c ∷ []) contents written e1 ends) did)

pub one_halted : (c : Command) (contents : Option Contents) (written : Option Bytes) (e1 : List End) (c2 : Option Contents) (w2 : Option Bytes) (e2 : List End) (h : Halt) (r : Result (List End) Halt) → e1 ≡ [] → r ≡ Err h → ((s : State) (base : Bytes) → Agrees s base contents written e1 → LineDid c s (Err h) base c2 w2 e2) → Told (Some c ∷ []) contents written (answer_of_line r) c2 w2
one_halted c contents written e1 c2 w2 e2 h r ends r_is did =
    script_halted (Some c ∷ []) contents written 0 contents written e1 c2 w2 e2 c h (answer_of_line r) (omega arith) (one_at c) (ap answer_of_line r_is) (so_far_start (Some c ∷ []) contents written e1 ends) did

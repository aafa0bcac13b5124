-- What each command does with what was read.
use Rattle.std.proofs.Common.{◌≡◌, ℕ, ◌<◌, List, [], ◌∷◌, get_or, drop, take, ◌-◌, length, Option, Some, None, Result, Ok, Err, inl, inr, refl, ap, sym, ◌∙◌, arith, subst}
use Rattle.std.proofs.lemmas.List.{append-nil, take_all}
use Rattle.base_io.specs.Contents.{Bytes}
use Rattle.base_io.specs.Observation.{Observation}
use Rattle.base_io.specs.declared.end.End.{End}
use Rattle.c_tree.specs.Code.{Item}
use Rattle.c_meaning.specs.Program.{cm}
use Rattle.commands.specs.declared.command.Command.{Command}
use Rattle.commands.specs.declared.command.Command.TheVariants.{Blank, Iface, Compile, Link, Run}
use Rattle.session.specs.declared.answer.Refusal.{Refusal}
use Rattle.session.specs.declared.answer.Effect.{Effect}
use Rattle.session.specs.declared.answer.Effect.TheVariants.{Nothing, Wrote, Ran}
use Rattle.session.specs.declared.errors.MakeErr.{MakeErr}
use Rattle.session.specs.declared.errors.MakeErr.TheVariants as make
use Rattle.session.specs.declared.errors.WorkErr.{WorkErr}
use Rattle.session.specs.declared.errors.WorkErr.TheVariants.{WriteFault, Refused, Memory}
use Rattle.session.specs.Halts.{work_of_make}
use Rattle.session.specs.Works.{Kind, as_given, as_interface, as_object, as_program, Held, Stands, AllStand, bytes_of, reads_of, Gives, Refuses, RunMeans, TextRuns, no_input, printed}
use Rattle.session.specs.Done.{ExportDid, CompileDid, LinkDid, TextRan, CutRun, Performs, Added}

-- the first that was read, and the others
pub record First (hs : List Held) (text : Bytes) (rest : List Bytes) : Type 0 where
  pub head : Held
  pub others : List Held
  pub is : hs ≡ head ∷ others
  pub bytes_are : head.bytes ≡ text
  pub rest_are : bytes_of others ≡ rest

pub first_of_all : (hs : List Held) (texts : List Bytes) (text : Bytes) → bytes_of hs ≡ texts → 0 < length texts → text ≡ get_or texts 0 text → First hs text (drop 1 texts)
first_of_all [] texts text are some is = absurd (omega (arith, ap (λ (l : List Bytes). length l) are))
first_of_all (h ∷ hs) texts text are some is = record {
  head = h;
  others = hs;
  is = refl;
  bytes_are = ap (λ (l : List Bytes). get_or l 0 text) are ∙ sym is;
  rest_are = ap (λ (l : List Bytes). drop 1 l) are;
}

cut_here : (c : Command) (hs : List Held) (o : Option Bytes) → Performs c hs o o (Err Memory)
unfolding Performs
cut_here c hs None = tt
cut_here c hs (Some bytes) = ([], (inl refl, ap (λ (l : Bytes). Some l) (sym (append-nil bytes))))

-- nothing was added, and memory ran out
pub cut : (c : Command) (hs : List Held) (old : Option Bytes) (r : Result Effect WorkErr) → r ≡ Err Memory → Performs c hs old old r
cut c hs old r is = subst (λ (x : Result Effect WorkErr). Performs c hs old old x) (sym is) (cut_here c hs old)

-- Blank -------------------------------------------------------------------------------------

blank_here : (hs : List Held) (o : Option Bytes) → Performs Blank hs o o (Ok Nothing)
unfolding Performs Gives
blank_here hs None = tt
blank_here hs (Some bytes) = ([], ((refl, refl), ap (λ (l : Bytes). Some l) (sym (append-nil bytes))))

pub blank_done : (c : Command) (hs : List Held) (old : Option Bytes) → c ≡ Blank → Performs c hs old old (Ok Nothing)
blank_done c hs old is = subst (λ (x : Command). Performs x hs old old (Ok Nothing)) (sym is) (blank_here hs old)

-- Commands that make a file -----------------------------------------------------------------

-- the command gives a file of this name with what was made, or refuses as its maker did
pub record Makes (c : Command) (hs : List Held) (name : Bytes) (did : Result Bytes MakeErr → Type 0) : Type 0 where
  pub gives : (text : Bytes) → did (Ok text) → Gives c hs [] (Wrote name text)
  pub refuses : (r : Refusal) → did (Err (make.Refused r)) → Refuses c hs r

halts : (c : Command) (hs : List Held) (name : Bytes) (did : Result Bytes MakeErr → Type 0) (old : Option Bytes) (e : MakeErr) → Makes c hs name did → did (Err e) → Performs c hs old old (Err (work_of_make e))
unfolding Performs
halts c hs name did None e makes told = tt
halts c hs name did (Some o) (make.Refused r) makes told = (makes.refuses r told, refl)
halts c hs name did (Some o) make.Memory makes told = ([], (inl refl, ap (λ (l : Bytes). Some l) (sym (append-nil o))))

-- nothing was made
pub stops : (c : Command) (hs : List Held) (name : Bytes) (did : Result Bytes MakeErr → Type 0) (old : Option Bytes) (r : Result Effect WorkErr) (e : MakeErr) → Makes c hs name did → did (Err e) → r ≡ Err (work_of_make e) → Performs c hs old old r
stops c hs name did old r e makes told is = subst (λ (x : Result Effect WorkErr). Performs c hs old old x) (sym is) (halts c hs name did old e makes told)

made_here : (c : Command) (hs : List Held) (name text : Bytes) (old : Option Bytes) → Gives c hs [] (Wrote name text) → Performs c hs old old (Ok (Wrote name text))
unfolding Performs
made_here c hs name text None gives = tt
made_here c hs name text (Some o) gives = ([], (gives, ap (λ (l : Bytes). Some l) (sym (append-nil o))))

pub made : (c : Command) (hs : List Held) (name copy text : Bytes) (did : Result Bytes MakeErr → Type 0) (old : Option Bytes) → Makes c hs name did → copy ≡ name → did (Ok text) → Performs c hs old old (Ok (Wrote copy text))
made c hs name copy text did old makes is told = subst (λ (x : Bytes). Performs c hs old old (Ok (Wrote x text))) (sym is) (made_here c hs name text old (makes.gives text told))

exports : (s n : Bytes) (h : Held) (rest : List Held) → Makes (Iface s n) (h ∷ rest) n (λ r. ExportDid h.bytes r)
unfolding Gives Refuses
exports s n h rest = record {
  gives = λ text told. (refl, (text, (refl, told)));
  refuses = λ r told. told;
}

pub export_makes : (c : Command) (s n : Bytes) (hs : List Held) (text : Bytes) (rest : List Bytes) → c ≡ Iface s n → First hs text rest → Makes c hs n (λ r. ExportDid text r)
export_makes c s n hs text rest is first =
    subst (λ (x : Command). Makes x hs n (λ r. ExportDid text r)) (sym is)
    (subst (λ (l : List Held). Makes (Iface s n) l n (λ r. ExportDid text r)) (sym first.is)
    (subst (λ (b : Bytes). Makes (Iface s n) (first.head ∷ first.others) n (λ r. ExportDid b r)) first.bytes_are
    (exports s n first.head first.others)))

compiles : (s n : Bytes) (ifaces : List Bytes) (h : Held) (rest : List Held) → Makes (Compile s n ifaces) (h ∷ rest) n (λ r. CompileDid h.bytes (bytes_of rest) r)
unfolding Gives Refuses
compiles s n ifaces h rest = record {
  gives = λ text told. (refl, (text, (refl, told)));
  refuses = λ r told. told;
}

pub compile_makes : (c : Command) (s n : Bytes) (ifaces : List Bytes) (hs : List Held) (text : Bytes) (rest texts : List Bytes) → c ≡ Compile s n ifaces → First hs text rest → texts ≡ rest → Makes c hs n (λ r. CompileDid text texts r)
compile_makes c s n ifaces hs text rest texts is first texts_are =
    subst (λ (x : Command). Makes x hs n (λ r. CompileDid text texts r)) (sym is)
    (subst (λ (l : List Held). Makes (Compile s n ifaces) l n (λ r. CompileDid text texts r)) (sym first.is)
    (subst (λ (l : List Bytes). Makes (Compile s n ifaces) (first.head ∷ first.others) n (λ r. CompileDid text l r)) (first.rest_are ∙ sym texts_are)
    (subst (λ (b : Bytes). Makes (Compile s n ifaces) (first.head ∷ first.others) n (λ r. CompileDid b (bytes_of first.others) r)) first.bytes_are
    (compiles s n ifaces first.head first.others))))

links : (n : Bytes) (objects : List Bytes) (hs : List Held) → Makes (Link n objects) hs n (λ r. LinkDid (bytes_of hs) r)
unfolding Gives Refuses
links n objects hs = record {
  gives = λ text told. (refl, (text, (refl, told)));
  refuses = λ r told. told;
}

pub link_makes : (c : Command) (n : Bytes) (objects texts : List Bytes) (hs : List Held) → c ≡ Link n objects → bytes_of hs ≡ texts → Makes c hs n (λ r. LinkDid texts r)
link_makes c n objects texts hs is are =
    subst (λ (x : Command). Makes x hs n (λ r. LinkDid texts r)) (sym is) (subst (λ (l : List Bytes). Makes (Link n objects) hs n (λ r. LinkDid l r)) are (links n objects hs))

-- Run ---------------------------------------------------------------------------------------

-- what the bytes of a program of sources say is what the sources mean together
pub run_means : (kind : Kind) (bytes : Bytes) (args : List Bytes) (turns : ℕ) (seen : Observation) → Stands kind bytes → TextRuns bytes args turns seen → RunMeans kind bytes args turns seen
unfolding RunMeans Stands
run_means as_given bytes args turns seen stands runs = runs
run_means (as_interface source) bytes args turns seen stands runs = runs
run_means (as_object source texts) bytes args turns seen stands runs = runs
run_means (as_program compilations) bytes args turns seen stands runs = record {
  program = stands.means.program;
  is_program = stands.means.is_program;
  same = λ others is. runs.is ∙ ap (λ (items : List Item). cm items no_input args turns) (sym (runs.program.only stands.means.items stands.means.text)) ∙ stands.means.same others is no_input args turns;
}

-- the effect of a run
abbrev pub effect_of : Result End WorkErr → Result Effect WorkErr
effect_of (Ok end) = Ok (Ran end)
effect_of (Err h) = Err h

run_cut : (p : Bytes) (turns : ℕ) (args : List Bytes) (h : Held) (rest : List Held) (o : Bytes) (new : Option Bytes) → Stands h.kind h.bytes → CutRun o new h.bytes (p ∷ args) turns → Added (Run p turns args) (h ∷ rest) o new
unfolding Gives
run_cut p turns args h rest o new stands told =
    let part = told.1.1 in
    (part.added, (inr (part.rest, (Ran told.0.end, (told.0, (run_means h.kind h.bytes (p ∷ args) turns told.0 stands told.1.0, sym part.is, refl)))), part.written))

run_performs : (p : Bytes) (turns : ℕ) (args : List Bytes) (h : Held) (rest : List Held) (old new : Option Bytes) (r : Result End WorkErr) → Stands h.kind h.bytes → TextRan old new h.bytes (p ∷ args) turns r → Performs (Run p turns args) (h ∷ rest) old new (effect_of r)
unfolding Performs Gives Refuses
run_performs p turns args h rest None new (Ok end) stands told = tt
run_performs p turns args h rest None new (Err e) stands told = tt
run_performs p turns args h rest (Some o) new (Ok end) stands told =
    (printed told.0, ((told.0, (run_means h.kind h.bytes (p ∷ args) turns told.0 stands told.1.0, refl, ap (λ (e : End). Ran e) told.1.1)), told.1.2))
run_performs p turns args h rest (Some o) new (Err (Refused r)) stands told = (told.0, told.1)
run_performs p turns args h rest (Some o) new (Err WriteFault) stands told = run_cut p turns args h rest o new stands told
run_performs p turns args h rest (Some o) new (Err Memory) stands (inl same) = ([], (inl refl, same ∙ ap (λ (l : Bytes). Some l) (sym (append-nil o))))
run_performs p turns args h rest (Some o) new (Err Memory) stands (inr told) = run_cut p turns args h rest o new stands told

pub run_done : (c : Command) (p : Bytes) (turns : ℕ) (args words : List Bytes) (hs : List Held) (text : Bytes) (others : List Bytes) (old new : Option Bytes) (r : Result End WorkErr) (x : Result Effect WorkErr) → c ≡ Run p turns args → words ≡ p ∷ args → First hs text others → AllStand hs → TextRan old new text words turns r → x ≡ effect_of r → Performs c hs old new x
run_done c p turns args words hs text others old new r x c_is words_are first all told x_is =
    let of_words : TextRan old new text (p ∷ args) turns r = subst (λ (l : List Bytes). TextRan old new text l turns r) words_are told in
    let at_head : TextRan old new first.head.bytes (p ∷ args) turns r = subst (λ (b : Bytes). TextRan old new b (p ∷ args) turns r) (sym first.bytes_are) of_words in
    let stands = (subst (λ (l : List Held). AllStand l) first.is all).0 in
    subst (λ (y : Command). Performs y hs old new x) (sym c_is)
    (subst (λ (l : List Held). Performs (Run p turns args) l old new x) (sym first.is)
    (subst (λ (y : Result Effect WorkErr). Performs (Run p turns args) (first.head ∷ first.others) old new y) (sym x_is)
    (run_performs p turns args first.head first.others old new r stands at_head)))

-- What was read, as the code has it ---------------------------------------------------------

pub export_reads : (c : Command) (s n : Bytes) (texts : List Bytes) → c ≡ Iface s n → length texts ≡ length (reads_of c) → 0 < length texts
export_reads c s n texts c_is same = omega (arith, ap (λ (x : Command). length (reads_of x)) c_is)

pub compile_reads : (c : Command) (s n : Bytes) (is texts : List Bytes) → c ≡ Compile s n is → length texts ≡ length (reads_of c) → 0 < length texts
compile_reads c s n is texts c_is same = omega (arith, ap (λ (x : Command). length (reads_of x)) c_is)

pub run_reads : (c : Command) (p : Bytes) (turns : ℕ) (args texts : List Bytes) → c ≡ Run p turns args → length texts ≡ length (reads_of c) → 0 < length texts
run_reads c p turns args texts c_is same = omega (arith, ap (λ (x : Command). length (reads_of x)) c_is)

default_free : (texts : List Bytes) (a b : Bytes) → 0 < length texts → get_or texts 0 a ≡ get_or texts 0 b
default_free [] a b some = absurd (omega arith)
default_free (t ∷ texts) a b some = refl

all_others : (texts : List Bytes) → take (length texts - 1) (drop 1 texts) ≡ drop 1 texts
all_others [] = refl
all_others (t ∷ texts) = take_all (length (t ∷ texts) - 1) texts (omega arith)

pub first_text : (hs : List Held) (texts slice : List Bytes) (item bytes : Bytes) → bytes_of hs ≡ texts → slice ≡ texts → 0 < length texts → item ≡ get_or slice 0 item → bytes ≡ item → First hs bytes (drop 1 texts)
first_text hs texts slice item bytes are slice_is some item_is bytes_is =
    first_of_all hs texts bytes are some (bytes_is ∙ item_is ∙ ap (λ (l : List Bytes). get_or l 0 item) slice_is ∙ default_free texts item bytes some)

pub others_are : (texts slice : List Bytes) (list : List Bytes) → slice ≡ texts → list ≡ take (length slice - 1) (drop 1 slice) → list ≡ drop 1 texts
others_are texts slice list slice_is list_is = list_is ∙ all_others slice ∙ ap (λ (l : List Bytes). drop 1 l) slice_is

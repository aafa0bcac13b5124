-- One line: its steps put together, once for all commands.
use Rattle.std.proofs.Common.{◌≡◌, Bool, true, false, cond, List, [], ◌∷◌, ◌++◌, map, Option, Some, None, Result, Ok, Err, inl, inr, refl, ap, sym, ◌∙◌, arith, subst, append_assoc, unwrap_or, Contains}
use Rattle.std.proofs.lemmas.List.{append-nil}
use Rattle.std.specs.Ordering.{nat_cmp, eq_by_cmp}
use Rattle.std.specs.Cmp.Lexicographic.{slice_cmp, nat_list_cmp_total}
use Rattle.std.specs.FinMap.{get, insert, get-insert}
use Rattle.base_io.specs.Contents.{Bytes, Contents, KeepsOthers}
use Rattle.base_io.specs.declared.end.End.{End}
use Rattle.unit_compile.specs.Compilation.{Exported, Compiled}
use Rattle.linker.specs.Links.{Linked}
use Rattle.whole_program.specs.Law.{Compilation, AreCompiled, LinkKeepsMeaning}
use Rattle.commands.specs.declared.command.Command.{Command}
use Rattle.commands.specs.declared.command.Command.TheVariants.{Blank, Iface, Compile, Link, Run}
use Rattle.session.specs.declared.answer.Effect.{Effect}
use Rattle.session.specs.declared.answer.Effect.TheVariants.{Nothing, Wrote, Ran}
use Rattle.session.specs.declared.errors.Halt.{Halt}
use Rattle.session.specs.declared.errors.Halt.TheVariants.{FileFault, WriteFault, Memory}
use Rattle.session.specs.declared.errors.ReadErr.{ReadErr}
use Rattle.session.specs.declared.errors.ReadErr.TheVariants as read
use Rattle.session.specs.declared.errors.WorkErr.{WorkErr}
use Rattle.session.specs.declared.errors.WorkErr.TheVariants as work
use Rattle.session.specs.declared.errors.WriteErr.{WriteErr}
use Rattle.session.specs.declared.errors.WriteErr.TheVariants as write
use Rattle.session.specs.Halts.{halt_of_read, halt_of_work, halt_of_write}
use Rattle.session.specs.Works.{Kind, as_given, as_interface, as_object, as_program, Held, Stands, AllStand, bytes_of, Gives, MayAdd, reads_of, writes_of, kind_of_work, kind_of_linked, kind_of_joined, compilation_of, compilations_of, onto_compilations}
use Rattle.session.specs.Outside.{missing, ReadAll, WroteOne}
use Rattle.session.specs.Done.{Performs}
use Rattle.session.specs.Steps.{Finished}
use Rattle.session.specs.Scripts.{State, held, after, Steps, Stops, Same, FilesBut, CutOff, Remains, Kept, LineDid}

-- For each command --------------------------------------------------------------------------

-- the name that an effect writes is the command's
pub gives_writes : (c : Command) (hs : List Held) (added name bytes : Bytes) → Gives c hs added (Wrote name bytes) → writes_of c ≡ name ∷ []
unfolding Gives
gives_writes Blank hs added name bytes g = absurd (let e = g.1 in cc)
gives_writes (Iface s n) [] added name bytes g = absurd g.1
gives_writes (Iface s n) (h ∷ hs) added name bytes g = let e = g.1.1.0 in let same : name ≡ n = cc in ap (λ (x : Bytes). x ∷ []) (sym same)
gives_writes (Compile s n is) [] added name bytes g = absurd g.1
gives_writes (Compile s n is) (h ∷ hs) added name bytes g = let e = g.1.1.0 in let same : name ≡ n = cc in ap (λ (x : Bytes). x ∷ []) (sym same)
gives_writes (Link n os) hs added name bytes g = let e = g.1.1.0 in let same : name ≡ n = cc in ap (λ (x : Bytes). x ∷ []) (sym same)
gives_writes (Run p t a) [] added name bytes g = absurd g
gives_writes (Run p t a) (h ∷ hs) added name bytes g = absurd (let e = g.1.2 in cc)

-- an object of this script, and then others
compiled_before : (kind : Kind) (bytes : Bytes) (texts : List Bytes) (known : Option (List Compilation)) (cs : List Compilation) → Stands kind bytes → ((others : List Compilation) → known ≡ Some others → AreCompiled others texts) → onto_compilations (compilation_of kind) known ≡ Some cs → AreCompiled cs (bytes ∷ texts)
unfolding Stands
compiled_before as_given bytes texts known cs stands compiled is = absurd (cc)
compiled_before (as_interface source) bytes texts known cs stands compiled is = absurd (cc)
compiled_before (as_program sources) bytes texts known cs stands compiled is = absurd (cc)
compiled_before (as_object source interfaces) bytes texts None cs stands compiled is = absurd (cc)
compiled_before (as_object source interfaces) bytes texts (Some others) [] stands compiled is = absurd (cc)
compiled_before (as_object source interfaces) bytes texts (Some others) (c ∷ cs) stands compiled is =
    let first : c ≡ record { source = source; interfaces = interfaces } = cc in
    let rest : cs ≡ others = cc in
    (subst (λ (x : Compilation). Compiled x.source x.interfaces bytes) (sym first) stands, subst (λ (l : List Compilation). AreCompiled l texts) (sym rest) (compiled others refl))

are_compiled : (hs : List Held) (cs : List Compilation) → AllStand hs → compilations_of hs ≡ Some cs → AreCompiled cs (bytes_of hs)
are_compiled [] [] all is = tt
are_compiled [] (c ∷ cs) all is = absurd (cc)
are_compiled (h ∷ hs) cs all is = compiled_before h.kind h.bytes (bytes_of hs) (compilations_of hs) cs all.0 (λ others known. are_compiled hs others all.1 known) is

joined_stands : LinkKeepsMeaning → (known : Option (List Compilation)) (objects : List Bytes) (text : Bytes) → ((cs : List Compilation) → known ≡ Some cs → AreCompiled cs objects) → Linked objects text → Stands (kind_of_joined known) text
unfolding Stands LinkKeepsMeaning
joined_stands law None objects text compiled linked = tt
joined_stands law (Some cs) objects text compiled linked = law cs objects text (compiled cs refl) linked

-- the text of objects of this script means what their sources mean together
linked_stands : LinkKeepsMeaning → (hs : List Held) (text : Bytes) → AllStand hs → Linked (bytes_of hs) text → Stands (kind_of_linked hs) text
linked_stands law hs text all linked = joined_stands law (compilations_of hs) (bytes_of hs) text (λ cs known. are_compiled hs cs all known) linked

exported_stands : (source text bytes : Bytes) → Exported source text → bytes ≡ text → Stands (as_interface source) bytes
unfolding Stands
exported_stands source text bytes made is = subst (λ (b : Bytes). Exported source b) (sym is) made

compiled_stands : (source : Bytes) (texts : List Bytes) (text bytes : Bytes) → Compiled source texts text → bytes ≡ text → Stands (as_object source texts) bytes
unfolding Stands
compiled_stands source texts text bytes made is = subst (λ (b : Bytes). Compiled source texts b) (sym is) made

-- what it writes is as is then known of it
pub gives_stands : LinkKeepsMeaning → (c : Command) (hs : List Held) (added name bytes : Bytes) → AllStand hs → Gives c hs added (Wrote name bytes) → Stands (kind_of_work c hs) bytes
unfolding Gives
gives_stands law Blank hs added name bytes all g = absurd (let e = g.1 in cc)
gives_stands law (Iface s n) [] added name bytes all g = absurd g.1
gives_stands law (Iface s n) (h ∷ hs) added name bytes all g = let e = g.1.1.0 in let same : bytes ≡ g.1.0 = cc in exported_stands h.bytes g.1.0 bytes g.1.1.1 same
gives_stands law (Compile s n is) [] added name bytes all g = absurd g.1
gives_stands law (Compile s n is) (h ∷ hs) added name bytes all g = let e = g.1.1.0 in let same : bytes ≡ g.1.0 = cc in compiled_stands h.bytes (bytes_of hs) g.1.0 bytes g.1.1.1 same
gives_stands law (Link n os) hs added name bytes all g = let e = g.1.1.0 in let same : bytes ≡ g.1.0 = cc in subst (λ (b : Bytes). Stands (kind_of_linked hs) b) (sym same) (linked_stands law hs g.1.0 all g.1.1.1)
gives_stands law (Run p t a) [] added name bytes all g = absurd g
gives_stands law (Run p t a) (h ∷ hs) added name bytes all g = absurd (let e = g.1.2 in cc)

-- For all of them ---------------------------------------------------------------------------

-- what was read, and that it is as is known of it
pub texts_are : (s : State) (names : List Bytes) → bytes_of (map (held s) names) ≡ map (λ (n : Bytes). unwrap_or (get s.files n) []) names
texts_are s [] = refl
texts_are s (n ∷ names) = ap (λ (l : List Bytes). unwrap_or (get s.files n) [] ∷ l) (texts_are s names)

pub all_stand : (s : State) (names : List Bytes) → Kept s → AllStand (map (held s) names)
unfolding Kept
all_stand s [] kept = tt
all_stand s (n ∷ names) kept = (kept n, all_stand s names kept)

untouched_files : (names : List Bytes) (files : Contents) (contents : Option Contents) → contents ≡ Some files → FilesBut names files contents
untouched_files names files contents is = subst (λ (x : Option Contents). FilesBut names files x) (sym is) (λ name other. refl)

-- nothing was touched
pub uncut : (c : Command) (s : State) (base : Bytes) (contents : Option Contents) (written : Option Bytes) → Same s base contents written → CutOff c s base contents written
uncut c s base contents written same = record {
  files_are = untouched_files (writes_of c) s.files contents same.files_are;
  added = [];
  part = inl refl;
  written_is = same.written_is ∙ ap (λ (l : Bytes). Some l) (sym (append-nil (base ++ s.output)));
}

pub line_no_memory : (c : Command) (s : State) (base : Bytes) (contents : Option Contents) (written : Option Bytes) (ends' : List End) → Same s base contents written → LineDid c s (Err Memory) base contents written ends'
unfolding LineDid Stops Remains
line_no_memory c s base contents written ends' same = (tt, uncut c s base contents written same)

pub line_no_files : (c : Command) (s : State) (base : Bytes) (contents : Option Contents) (written : Option Bytes) (ends' : List End) (names : List Bytes) (e : ReadErr) → Same s base contents written → names ≡ reads_of c → ReadAll (Some s.files) names (Err e) → LineDid c s (Err (halt_of_read e)) base contents written ends'
unfolding LineDid Stops Remains
line_no_files c s base contents written ends' names (read.NoFile n) same are told = (ap (λ (l : List Bytes). missing s.files l) (sym are) ∙ told, same)
line_no_files c s base contents written ends' names (read.FileFault n) same are told = (inl (subst (λ (l : List Bytes). Contains l n) are told), uncut c s base contents written same)
line_no_files c s base contents written ends' names read.Memory same are told = (tt, uncut c s base contents written same)

-- the command was refused or cut off
pub line_not_performed : (c : Command) (s : State) (base : Bytes) (contents : Option Contents) (written' : Option Bytes) (ends' : List End) (e : WorkErr) → contents ≡ Some s.files → missing s.files (reads_of c) ≡ None → Performs c (map (held s) (reads_of c)) (Some (base ++ s.output)) written' (Err e) → LineDid c s (Err (halt_of_work e)) base contents written' ends'
unfolding LineDid Stops Remains Performs
line_not_performed c s base contents written' ends' (work.Refused r) files there told = ((there, told.0), record { files_are = files; written_is = told.1 })
line_not_performed c s base contents written' ends' work.WriteFault files there told = (tt, record { files_are = untouched_files (writes_of c) s.files contents files; added = told.0; part = told.1.0; written_is = told.1.1 })
line_not_performed c s base contents written' ends' work.Memory files there told = (tt, record { files_are = untouched_files (writes_of c) s.files contents files; added = told.0; part = told.1.0; written_is = told.1.1 })

-- a name that is written is as is then known of it, and all others stay as they are
kept_write : (s : State) (name bytes : Bytes) (kind : Kind) (other : Bytes) → Kept s → Stands kind bytes → Stands (unwrap_or (get (insert s.kinds name kind) other) as_given) (unwrap_or (get (insert s.files name bytes) other) [])
unfolding Kept
kept_write s name bytes kind other kept stands =
    let kinds = get-insert nat_list_cmp_total s.kinds name kind other in
    let files = get-insert nat_list_cmp_total s.files name bytes other in
    let both : (b : Bool) → Stands (unwrap_or (cond b (Some kind) (get s.kinds other)) as_given) (unwrap_or (cond b (Some bytes) (get s.files other)) []) = λ (b : Bool). elim b as (λ (b : Bool). Stands (unwrap_or (cond b (Some kind) (get s.kinds other)) as_given) (unwrap_or (cond b (Some bytes) (get s.files other)) [])) [ true ↦ stands | false ↦ kept other ] in
    subst (λ (k : Option Kind). Stands (unwrap_or k as_given) (unwrap_or (get (insert s.files name bytes) other) [])) (sym kinds)
    (subst (λ (f : Option Bytes). Stands (unwrap_or (cond (eq_by_cmp (slice_cmp nat_cmp) other name) (Some kind) (get s.kinds other)) as_given) (unwrap_or f [])) (sym files)
    (both (eq_by_cmp (slice_cmp nat_cmp) other name)))

others_kept : (name : Bytes) (names : List Bytes) (files : Contents) (contents : Option Contents) → names ≡ name ∷ [] → KeepsOthers name files contents → FilesBut names files contents
others_kept name names files None are kept = absurd kept
others_kept name names files (Some new) are kept = λ other apart. kept other (λ (same : other ≡ name). apart (subst (λ (l : List Bytes). Contains l other) (sym are) (0, omega arith, sym same)))

-- a command that has an effect: its line, from s, is not yet kept
pub record Worked (c : Command) (s : State) (base : Bytes) (written : Option Bytes) (effect : Effect) : Type 0 where
  pub there : missing s.files (reads_of c) ≡ None
  pub kept : Kept s
  pub added : Bytes
  pub gives : Gives c (map (held s) (reads_of c)) added effect
  pub written_is : written ≡ Some (base ++ s.output ++ added)

pub worked : (c : Command) (s : State) (base : Bytes) (written' : Option Bytes) (effect : Effect) → Kept s → missing s.files (reads_of c) ≡ None → Performs c (map (held s) (reads_of c)) (Some (base ++ s.output)) written' (Ok effect) → Worked c s base written' effect
unfolding Performs
worked c s base written' effect kept there told = record { there = there; kept = kept; added = told.0; gives = told.1.0; written_is = told.1.1 }

whole : (c : Command) (s : State) (base : Bytes) (written : Option Bytes) (effect : Effect) (w : Worked c s base written effect) → MayAdd c (map (held s) (reads_of c)) w.added
whole c s base written effect w = inr ([], (effect, subst (λ (l : Bytes). Gives c (map (held s) (reads_of c)) l effect) (sym (append-nil w.added)) w.gives))

steps_of : (c : Command) (s : State) (base : Bytes) (written : Option Bytes) (effect : Effect) (w : Worked c s base written effect) → Steps c s (after (kind_of_work c (map (held s) (reads_of c))) w.added effect s)
steps_of c s base written effect w = record { there = w.there; added = w.added; effect = effect; gives = w.gives; then = refl }

-- a line ends as its last step does
abbrev pub line_of : Result (Unit {0}) WriteErr → Result (Unit {0}) Halt
line_of (Ok done) = Ok done
line_of (Err e) = Err (halt_of_write e)

-- a file was to be written
wrote : LinkKeepsMeaning → (c : Command) (s : State) (base : Bytes) (contents' : Option Contents) (written : Option Bytes) (ends' : List End) (name bytes : Bytes) (r : Result (Unit {0}) WriteErr) → Worked c s base written (Wrote name bytes) → ends' ≡ s.ends → WroteOne (Some s.files) contents' name bytes r → LineDid c s (line_of r) base contents' written ends'
unfolding LineDid Stops Remains Kept
wrote law c s base contents' written ends' name bytes (Ok done) w ends told =
    let stands = gives_stands law c (map (held s) (reads_of c)) w.added name bytes (all_stand s (reads_of c) w.kept) w.gives in (
      after (kind_of_work c (map (held s) (reads_of c))) w.added (Wrote name bytes) s,
      (
        steps_of c s base written (Wrote name bytes) w,
        record {
          same = record { files_are = told; written_is = w.written_is ∙ ap (λ (l : Bytes). Some l) (append_assoc base s.output w.added) };
          ends_are = ends;
          kept = λ other. kept_write s name bytes (kind_of_work c (map (held s) (reads_of c))) other w.kept stands;
        },
      ),
    )
wrote law c s base contents' written ends' name bytes (Err (write.FileFault n)) w ends told =
    let writes = gives_writes c (map (held s) (reads_of c)) w.added name bytes w.gives in (
      inr (subst (λ (l : List Bytes). Contains l n) (sym writes) (0, omega arith, sym told.0)),
      record { files_are = others_kept name (writes_of c) s.files contents' writes told.1; added = w.added; part = whole c s base written (Wrote name bytes) w; written_is = w.written_is },
    )
wrote law c s base contents' written ends' name bytes (Err write.Memory) w ends told =
    let writes = gives_writes c (map (held s) (reads_of c)) w.added name bytes w.gives in
    (tt, record { files_are = others_kept name (writes_of c) s.files contents' writes told; added = w.added; part = whole c s base written (Wrote name bytes) w; written_is = w.written_is })

-- where no file is written, all names stay as they are
same_kept : (c : Command) (s : State) (added : Bytes) → Kept s → Kept (after (kind_of_work c (map (held s) (reads_of c))) added Nothing s)
unfolding Kept
same_kept c s added kept = kept

ran_kept : (c : Command) (s : State) (added : Bytes) (end : End) → Kept s → Kept (after (kind_of_work c (map (held s) (reads_of c))) added (Ran end) s)
unfolding Kept
ran_kept c s added end kept = kept

-- all was done, or what it made could not be kept
line_kept : LinkKeepsMeaning → (c : Command) (s : State) (base : Bytes) (contents contents' : Option Contents) (written : Option Bytes) (ends ends' : List End) (effect : Effect) (r : Result (Unit {0}) WriteErr) → contents ≡ Some s.files → ends ≡ s.ends → Worked c s base written effect → Finished contents contents' ends ends' effect r → LineDid c s (line_of r) base contents' written ends'
unfolding LineDid Stops Remains
line_kept law c s base contents contents' written ends ends' Nothing (Ok done) files ends_are w noted = (
  after (kind_of_work c (map (held s) (reads_of c))) w.added Nothing s,
  (
    steps_of c s base written Nothing w,
    record {
      same = record { files_are = noted.1 ∙ files; written_is = w.written_is ∙ ap (λ (l : Bytes). Some l) (append_assoc base s.output w.added) };
      ends_are = noted.0 ∙ ends_are;
      kept = same_kept c s w.added w.kept;
    },
  ),
)
line_kept law c s base contents contents' written ends ends' Nothing (Err h) files ends_are w noted = absurd noted
line_kept law c s base contents contents' written ends ends' (Wrote name bytes) r files ends_are w noted =
    wrote law c s base contents' written ends' name bytes r w (noted.0 ∙ ends_are) (subst (λ (x : Option Contents). WroteOne x contents' name bytes r) files noted.1)
line_kept law c s base contents contents' written ends ends' (Ran end) (Ok done) files ends_are w noted = (
  after (kind_of_work c (map (held s) (reads_of c))) w.added (Ran end) s,
  (
    steps_of c s base written (Ran end) w,
    record {
      same = record { files_are = noted.1 ∙ files; written_is = w.written_is ∙ ap (λ (l : Bytes). Some l) (append_assoc base s.output w.added) };
      ends_are = noted.0 ∙ ap (λ (l : List End). l ++ end ∷ []) ends_are;
      kept = ran_kept c s w.added end w.kept;
    },
  ),
)
line_kept law c s base contents contents' written ends ends' (Ran end) (Err h) files ends_are w noted =
    subst (λ (x : WriteErr). LineDid c s (Err (halt_of_write x)) base contents' written ends') (sym noted.0) (
      tt,
      record {
        files_are = untouched_files (writes_of c) s.files contents' (noted.1 ∙ files);
        added = w.added;
        part = whole c s base written (Ran end) w;
        written_is = w.written_is;
      },
    )

pub line_finished : LinkKeepsMeaning → (c : Command) (s : State) (base : Bytes) (contents contents' : Option Contents) (written' : Option Bytes) (ends ends' : List End) (effect : Effect) (r : Result (Unit {0}) WriteErr) → contents ≡ Some s.files → Kept s → ends ≡ s.ends → missing s.files (reads_of c) ≡ None → Performs c (map (held s) (reads_of c)) (Some (base ++ s.output)) written' (Ok effect) → Finished contents contents' ends ends' effect r → LineDid c s (line_of r) base contents' written' ends'
line_finished law c s base contents contents' written' ends ends' effect r files kept ends_are there told noted =
    line_kept law c s base contents contents' written' ends ends' effect r files ends_are (worked c s base written' effect kept there told) noted

-- what was read is what the state says
pub read_done : (s : State) (contents : Option Contents) (names reads texts : List Bytes) → contents ≡ Some s.files → names ≡ reads → ReadAll contents names (Ok texts) → (missing s.files reads ≡ None) × (bytes_of (map (held s) reads) ≡ texts)
read_done s contents names reads texts files are told =
    let here : ReadAll (Some s.files) reads (Ok texts) = subst (λ (l : List Bytes). ReadAll (Some s.files) l (Ok texts)) are (subst (λ (x : Option Contents). ReadAll x names (Ok texts)) files told) in
    (here.0, texts_are s reads ∙ sym here.1)

pub files_told : (s : State) (contents : Option Contents) (names : List Bytes) (e : ReadErr) → contents ≡ Some s.files → ReadAll contents names (Err e) → ReadAll (Some s.files) names (Err e)
files_told s contents names e files told = subst (λ (x : Option Contents). ReadAll x names (Err e)) files told

pub performed : (c : Command) (hs : List Held) (old new : Option Bytes) (bytes : Bytes) (r : Result Effect WorkErr) → old ≡ Some bytes → Performs c hs old new r → Performs c hs (Some bytes) new r
performed c hs old new bytes r is told = subst (λ (x : Option Bytes). Performs c hs x new r) is told

-- The causes of a line's end ----------------------------------------------------------------

same_halt : (r : Result (Unit {0}) Halt) (x y : Halt) → r ≡ Err x → r ≡ Err y → x ≡ y
same_halt r x y this that = cc

file_fault_of_read : (e : ReadErr) (n : Bytes) → halt_of_read e ≡ FileFault n → e ≡ read.FileFault n
file_fault_of_read (read.NoFile m) n is = absurd (cc)
file_fault_of_read (read.FileFault m) n is = let same : m ≡ n = cc in ap (λ (x : Bytes). read.FileFault x) same
file_fault_of_read read.Memory n is = absurd (cc)

pub read_file_fault : (r : Result (Unit {0}) Halt) (h : Halt) (e : ReadErr) (n : Bytes) → r ≡ Err h → h ≡ halt_of_read e → r ≡ Err (FileFault n) → e ≡ read.FileFault n
read_file_fault r h e n r_is h_is is = file_fault_of_read e n (sym h_is ∙ same_halt r h (FileFault n) r_is is)

no_write_fault_of_read : (e : ReadErr) → halt_of_read e ≡ WriteFault → ⊥
no_write_fault_of_read (read.NoFile m) is = cc
no_write_fault_of_read (read.FileFault m) is = cc
no_write_fault_of_read read.Memory is = cc

pub no_read_write_fault : (r : Result (Unit {0}) Halt) (h : Halt) (e : ReadErr) → r ≡ Err h → h ≡ halt_of_read e → r ≡ Err WriteFault → ⊥
no_read_write_fault r h e r_is h_is is = no_write_fault_of_read e (sym h_is ∙ same_halt r h WriteFault r_is is)

write_fault_of_work : (e : WorkErr) → halt_of_work e ≡ WriteFault → e ≡ work.WriteFault
write_fault_of_work (work.Refused r) is = absurd (cc)
write_fault_of_work work.WriteFault is = refl
write_fault_of_work work.Memory is = absurd (cc)

pub work_write_fault : (r : Result (Unit {0}) Halt) (h : Halt) (e : WorkErr) → r ≡ Err h → h ≡ halt_of_work e → r ≡ Err WriteFault → e ≡ work.WriteFault
work_write_fault r h e r_is h_is is = write_fault_of_work e (sym h_is ∙ same_halt r h WriteFault r_is is)

no_file_fault_of_work : (e : WorkErr) (n : Bytes) → halt_of_work e ≡ FileFault n → ⊥
no_file_fault_of_work (work.Refused r) n is = cc
no_file_fault_of_work work.WriteFault n is = cc
no_file_fault_of_work work.Memory n is = cc

pub no_work_file_fault : (r : Result (Unit {0}) Halt) (h : Halt) (e : WorkErr) (n : Bytes) → r ≡ Err h → h ≡ halt_of_work e → r ≡ Err (FileFault n) → ⊥
no_work_file_fault r h e n r_is h_is is = no_file_fault_of_work e n (sym h_is ∙ same_halt r h (FileFault n) r_is is)

file_fault_of_write : (e : WriteErr) (n : Bytes) → halt_of_write e ≡ FileFault n → e ≡ write.FileFault n
file_fault_of_write (write.FileFault m) n is = let same : m ≡ n = cc in ap (λ (x : Bytes). write.FileFault x) same
file_fault_of_write write.Memory n is = absurd (cc)

pub write_file_fault : (r : Result (Unit {0}) Halt) (h : Halt) (e : WriteErr) (n : Bytes) → r ≡ Err h → h ≡ halt_of_write e → r ≡ Err (FileFault n) → e ≡ write.FileFault n
write_file_fault r h e n r_is h_is is = file_fault_of_write e n (sym h_is ∙ same_halt r h (FileFault n) r_is is)

no_write_fault_of_write : (e : WriteErr) → halt_of_write e ≡ WriteFault → ⊥
no_write_fault_of_write (write.FileFault m) is = cc
no_write_fault_of_write write.Memory is = cc

pub no_write_write_fault : (r : Result (Unit {0}) Halt) (h : Halt) (e : WriteErr) → r ≡ Err h → h ≡ halt_of_write e → r ≡ Err WriteFault → ⊥
no_write_write_fault r h e r_is h_is is = no_write_fault_of_write e (sym h_is ∙ same_halt r h WriteFault r_is is)

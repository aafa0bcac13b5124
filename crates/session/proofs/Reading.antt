-- Files that are read in order.
use Rattle.std.proofs.Common.{◌≡◌, ℕ, suc, ◌+◌, ◌<◌, List, [], ◌∷◌, ◌++◌, map, take, drop, get_or, length, drop-cons, Option, Some, None, Result, Ok, Err, Bool, true, false, cond, refl, ap, sym, ◌∙◌, Contains, arith, subst, unwrap_or, is_none}
use Rattle.std.proofs.lemmas.List.{take-append-drop, take_more}
use Rattle.std.specs.FinMap.{get}
use Rattle.base_io.specs.Contents.{Bytes, Contents}
use Rattle.session.specs.declared.errors.ReadErr.{ReadErr}
use Rattle.session.specs.declared.errors.ReadErr.TheVariants.{NoFile, FileFault, Memory}
use Rattle.session.specs.Outside.{missing, ReadOne, ReadAll}

abbrev pub texts_of : Contents → List Bytes → List Bytes
texts_of files names = map (λ n. unwrap_or (get files n) []) names

-- where the files tell, the names so far are there, and these are their texts
abbrev pub ReadSoFar : Option Contents → List Bytes → List Bytes → Type 0
ReadSoFar None names texts = Unit {0}
ReadSoFar (Some files) names texts = (missing files names ≡ None) × (texts ≡ texts_of files names)

pub none_yet : (o : Option Contents) → ReadSoFar o [] []
none_yet None = tt
none_yet (Some files) = (refl, refl)

not_some : (x : Bytes) (b : Bool) → b ≡ true → cond b (Some x) None ≡ None → ⊥
not_some x b e h = cc

-- where no name of the front is missing, the first that is missing is one of the rest
missing-append : (files : Contents) (names more : List Bytes) → missing files names ≡ None → missing files (names ++ more) ≡ missing files more
missing-append files [] more none = refl
missing-append files (n ∷ names) more none = elim (is_none (get files n)) as (λ b. cond b (Some n) (missing files names) ≡ None → cond b (Some n) (missing files (names ++ more)) ≡ missing files more) [
  | true ↦ λ h. absurd (not_some n true refl h)
  | false ↦ λ h. missing-append files names more h
] none

texts_of-append : (files : Contents) (names more : List Bytes) → texts_of files (names ++ more) ≡ texts_of files names ++ texts_of files more
texts_of-append files [] more = refl
texts_of-append files (n ∷ names) more = ap (λ (l : List Bytes). unwrap_or (get files n) [] ∷ l) (texts_of-append files names more)

-- one more name that is there
pub read_more : (o : Option Contents) (names texts : List Bytes) (name text : Bytes) → ReadSoFar o names texts → ReadOne o name (Ok text) → ReadSoFar o (names ++ name ∷ []) (texts ++ text ∷ [])
read_more None names texts name text so_far one = tt
read_more (Some files) names texts name text so_far one = (
  missing-append files names (name ∷ []) so_far.0 ∙ ap (λ (x : Option Bytes). cond (is_none x) (Some name) None) one,
  ap (λ (l : List Bytes). l ++ text ∷ []) so_far.1 ∙ ap (λ (x : Option Bytes). texts_of files names ++ unwrap_or x [] ∷ []) (sym one) ∙ sym (texts_of-append files names (name ∷ [])),
)

here : (names more : List Bytes) (name : Bytes) → Contains (names ++ name ∷ more) name
here [] more name = (0, omega arith, refl)
here (n ∷ names) more name = let there = here names more name in (suc there.0, omega arith, there.2)

-- a name that could not be read
pub read_stops : (o : Option Contents) (names more texts : List Bytes) (name : Bytes) (e : ReadErr) → ReadSoFar o names texts → ReadOne o name (Err e) → ReadAll o (names ++ name ∷ more) (Err e)
read_stops None names more texts name e so_far one = tt
read_stops (Some files) names more texts name (NoFile n) so_far one =
    missing-append files names (name ∷ more) so_far.0 ∙ ap (λ (x : Option Bytes). cond (is_none x) (Some name) (missing files more)) one.1 ∙ ap (λ (x : Bytes). Some x) (sym one.0)
read_stops (Some files) names more texts name (FileFault n) so_far one = subst (λ (x : Bytes). Contains (names ++ name ∷ more) x) (sym one) (here names more name)
read_stops (Some files) names more texts name Memory so_far one = tt

pub read_whole : (o : Option Contents) (names texts : List Bytes) → ReadSoFar o names texts → ReadAll o names (Ok texts)
read_whole None names texts so_far = tt
read_whole (Some files) names texts so_far = so_far

pub read_no_memory : (o : Option Contents) (names : List Bytes) → ReadAll o names (Err Memory)
read_no_memory None names = tt
read_no_memory (Some files) names = tt

pub name_at : (names : List Bytes) (i : ℕ) (name : Bytes) → i < length names → name ≡ get_or names i name → take (i + 1) names ≡ take i names ++ name ∷ []
name_at names i name below is = take_more names i name below ∙ ap (λ (x : Bytes). take i names ++ x ∷ []) (sym is)

pub name_splits : (names : List Bytes) (i : ℕ) (name : Bytes) → i < length names → name ≡ get_or names i name → names ≡ take i names ++ name ∷ drop (suc i) names
name_splits names i name below is = sym (take-append-drop i names) ∙ ap (λ (l : List Bytes). take i names ++ l) (drop-cons names i name below ∙ ap (λ (x : Bytes). x ∷ drop (suc i) names) (sym is))

-- the whole answer where a name could not be read
pub read_all_stops : (o here : Option Contents) (names texts : List Bytes) (i : ℕ) (name : Bytes) (e : ReadErr) (result : Result (List Bytes) ReadErr) → i < length names → name ≡ get_or names i name → here ≡ o → ReadSoFar o (take i names) texts → ReadOne here name (Err e) → result ≡ Err e → ReadAll o names result
read_all_stops o here names texts i name e result below is same so_far one result_is =
    let one_o = subst (λ (x : Option Contents). ReadOne x name (Err e)) same one in
    let all = read_stops o (take i names) (drop (suc i) names) texts name e so_far one_o in
    subst (λ (r : Result (List Bytes) ReadErr). ReadAll o names r) (sym result_is) (subst (λ (l : List Bytes). ReadAll o l (Err e)) (sym (name_splits names i name below is)) all)

pub read_all_more : (o here : Option Contents) (names texts texts' : List Bytes) (i : ℕ) (name text : Bytes) → i < length names → name ≡ get_or names i name → here ≡ o → ReadSoFar o (take i names) texts → ReadOne here name (Ok text) → texts' ≡ texts ++ text ∷ [] → ReadSoFar o (take (i + 1) names) texts'
read_all_more o here names texts texts' i name text below is same so_far one more_is =
    let one_o = subst (λ (x : Option Contents). ReadOne x name (Ok text)) same one in
    let all = read_more o (take i names) texts name text so_far one_o in
    subst (λ (l : List Bytes). ReadSoFar o l texts') (sym (name_at names i name below is)) (subst (λ (t : List Bytes). ReadSoFar o (take i names ++ name ∷ []) t) (sym more_is) all)

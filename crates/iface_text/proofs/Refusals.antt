-- What the reader answers is the interface of the text, or the first bad line.
use Rattle.std.proofs.Common.{◌≡◌, ◌≢◌, ℕ, ◌+◌, List, [], ◌∷◌, ◌++◌, length, refl, ap, sym, ◌∙◌, subst, append_assoc, arith, Option, Some, None, Result, Ok, Err, Bool, true, false}
use Rattle.std.proofs.lemmas.List.{length_push, same_from_push}
use Rattle.std.specs.Prelude.{codes}
use Rattle.scheme_data.specs.Symbols.{IsSymbol}
use Rattle.built_table.specs.declared.primitives.Ty.{Ty}
use Rattle.built_table.specs.declared.primitives.Ty.TheVariants.{Obj, Long, Bool as Truth}
use Rattle.built_table.specs.Table.{type_name}
use Rattle.iface_text.specs.declared.interface.Iface.{Iface}
use Rattle.iface_text.specs.declared.interface.IfaceErr.{IfaceErr}
use Rattle.iface_text.specs.declared.interface.IfaceErr.TheVariants.{NotInterface, Memory}
use Rattle.iface_text.specs.declared.interface.Row.{Row}
use Rattle.iface_text.specs.declared.interface.RowKind.{RowKind}
use Rattle.iface_text.specs.declared.interface.RowKind.TheVariants.{Fun}
use Rattle.iface_text.specs.declared.reader.Reader.{Reader}
use Rattle.iface_text.specs.declared.reader.Stage.{Stage}
use Rattle.iface_text.specs.declared.reader.Stage.TheVariants.{Version, Module, Rows, Done}
use Rattle.iface_text.specs.Format.{IfaceTree, iface_tree, HasSpelling, AreRows, lines_of, spelling, end_line, row_line, kind_text, more_types, types_text}
use Rattle.iface_text.specs.Refusal.{Viable, IsBad, FirstBad, line_after, lines_and_rest}
use Rattle.iface_text.specs.Answers.{IsText, ReadsIface, GivesIface}
use Rattle.iface_text.specs.Lines.{Lacks}
use Rattle.iface_text.specs.Reading.{start, step, finished, at_end, answer, answer_from, answer_to, answer_of, AnswersAs, Takes, refused_at}
use Rattle.iface_text.proofs.Bytes.{AllLack, lacks_append, split_line, split_rest, split_ended, ended_is, some_part}
use Rattle.iface_text.proofs.RowLines.{lacks_line_end}
use Rattle.iface_text.proofs.RowLists.{row_lines, end_is_missing, tree_once}
use Rattle.iface_text.proofs.Steps.{Sound, so_far, tree, has_spelling, viable, taken, refused}

-- The lines of an interface's text ----------------------------------------------------------

type_lacks : (t : Ty) → Lacks 10 (type_name t)
type_lacks Obj = refl
type_lacks Long = refl
type_lacks Truth = refl

more_lack : (ts : List Ty) → Lacks 10 (more_types ts)
more_lack [] = refl
more_lack (t ∷ ts) = lacks_append 10 (type_name t) (more_types ts) (type_lacks t) (more_lack ts)

types_lack : (ts : List Ty) → Lacks 10 (types_text ts)
types_lack [] = refl
types_lack (t ∷ ts) = lacks_append 10 (type_name t) (more_types ts) (type_lacks t) (more_lack ts)

kind_lacks : (k : RowKind) → Lacks 10 (kind_text k)
kind_lacks (Fun params gives) = lacks_append 10 (types_text params) (codes ") " ++ type_name gives) (types_lack params) (type_lacks gives)

pub row_lacks : (r : Row) → IsSymbol r.name → Lacks 10 (row_line r)
row_lacks r h = lacks_append 10 r.name (kind_text r.kind) (lacks_line_end r.name h) (kind_lacks r.kind)

rows_lack : (names : List (List ℕ)) (rs : List Row) → AreRows names rs → AllLack (row_lines rs ++ end_line ∷ [])
rows_lack names [] h = (refl, tt)
rows_lack names (r ∷ rs) h = (row_lacks r h.0.is_name, rows_lack (names ++ r.name ∷ []) rs h.1)

lines_lack : (i : IfaceTree) → HasSpelling i → AllLack (lines_of i)
lines_lack i h = (refl, (lacks_line_end i.module_name h.module_is_name, rows_lack [] i.rows h.are_rows))

spelled : (bytes : List ℕ) (i : IfaceTree) → HasSpelling i → bytes ≡ spelling i → lines_and_rest bytes ≡ lines_of i ++ [] ∷ []
spelled bytes i h e = ap lines_and_rest e ∙ split_ended (lines_of i) (lines_lack i h)

-- What the answer tells ---------------------------------------------------------------------

abbrev pub Told : List ℕ → Result IfaceTree ℕ → Type 0
Told bytes (Ok i) = IsText bytes i
Told bytes (Err number) = FirstBad bytes number

no_more : (g : Stage) (m : List ℕ) (rs : List Row) → g ≢ Done → (i : IfaceTree) → HasSpelling i → lines_of i ≢ so_far g m rs
no_more Version m rs n i h e = absurd (cc)
no_more Module m rs n i h e = absurd (cc)
no_more Rows m rs n i h e = let q : row_lines i.rows ++ end_line ∷ [] ≡ row_lines rs = cc in end_is_missing rs i.rows q
no_more Done m rs n i h e = n refl

not_done : (g : Stage) (m : List ℕ) (rs : List Row) (bytes : List ℕ) (number : ℕ) (before : List (List ℕ)) → g ≢ Done → lines_and_rest bytes ≡ before ++ [] ∷ [] → Viable before → so_far g m rs ≡ before
    → number ≡ line_after (length before) → FirstBad bytes number
not_done g m rs bytes number before n e v f k =
    record { before = before; line = []; after = []; are = e; viable = v; bad = λ _ i h q. no_more g m rs n i h (q ∙ sym f); numbered = k }

end_by : (g : Stage) (s : Reader) (number : ℕ) (bytes : List ℕ) (before : List (List ℕ)) → lines_and_rest bytes ≡ before ++ [] ∷ [] → Sound g s.module_name s.rows s.names → Viable before → so_far g s.module_name s.rows ≡ before
    → number ≡ line_after (length before) → Told bytes (finished g s number)
end_by Version s number bytes before e h v f k = not_done Version s.module_name s.rows bytes number before (λ q. absurd (cc)) e v f k
end_by Module s number bytes before e h v f k = not_done Module s.module_name s.rows bytes number before (λ q. absurd (cc)) e v f k
end_by Rows s number bytes before e h v f k = not_done Rows s.module_name s.rows bytes number before (λ q. absurd (cc)) e v f k
end_by Done s number bytes before e h v f k =
    record { has_spelling = has_spelling s.module_name s.rows s.names h; are = ended_is bytes (lines_of (tree s.module_name s.rows)) (e ∙ ap (λ (ls : List (List ℕ)). ls ++ [] ∷ []) (sym f)) }

at_last : (s : Reader) (number : ℕ) (line bytes : List ℕ) (before : List (List ℕ)) → lines_and_rest bytes ≡ before ++ line ∷ [] → Sound s.stage s.module_name s.rows s.names → Viable before → so_far s.stage s.module_name s.rows ≡ before
    → number ≡ line_after (length before) → Told bytes (at_end s number line)
at_last s number [] bytes before e h v f k = end_by s.stage s number bytes before e h v f k
at_last s number (b ∷ bs) bytes before e h v f k = record { before = before; line = b ∷ bs; after = []; are = e; viable = v; bad = λ q. absurd (cc); numbered = k }

next_number : (n number : ℕ) → number ≡ line_after n → line_after number ≡ line_after (n + 1)
next_number n number e = omega arith

next_numbered : (before : List (List ℕ)) (line : List ℕ) (number : ℕ) → number ≡ line_after (length before) → line_after number ≡ line_after (length (before ++ line ∷ []))
next_numbered before line number e = next_number (length before) number e ∙ ap line_after (sym (length_push before line))

viable_at : (s : Reader) (before : List (List ℕ)) → Sound s.stage s.module_name s.rows s.names → so_far s.stage s.module_name s.rows ≡ before → Viable before
viable_at s before h f = subst Viable f (viable s.stage s.module_name s.rows s.names h)

-- what the answer tells about the lines after a line
abbrev pub Tells_on : List (List ℕ) → Type 0
Tells_on lines = (s : Reader) (number : ℕ) (line bytes : List ℕ) (before : List (List ℕ)) → lines_and_rest bytes ≡ before ++ line ∷ lines → Sound s.stage s.module_name s.rows s.names → so_far s.stage s.module_name s.rows ≡ before
    → number ≡ line_after (length before) → Told bytes (answer lines s number line)

told_by : (lines : List (List ℕ)) → Tells_on lines → (s : Reader) (number : ℕ) (line next : List ℕ) (o : Option Reader) → step s line ≡ o → (bytes : List ℕ) (before : List (List ℕ)) → lines_and_rest bytes ≡ before ++ line ∷ next ∷ lines
    → Sound s.stage s.module_name s.rows s.names → so_far s.stage s.module_name s.rows ≡ before → number ≡ line_after (length before)
    → Told bytes (elim o [ None ↦ Err number | Some t ↦ answer lines t (line_after number) next ])
told_by lines on s number line next None q bytes before e h f k =
    record {
      before = before;
      line = line;
      after = next ∷ lines;
      are = e;
      viable = viable_at s before h f;
      bad = λ v. refused s line h q (subst (λ (ls : List (List ℕ)). Viable (ls ++ line ∷ [])) (sym f) v);
      numbered = k;
    }
told_by lines on s number line next (Some t) q bytes before e h f k =
    let a = taken s line t h q in
    on t (line_after number) next bytes (before ++ line ∷ []) (e ∙ sym (append_assoc before (line ∷ []) (next ∷ lines))) a.sound (a.so_far_is ∙ ap (λ (ls : List (List ℕ)). ls ++ line ∷ []) f) (next_numbered before line number k)

told : (lines : List (List ℕ)) → Tells_on lines
told [] s number line bytes before e h f k = at_last s number line bytes before e h (viable_at s before h f) f k
told (next ∷ lines) s number line bytes before e h f k = told_by lines (told lines) s number line next (step s line) refl bytes before e h f k

told_parts : (bytes : List ℕ) (parts : List (List ℕ)) → lines_and_rest bytes ≡ parts → Told bytes (answer_from start 1 parts)
told_parts bytes [] e = absurd (some_part bytes e)
told_parts bytes (line ∷ lines) e = told lines start 1 line bytes [] e (record { no_rows = refl; no_names = refl }) refl refl

pub answer_told : (bytes : List ℕ) → Told bytes (answer_of bytes)
unfolding answer_to
answer_told bytes = told_parts bytes (lines_and_rest bytes) refl

pub bad_line : (bytes : List ℕ) (number : ℕ) → answer_of bytes ≡ Err number → FirstBad bytes number
bad_line bytes number e = subst (Told bytes) e (answer_told bytes)

-- What reading answers ----------------------------------------------------------------------

pub reads : (bytes : List ℕ) (r : Result Iface IfaceErr) → AnswersAs r (answer_of bytes) → ReadsIface bytes r
reads bytes (Ok i) h = subst (Told bytes) h (answer_told bytes)
reads bytes (Err (NotInterface at)) h = record { line = subst (Told bytes) h.0 (answer_told bytes); column = h.1 }
reads bytes (Err Memory) h = tt

-- the lines that come before the last
pub record Front (xs ys : List (List ℕ)) : Type 0 where
  pub others : List (List ℕ)
  pub are : ys ≡ xs ++ others

front : (xs ys more : List (List ℕ)) (y z : List ℕ) → xs ++ y ∷ more ≡ ys ++ z ∷ [] → Front xs ys
front [] ys more y z e = record { others = ys; are = refl }
front (x ∷ []) [] more y z e = absurd (cc)
front (x ∷ (w ∷ xs)) [] more y z e = absurd (cc)
front (x ∷ xs) (w ∷ ys) more y z e =
    let t : xs ++ y ∷ more ≡ ys ++ z ∷ [] = cc in
    let f = front xs ys more y z t in
    let p : x ≡ w = cc in
    record { others = f.others; are = ap (λ (u : List ℕ). u ∷ ys) (sym p) ∙ ap (λ (ls : List (List ℕ)). x ∷ ls) f.are }

not_bad_by : (before : List (List ℕ)) (line : List ℕ) (after : List (List ℕ)) (i : IfaceTree) → HasSpelling i → before ++ line ∷ after ≡ lines_of i ++ [] ∷ [] → IsBad before line after → ⊥
not_bad_by before line [] i h e bad = let p = same_from_push before (lines_of i) line [] e in bad p.1 i h (sym p.0)
not_bad_by before line (next ∷ after) i h e bad =
    let f = front (before ++ line ∷ []) (lines_of i) after next [] (append_assoc before (line ∷ []) (next ∷ after) ∙ e) in
    bad (record { iface = i; has_spelling = h; others = f.others; are = f.are })

pub not_bad : (bytes : List ℕ) (number : ℕ) (i : IfaceTree) → HasSpelling i → bytes ≡ spelling i → FirstBad bytes number → ⊥
not_bad bytes number i h e b = not_bad_by b.before b.line b.after i h (sym b.are ∙ spelled bytes i h e) b.bad

same_text : (bytes : List ℕ) (i j : IfaceTree) → HasSpelling i → bytes ≡ spelling i → IsText bytes j → j ≡ i
same_text bytes i j h e t =
    tree_once j i t.has_spelling h (same_from_push (lines_of j) (lines_of i) [] [] (sym (spelled bytes j t.has_spelling t.are) ∙ spelled bytes i h e)).0

pub gives : (bytes : List ℕ) (r : Result Iface IfaceErr) → AnswersAs r (answer_of bytes) → (i : IfaceTree) → HasSpelling i → bytes ≡ spelling i → GivesIface i r
gives bytes (Ok j) a i h e = same_text bytes i (iface_tree j) h e (reads bytes (Ok j) a)
gives bytes (Err (NotInterface at)) a i h e = not_bad bytes at.line i h e (reads bytes (Err (NotInterface at)) a).line
gives bytes (Err Memory) a i h e = tt

-- One line read, or the last ----------------------------------------------------------------

next_o : (lines : List (List ℕ)) (t : Reader) (number : ℕ) (next : List ℕ) (o : Option Reader) → o ≡ Some t → elim o as (λ _. Result IfaceTree ℕ) [ None ↦ Err number | Some u ↦ answer lines u (line_after number) next ] ≡ answer lines t (line_after number) next
next_o lines t number next o q = rw q refl

stop_o : (lines : List (List ℕ)) (number : ℕ) (next : List ℕ) (o : Option Reader) → o ≡ None → elim o as (λ _. Result IfaceTree ℕ) [ None ↦ Err number | Some u ↦ answer lines u (line_after number) next ] ≡ Err number
stop_o lines number next o q = rw q refl

next_by : (s t : Reader) (number : ℕ) (line : List ℕ) (parts : List (List ℕ)) → parts ≢ [] → step s line ≡ Some t → answer_from s number (line ∷ parts) ≡ answer_from t (line_after number) parts
next_by s t number line [] some q = absurd (some refl)
next_by s t number line (next ∷ lines) some q = next_o lines t number next (step s line) q

stop_by : (s : Reader) (number : ℕ) (line : List ℕ) (parts : List (List ℕ)) → parts ≢ [] → step s line ≡ None → answer_from s number (line ∷ parts) ≡ Err number
stop_by s number line [] some q = absurd (some refl)
stop_by s number line (next ∷ lines) some q = stop_o lines number next (step s line) q

pub answer_on : (s t : Reader) (number : ℕ) (line rest after : List ℕ) → rest ≡ line ++ 10 ∷ after → Lacks 10 line → step s line ≡ Some t → answer_to t (line_after number) after ≡ answer_to s number rest
unfolding answer_to
answer_on s t number line rest after e h q =
    sym (ap (λ (bytes : List ℕ). answer_from s number (lines_and_rest bytes)) e ∙ ap (answer_from s number) (split_line line after h) ∙ next_by s t number line (lines_and_rest after) (some_part after) q)

pub answer_stop : (s : Reader) (number : ℕ) (line rest after : List ℕ) → rest ≡ line ++ 10 ∷ after → Lacks 10 line → step s line ≡ None → answer_to s number rest ≡ Err number
unfolding answer_to
answer_stop s number line rest after e h q =
    ap (λ (bytes : List ℕ). answer_from s number (lines_and_rest bytes)) e ∙ ap (answer_from s number) (split_line line after h) ∙ stop_by s number line (lines_and_rest after) (some_part after) q

pub answer_end : (s : Reader) (number : ℕ) (rest : List ℕ) → Lacks 10 rest → answer_to s number rest ≡ at_end s number rest
unfolding answer_to
answer_end s number rest h = ap (answer_from s number) (split_rest rest h)

-- What the loop of reading answers ----------------------------------------------------------

pub goes_on : (s t : Reader) (number after_it : ℕ) (line rest after bytes : List ℕ) (v : Bool) → answer_to s number rest ≡ answer_of bytes → rest ≡ line ++ 10 ∷ after → Lacks 10 line → Takes v (step s line) t → v ≡ true
    → after_it ≡ line_after number → answer_to t after_it after ≡ answer_of bytes
goes_on s t number after_it line rest after bytes true so e h q v n = ap (λ (k : ℕ). answer_to t k after) n ∙ answer_on s t number line rest after e h q ∙ so
goes_on s t number after_it line rest after bytes false so e h q v n = absurd (cc)

pub stops_here : (s t : Reader) (number : ℕ) (line rest after bytes : List ℕ) (v : Bool) (e : IfaceErr) → answer_to s number rest ≡ answer_of bytes → rest ≡ line ++ 10 ∷ after → Lacks 10 line → Takes v (step s line) t → v ≡ false
    → e ≡ refused_at number → AnswersAs (Err e) (answer_of bytes)
stops_here s t number line rest after bytes true x so e h q v n = absurd (cc)
stops_here s t number line rest after bytes false x so e h q v n = rw n (sym so ∙ answer_stop s number line rest after e h q, refl)

pub ends_here : (s : Reader) (number : ℕ) (rest bytes : List ℕ) (r : Result Iface IfaceErr) → answer_to s number rest ≡ answer_of bytes → Lacks 10 rest → AnswersAs r (at_end s number rest) → AnswersAs r (answer_of bytes)
ends_here s number rest bytes r so h a = subst (AnswersAs r) (sym (answer_end s number rest h) ∙ so) a

-- A reader takes a line exactly where an interface could have it.
use Rattle.std.proofs.Common.{◌≡◌, ◌≢◌, ℕ, List, [], ◌∷◌, ◌++◌, Bool, true, false, refl, ap, sym, ◌∙◌, subst, append_assoc, inl, inr, Option, Some, None, if◌then◌else◌, append-nil, lit≤}
use Rattle.std.specs.Prelude.{codes}
use Rattle.std.proofs.lemmas.List.{map-append}
use Rattle.scheme_data.specs.Symbols.{IsSymbol}
use Rattle.name_table.specs.Names.{has_name}
use Rattle.iface_text.specs.declared.interface.Row.{Row}
use Rattle.iface_text.specs.declared.reader.Reader.{Reader}
use Rattle.iface_text.specs.declared.reader.Stage.{Stage}
use Rattle.iface_text.specs.declared.reader.Stage.TheVariants.{Version, Module, Rows, Done}
use Rattle.iface_text.specs.Format.{IfaceTree, version_line, module_line, row_line, end_line, lines_of, AreRows, HasSpelling}
use Rattle.iface_text.specs.Refusal.{Viable}
use Rattle.scheme_data.specs.Names.{is_same}
use Rattle.iface_text.specs.Lines.{module_line_name, row_of, RowLine}
use Rattle.iface_text.specs.Reading.{step, step_by, step_version, step_module, step_rows, named, one_more, with_row}
use Rattle.iface_text.proofs.RowLines.{same_is, same_test, some_is, module_line_sound, module_line_name_is, row_of_sound, row_of_row}
use Rattle.iface_text.proofs.RowLists.{names_in, row_lines, Fresh, next_line, nothing_after_end, push_row}

-- What a reader knows -----------------------------------------------------------------------

pub record IsEmpty (rows : List Row) (names : List (List ℕ)) : Type 0 where
  pub no_rows : rows ≡ []
  pub no_names : names ≡ []

pub record Tells (module_name : List ℕ) (rows : List Row) (names : List (List ℕ)) : Type 0 where
  pub module_is_name : IsSymbol module_name
  pub are_rows : AreRows [] rows
  pub names_are : names ≡ names_in rows

abbrev pub Sound : Stage → List ℕ → List Row → List (List ℕ) → Type 0
Sound Version m rs ns = IsEmpty rs ns
Sound Module m rs ns = IsEmpty rs ns
Sound Rows m rs ns = Tells m rs ns
Sound Done m rs ns = Tells m rs ns

abbrev pub tree : List ℕ → List Row → IfaceTree
tree m rs = record { module_name = m; rows = rs }

-- the lines that were taken
abbrev pub so_far : Stage → List ℕ → List Row → List (List ℕ)
so_far Version m rs = []
so_far Module m rs = version_line ∷ []
so_far Rows m rs = version_line ∷ module_line m ∷ row_lines rs
so_far Done m rs = lines_of (tree m rs)

pub has_spelling : (m : List ℕ) (rs : List Row) (ns : List (List ℕ)) → Tells m rs ns → HasSpelling (tree m rs)
has_spelling m rs ns h = record { module_is_name = h.module_is_name; are_rows = h.are_rows }

an_interface : IfaceTree
an_interface = tree (codes "a") []

a_spelling : HasSpelling an_interface
unfolding an_interface
a_spelling = record { module_is_name = record { some = lit≤ tt; short = lit≤ tt; bytes = refl; front = refl }; are_rows = tt }

pub viable : (g : Stage) (m : List ℕ) (rs : List Row) (ns : List (List ℕ)) → Sound g m rs ns → Viable (so_far g m rs)
unfolding an_interface
viable Version m rs ns h = record { iface = an_interface; has_spelling = a_spelling; others = lines_of an_interface; are = refl }
viable Module m rs ns h = record { iface = an_interface; has_spelling = a_spelling; others = module_line (codes "a") ∷ end_line ∷ []; are = refl }
viable Rows m rs ns h = record { iface = tree m rs; has_spelling = has_spelling m rs ns h; others = end_line ∷ []; are = refl }
viable Done m rs ns h = record { iface = tree m rs; has_spelling = has_spelling m rs ns h; others = []; are = sym (append-nil (lines_of (tree m rs))) }

-- A line is taken ---------------------------------------------------------------------------

-- a reader that has taken a line more
pub record After (before : List (List ℕ)) (line : List ℕ) (t : Reader) : Type 0 where
  pub sound : Sound t.stage t.module_name t.rows t.names
  pub so_far_is : so_far t.stage t.module_name t.rows ≡ before ++ line ∷ []

version_by : (s : Reader) (line : List ℕ) (t : Reader) (v : Bool) → is_same line version_line ≡ v → IsEmpty s.rows s.names
    → (if v then Some (record s { stage = Module }) else None) ≡ Some t → After [] line t
version_by s line t true e h q = subst (After [] line) (some_is (record s { stage = Module }) t q) (record { sound = h; so_far_is = ap (λ (l : List ℕ). l ∷ []) (sym (same_is line version_line e)) })
version_by s line t false e h q = absurd (cc)

tells_none : (m : List ℕ) (rs : List Row) (ns : List (List ℕ)) → IsSymbol m → IsEmpty rs ns → Tells m rs ns
tells_none m rs ns named e = rw (e.no_rows, e.no_names) (record { module_is_name = named; are_rows = tt; names_are = refl })

module_by : (s : Reader) (line : List ℕ) (t : Reader) (o : Option (List ℕ)) → module_line_name line ≡ o → IsEmpty s.rows s.names
    → named s o ≡ Some t → After (version_line ∷ []) line t
module_by s line t None e h q = absurd (cc)
module_by s line t (Some name) e h q =
    let l = module_line_sound line name e in
    let p : version_line ∷ module_line name ∷ row_lines s.rows ≡ version_line ∷ line ∷ [] = rw (h.no_rows, l.are) refl in
    subst (After (version_line ∷ []) line) (some_is (record s { stage = Rows; module_name = name }) t q) (record { sound = tells_none name s.rows s.names l.is_name h; so_far_is = p })

tells_more : (m : List ℕ) (rs : List Row) (ns : List (List ℕ)) (r : Row) → Tells m rs ns → RowLine (row_line r) r → has_name ns r.name ≡ false → Tells m (rs ++ r ∷ []) (ns ++ r.name ∷ [])
tells_more m rs ns r h l new = record {
  module_is_name = h.module_is_name;
  are_rows = push_row [] rs r h.are_rows (record { is_name = l.is_name; is_new = subst (λ (xs : List (List ℕ)). has_name xs r.name ≡ false) h.names_are new; is_untyped = l.is_untyped });
  names_are = ap (λ (xs : List (List ℕ)). xs ++ r.name ∷ []) h.names_are ∙ sym (map-append (λ (q : Row). q.name) rs (r ∷ []));
}

new_by : (s : Reader) (line : List ℕ) (t : Reader) (r : Row) (v : Bool) → has_name s.names r.name ≡ v → RowLine line r → Tells s.module_name s.rows s.names → s.stage ≡ Rows
    → (if v then None else Some (with_row s r)) ≡ Some t → After (so_far Rows s.module_name s.rows) line t
new_by s line t r true e l h g q = absurd (cc)
new_by s line t r false e l h g q =
    let k : Tells s.module_name (s.rows ++ r ∷ []) (s.names ++ r.name ∷ []) = tells_more s.module_name s.rows s.names r h (record { is_name = l.is_name; is_untyped = l.is_untyped; are = refl }) e in
    let p : so_far Rows s.module_name (s.rows ++ r ∷ []) ≡ so_far Rows s.module_name s.rows ++ line ∷ [] =
    ap (λ (ls : List (List ℕ)). version_line ∷ module_line s.module_name ∷ ls) (map-append row_line s.rows (r ∷ []) ∙ ap (λ (x : List ℕ). row_lines s.rows ++ x ∷ []) (sym l.are)) in
    subst (After (so_far Rows s.module_name s.rows) line) (some_is (with_row s r) t q)
    (record {
      sound = subst (λ (x : Stage). Sound x s.module_name (s.rows ++ r ∷ []) (s.names ++ r.name ∷ [])) (sym g) k;
      so_far_is = subst (λ (x : Stage). so_far x s.module_name (s.rows ++ r ∷ []) ≡ so_far Rows s.module_name s.rows ++ line ∷ []) (sym g) p;
    })

row_by : (s : Reader) (line : List ℕ) (t : Reader) (o : Option Row) → row_of line ≡ o → Tells s.module_name s.rows s.names → s.stage ≡ Rows
    → one_more s o ≡ Some t → After (so_far Rows s.module_name s.rows) line t
row_by s line t None e h g q = absurd (cc)
row_by s line t (Some r) e h g q = new_by s line t r (has_name s.names r.name) refl (row_of_sound line r e) h g q

rows_by : (s : Reader) (line : List ℕ) (t : Reader) (v : Bool) → is_same line end_line ≡ v → Tells s.module_name s.rows s.names → s.stage ≡ Rows
    → (if v then Some (record s { stage = Done }) else one_more s (row_of line)) ≡ Some t → After (so_far Rows s.module_name s.rows) line t
rows_by s line t true e h g q =
    subst (After (so_far Rows s.module_name s.rows) line) (some_is (record s { stage = Done }) t q)
    (record { sound = h; so_far_is = ap (λ (x : List ℕ). so_far Rows s.module_name s.rows ++ x ∷ []) (sym (same_is line end_line e)) })
rows_by s line t false e h g q = row_by s line t (row_of line) refl h g q

taken_by : (g : Stage) (s : Reader) (line : List ℕ) (t : Reader) → s.stage ≡ g → Sound g s.module_name s.rows s.names → step_by g s line ≡ Some t → After (so_far g s.module_name s.rows) line t
taken_by Version s line t g h q = version_by s line t (is_same line version_line) refl h q
taken_by Module s line t g h q = module_by s line t (module_line_name line) refl h q
taken_by Rows s line t g h q = rows_by s line t (is_same line end_line) refl h g q
taken_by Done s line t g h q = absurd (cc)

pub taken : (s : Reader) (line : List ℕ) (t : Reader) → Sound s.stage s.module_name s.rows s.names → step s line ≡ Some t → After (so_far s.stage s.module_name s.rows) line t
unfolding step
taken s line t h q = taken_by s.stage s line t refl h q

-- A line is refused -------------------------------------------------------------------------

-- what stands after the module's line
rows_after : (m : List ℕ) (i : IfaceTree) (rs : List Row) (line : List ℕ) (others : List (List ℕ)) → lines_of i ≡ (so_far Rows m rs ++ line ∷ []) ++ others → row_lines rs ++ (line ∷ others) ≡ row_lines i.rows ++ end_line ∷ []
rows_after m i rs line others e = let p : (row_lines rs ++ line ∷ []) ++ others ≡ row_lines i.rows ++ end_line ∷ [] = cc in sym (append_assoc (row_lines rs) (line ∷ []) others) ∙ p

done_after : (m : List ℕ) (i : IfaceTree) (rs : List Row) (line : List ℕ) (others : List (List ℕ)) → lines_of i ≡ (so_far Done m rs ++ line ∷ []) ++ others → row_lines rs ++ (end_line ∷ line ∷ others) ≡ row_lines i.rows ++ end_line ∷ []
done_after m i rs line others e =
    let p : ((row_lines rs ++ end_line ∷ []) ++ line ∷ []) ++ others ≡ row_lines i.rows ++ end_line ∷ [] = cc in
    sym (append_assoc (row_lines rs ++ end_line ∷ []) (line ∷ []) others ∙ append_assoc (row_lines rs) (end_line ∷ []) (line ∷ others)) ∙ p

no_version : (s : Reader) (line : List ℕ) → step_version s line ≡ None → line ≢ version_line
no_version s line q e = let p : is_same line version_line ≡ true = same_test line version_line e in let z = rw p at q in absurd (cc)

no_module : (s : Reader) (line name : List ℕ) → step_module s line ≡ None → IsSymbol name → line ≢ module_line name
no_module s line name q h e =
    let p : module_line_name line ≡ Some name = ap module_line_name e ∙ module_line_name_is name h in
    let z = rw p at q in absurd (cc)

no_end : (s : Reader) (line : List ℕ) → step_rows s line ≡ None → line ≢ end_line
no_end s line q e = let p : is_same line end_line ≡ true = same_test line end_line e in let z = rw p at q in absurd (cc)

not_end_by : (line : List ℕ) (v : Bool) → is_same line end_line ≡ v → line ≢ end_line → v ≡ false
not_end_by line false e h = refl
not_end_by line true e h = absurd (h (same_is line end_line e))

fresh_line : (names : List (List ℕ)) (line : List ℕ) (f : Fresh names line) → RowLine line f.row
fresh_line names line f = record { is_name = f.is_row.is_name; is_untyped = f.is_row.is_untyped; are = f.are }

no_fresh : (s : Reader) (line : List ℕ) → step_rows s line ≡ None → line ≢ end_line → Fresh s.names line → ⊥
no_fresh s line q n f =
    let e : is_same line end_line ≡ false = not_end_by line (is_same line end_line) refl n in
    let r : row_of line ≡ Some f.row = row_of_row line f.row (fresh_line s.names line f) in
    let k : has_name s.names f.row.name ≡ false = f.is_row.is_new in
    let z = rw (e, r, k) at q in absurd (cc)

refused_by : (g : Stage) (s : Reader) (line : List ℕ) → Sound g s.module_name s.rows s.names → step_by g s line ≡ None → Viable (so_far g s.module_name s.rows ++ line ∷ []) → ⊥
refused_by Version s line h q v = let e = v.are in let p : line ≡ version_line = cc in no_version s line q p
refused_by Module s line h q v = let e = v.are in let p : line ≡ module_line v.iface.module_name = cc in no_module s line v.iface.module_name q v.has_spelling.module_is_name p
refused_by Rows s line h q v =
    let e : row_lines s.rows ++ (line ∷ v.others) ≡ row_lines v.iface.rows ++ end_line ∷ [] = rows_after s.module_name v.iface s.rows line v.others v.are in
    elim (next_line [] s.rows v.iface.rows line v.others h.are_rows v.has_spelling.are_rows e) [
      | inl p ↦ no_end s line q p
      | inr f ↦ no_fresh s line q (no_end s line q) (subst (λ (ns : List (List ℕ)). Fresh ns line) (sym h.names_are) f)
    ]
refused_by Done s line h q v = nothing_after_end s.rows v.iface.rows line v.others (done_after s.module_name v.iface s.rows line v.others v.are)

pub refused : (s : Reader) (line : List ℕ) → Sound s.stage s.module_name s.rows s.names → step s line ≡ None → Viable (so_far s.stage s.module_name s.rows ++ line ∷ []) → ⊥
unfolding step
refused s line h q v = refused_by s.stage s line h q v

-- What the lines of an interface's rows tell.
use Rattle.std.proofs.Common.{◌≡◌, ◌≢◌, ℕ, List, [], ◌∷◌, ◌++◌, map, refl, sym, subst, append_assoc, ◌⊎◌, inl, inr, append-nil}
use Rattle.std.specs.Prelude.{codes}
use Rattle.std.proofs.lemmas.List.{append_cancel_left, append_cancel_right}
use Rattle.iface_text.specs.declared.interface.Row.{Row}
use Rattle.iface_text.specs.Format.{IfaceTree, row_line, module_line, end_line, lines_of, IsRow, AreRows, HasSpelling}
use Rattle.iface_text.proofs.RowLines.{row_once}

abbrev pub names_in : List Row → List (List ℕ)
names_in rs = map (λ r. r.name) rs

abbrev pub row_lines : List Row → List (List ℕ)
row_lines rs = map row_line rs

-- a row that may come after those of these names
pub record Fresh (names : List (List ℕ)) (line : List ℕ) : Type 0 where
  pub row : Row
  pub is_row : IsRow names row
  pub are : line ≡ row_line row

-- a row's line isn't `end`
row_is_no_end : (r : Row) → row_line r ≢ end_line
row_is_no_end r e = absurd (cc)

-- what comes after the lines of some rows in an interface
pub next_line : (names : List (List ℕ)) (rs js : List Row) (line : List ℕ) (others : List (List ℕ)) → AreRows names rs → AreRows names js
    → row_lines rs ++ (line ∷ others) ≡ row_lines js ++ end_line ∷ [] → (line ≡ end_line) ⊎ Fresh (names ++ names_in rs) line
next_line names [] [] line others h k e = let q : line ≡ end_line = cc in inl q
next_line names [] (j ∷ js) line others h k e = let q : line ≡ row_line j = cc in inr (record { row = j; is_row = subst (λ (ns : List (List ℕ)). IsRow ns j) (sym (append-nil names)) k.0; are = q })
next_line names (r ∷ rs) [] line others h k e = let q : row_line r ≡ end_line = cc in absurd (row_is_no_end r q)
next_line names (r ∷ rs) (j ∷ js) line others h k e =
    let q : row_line r ≡ row_line j = cc in
    let t : row_lines rs ++ (line ∷ others) ≡ row_lines js ++ end_line ∷ [] = cc in
    let s : r ≡ j = row_once r j h.0.is_name h.0.is_untyped k.0.is_name k.0.is_untyped q in
    let more = next_line (names ++ r.name ∷ []) rs js line others h.1 (subst (λ (x : Row). AreRows (names ++ x.name ∷ []) js) (sym s) k.1) t in
    subst (λ (ns : List (List ℕ)). (line ≡ end_line) ⊎ Fresh ns line) (append_assoc names (r.name ∷ []) (names_in rs)) more

-- nothing comes after `end`
pub nothing_after_end : (rs js : List Row) (line : List ℕ) (others : List (List ℕ)) → row_lines rs ++ (end_line ∷ line ∷ others) ≢ row_lines js ++ end_line ∷ []
nothing_after_end [] [] line others e = absurd (cc)
nothing_after_end [] (j ∷ js) line others e = let q : row_line j ≡ end_line = cc in row_is_no_end j q
nothing_after_end (r ∷ rs) [] line others e = let q : row_line r ≡ end_line = cc in row_is_no_end r q
nothing_after_end (r ∷ rs) (j ∷ js) line others e = let t : row_lines rs ++ (end_line ∷ line ∷ others) ≡ row_lines js ++ end_line ∷ [] = cc in nothing_after_end rs js line others t

-- rows without `end` aren't all
pub end_is_missing : (rs js : List Row) → row_lines js ++ end_line ∷ [] ≢ row_lines rs
end_is_missing [] [] e = absurd (cc)
end_is_missing [] (j ∷ js) e = absurd (cc)
end_is_missing (r ∷ rs) [] e = let q : row_line r ≡ end_line = cc in row_is_no_end r q
end_is_missing (r ∷ rs) (j ∷ js) e = let t : row_lines js ++ end_line ∷ [] ≡ row_lines rs = cc in end_is_missing rs js t

-- one more row
pub push_row : (names : List (List ℕ)) (rs : List Row) (r : Row) → AreRows names rs → IsRow (names ++ names_in rs) r → AreRows names (rs ++ r ∷ [])
push_row names [] r h k = (subst (λ (ns : List (List ℕ)). IsRow ns r) (append-nil names) k, tt)
push_row names (q ∷ rs) r h k = (h.0, push_row (names ++ q.name ∷ []) rs r h.1 (subst (λ (ns : List (List ℕ)). IsRow ns r) (sym (append_assoc names (q.name ∷ []) (names_in rs))) k))

rows_once : (names names' : List (List ℕ)) (rs js : List Row) → AreRows names rs → AreRows names' js → row_lines rs ≡ row_lines js → rs ≡ js
rows_once names names' [] [] h k e = refl
rows_once names names' [] (j ∷ js) h k e = absurd (cc)
rows_once names names' (r ∷ rs) [] h k e = absurd (cc)
rows_once names names' (r ∷ rs) (j ∷ js) h k e =
    let q : row_line r ≡ row_line j = cc in
    let t : row_lines rs ≡ row_lines js = cc in
    let s : r ≡ j = row_once r j h.0.is_name h.0.is_untyped k.0.is_name k.0.is_untyped q in
    let u : rs ≡ js = rows_once (names ++ r.name ∷ []) (names' ++ j.name ∷ []) rs js h.1 k.1 t in
    cc

same_tree : (m n : List ℕ) (rs js : List Row) → m ≡ n → rs ≡ js → ◌≡◌ {A = IfaceTree} (record { module_name = m; rows = rs }) (record { module_name = n; rows = js })
same_tree m n rs js a b = rw (a, b) refl

-- an interface's lines are of no other
pub tree_once : (i j : IfaceTree) → HasSpelling i → HasSpelling j → lines_of i ≡ lines_of j → i ≡ j
tree_once i j h k e =
    let m : module_line i.module_name ≡ module_line j.module_name = cc in
    let t : row_lines i.rows ++ end_line ∷ [] ≡ row_lines j.rows ++ end_line ∷ [] = cc in
    same_tree i.module_name j.module_name i.rows j.rows (append_cancel_left (codes "module ") i.module_name j.module_name m) (rows_once [] [] i.rows j.rows h.are_rows k.are_rows (append_cancel_right (row_lines i.rows) (row_lines j.rows) (end_line ∷ []) t))

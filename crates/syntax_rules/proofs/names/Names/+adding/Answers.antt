use Rattle.std.proofs.Common.{◌≡◌, ◌∙◌, ◌++◌, ◌∷◌, [], ◌+◌, List, IfOk, IsTrue, map, drop, subst, ap, arith, sym, refl, true, Bool, ℕ, not}
use Rattle.std.proofs.lemmas.List.{append-nil}
use Rattle.marked_names.specs.MarkedNames.{has_marked}
use Rattle.syntax_rules.specs.Trees.{Path}
use Rattle.syntax_rules.proofs.Atoms.{neither}
use Rattle.scheme_data.specs.Forms.{form, forms}
use Rattle.scheme_data.specs.declared.datum.Datum.{Datum}
use Rattle.syntax_rules.specs.Patterns.{names_of, names_in, paths_of, paths_in, are_apart, are_dots, step}
use Rattle.syntax_rules.proofs.Apart.{apart_stops, apart_on, joined_on, name_apart, name_alone, path_alone}
use Rattle.syntax_rules.proofs.Dots.{forms_at, next_is}
use Rattle.syntax_rules.proofs.Layers.{form-List}
use Rattle.syntax_rules.proofs.names.Names.+adding.Goals as goal

pub add-returns-in-List-clause-apart : goal.add-returns-in-List-clause-apart
add-returns-in-List-clause-apart t c = rw c.in-List.is (rw (form-List c.in-List.field-0 c.in-List.ds)
    (subst (λ (es : List Datum). IfOk c.add_all.result (λ b. b ≡ are_apart c.args.self.now.table (names_in c.args.literals.now (forms (map form es))))) c.as_slice.ensures c.add_all.ensures.apart))

pub add-returns-in-List-clause-names : goal.add-returns-in-List-clause-names
add-returns-in-List-clause-names t c = rw c.in-List.is (rw (form-List c.in-List.field-0 c.in-List.ds)
    (subst (λ (es : List Datum). IfOk c.add_all.result (λ b. IsTrue b → c.add_all.new.self.table ≡ c.args.self.now.table ++ names_in c.args.literals.now (forms (map form es)))) c.as_slice.ensures c.add_all.ensures.names))

pub add-returns-in-List-clause-paths : goal.add-returns-in-List-clause-paths
add-returns-in-List-clause-paths t c = rw c.in-List.is (rw (form-List c.in-List.field-0 c.in-List.ds)
    (subst (λ (es : List Datum). IfOk c.add_all.result (λ b. IsTrue b → c.add_all.new.self.paths ≡ c.args.self.now.paths ++ paths_in c.args.literals.now c.args.path.now 0 (forms (map form es)))) c.as_slice.ensures c.add_all.ensures.paths))

pub add_all-returns-then-not-branch-clause-apart : goal.add_all-returns-then-not-branch-clause-apart
add_all-returns-then-not-branch-clause-apart t c =
    let at = forms_at c.args.ds.now c.loop-i.i c.index-ds-i.result (omega arith) c.index-ds-i.is in
    apart_stops _ c.loop-i.self.table (names_of c.args.literals.now (form c.index-ds-i.result)) _ _ c.args.self.now.table c.in_ok-add.field-0
    c.loop-i.invariant.apart (ap (names_in c.args.literals.now) at) c.in_ok-add.ensures.apart c.if-not-branch.true

pub add_all-loop-i-preserved : goal.add_all-loop-i-preserved
add_all-loop-i-preserved t c =
    let at = forms_at c.args.ds.now c.loop-i.i c.index-ds-i.result (omega arith) c.index-ds-i.is in
    let names_at = ap (names_in c.args.literals.now) at in
    let inner : c.as_slice.result.now ≡ c.args.path.now ++ step (are_dots (forms (map form (drop (c.loop-i.i + 1) c.args.ds.now)))) c.loop-i.i ∷ [] =
    c.as_slice.ensures ∙ c.in_ok-push.ensures.ok ∙ ap (λ p. p ++ c.step.result ∷ []) c.in_ok-inner.ensures
    ∙ ap (λ s. c.args.path.now ++ s ∷ []) (c.step.ensures ∙ ap (λ b. step b c.loop-i.i) c.dots_end.ensures ∙ ap (λ n. step (are_dots (forms (map form (drop n c.args.ds.now)))) c.loop-i.i) (next_is c.loop-i.i)) in
    let table = c.in_ok-add.ensures.names c.if-not-branch.false in
    let paths = c.in_ok-add.ensures.paths c.if-not-branch.false ∙ ap (λ p. c.loop-i.self.paths ++ paths_of c.args.literals.now p (form c.index-ds-i.result)) inner in
    record {
      within = omega arith;
      apart = apart_on _ c.loop-i.self.table c.add.new.self.table (names_of c.args.literals.now (form c.index-ds-i.result)) _ _ c.args.self.now.table c.in_ok-add.field-0
          c.loop-i.invariant.apart names_at c.in_ok-add.ensures.apart c.if-not-branch.false table;
      names = joined_on c.loop-i.self.table c.add.new.self.table _ _ _ _ c.loop-i.invariant.names names_at table;
      paths = joined_on c.loop-i.self.paths c.add.new.self.paths _ _ _ _ c.loop-i.invariant.paths
          (ap (paths_in c.args.literals.now c.args.path.now c.loop-i.i) at ∙ ap (λ n. paths_of c.args.literals.now (c.args.path.now ++ step (are_dots (forms (map form (drop (c.loop-i.i + 1) c.args.ds.now)))) c.loop-i.i ∷ []) (form c.index-ds-i.result) ++ paths_in c.args.literals.now c.args.path.now n (forms (map form (drop (c.loop-i.i + 1) c.args.ds.now)))) (next_is c.loop-i.i)) paths;
    }

pub add-returns-else-contains-clause-apart : goal.add-returns-else-contains-clause-apart
add-returns-else-contains-clause-apart t c =
    let same = name_apart c.args.literals.now c.args.self.now.table c.args.d.now c.in-Sym.field-0 c.in-Sym.name c.as_bytes.result.now c.in-Sym.mark c.in-Sym.is c.as_bytes.ensures c.if-is_dots.ensures c.if-contains.ensures in
    subst (λ (e : Bool). IfOk c.add_name.result (λ b. b ≡ e)) (ap (λ x. not (has_marked c.args.self.now.table x c.in-Sym.mark)) c.as_bytes-in-Sym.ensures ∙ same) c.add_name.ensures.apart

pub add-returns-else-contains-clause-names : goal.add-returns-else-contains-clause-names
add-returns-else-contains-clause-names t c =
    let same = name_alone c.args.literals.now c.args.d.now c.in-Sym.field-0 c.in-Sym.name c.as_bytes.result.now c.in-Sym.mark c.in-Sym.is c.as_bytes.ensures c.if-is_dots.ensures c.if-contains.ensures in
    subst (λ (ns : List (List ℕ × ℕ)). IfOk c.add_name.result (λ b. IsTrue b → c.add_name.new.self.table ≡ c.args.self.now.table ++ ns)) (ap (λ x. (x, c.in-Sym.mark) ∷ []) c.as_bytes-in-Sym.ensures ∙ same) c.add_name.ensures.names

pub add-returns-else-contains-clause-paths : goal.add-returns-else-contains-clause-paths
add-returns-else-contains-clause-paths t c =
    let same = path_alone c.args.literals.now c.args.path.now c.args.d.now c.in-Sym.field-0 c.in-Sym.name c.as_bytes.result.now c.in-Sym.mark c.in-Sym.is c.as_bytes.ensures c.if-is_dots.ensures c.if-contains.ensures in
    subst (λ (ps : List Path). IfOk c.add_name.result (λ b. IsTrue b → c.add_name.new.self.paths ≡ c.args.self.now.paths ++ ps)) same c.add_name.ensures.paths

pub add-returns-in_default : goal.add-returns-in_default
add-returns-in_default t c =
    let table = c.args.self.now.table in
    let paths = c.args.self.now.paths in
    let same_table = append-nil table in
    let same_paths = append-nil paths in
    record {
      apart = neither (λ f. true ≡ are_apart table (names_of c.args.literals.now f)) (λ _ _. refl) (λ _ _ _. refl) (λ _ _. refl) c.args.d.now c.in_default.not-Sym c.in_default.not-List;
      names = λ _. neither (λ f. table ≡ table ++ names_of c.args.literals.now f) (λ _ _. sym same_table) (λ _ _ _. sym same_table) (λ _ _. sym same_table) c.args.d.now c.in_default.not-Sym c.in_default.not-List;
      paths = λ _. neither (λ f. paths ≡ paths ++ paths_of c.args.literals.now c.args.path.now f) (λ _ _. sym same_paths) (λ _ _ _. sym same_paths) (λ _ _. sym same_paths) c.args.d.now c.in_default.not-Sym c.in_default.not-List;
    }

-- A head that is read in clause order is the one whose clauses are added in front, from the last on.
use Rattle.std.proofs.Common.{◌≡◌, ℕ, Bool, true, false, codes, if◌then◌else◌, List, [], ◌++◌, Option, Some, None, refl, sym, ap, ◌∙◌, append_assoc}
use Rattle.std.proofs.lemmas.List.{append-nil}
use Rattle.std.specs.Option.{option_and_then}
use Rattle.scheme_data.specs.Data.{Plain, Number, Character, Truth, Unspecified, String, Symbol, Listed, Dotted, Vector, Plains, none, more}
use Rattle.resolver.specs.BuiltHeads.{ImportTree, ExportTree, HeadTree, symbol_of, says, main_name, import_items, export_items, first_main, with_main, with_imports, with_exports, with_clause, then_clause, bare, clauses}
use Rattle.resolver.specs.Forwards.{only_main, main_behind, imports_behind, exports_behind, parts_behind, clause_behind, clauses_behind}

-- a head and what the clauses behind it give, with these main functions of the two
abbrev joined_mains : HeadTree → HeadTree → Option (List ℕ) → Option (List ℕ) → Option HeadTree
joined_mains h k (Some f) (Some g) = None
joined_mains h k (Some f) None = Some (record { name = k.name; imports = h.imports ++ k.imports; exports = h.exports ++ k.exports; main = Some f })
joined_mains h k None m = Some (record { name = k.name; imports = h.imports ++ k.imports; exports = h.exports ++ k.exports; main = m })

abbrev joined : HeadTree → Option HeadTree → Option HeadTree
joined h None = None
joined h (Some k) = joined_mains h k h.main k.main

-- what is left to read goes on from any head of the same name as if it stood behind it
abbrev GoesOn : HeadTree → Option HeadTree → (HeadTree → Option HeadTree) → Type 0
GoesOn h o F = (i : HeadTree) → i.name ≡ h.name → joined i o ≡ F i

-- One clause --------------------------------------------------------------------------------

module _ (h k : HeadTree) (F : HeadTree → Option HeadTree) (next : GoesOn h (Some k) F) where
  no_main : (x : Option (List ℕ)) → None ≡ option_and_then F (only_main h x None)
  no_main (Some g) = refl
  no_main None = refl

  mains : (f : List ℕ) (x y : Option (List ℕ)) → h.main ≡ x → k.main ≡ y → joined h (first_main f k y) ≡ option_and_then F (only_main h x (Some f))
  mains f (Some g) (Some j) e i = refl
  mains f (Some g) None e i = ap (λ x. joined_mains h (record k { main = Some f }) x (Some f)) e
  mains f None (Some j) e i =
      let front : HeadTree = record h { main = Some f } in
      sym (sym (next front refl) ∙ ap (joined_mains front k (Some f)) i)
  mains f None None e i =
      let front : HeadTree = record h { main = Some f } in
      ap (λ x. joined_mains h (record k { main = Some f }) x (Some f)) e ∙ sym (sym (next front refl) ∙ ap (joined_mains front k (Some f)) i)

  main_step : (m : Option (List ℕ)) → joined h (with_main m k) ≡ option_and_then F (main_behind h m)
  main_step None = no_main h.main
  main_step (Some f) = mains f h.main k.main refl refl

  imports_step : (o : Option (List ImportTree)) → joined h (with_imports o k) ≡ option_and_then F (imports_behind h o)
  imports_step None = refl
  imports_step (Some is) =
      imports_same is h.main k.main ∙ next (record h { imports = h.imports ++ is }) refl
    where
      imports_same : (is : List ImportTree) (x y : Option (List ℕ)) → joined_mains h (record k { imports = is ++ k.imports }) x y ≡ joined_mains (record h { imports = h.imports ++ is }) k x y
      imports_same is (Some f) (Some g) = refl
      imports_same is (Some f) None =
          ap (λ is. Some (record { name = k.name; imports = is; exports = h.exports ++ k.exports; main = Some f })) (sym (append_assoc h.imports is k.imports))
      imports_same is None y =
          ap (λ is. Some (record { name = k.name; imports = is; exports = h.exports ++ k.exports; main = y })) (sym (append_assoc h.imports is k.imports))

  exports_step : (o : Option (List ExportTree)) → joined h (with_exports o k) ≡ option_and_then F (exports_behind h o)
  exports_step None = refl
  exports_step (Some es) =
      exports_same es h.main k.main ∙ next (record h { exports = h.exports ++ es }) refl
    where
      exports_same : (es : List ExportTree) (x y : Option (List ℕ)) → joined_mains h (record k { exports = es ++ k.exports }) x y ≡ joined_mains (record h { exports = h.exports ++ es }) k x y
      exports_same es (Some f) (Some g) = refl
      exports_same es (Some f) None =
          ap (λ es. Some (record { name = k.name; imports = h.imports ++ k.imports; exports = es; main = Some f })) (sym (append_assoc h.exports es k.exports))
      exports_same es None y =
          ap (λ es. Some (record { name = k.name; imports = h.imports ++ k.imports; exports = es; main = y })) (sym (append_assoc h.exports es k.exports))

  clause_step : (word : Option (List ℕ)) (ds : Plains) → joined h (with_clause word ds k) ≡ option_and_then F (parts_behind h word ds)
  clause_step word ds = go (says word (codes "main")) (says word (codes "import")) (says word (codes "export"))
    where
      go : (a b c : Bool)
          → joined h (if a then with_main (main_name ds) k else (if b then with_imports (import_items ds) k else (if c then with_exports (export_items ds) k else None)))
          ≡ option_and_then F (if a then main_behind h (main_name ds) else (if b then imports_behind h (import_items ds) else (if c then exports_behind h (export_items ds) else None)))
      go true b c = main_step (main_name ds)
      go false true c = imports_step (import_items ds)
      go false false true = exports_step (export_items ds)
      go false false false = refl

-- where the clauses behind it give nothing
none_step : (h : HeadTree) (F : HeadTree → Option HeadTree) (word : Option (List ℕ)) (ds : Plains) → GoesOn h None F
    → None ≡ option_and_then F (parts_behind h word ds)
none_step h F word ds next = go (says word (codes "main")) (says word (codes "import")) (says word (codes "export"))
  where
    main : (x m : Option (List ℕ)) → None ≡ option_and_then F (only_main h x m)
    main (Some g) m = refl
    main None None = refl
    main None (Some f) = next (record h { main = Some f }) refl

    imports : (o : Option (List ImportTree)) → None ≡ option_and_then F (imports_behind h o)
    imports None = refl
    imports (Some is) = next (record h { imports = h.imports ++ is }) refl

    exports : (o : Option (List ExportTree)) → None ≡ option_and_then F (exports_behind h o)
    exports None = refl
    exports (Some es) = next (record h { exports = h.exports ++ es }) refl

    go : (a b c : Bool)
        → None ≡ option_and_then F (if a then main_behind h (main_name ds) else (if b then imports_behind h (import_items ds) else (if c then exports_behind h (export_items ds) else None)))
    go true b c = main h.main (main_name ds)
    go false true c = imports (import_items ds)
    go false false true = exports (export_items ds)
    go false false false = refl

step : (h : HeadTree) (F : HeadTree → Option HeadTree) (d : Plain) (o : Option HeadTree) → GoesOn h o F
    → joined h (then_clause d o) ≡ option_and_then F (clause_behind h d)
step h F (Number n) o next = refl
step h F (Symbol name mark) o next = refl
step h F (Character b) o next = refl
step h F (Truth t) o next = refl
step h F Unspecified o next = refl
step h F (String text) o next = refl
step h F (Dotted es tail) o next = refl
step h F (Vector es) o next = refl
step h F (Listed none) o next = refl
step h F (Listed (more word ds)) None next = none_step h F (symbol_of word) ds next
step h F (Listed (more word ds)) (Some k) next = clause_step h k F next (symbol_of word) ds

-- Heads -------------------------------------------------------------------------------------

last_joined : (name : List ℕ) (h : HeadTree) → h.name ≡ name → joined h (Some (bare name)) ≡ Some h
last_joined name h e =
    go h.main ∙ ap (λ name. Some (record { name = name; imports = h.imports ++ []; exports = h.exports ++ []; main = h.main })) (sym e)
    ∙ ap (λ is. Some (record h { imports = is; exports = h.exports ++ [] })) (append-nil h.imports)
    ∙ ap (λ es. Some (record h { exports = es })) (append-nil h.exports)
  where
    go : (x : Option (List ℕ)) → joined_mains h (bare name) x None ≡ Some (record { name = name; imports = h.imports ++ []; exports = h.exports ++ []; main = x })
    go None = refl
    go (Some f) = refl

joined_behind : (name : List ℕ) (ds : Plains) (h : HeadTree) → h.name ≡ name → joined h (clauses name ds) ≡ clauses_behind ds h
joined_behind name none h e = last_joined name h e
joined_behind name (more d ds) h e = step h (clauses_behind ds) d (clauses name ds) (λ i s. joined_behind name ds i (s ∙ e))

bare_joined : (name : List ℕ) (o : Option HeadTree) → o ≡ joined (bare name) o
bare_joined name None = refl
bare_joined name (Some k) = refl

pub clauses_are : (name : List ℕ) (ds : Plains) → clauses name ds ≡ clauses_behind ds (bare name)
clauses_are name ds = bare_joined name (clauses name ds) ∙ joined_behind name ds (bare name) refl

-- The linked program is plain, and its names are right.
use Rattle.std.proofs.Common.{◌≡◌, List, [], ◌∷◌, ◌++◌, length, Bool, true, false, Some, refl, sym, ap, ◌∙◌, subst, inl, inr}
use Rattle.std.specs.Prelude.{codes, map, not, replicate, ◌&&◌, ◌||◌, if◌then◌else◌}
use Rattle.std.specs.List.{list_any, list_all}
use Rattle.std.proofs.lemmas.Bool.{and_from}
use Rattle.std.proofs.lemmas.List.{map-append}
use Rattle.std.proofs.lemmas.List.Folds.{list_any-append, list_all-append}
use Rattle.scheme_data.specs.Names.{are_distinct, is_same}
use Rattle.core_tree.specs.Tree.{ModuleTree, Callee}
use Rattle.core_tree.specs.WellFormed.{AreNames}
use Rattle.meaning.specs.Procedures.{Procedure, procedure_of}
use Rattle.meaning.specs.Program.{AreWellFormed, IsProgram}
use Rattle.c_tree.specs.declared.tree.CTy.TheVariants.{Obj}
use Rattle.c_tree.specs.Code.{Item, external, global, declared, defined}
use Rattle.c_tree.specs.Names.{maker_name, initializer_name, is_main}
use Rattle.c_tree.specs.Spelling.{NamedItems}
use Rattle.c_meaning.specs.Plain.{Signature, signature_of, same_signature, signature_named, Main, role_of, may_call, callable, item_fits, agrees, items_fit, defined_names, item_names, is_called_once, once_in, once_in_main, all_called, calls_each_once, is_sound, is_plain}
use Rattle.plan_rules.specs.Joined.{Part, main_function, joined}
use Rattle.plan_rules.specs.Translation.{Name, c_name_of}
use Rattle.simulation.specs.Law.{AreTranslated}
use Rattle.plan_rules.proofs.NameKinds.{function_not_once, never_once, maker_is_once, initializer_is_once}
use Rattle.c_tree.proofs.CNames.{named_function}
use Rattle.simulation.proofs.Members.{Has}
use Rattle.simulation.proofs.Signatures.{or_later, after, defined_signed, fit_both, defined_both}
use Rattle.simulation.proofs.Extended.{may_name, callable_found}
use Rattle.simulation.proofs.Rights.{callee_named, same_procedure, Right, AllRight, ItemsRight, after_right, found_right, right_not_main, right_may_call}
use Rattle.simulation.proofs.Distinct.{items_of, distinct_both, distinct_definitions}
use Rattle.simulation.proofs.Units.{is_defined, defined_first, makers_defined, initializers_defined, callee_defined, units_right, units_fit}
use Rattle.simulation.proofs.MainItem.{main_named, call_is, word_function, alone_is, lone_function, main_fits, called_in_main, main_once, once_distinct, name_of, is_met, units_met}

abbrev main_name : Name
main_name = codes "main"

-- Modules and their names -------------------------------------------------------------------

abbrev module_names : List ModuleTree → List Name
module_names ms = map (λ m. m.name) ms

part_names : (ms : List ModuleTree) (parts : List Part) → AreTranslated ms parts → map (λ p. p.module_name) parts ≡ module_names ms
part_names [] [] tr = refl
part_names [] (p ∷ ps) tr = absurd tr
part_names (m ∷ ms) [] tr = absurd tr
part_names (m ∷ ms) (p ∷ ps) tr = ap (λ n. n ∷ map (λ q. q.module_name) ps) tr.0.named ∙ ap (λ ns. m.name ∷ ns) (part_names ms ps tr.1)

are_names : (ms : List ModuleTree) → AreWellFormed ms → AreNames (module_names ms)
are_names [] formed = tt
are_names (m ∷ ms) formed = (formed.0.name, are_names ms formed.1)

has_name : (ms : List ModuleTree) (m : ModuleTree) → Has ms m → Has (module_names ms) m.name
has_name [] m h = absurd h
has_name (k ∷ ms) m (inl e) = inl (ap (λ x. x.name) e)
has_name (k ∷ ms) m (inr h) = inr (has_name ms m h)

-- a module of each of the names
each_name : (P : Name → Type 0) (ms : List ModuleTree) → ((m : ModuleTree) → Has ms m → P m.name) → (n : Name) → Has (module_names ms) n → P n
each_name P [] each n h = absurd h
each_name P (k ∷ ms) each n (inl e) = subst P e (each k (inl refl))
each_name P (k ∷ ms) each n (inr h) = each_name P ms (λ m i. each m (inr i)) n h

-- the items of the linked program
abbrev linked : List ModuleTree → List Part → Callee → List Item
linked program parts main = items_of parts ++ main_function (module_names program) (c_name_of main) ∷ []

joined_is : (program : List ModuleTree) (parts : List Part) (main : Callee) → AreTranslated program parts → joined parts main ≡ linked program parts main
unfolding joined
joined_is program parts main tr = ap (λ ns. items_of parts ++ main_function ns (c_name_of main) ∷ []) (part_names program parts tr)

-- Names -------------------------------------------------------------------------------------

named_both : (xs ys : List Item) → NamedItems xs → NamedItems ys → NamedItems (xs ++ ys)
named_both [] ys named others = others
named_both (x ∷ xs) ys named others = (named.0, named_both xs ys named.1 others)

units_named : (ms : List ModuleTree) (parts : List Part) → AreTranslated ms parts → NamedItems (items_of parts)
units_named [] [] tr = tt
units_named [] (p ∷ ps) tr = absurd tr
units_named (m ∷ ms) [] tr = absurd tr
units_named (m ∷ ms) (p ∷ ps) tr = named_both p.items (items_of ps) tr.0.translated.named (units_named ms ps tr.1)

pub joined_named : (program : List ModuleTree) (parts : List Part) (is : IsProgram program) → AreTranslated program parts → NamedItems (joined parts is.main)
joined_named program parts is tr =
    let names = callee_named program is.formed is.main is.function is.is in
    let main = main_named (module_names program) (c_name_of is.main) (are_names program is.formed) (named_function is.main.module_name is.main.name names.0 names.1) in
    subst NamedItems (sym (joined_is program parts is.main tr)) (named_both (items_of parts) (main_function (module_names program) (c_name_of is.main) ∷ []) (units_named program parts tr) (main, tt))

-- No other `main` ---------------------------------------------------------------------------

none_is_main : (program : List ModuleTree) (items : List Item) → ItemsRight program items → list_any is_main (defined_names items) ≡ false
none_is_main program [] right = refl
none_is_main program (external v ∷ is) right = none_is_main program is right.1
none_is_main program (global v ∷ is) right = ap (λ b. b || list_any is_main (defined_names is)) (right_not_main program (signature_of (global v)) right.0) ∙ none_is_main program is right.1
none_is_main program (declared t n ps ∷ is) right = none_is_main program is right.1
none_is_main program (defined g ∷ is) right = ap (λ b. b || list_any is_main (defined_names is)) (right_not_main program (signature_of (defined g)) right.0) ∙ none_is_main program is right.1

-- the name `main` at the end is no other's
apart_from_main : (xs : List Name) → list_any is_main xs ≡ false → list_all (λ x. not (list_any (is_same x) (main_name ∷ []))) xs ≡ true
apart_from_main [] e = refl
apart_from_main (x ∷ xs) e = go (is_main x) (list_any is_main xs) refl e (λ q. apart_from_main xs q)
  where
    go : (a b : Bool) → is_main x ≡ a → (a || b) ≡ false → (b ≡ false → list_all (λ y. not (list_any (is_same y) (main_name ∷ []))) xs ≡ true) → list_all (λ y. not (list_any (is_same y) (main_name ∷ []))) (x ∷ xs) ≡ true
    go true b ea q later = absurd (cc)
    go false b ea q later = and_from (not (is_main x || false)) (list_all (λ y. not (list_any (is_same y) (main_name ∷ []))) xs) (ap (λ z. not (z || false)) ea) (later q)

none_once : (program : List ModuleTree) (items : List Item) (d : Item) → ItemsRight program items → once_in_main (items ++ d ∷ []) ≡ once_in_main (d ∷ [])
none_once program [] d right = refl
none_once program (external v ∷ is) d right = none_once program is d right.1
none_once program (global v ∷ is) d right = none_once program is d right.1
none_once program (declared t n ps ∷ is) d right = none_once program is d right.1
none_once program (defined g ∷ is) d right = ap (λ b. if b then once_in g.code else once_in_main (is ++ d ∷ [])) (right_not_main program (signature_of (defined g)) right.0) ∙ none_once program is d right.1

main_agrees : (program : List ModuleTree) (sigs : List Signature) (s : Signature) → AllRight program sigs → s.name ≡ main_name → agrees sigs s ≡ true
main_agrees program [] s right e = refl
main_agrees program (t ∷ sigs) s right e =
    let other : is_same t.name s.name ≡ false = ap (is_same t.name) e ∙ right_not_main program t right.0 in
    and_from (not (is_same t.name s.name) || same_signature t s) (agrees sigs s) (ap (λ b. not b || same_signature t s) other) (main_agrees program sigs s right.1 e)

-- Calls in `main` ---------------------------------------------------------------------------

-- The program, its units, and the names that are defined in its text.
module _ (program : List ModuleTree) (items : List Item) (right : ItemsRight program items) (names : List Name) (among : (n : Name) → is_defined items n ≡ true → list_any (is_same n) names ≡ true) where
  abbrev sigs : List Signature
  sigs = after items []

  -- the signature by which `main` calls a function of a unit
  record Called (n : Name) : Type 0 where
    s : Signature
    at : signature_named (callable Main names sigs) n ≡ Some s
    named : s.name ≡ n
    right_one : Right program s

  called : (n : Name) → is_defined items n ≡ true → Called n
  called n here =
      let h = defined_signed items n here in
      let k = found_right program sigs n h.s (after_right program items [] right tt) h.at in
      let may_be : may_call Main (role_of n) ≡ true = ap (λ x. may_call Main (role_of x)) (sym k.named) ∙ right_may_call program h.s k.right in
      let may : may_name Main names n ≡ true = and_from (may_call Main (role_of n)) (list_any (is_same n) names) may_be (among n here) in
      record { s = h.s; at = callable_found Main names sigs n may ∙ h.at; named = k.named; right_one = k.right }

  once_called : (n : Name) → is_defined items n ≡ true → is_called_once n ≡ true → alone_is (signature_named (callable Main names sigs) n) ≡ true
  once_called n here once = let h = called n here in ap alone_is h.at ∙ go h.s h.named h.right_one
    where
      go : (s : Signature) → s.name ≡ n → Right program s → alone_is (Some s) ≡ true
      go s e (inl k) = absurd (never_once s.name k.callee.module_name k.callee.name k.named (ap is_called_once e ∙ once))
      go s e (inr k) = lone_function s k.takes

  main_called : (is : IsProgram program) → is_defined items (c_name_of is.main) ≡ true → call_is (signature_named (callable Main names sigs) (c_name_of is.main)) ≡ true
  main_called is here = let h = called (c_name_of is.main) here in ap call_is h.at ∙ go h.s h.named h.right_one
    where
      go : (s : Signature) → s.name ≡ c_name_of is.main → Right program s → call_is (Some s) ≡ true
      go s e (inr k) = absurd (never_once s.name is.main.module_name is.main.name e k.once)
      go s e (inl k) =
          let same = same_procedure program is.formed k.callee is.main k.procedure is.function k.at is.is (sym k.named ∙ e) in
          word_function s k.gives (k.takes ∙ ap (λ q. replicate (length q.function.params) Obj) same ∙ ap (λ xs. replicate (length xs) Obj) is.one.1)

-- The linked program ------------------------------------------------------------------------

module _ (program : List ModuleTree) (parts : List Part) (is_program : IsProgram program) (units : AreTranslated program parts) where
  abbrev ms : List Name
  ms = module_names program

  abbrev items : List Item
  items = items_of parts

  abbrev main_item : Item
  main_item = main_function ms (c_name_of is_program.main)

  abbrev all : List Item
  all = linked program parts is_program.main

  abbrev names : List Name
  names = defined_names items ++ main_name ∷ []

  are : defined_names all ≡ names
  are = defined_both items (main_item ∷ [])

  among : (n : Name) → is_defined items n ≡ true → list_any (is_same n) names ≡ true
  among n e = ap (list_any (is_same n)) (sym are) ∙ defined_first items (main_item ∷ []) n e

  defines : (c : Callee) (q : Procedure) → procedure_of program (Some c) ≡ Some q → list_any (is_same (c_name_of c)) names ≡ true
  defines c q at = among (c_name_of c) (callee_defined program parts units c q at)

  right : ItemsRight program items
  right = units_right program is_program names defines program parts (λ m h. h) units

  makes : (n : Name) → Has ms n → alone_is (signature_named (callable Main names (after items [])) (maker_name n)) ≡ true
  makes =
      each_name (λ n. alone_is (signature_named (callable Main names (after items [])) (maker_name n)) ≡ true) program
      (λ m h. once_called program items right names among (maker_name m.name) (makers_defined program parts units m h) (maker_is_once m.name))

  initializes : (n : Name) → Has ms n → alone_is (signature_named (callable Main names (after items [])) (initializer_name n)) ≡ true
  initializes =
      each_name (λ n. alone_is (signature_named (callable Main names (after items [])) (initializer_name n)) ≡ true) program
      (λ m h. once_called program items right names among (initializer_name m.name) (initializers_defined program parts units m h) (initializer_is_once m.name))

  fit : items_fit names [] all ≡ true
  fit =
      let sigs = after items [] in
      let new = signature_of main_item in
      let calls = main_called program items right names among is_program (callee_defined program parts units is_program.main is_program.function is_program.is) in
      let here : (agrees sigs new && item_fits names (new ∷ sigs) main_item) ≡ true =
      and_from (agrees sigs new) (item_fits names (new ∷ sigs) main_item) (main_agrees program sigs new (after_right program items [] right tt) refl) (main_fits names sigs ms (c_name_of is_program.main) makes initializes calls) in
      fit_both names items (main_item ∷ []) [] (units_fit program is_program names defines program parts [] (λ m h. h) units tt among)
      (and_from (agrees sigs new && item_fits names (new ∷ sigs) main_item) true here refl)

  sound : is_sound all ≡ true
  unfolding is_sound
  sound =
      let distinct : are_distinct names ≡ true = distinct_both (defined_names items) (main_name ∷ []) (distinct_definitions program parts is_program units) refl (apart_from_main (defined_names items) (none_is_main program items right)) in
      and_from (are_distinct (defined_names all)) (items_fit (defined_names all) [] all) (ap are_distinct are ∙ distinct) (ap (λ ns. items_fit ns [] all) are ∙ fit)

  main_there : list_any is_main (defined_names all) ≡ true
  main_there = ap (list_any is_main) are ∙ list_any-append is_main (defined_names items) (main_name ∷ []) ∙ or_later (list_any is_main (defined_names items)) true refl

  each_once : calls_each_once all ≡ true
  each_once =
      let once : once_in_main all ≡ called_in_main ms = none_once program items main_item right ∙ main_once ms (c_name_of is_program.main) (function_not_once is_program.main.module_name is_program.main.name) in
      let met : all_called (called_in_main ms) (item_names all) ≡ true =
      ap (all_called (called_in_main ms)) (map-append name_of items (main_item ∷ []))
      ∙ list_all-append (is_met (called_in_main ms)) (item_names items) (main_name ∷ [])
      ∙ and_from (all_called (called_in_main ms) (item_names items)) true (units_met ms program parts (has_name program) units) refl in
      and_from (are_distinct (once_in_main all)) (all_called (once_in_main all) (item_names all)) (ap are_distinct once ∙ once_distinct ms is_program.distinct) (ap (λ c. all_called c (item_names all)) once ∙ met)

pub joined_plain : (program : List ModuleTree) (parts : List Part) (is : IsProgram program) → AreTranslated program parts → is_plain (joined parts is.main) ≡ true
unfolding is_plain
joined_plain program parts is units =
    let all = linked program parts is.main in
    ap is_plain (joined_is program parts is.main units)
    ∙ and_from (is_sound all) (list_any is_main (defined_names all) && calls_each_once all) (sound program parts is units)
    (and_from (list_any is_main (defined_names all)) (calls_each_once all) (main_there program parts is units) (each_once program parts is units))

-- The units of a program, one after the other, fit: each with the names of all, behind the signatures of those before.
use Rattle.std.proofs.Common.{◌≡◌, List, [], ◌∷◌, ◌++◌, Bool, true, false, refl, sym, ap, ◌∙◌, inl, inr}
use Rattle.std.specs.Prelude.{map, ◌&&◌, ◌||◌, Some}
use Rattle.std.specs.List.{list_any, list_all}
use Rattle.std.proofs.lemmas.Bool.{and_from, and_parts}
use Rattle.std.proofs.lemmas.List.Folds.{list_any-append}
use Rattle.std.specs.Cmp.Lexicographic.{bytes_decides}
use Rattle.scheme_data.specs.Names.{are_distinct, is_same}
use Rattle.core_tree.specs.Tree.{ModuleTree, Callee, used_callees}
use Rattle.meaning.specs.Procedures.{Procedure, procedure_of, is_there}
use Rattle.meaning.specs.Program.{IsProgram}
use Rattle.c_tree.specs.Code.{Fun, Item, external, global, declared, defined}
use Rattle.c_tree.specs.Names.{function_name, maker_name, initializer_name}
use Rattle.c_meaning.specs.Plain.{Signature, signature_of, agrees, item_fits, items_fit, defined_names}
use Rattle.c_meaning.specs.Program.{functions_of}
use Rattle.plan_rules.specs.Joined.{Part}
use Rattle.plan_rules.specs.Translation.{Name, TrFunction, IsEmpty, TrForms, c_name_of, outside_of, is_sound_with, Translated}
use Rattle.simulation.specs.Law.{AreTranslated}
use Rattle.simulation.proofs.Members.{Has, all_have}
use Rattle.simulation.proofs.Links.{placed}
use Rattle.simulation.proofs.Found.{Defined, function_defined, maker_defined, initializer_defined, Unit_of, unit_of}
use Rattle.simulation.proofs.Signatures.{or_later, after, fit_both, defined_both}
use Rattle.simulation.proofs.Extended.{AreAmong, item_kept}
use Rattle.simulation.proofs.Rights.{there, AllRight, ItemsRight, after_right, both_right, right_agrees, unit_right}
use Rattle.simulation.proofs.Distinct.{items_of}

abbrev pub is_defined : List Item → Name → Bool
is_defined items n = list_any (is_same n) (defined_names items)

-- What the units of a program define --------------------------------------------------------

pub defined_first : (xs ys : List Item) (n : Name) → is_defined xs n ≡ true → is_defined (xs ++ ys) n ≡ true
defined_first xs ys n e =
    ap (list_any (is_same n)) (defined_both xs ys) ∙ list_any-append (is_same n) (defined_names xs) (defined_names ys) ∙ ap (λ b. b || is_defined ys n) e

defined_later : (xs ys : List Item) (n : Name) → is_defined ys n ≡ true → is_defined (xs ++ ys) n ≡ true
defined_later xs ys n e =
    ap (list_any (is_same n)) (defined_both xs ys) ∙ list_any-append (is_same n) (defined_names xs) (defined_names ys) ∙ or_later (is_defined xs n) (is_defined ys n) e

member_defined : (items : List Item) (g : Fun) → Has (functions_of items) g → is_defined items g.name ≡ true
member_defined [] g h = absurd h
member_defined (external v ∷ is) g h = member_defined is g h
member_defined (global v ∷ is) g h = or_later (is_same g.name v.name) (is_defined is g.name) (member_defined is g h)
member_defined (declared t n ps ∷ is) g h = member_defined is g h
member_defined (defined f ∷ is) g (inl e) = ap (λ b. b || is_defined is g.name) ((bytes_decides g.name f.name).1 (ap (λ x. x.name) (sym e)))
member_defined (defined f ∷ is) g (inr h) = or_later (is_same g.name f.name) (is_defined is g.name) (member_defined is g h)

module _ (program : List ModuleTree) (parts : List Part) (units : AreTranslated program parts) where
  -- what the unit of a module defines
  unit_defines : {m : ModuleTree} (u : Unit_of parts m) (n : Name) (P : Fun → Type 0) → ((g : Fun) → P g → g.name ≡ n) → Defined (functions_of u.items) P → is_defined (items_of parts) n ≡ true
  unit_defines u n P named d = ap (is_defined (items_of parts)) (sym (named d.g d.is)) ∙ member_defined (items_of parts) d.g (u.within d.g d.member)

  pub makers_defined : (m : ModuleTree) → Has program m → is_defined (items_of parts) (maker_name m.name) ≡ true
  makers_defined m h =
      let u = unit_of program parts m units h in
      unit_defines u (maker_name m.name) (IsEmpty (maker_name m.name)) (λ g empty. empty.named) (maker_defined m m.functions u.items u.translated.functions)

  pub initializers_defined : (m : ModuleTree) → Has program m → is_defined (items_of parts) (initializer_name m.name) ≡ true
  initializers_defined m h =
      let u = unit_of program parts m units h in
      unit_defines u (initializer_name m.name) (TrForms m) (λ g forms. forms.named) (initializer_defined m m.functions u.items u.translated.functions)

  -- a function that is called
  pub callee_defined : (c : Callee) (q : Procedure) → procedure_of program (Some c) ≡ Some q → is_defined (items_of parts) (c_name_of c) ≡ true
  callee_defined c q at =
      let h = placed program c q at in
      let u = unit_of program parts q.home units h.home in
      unit_defines u (c_name_of c) (TrFunction q.home q.function)
      (λ g tr. tr.name ∙ ap (λ m. function_name m q.function.name) h.home_named ∙ ap (function_name c.module_name) h.function_named)
      (function_defined q.home q.home.functions u.items q.function u.translated.functions h.function)

-- Fit ---------------------------------------------------------------------------------------

-- items that fit alone fit with more names, behind older signatures
fit_behind : (program : List ModuleTree) → IsProgram program → (names more : List Name) → AreAmong names more → (items : List Item) (sigs before : List Signature) → ItemsRight program items → AllRight program (sigs ++ before) → items_fit names sigs items ≡ true → items_fit more (sigs ++ before) items ≡ true
fit_behind program is names more among [] sigs before right all e = refl
fit_behind program is names more among (i ∷ items) sigs before right all e =
    let new = signature_of i ∷ sigs in
    let parts = and_parts (agrees sigs (signature_of i) && item_fits names new i) (items_fit names new items) e in
    let here = and_parts (agrees sigs (signature_of i)) (item_fits names new i) parts.0 in
    and_from (agrees (sigs ++ before) (signature_of i) && item_fits more (new ++ before) i) (items_fit more (new ++ before) items)
    (and_from (agrees (sigs ++ before) (signature_of i)) (item_fits more (new ++ before) i)
    (right_agrees program is.formed (sigs ++ before) (signature_of i) all right.0)
    (item_kept names more new before among i here.1))
    (fit_behind program is names more among items new before right.1 (right.0, all) parts.1)

-- the functions of other modules that a unit calls are defined
outside_among : (program : List ModuleTree) (more : List Name) → ((c : Callee) (q : Procedure) → procedure_of program (Some c) ≡ Some q → list_any (is_same (c_name_of c)) more ≡ true) → (cs : List Callee) → list_all (is_there program) cs ≡ true → AreAmong (map c_name_of cs) more
outside_among program more defines [] all n e = absurd (cc)
outside_among program more defines (c ∷ cs) all n e = go (is_same n (c_name_of c)) refl e (λ q. outside_among program more defines cs parts.1 n q)
  where
    parts : (is_there program c ≡ true) × (list_all (is_there program) cs ≡ true)
    parts = and_parts (is_there program c) (list_all (is_there program) cs) all

    go : (b : Bool) → is_same n (c_name_of c) ≡ b → (b || list_any (is_same n) (map c_name_of cs)) ≡ true → (list_any (is_same n) (map c_name_of cs) ≡ true → list_any (is_same n) more ≡ true) → list_any (is_same n) more ≡ true
    go true eb q later = let h = there program c parts.0 in ap (λ y. list_any (is_same y) more) ((bytes_decides n (c_name_of c)).0 eb) ∙ defines c h.procedure h.at
    go false eb q later = later q

either_among : (xs ys more : List Name) → AreAmong xs more → AreAmong ys more → AreAmong (xs ++ ys) more
either_among xs ys more first second n e = go (list_any (is_same n) xs) refl (sym (list_any-append (is_same n) xs ys) ∙ e)
  where
    go : (b : Bool) → list_any (is_same n) xs ≡ b → (b || list_any (is_same n) ys) ≡ true → list_any (is_same n) more ≡ true
    go true eb q = first n eb
    go false eb q = second n q

-- The program, and the names that are defined in its text, among which are all functions that are called.
module _ (program : List ModuleTree) (is_program : IsProgram program) (more : List Name) (defines : (c : Callee) (q : Procedure) → procedure_of program (Some c) ≡ Some q → list_any (is_same (c_name_of c)) more ≡ true) where
  unit_fits : (m : ModuleTree) (items : List Item) (before : List Signature) → Has program m → Translated m items → AllRight program before → AreAmong (defined_names items) more → items_fit more before items ≡ true
  unfolding is_sound_with
  unit_fits m items before h tr all own =
      let names = outside_of m ++ defined_names items in
      let sound = and_parts (are_distinct (defined_names items)) (items_fit names [] items) tr.sound in
      let linked = all_have (λ x. list_all (is_there program) (used_callees x.uses)) program m h is_program.linked in
      let among : AreAmong names more = either_among (outside_of m) (defined_names items) more (outside_among program more defines (used_callees m.uses) linked) own in
      fit_behind program is_program names more among items [] before (unit_right program is_program m h items tr) all sound.1

  pub units_right : (ms : List ModuleTree) (parts : List Part) → ((m : ModuleTree) → Has ms m → Has program m) → AreTranslated ms parts → ItemsRight program (items_of parts)
  units_right [] [] within tr = tt
  units_right [] (p ∷ ps) within tr = absurd tr
  units_right (m ∷ ms) [] within tr = absurd tr
  units_right (m ∷ ms) (p ∷ ps) within tr =
      both_right program p.items (items_of ps) (unit_right program is_program m (within m (inl refl)) p.items tr.0.translated) (units_right ms ps (λ x h. within x (inr h)) tr.1)

  pub units_fit : (ms : List ModuleTree) (parts : List Part) (before : List Signature) → ((m : ModuleTree) → Has ms m → Has program m) → AreTranslated ms parts → AllRight program before → AreAmong (defined_names (items_of parts)) more → items_fit more before (items_of parts) ≡ true
  units_fit [] [] before within tr all own = refl
  units_fit [] (p ∷ ps) before within tr all own = absurd tr
  units_fit (m ∷ ms) [] before within tr all own = absurd tr
  units_fit (m ∷ ms) (p ∷ ps) before within tr all own =
      let here = within m (inl refl) in
      fit_both more p.items (items_of ps) before
      (unit_fits m p.items before here tr.0.translated all (λ n e. own n (defined_first p.items (items_of ps) n e)))
      (units_fit ms ps (after p.items before) (λ x h. within x (inr h)) tr.1 (after_right program p.items before (unit_right program is_program m here p.items tr.0.translated) all) (λ n e. own n (defined_later p.items (items_of ps) n e)))

-- The program of the objects that are accepted.
use Rattle.std.proofs.Common.{◌≡◌, ℕ, ◌<◌, List, length, map, nat_lt, true, None, Result, Err, Ok, sym, ap, ap₂, subst, ◌∙◌, arith}
use Rattle.std.proofs.lemmas.Bool.Decides.{nat_tests}
use Rattle.std.proofs.lemmas.List.{length-map}
use Rattle.std.proofs.lemmas.Option.{slice_get_within}
use Rattle.std.specs.List.{list_all}
use Rattle.std.specs.Result.{IfOk}
use Rattle.scheme_data.specs.declared.text.OutOfMemory.{OutOfMemory}
use Rattle.c_tree.specs.Code.{Item}
use Rattle.c_tree.specs.Spelling.{CText}
use Rattle.meaning.specs.Order.{Imports, IsOrder, chosen}
use Rattle.object_text.specs.Format.{ObjectTree, CanBeWritten}
use Rattle.object_text.specs.Parts.{AllAre}
use Rattle.plan_rules.specs.Joined.{Part, joined, joined_with}
use Rattle.linker.specs.declared.indexed.Indexed.{Indexed}
use Rattle.linker.specs.declared.joining.NamedUnit.{NamedUnit}
use Rattle.linker.specs.Links.{link_refusal, imports_in, part_of}
use Rattle.linker.specs.Modules.{tree_of, trees, unit_part, AreApart, IsMain, IsProgram, NamedPart}
use Rattle.linker.proofs.Visited.{are_below, order_apart, order_below, root_among}
use Rattle.linker.proofs.Places.{length_imports, imports_within}
use Rattle.linker.proofs.Chosen.{main_chosen}
use Rattle.linker.proofs.Programs.{parts_named}
use Rattle.linker.proofs.Refused.{one_main}

pub imports_fit : (os : List ObjectTree) (g : Imports) → g ≡ imports_in os → list_all (are_below (length g)) g ≡ true
imports_fit os g e = rw (e, length_imports os) (imports_within os)

pub order_fits : (objects first later : List Indexed) (g : Imports) (place : ℕ) (function : List ℕ) (order slice : List ℕ) → first ≡ objects → later ≡ objects → slice ≡ order → g ≡ imports_in (trees objects) → IsMain (trees first) place function → IsOrder g place order → are_below (length later) slice ≡ true
order_fits objects first later g place function order slice a b s e m o =
    let os : List ObjectTree = trees objects in
    let main : IsMain os place function = subst (λ (xs : List Indexed). IsMain (trees xs) place function) a m in
    let size : length os ≡ length later = length-map objects tree_of ∙ ap length (sym b) in
    let low : place < length os = slice_get_within os place main.object main.at in
    let below : nat_lt place (length os) ≡ true = grind (arith, nat_tests) in
    subst (λ (n : ℕ). are_below n slice ≡ true) size
    (subst (λ (ns : List ℕ). are_below (length os) ns ≡ true) (sym s) (order_below (imports_in os) (length os) place order (imports_within os) below (subst (λ (h : Imports). IsOrder h place order) e o)))

pub order_stands_once : (g : Imports) (place : ℕ) (order slice : List ℕ) → slice ≡ order → IsOrder g place order → AreApart slice
order_stands_once g place order slice s o = subst AreApart (sym s) (order_apart g place order o)

pub units_named : (objects later : List Indexed) (slice : List ℕ) (units : List NamedUnit) → later ≡ objects → map unit_part units ≡ map part_of (chosen (trees later) slice) → AllAre CanBeWritten (trees objects) → AllAre NamedPart (map unit_part units)
units_named objects later slice units b e w = rw (e, b) (parts_named (trees objects) slice w)

program_of : (os : List ObjectTree) (g : Imports) (place : ℕ) (function : List ℕ) (order : List ℕ) (units : List NamedUnit) (items : List Item) (text : List ℕ) → link_refusal os ≡ None → IsMain os place function → g ≡ imports_in os → IsOrder g place order
    → map unit_part units ≡ map part_of (chosen os order) → items ≡ joined_with (map unit_part units) function → CText text items → IsProgram os text
unfolding joined
program_of os g place function order units items text accepted m e o parts is t =
    let of_these : IsOrder (imports_in os) place order = subst (λ (h : Imports). IsOrder h place order) e o in
    record {
      root = place;
      is_root = m.is_root;
      order = order;
      is_order = of_these;
      main = record { module_name = m.object.module_name; name = m.name; params = 1 };
      is_main = main_chosen os place order m.object m.name (one_main os accepted) m.at m.main (root_among (imports_in os) place order of_these);
      is_text = subst (λ (is : List Item). CText text is) (is ∙ ap₂ (λ (ps : List Part) (f : List ℕ). joined_with ps f) parts m.is_function) t;
    }

pub text_is : (objects first later : List Indexed) (g : Imports) (place : ℕ) (function : List ℕ) (order slice : List ℕ) (units : List NamedUnit) (items : List Item) (result : Result (List ℕ) OutOfMemory) → first ≡ objects → later ≡ objects → slice ≡ order → link_refusal (trees objects) ≡ None
    → IsMain (trees first) place function → g ≡ imports_in (trees objects) → IsOrder g place order → map unit_part units ≡ map part_of (chosen (trees later) slice) → items ≡ joined_with (map unit_part units) function
    → IfOk result (λ text. CText text items) → IfOk result (λ text. IsProgram (trees objects) text)
text_is objects first later g place function order slice units items (Err e) a b s accepted m are o parts is t = tt
text_is objects first later g place function order slice units items (Ok text) a b s accepted m e o parts is t =
    program_of (trees objects) g place function order units items text accepted (subst (λ (xs : List Indexed). IsMain (trees xs) place function) a m) e o
    (parts ∙ ap₂ (λ (xs : List Indexed) (ns : List ℕ). map part_of (chosen (trees xs) ns)) b s) is t

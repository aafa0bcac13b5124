-- A text of items is read as those items, and any other is refused.
use Rattle.std.proofs.Common.{◌≡◌, ℕ, List, [], Option, Some, None, sym, ap, ◌∙◌}
use Rattle.std.specs.Prelude.{Result, Ok, Err, IfOk}
use Rattle.c_tree.specs.declared.function.CItem.{CItem}
use Rattle.c_tree.specs.declared.function.CProgram.{CProgram}
use Rattle.c_tree.specs.declared.function.CUnit.{CUnit}
use Rattle.c_tree.specs.Lexical.{Token}
use Rattle.c_tree.specs.Code.{Item}
use Rattle.c_tree.specs.Functions.{items_of}
use Rattle.c_tree.specs.Spelling.{CText}
use Rattle.c_tree.specs.Lexical.{tokens}
use Rattle.c_read.specs.declared.read.CReadErr.{CReadErr}
use Rattle.c_read.specs.declared.read.CReadErr.TheVariants.{NotC, Memory}
use Rattle.c_read.specs.declared.stop.Stop.{Stop}
use Rattle.c_read.specs.declared.stop.Stop.TheVariants as stop
use Rattle.c_read.specs.Answers.{ReadsProgram, ReadsUnit, GivesProgram, GivesUnit}
use Rattle.c_read.specs.Reading.{ReadsTree}
use Rattle.c_read.specs.Sequences.{TookAs}
use Rattle.c_read.specs.Productions.{parsed}
use Rattle.c_read.specs.Yields.{YieldsItems}
use Rattle.c_read.proofs.Forward.{parsed_read}

parsed_text : (bytes : List ℕ) (is : List Item) → CText bytes is → parsed (tokens bytes) ≡ Some (is, [])
parsed_text bytes is h = ap parsed h.spelled ∙ parsed_read is h.named

items_in : Option (List Item × List Token) → List Item
items_in None = []
items_in (Some r) = r.0

unique : (bytes : List ℕ) (is js : List Item) → CText bytes is → CText bytes js → is ≡ js
unfolding items_in
unique bytes is js h k = ap items_in (sym (parsed_text bytes is h) ∙ parsed_text bytes js k)

pub read_answer : (bytes : List ℕ) (ts left : List Token) (r : Result (List CItem) Stop)
    → tokens bytes ≡ ts → TookAs items_of (parsed ts) r left → IfOk r (λ is. YieldsItems ts is []) → ReadsTree bytes r
read_answer bytes ts left (Ok is) e t y = record { spelled = e ∙ y.0; named = y.1 }
read_answer bytes ts left (Err stop.Wrong) e t y = λ is h.
    let n : parsed (tokens bytes) ≡ None = ap parsed e ∙ t in
    let s : parsed (tokens bytes) ≡ Some (is, []) = parsed_text bytes is h in
    absurd (cc)
read_answer bytes ts left (Err stop.Memory) e t y = tt

pub program_given : (bytes : List ℕ) (r : Result CProgram CReadErr) → ReadsProgram bytes r → (is : List Item) → CText bytes is → GivesProgram is r
program_given bytes (Ok p) a is h = unique bytes (items_of p.items) is a h
program_given bytes (Err (NotC at)) a is h = a.no_tree is h
program_given bytes (Err Memory) a is h = tt

pub unit_given : (bytes : List ℕ) (r : Result CUnit CReadErr) → ReadsUnit bytes r → (is : List Item) → CText bytes is → GivesUnit is r
unit_given bytes (Ok u) a is h = unique bytes (items_of u.items) is a h
unit_given bytes (Err (NotC at)) a is h = a.no_tree is h
unit_given bytes (Err Memory) a is h = tt

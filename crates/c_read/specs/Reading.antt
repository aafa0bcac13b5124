-- What reading the items of a text answers.
use Rattle.std.specs.Prelude.{ℕ, List, Result, Ok, Err}
use Rattle.c_tree.specs.Code.{Item}
use Rattle.c_tree.specs.Functions.{items_of}
use Rattle.c_tree.specs.Spelling.{CText}
use Rattle.c_tree.specs.declared.function.CItem.{CItem}
use Rattle.c_read.specs.declared.read.CReadErr.{CReadErr}
use Rattle.c_read.specs.declared.read.CReadErr.TheVariants.{NotC, Memory}
use Rattle.c_read.specs.declared.stop.Stop.{Stop}
use Rattle.c_read.specs.declared.stop.Stop.TheVariants as stop
use Rattle.c_read.specs.Answers.{IsNoText}

abbrev pub HasNoTree : List ℕ → Type 0
HasNoTree bytes = (items : List Item) → CText bytes items → ⊥

abbrev pub ReadsTree : List ℕ → Result (List CItem) Stop → Type 0
ReadsTree bytes (Ok items) = CText bytes (items_of items)
ReadsTree bytes (Err stop.Wrong) = HasNoTree bytes
ReadsTree bytes (Err stop.Memory) = Unit {0}

abbrev pub ReadsItems : List ℕ → Result (List CItem) CReadErr → Type 0
ReadsItems bytes (Ok items) = CText bytes (items_of items)
ReadsItems bytes (Err (NotC at)) = IsNoText bytes at
ReadsItems bytes (Err Memory) = Unit {0}

-- What a check answers.
use Rattle.std.specs.Prelude.{◌≡◌, Result, Ok, Err}
use Rattle.c_tree.specs.Functions.{items_of}
use Rattle.c_tree.specs.declared.function.CProgram.{CProgram}
use Rattle.c_meaning.specs.Checked.{IsChecked, IsFirstBreach}
use Rattle.c_check.specs.declared.checking.CheckErr.{CheckErr}
use Rattle.c_check.specs.declared.checking.CheckErr.TheVariants.{BadC, Memory}

-- the program itself where it breaks no rule, and else its first breach, unless memory runs out
abbrev pub ChecksTo : CProgram → Result CProgram CheckErr → Type 0
ChecksTo p (Ok c) = (c ≡ p) × IsChecked (items_of p.items)
ChecksTo p (Err (BadC b)) = IsFirstBreach (items_of p.items) b
ChecksTo p (Err Memory) = Unit {0}

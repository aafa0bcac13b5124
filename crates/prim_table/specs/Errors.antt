-- The numbers of errors, as error lines and C texts tell them; a rule of this project's own.
use Rattle.std.specs.Prelude.{ℕ}
use Rattle.prim_table.specs.declared.errors.ErrCode.{ErrCode}
use Rattle.prim_table.specs.declared.errors.ErrCode.TheVariants.{WrongType, ArgumentCount, Range, Index, Unset, NotProcedure, DeadExit, User, PrintLimit, ZeroDivisor}

abbrev pub number_of : ErrCode → ℕ
number_of WrongType = 1
number_of ArgumentCount = 2
number_of Range = 3
number_of Index = 4
number_of Unset = 5
number_of NotProcedure = 6
number_of DeadExit = 7
number_of User = 8
number_of PrintLimit = 9
number_of ZeroDivisor = 10

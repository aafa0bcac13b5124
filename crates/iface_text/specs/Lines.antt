-- What a line of an interface's text tells, by the one row or name that it can be the spelling of.
use Rattle.std.specs.Prelude.{◌≡◌, ◌≢◌, ℕ, ◌+◌, ◌-◌, ◌/◌, List, Bool, not, ◌&&◌, if◌then◌else◌, nat_eq, IsTrue, length, take, drop, replicate, Option, Some, None}
use Rattle.std.specs.List.{list_all, prefix_len}
use Rattle.scheme_data.specs.Names.{is_same}
use Rattle.scheme_data.specs.Symbols.{is_symbol, IsSymbol}
use Rattle.built_table.specs.declared.primitives.Ty.TheVariants.{Obj}
use Rattle.iface_text.specs.declared.interface.Row.{Row}
use Rattle.iface_text.specs.declared.interface.RowKind.TheVariants.{Fun}
use Rattle.iface_text.specs.Format.{row_line, module_line, IsUntyped}

abbrev pub other_than : ℕ → ℕ → Bool
other_than byte b = not (nat_eq b byte)

-- no byte is this one
abbrev pub Lacks : ℕ → List ℕ → Type 0
Lacks byte bytes = IsTrue (list_all (other_than byte) bytes)

-- the name, where the line is that of the module of this name
abbrev pub checked_name : List ℕ → List ℕ → Option (List ℕ)
checked_name line name = if is_symbol name && is_same line (module_line name) then Some name else None

unfoldable pub module_line_name : List ℕ → Option (List ℕ)
module_line_name line = checked_name line (drop 7 line)

-- the row of a function with so many parameters
abbrev pub untyped_row : List ℕ → ℕ → Row
untyped_row name params = record { name = name; kind = Fun (replicate params Obj) Obj }

-- the line is that of this row
pub record RowLine (line : List ℕ) (r : Row) : Type 0 where
  pub is_name : IsSymbol r.name
  pub is_untyped : IsUntyped r.kind
  pub are : line ≡ row_line r

-- no such function's row has this line
abbrev pub NoRow : List ℕ → Type 0
NoRow line = (name : List ℕ) (params : ℕ) → IsSymbol name → line ≢ row_line (untyped_row name params)

-- the row, where the line is its spelling
abbrev pub checked_row : List ℕ → Row → Option Row
checked_row line r = if is_symbol r.name && is_same line (row_line r) then Some r else None

-- a name is what stands before the first blank
abbrev pub first_word : List ℕ → List ℕ
first_word bytes = take (prefix_len (other_than 32) bytes) bytes

-- a line of a row with a name of n bytes has n + 11 bytes, or where there are parameters n + 10 and four for each
abbrev pub candidate : List ℕ → List ℕ → Row
candidate line name = untyped_row name ((length line - (length name + 10)) / 4)

unfoldable pub row_of : List ℕ → Option Row
row_of line = checked_row line (candidate line (first_word (drop 4 line)))

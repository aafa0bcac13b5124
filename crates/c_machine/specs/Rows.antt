-- A worked row: the lines of statements in blocks.
use Rattle.std.specs.Prelude.{◌≡◌, List, [], ◌∷◌, refl}
use Rattle.c_tree.specs.Rows.{x, nested}
use Rattle.c_machine.specs.declared.program.Operand.{Operand}
use Rattle.c_machine.specs.declared.program.Operand.TheVariants as operand
use Rattle.c_machine.specs.declared.program.Target.{Target}
use Rattle.c_machine.specs.declared.program.Target.TheVariants as target
use Rattle.c_machine.specs.declared.program.Action.TheVariants as action
use Rattle.c_machine.specs.declared.program.Instr.{Instr}
use Rattle.c_machine.specs.declared.program.Instr.TheVariants as instr
use Rattle.c_machine.specs.declared.program.Line.{Line}
use Rattle.c_machine.specs.Decoded.{line, code_of}

abbrev pub copy : Target → Operand → Instr
copy to from = instr.Does to (action.Copy from)

-- `L0: for (;;) { if (x0) { x0 = 1; } else { if (1) { } else { return 2; } } return 3; }`
abbrev pub nested_lines : List Line
nested_lines =
    line instr.Give 1
    ∷ line instr.Turn 2
    ∷ line (copy (target.Test 4) (operand.Local 0)) 3
    ∷ line (copy (target.Local 0) (operand.Word 1)) 6
    ∷ line (copy (target.Test 5) (operand.Word 1)) 6
    ∷ line (copy target.Caller (operand.Word 2)) 6
    ∷ line (copy target.Caller (operand.Word 3)) 7
    ∷ line instr.Turn 7
    ∷ []

a_block_goes_on_behind_its_statement : code_of (x ∷ []) [] nested ≡ nested_lines
a_block_goes_on_behind_its_statement = refl

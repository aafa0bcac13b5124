-- A head that is read in clause order: each clause is added behind those that were read.
use Rattle.std.specs.Prelude.{ℕ, List, ◌++◌, codes, if◌then◌else◌, Option, Some, None}
use Rattle.std.specs.Option.{option_and_then}
use Rattle.scheme_data.specs.Data.{Plain, Listed, Plains, none, more}
use Rattle.resolver.specs.BuiltHeads.{ImportTree, ExportTree, HeadTree, symbol_of, says, main_name, import_items, export_items}

-- the main function, where there is none yet
abbrev pub only_main : HeadTree → Option (List ℕ) → Option (List ℕ) → Option HeadTree
only_main h (Some g) f = None
only_main h None None = None
only_main h None (Some f) = Some (record h { main = Some f })

abbrev pub main_behind : HeadTree → Option (List ℕ) → Option HeadTree
main_behind h f = only_main h h.main f

abbrev pub imports_behind : HeadTree → Option (List ImportTree) → Option HeadTree
imports_behind h None = None
imports_behind h (Some is) = Some (record h { imports = h.imports ++ is })

abbrev pub exports_behind : HeadTree → Option (List ExportTree) → Option HeadTree
exports_behind h None = None
exports_behind h (Some es) = Some (record h { exports = h.exports ++ es })

-- the clause with this word
abbrev pub parts_behind : HeadTree → Option (List ℕ) → Plains → Option HeadTree
parts_behind h word ds =
    if says word (codes "main") then main_behind h (main_name ds)
    else (if says word (codes "import") then imports_behind h (import_items ds)
    else (if says word (codes "export") then exports_behind h (export_items ds)
    else None))

abbrev pub clause_behind : HeadTree → Plain → Option HeadTree
clause_behind h (Listed (more word ds)) = parts_behind h (symbol_of word) ds
clause_behind h _ = None

abbrev pub clauses_behind : Plains → HeadTree → Option HeadTree
clauses_behind none h = Some h
clauses_behind (more d ds) h = option_and_then (clauses_behind ds) (clause_behind h d)

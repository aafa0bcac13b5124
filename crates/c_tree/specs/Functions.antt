-- Definitions as they are kept, seen as plain trees.
use Rattle.std.specs.Prelude.{List, map}
use Rattle.c_tree.specs.Code.{Fun, Item, external, global, declared, defined}
use Rattle.c_tree.specs.Layout.{code_of}
use Rattle.c_tree.specs.declared.function.CFun.{CFun}
use Rattle.c_tree.specs.declared.function.CItem.{CItem}
use Rattle.c_tree.specs.declared.function.CItem.TheVariants.{Extern, Global, Declared, Defined}

abbrev pub fun_of : CFun → Fun
fun_of f = record { result = f.result; name = f.name; params = f.params; locals = f.locals; code = code_of f.stmts f.body }

abbrev pub item_of : CItem → Item
item_of (Extern v) = external v
item_of (Global v) = global v
item_of (Declared ty name params) = declared ty name params
item_of (Defined f) = defined (fun_of f)

abbrev pub items_of : List CItem → List Item
items_of items = map item_of items

use Rattle.std.proofs.Common.{sym, ◌∙◌}
use Rattle.std.proofs.lemmas.List.Folds.{list_all-map}
use Rattle.c_tree.specs.Functions.{item_of}
use Rattle.c_meaning.specs.Runnable.{is_runnable_item}
use Rattle.c_machine.proofs.runnable.is_runnable.Goals as goal

pub returns : goal.returns
returns c = c.items_run.ensures ∙ sym (list_all-map is_runnable_item item_of c.args.items.now)

use Rattle.c_machine.proofs.Checking.{has_names}
use Rattle.c_machine.proofs.decoding.decode.Goals as goal

pub names_of_functions-requires : goal.names_of_functions-requires
names_of_functions-requires c = (has_names c.args.items.now c.requires).functions

pub all_functions-requires : goal.all_functions-requires
all_functions-requires c = (has_names c.args.items.now c.requires).variables

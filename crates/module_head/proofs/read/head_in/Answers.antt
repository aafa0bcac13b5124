use Rattle.module_head.proofs.Layers.{no_module_form}
use Rattle.module_head.proofs.read.head_in.Goals as goal

pub returns-in_default-ds : goal.returns-in_default-ds
returns-in_default-ds c = no_module_form _ c.in-Some.ds.now _ c.in-Some.ensures c.in_default-ds.len_below c.place-in_default-ds.ensures

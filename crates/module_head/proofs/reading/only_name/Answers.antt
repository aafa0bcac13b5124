use Rattle.module_head.proofs.Layers.{no_only_name}
use Rattle.module_head.proofs.reading.only_name.Goals as goal

pub returns-then-ds-ne1 : goal.returns-then-ds-ne1
returns-then-ds-ne1 c = no_only_name c.args.ds.now c.if-ds-ne1.true

use Rattle.c_check.proofs.Depths.{may_return_from}
use Rattle.c_check.proofs.blocks.Blocks.may_return.Goals as goal

pub returns : goal.returns
returns c = may_return_from c.args.self.now.depths c.args.self.now.held c.args.self.now.kept c.requires

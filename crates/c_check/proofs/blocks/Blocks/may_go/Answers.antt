use Rattle.std.proofs.Common.{◌∙◌, ap, nat_lt}
use Rattle.c_check.proofs.Depths.{may_go_to}
use Rattle.c_check.proofs.blocks.Blocks.may_go.Goals as goal

pub returns : goal.returns
returns c = ap (nat_lt c.args.self.now.held) c.depth.ensures ∙ may_go_to c.args.self.now.depths c.args.self.now.held c.args.self.now.kept c.requires c.args.label.now

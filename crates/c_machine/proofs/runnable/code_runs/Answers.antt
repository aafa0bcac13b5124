use Rattle.std.proofs.Common.{ap, ◌∙◌}
use Rattle.c_tree.specs.Functions.{fun_of}
use Rattle.c_machine.specs.Forms.{are_runnable}
use Rattle.c_machine.proofs.Forms.{runnable_laid}
use Rattle.c_machine.proofs.runnable.code_runs.Goals as goal

pub returns : goal.returns
returns c = c.are_runnable.ensures ∙ ap are_runnable c.as_slice.ensures ∙ runnable_laid (fun_of c.args.f.now).code c.args.f.now.stmts c.args.f.now.laid.1

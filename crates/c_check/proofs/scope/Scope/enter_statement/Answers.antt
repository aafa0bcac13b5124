use Rattle.std.proofs.Common.{subst, sym}
use Rattle.c_tree.specs.Pieces.{opening}
use Rattle.c_check.specs.Agreeing.{SameState}
use Rattle.c_check.specs.Scopes.{state_of}
use Rattle.c_check.specs.Walks.{after_piece}
use Rattle.c_check.proofs.scope.Scope.enter_statement.Goals as goal

pub returns-in-Goto-clause-next : goal.returns-in-Goto-clause-next
returns-in-Goto-clause-next c =
    subst (λ statement. SameState (state_of c.pass.new.self) (after_piece (state_of c.args.self.now) (opening statement))) (sym c.in-Goto.is) (c.pass.ensures.next c.in-Goto.field-0)

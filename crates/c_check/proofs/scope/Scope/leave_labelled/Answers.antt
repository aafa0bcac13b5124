use Rattle.c_check.specs.Blocks.{frames_of}
use Rattle.c_check.specs.Scopes.{scope_of, state_of}
use Rattle.c_check.specs.Walks.{is_over}
use Rattle.c_check.proofs.Passing.{labelled}
use Rattle.c_check.proofs.scope.Scope.leave_labelled.Goals as goal

pub returns-clause-next : goal.returns-clause-next
returns-clause-next c =
    let s = scope_of c.args.self.now in
    let fs = frames_of c.args.self.now.blocks.kept in
    let h = c.args.self.now.ahead in
    labelled (state_of c.leave.new.self) (is_over (state_of c.args.self.now)) c.args.label.now c.note.new.names c.in_ok-leave.ensures.next c.in_ok-note.ensures

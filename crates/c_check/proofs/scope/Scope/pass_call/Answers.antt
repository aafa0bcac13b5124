use Rattle.std.proofs.Common.{◌++◌, refl}
use Rattle.c_meaning.specs.Breaches.{next_room, called_in}
use Rattle.c_check.specs.Blocks.{frames_of}
use Rattle.c_check.specs.Roles.{room_as}
use Rattle.c_check.specs.Scopes.{scope_of}
use Rattle.c_check.proofs.Passing.{same_states}
use Rattle.c_check.proofs.scope.Scope.pass_call.Goals as goal

pub returns-clause-next : goal.returns-clause-next
returns-clause-next c =
    let s = scope_of c.args.self.now in
    let fs = frames_of c.args.self.now.blocks.kept in
    let h = c.args.self.now.ahead in
    same_states s s.labels s.labels c.note_callee.new.called (s.called ++ called_in c.args.call.now.callee) s.blocks s.blocks (room_as c.behind-self.result) (next_room s.room) fs fs h h
    (λ l. refl) c.in_ok-note_callee.ensures.found c.in_ok-note_callee.ensures.calls refl c.behind-self.ensures refl refl

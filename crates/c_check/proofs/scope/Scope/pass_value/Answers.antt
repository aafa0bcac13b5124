use Rattle.std.proofs.Common.{◌++◌, refl}
use Rattle.c_meaning.specs.Breaches.{next_room, calls_of}
use Rattle.c_check.specs.Blocks.{frames_of}
use Rattle.c_check.specs.Roles.{room_as}
use Rattle.c_check.specs.Scopes.{scope_of}
use Rattle.c_check.proofs.Passing.{same_states}
use Rattle.c_check.proofs.scope.Scope.pass_value.Goals as goal

pub returns-clause-next : goal.returns-clause-next
returns-clause-next c =
    let s = scope_of c.args.self.now in
    let fs = frames_of c.args.self.now.blocks.kept in
    let h = c.args.self.now.ahead in
    same_states s s.labels s.labels c.note_calls.new.called (s.called ++ calls_of c.args.e.now) s.blocks s.blocks (room_as c.behind-self.result) (next_room s.room) fs fs h h
    (λ l. refl) c.in_ok-note_calls.ensures.found c.in_ok-note_calls.ensures.calls refl c.behind-self.ensures refl refl

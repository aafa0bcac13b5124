use Rattle.std.proofs.Common.{◌++◌, ◌∷◌, [], refl, ap}
use Rattle.c_meaning.specs.Breaches.{Free, Within}
use Rattle.c_check.specs.Blocks.{opens_of, frames_of}
use Rattle.c_check.specs.Scopes.{scope_of}
use Rattle.c_check.proofs.Passing.{same_states}
use Rattle.c_check.proofs.scope.Scope.enter_loop.Goals as goal

pub returns-clause-next : goal.returns-clause-next
returns-clause-next c =
    let s = scope_of c.args.self.now in
    let fs = frames_of c.args.self.now.blocks.kept in
    let h = c.args.self.now.ahead in
    same_states s c.note.new.names (s.labels ++ c.args.label.now ∷ []) s.called s.called (opens_of c.label.new.self.kept) (Within c.args.label.now ∷ s.blocks) Free Free (frames_of c.label.new.self.kept) (record { blocks = s.blocks; room = s.room } ∷ fs) h h
    c.in_ok-note.ensures.found (λ name. refl) refl (ap opens_of c.in_ok-label.ensures.kept) refl (ap frames_of c.in_ok-label.ensures.kept) refl

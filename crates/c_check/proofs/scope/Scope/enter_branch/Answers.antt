use Rattle.std.proofs.Common.{◌++◌, ◌∷◌, refl, ap}
use Rattle.c_meaning.specs.Breaches.{Free, calls_of}
use Rattle.c_check.specs.Blocks.{opens_of, frames_of}
use Rattle.c_check.specs.Scopes.{scope_of}
use Rattle.c_check.specs.declared.blocks.Kept.TheVariants.{Branch}
use Rattle.c_check.proofs.Passing.{same_states}
use Rattle.c_check.proofs.scope.Scope.enter_branch.Goals as goal

pub returns-clause-next : goal.returns-clause-next
returns-clause-next c =
    let s = scope_of c.args.self.now in
    let fs = frames_of c.args.self.now.blocks.kept in
    let h = c.args.self.now.ahead in
    same_states s s.labels s.labels c.note_calls.new.called (s.called ++ calls_of c.args.condition.now) (opens_of c.branch-self.new.self.kept) s.blocks Free Free (frames_of c.branch-self.new.self.kept) (frames_of (Branch c.args.self.now.room ∷ c.args.self.now.blocks.kept)) h h
    (λ l. refl) c.in_ok-note_calls.ensures.found c.in_ok-note_calls.ensures.calls (ap opens_of c.in_ok-branch.ensures.kept) refl (ap frames_of c.in_ok-branch.ensures.kept) refl

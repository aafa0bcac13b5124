use Rattle.std.proofs.Common.{◌++◌, ◌∷◌, [], if◌then◌else◌, sym, ap, ◌∙◌}
use Rattle.std.proofs.lemmas.Bool.{false≢true}
use Rattle.std.proofs.lemmas.Result.{err_from_is_err_and}
use Rattle.syntax_rules.proofs.names.Names.add_name.Goals as goal

pub returns-in_err-insert-clause-apart : goal.returns-in_err-insert-clause-apart
returns-in_err-insert-clause-apart c = let p = err_from_is_err_and c.from_residual.result c.from_residual.ensures.1 in rw p.1 tt

pub returns-in_err-insert-clause-names : goal.returns-in_err-insert-clause-names
returns-in_err-insert-clause-names c = let p = err_from_is_err_and c.from_residual.result c.from_residual.ensures.1 in rw p.1 tt

pub returns-in_err-insert-clause-paths : goal.returns-in_err-insert-clause-paths
returns-in_err-insert-clause-paths c = let p = err_from_is_err_and c.from_residual.result c.from_residual.ensures.1 in rw p.1 tt

pub returns-then-not-branch-clause-apart : goal.returns-then-not-branch-clause-apart
returns-then-not-branch-clause-apart c = sym c.if-not-branch.true ∙ c.in_ok-insert.ensures.added

pub returns-then-not-branch-clause-names : goal.returns-then-not-branch-clause-names
returns-then-not-branch-clause-names c = λ h. absurd (false≢true h)

pub returns-then-not-branch-clause-paths : goal.returns-then-not-branch-clause-paths
returns-then-not-branch-clause-paths c = λ h. absurd (false≢true h)

pub returns-in_err-from_slice-clause-apart : goal.returns-in_err-from_slice-clause-apart
returns-in_err-from_slice-clause-apart c = let p = err_from_is_err_and c.from_residual-in_err-from_slice.result c.from_residual-in_err-from_slice.ensures.1 in rw p.1 tt

pub returns-in_err-from_slice-clause-names : goal.returns-in_err-from_slice-clause-names
returns-in_err-from_slice-clause-names c = let p = err_from_is_err_and c.from_residual-in_err-from_slice.result c.from_residual-in_err-from_slice.ensures.1 in rw p.1 tt

pub returns-in_err-from_slice-clause-paths : goal.returns-in_err-from_slice-clause-paths
returns-in_err-from_slice-clause-paths c = let p = err_from_is_err_and c.from_residual-in_err-from_slice.result c.from_residual-in_err-from_slice.ensures.1 in rw p.1 tt

pub returns-in_err-push-clause-apart : goal.returns-in_err-push-clause-apart
returns-in_err-push-clause-apart c = let p = err_from_is_err_and c.from_residual-in_err-push.result c.from_residual-in_err-push.ensures.1 in rw p.1 tt

pub returns-in_err-push-clause-names : goal.returns-in_err-push-clause-names
returns-in_err-push-clause-names c = let p = err_from_is_err_and c.from_residual-in_err-push.result c.from_residual-in_err-push.ensures.1 in rw p.1 tt

pub returns-in_err-push-clause-paths : goal.returns-in_err-push-clause-paths
returns-in_err-push-clause-paths c = let p = err_from_is_err_and c.from_residual-in_err-push.result c.from_residual-in_err-push.ensures.1 in rw p.1 tt

pub returns-clause-apart : goal.returns-clause-apart
returns-clause-apart c = sym c.if-not-branch.false ∙ c.in_ok-insert.ensures.added

pub returns-clause-names : goal.returns-clause-names
returns-clause-names c = λ _. c.in_ok-insert.ensures.ok
    ∙ ap (λ b. if b then c.args.self.now.table ++ (c.args.name.now, c.args.mark) ∷ [] else c.args.self.now.table) c.if-not-branch.false

pub returns-clause-paths : goal.returns-clause-paths
returns-clause-paths c = λ _. c.in_ok-push.ensures.ok ∙ ap (λ p. c.args.self.now.paths ++ p ∷ []) c.in_ok-from_slice.ensures

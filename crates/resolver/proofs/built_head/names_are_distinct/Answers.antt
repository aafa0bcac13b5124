use Rattle.std.proofs.Common.{List, ℕ, not, [], ◌∷◌, ◌++◌, ap, ◌∙◌}
use Rattle.std.proofs.lemmas.Result.{err_from_is_err_and}
use Rattle.std.specs.List.{list_any}
use Rattle.resolver.specs.BuiltHeads.{is_word}
use Rattle.scheme_data.proofs.DistinctNames.{there, absent, inserted}
use Rattle.resolver.proofs.Exported.{listed_twice, listed_more}
use Rattle.resolver.proofs.built_head.names_are_distinct.Goals as goal

pub returns-then-not-branch : goal.returns-then-not-branch
returns-then-not-branch c =
    listed_twice c.args.exports.now c.loop-export.names c.loop-export.export-index _ c.loop-export-test.true c.export-item.is c.loop-export.invariant
    (there _ c.loop-export.names _ (c.in_ok-insert.ensures.added ∙ ap (λ (name : List ℕ). not (list_any (is_word name) c.loop-export.names)) c.as_bytes.ensures) c.if-not-branch.true)

pub loop-export-preserved : goal.loop-export-preserved
loop-export-preserved c =
    listed_more c.args.exports.now c.loop-export.names c.insert.new.self c.loop-export.export-index _ c.loop-export-test.true c.export-item.is c.loop-export.invariant
    (absent _ c.loop-export.names _ (c.in_ok-insert.ensures.added ∙ ap (λ (name : List ℕ). not (list_any (is_word name) c.loop-export.names)) c.as_bytes.ensures) c.if-not-branch.false)
    (inserted _ c.loop-export.names _ _ c.in_ok-insert.ensures.ok c.if-not-branch.false ∙ ap (λ (name : List ℕ). c.loop-export.names ++ name ∷ []) c.as_bytes.ensures)

pub returns-in_err-insert : goal.returns-in_err-insert
returns-in_err-insert c =
    let p = err_from_is_err_and c.from_residual.result c.from_residual.ensures.1 in
    rw (p.1) tt

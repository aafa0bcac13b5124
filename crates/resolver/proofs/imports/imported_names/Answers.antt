use Rattle.std.proofs.Common.{List, ℕ, ap, ◌∙◌}
use Rattle.scheme_data.specs.Names.{is_same}
use Rattle.resolver.specs.Parts.{with_first}
use Rattle.resolver.proofs.FirstSight.{imported_more}
use Rattle.resolver.proofs.imports.imported_names.Goals as goal

pub loop-item-preserved : goal.loop-item-preserved
loop-item-preserved c =
    imported_more c.args.imports.now c.loop-item.table c.add_names.new.table c.loop-item.item-index _ c.loop-item-test.true c.item-item.is c.loop-item.invariant
    (c.in_ok-add_names.ensures ∙ ap (λ (names : List (List ℕ)). with_first is_same c.loop-item.table names) c.as_slice.ensures)

use Rattle.std.proofs.Common.{◌∷◌, ◌+◌, drop, ap, sym, ◌∙◌}
use Rattle.std.proofs.lemmas.List.{drop_more}
use Rattle.linker.proofs.RowNames.{one_more}
use Rattle.linker.proofs.reading.exported_names.Goals as goal

pub loop-row-preserved : goal.loop-row-preserved
loop-row-preserved c = one_more c.loop-row.names c.insert.new.self c.as_bytes.result.now c.args.rows.now (drop c.loop-row.row-index c.args.rows.now) (drop (c.loop-row.row-index + 1) c.args.rows.now) c.row-item.result c.in_ok-insert.field-0
    c.loop-row.invariant.0 c.loop-row.invariant.1
    (drop_more c.args.rows.now c.loop-row.row-index c.row-item.result c.loop-row-test.true ∙ ap (λ r. r ∷ drop (c.loop-row.row-index + 1) c.args.rows.now) (sym c.row-item.is))
    c.as_bytes.ensures (c.in_ok-insert.ensures {u = tt}).added (c.in_ok-insert.ensures {u = tt}).ok

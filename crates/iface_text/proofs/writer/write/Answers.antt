use Rattle.std.proofs.Common.{◌≤◌, List, ◌++◌, ◌∷◌, [], length, ap, sym, ◌∙◌, arith}
use Rattle.std.proofs.lemmas.List.{drop_all}
use Rattle.iface_text.specs.declared.interface.Row.{Row}
use Rattle.iface_text.specs.Format.{ended, end_line}
use Rattle.iface_text.proofs.RowLists.{row_lines}
use Rattle.iface_text.proofs.writer.write.Goals as goal

pub returns : goal.returns
returns c =
    let over : length c.as_slice-row-items.result.now ≤ c.loop-row.row-index = omega arith in
    let none = drop_all c.loop-row.row-index c.as_slice-row-items.result.now over in
    c.in_ok-extend-2.ensures.ok ∙ sym (ap (λ (rs : List Row). c.loop-row.text ++ ended (row_lines rs ++ end_line ∷ [])) none) ∙ c.loop-row.invariant

use Rattle.std.proofs.Common.{IfOk, ◌≡◌, ◌∙◌, ap, arith, not, subst}
use Rattle.name_table.specs.Names.{has_name}
use Rattle.marked_names.specs.MarkedNames.{has_marked}
use Rattle.marked_names.proofs.KeyLemmas.{key_among}
use Rattle.marked_names.proofs.table.MarkedNames.insert.Goals as goal

pub returns-clause-added : goal.returns-clause-added
returns-clause-added c =
    subst (λ b. IfOk c.insert.result (λ added. added ≡ not b))
    (ap (has_name c.self.inside.keys) (c.as_bytes.ensures ∙ c.in_ok-key.ensures)
    ∙ key_among c.args.name.now c.args.mark c.self.inside.keys (omega (arith, c.ranges.mark.fits)) c.self.invariant
    ∙ ap (λ names. has_marked names c.args.name.now c.args.mark) c.self.view_is)
    c.insert.ensures.added

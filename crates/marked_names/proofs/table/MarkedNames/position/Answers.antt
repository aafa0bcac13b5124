use Rattle.std.proofs.Common.{◌∙◌, ap, arith}
use Rattle.name_table.specs.Names.{place_of}
use Rattle.marked_names.specs.MarkedNames.{marked_place}
use Rattle.marked_names.proofs.KeyLemmas.{key_place}
use Rattle.marked_names.proofs.table.MarkedNames.position.Goals as goal

pub returns : goal.returns
returns c =
    c.position.ensures
    ∙ ap (λ k. place_of k c.self.inside.keys) (c.as_bytes.ensures ∙ c.in_ok-key.ensures)
    ∙ key_place c.args.name.now c.args.mark c.self.inside.keys (omega (arith, c.ranges.mark.fits)) c.self.invariant
    ∙ ap (marked_place c.args.name.now c.args.mark) c.self.view_is

use Rattle.std.proofs.Common.{◌∙◌, ap, arith, nat_lt, map}
use Rattle.name_table.specs.Names.{has_name}
use Rattle.marked_names.specs.Keys.{of_key}
use Rattle.marked_names.specs.MarkedNames.{has_marked, is_marked}
use Rattle.marked_names.proofs.CountLemmas.{occurs, any_reverse}
use Rattle.marked_names.proofs.KeyLemmas.{key_among}
use Rattle.marked_names.proofs.scope.Scope.binds.Goals as goal
use Rattle.std.proofs.Common.{sym}

pub returns : goal.returns
returns c =
    let bound = c.self.inside.bound.items in
    ap (nat_lt 0) (c.of.ensures ∙ c.self.invariant.counted c.as_bytes.result.now)
    ∙ occurs c.as_bytes.result.now bound
    ∙ ap (has_name bound) (c.as_bytes.ensures ∙ c.in_ok-key.ensures)
    ∙ key_among c.args.name.now c.args.mark bound (omega (arith, c.ranges.mark.fits)) c.self.invariant.are_keys
    ∙ sym (any_reverse (is_marked c.args.name.now c.args.mark) (map of_key bound))
    ∙ ap (λ names. has_marked names c.args.name.now c.args.mark) c.self.view_is

use Rattle.std.proofs.Common.{◌*◌, take, subst, sym, ap, ◌∙◌}
use Rattle.std.specs.List.{concat}
use Rattle.word_region.specs.Layout.{AreFull}
use Rattle.word_region.proofs.Joined.{AreFull-take, take-concat}
use Rattle.word_region.proofs.table.Table.cut.Goals as goal

pub invariant_of-self : goal.invariant_of-self
invariant_of-self c =
    subst (λ ss. AreFull 65536 ss) (sym c.truncate.ensures.items) (AreFull-take 65536 c.self.inside.segments.items c.args.segments c.self.invariant)

pub returns : goal.returns
returns c =
    ap concat c.truncate.ensures.items
    ∙ take-concat 65536 c.self.inside.segments.items c.args.segments c.self.invariant
    ∙ ap (λ ws. take (65536 * c.args.segments) ws) c.self.view_is

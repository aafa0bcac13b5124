use Rattle.std.proofs.Common.{◌∙◌, ap, sym, nat_le, length}
use Rattle.c_meaning.specs.Checked.{are_all}
use Rattle.c_check.specs.Heads.{dropped, takes_before}
use Rattle.c_check.proofs.HeadParts.{all_at}
use Rattle.c_check.proofs.heads.Before.are_all.Goals as goal

pub returns-in-Types : goal.returns-in-Types
returns-in-Types c =
    ap (λ l. nat_le (length l) c.args.count) c.as_slice.ensures
    ∙ all_at c.in-Types.shape.now.params c.args.count
    ∙ ap (λ b. are_all (dropped c.args.count (takes_before b))) (sym c.in-Types.is)

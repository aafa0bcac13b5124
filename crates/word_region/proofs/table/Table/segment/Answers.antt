use Rattle.std.proofs.Common.{length, get_or, subst, ◌<◌, ◌/◌, ◌%◌, ◌≡◌, ℕ}
use Rattle.std.specs.Option.{option_copied}
use Rattle.word_region.specs.Regions.{HasWord}
use Rattle.word_region.proofs.Joined.{segment_has}
use Rattle.word_region.proofs.table.Table.segment.Goals as goal

pub returns : goal.returns
returns c =
    subst
    (λ ws. (at : ℕ) → at < length ws → at / 65536 ≡ c.args.k → HasWord (option_copied c.nth.result) (at % 65536) (get_or ws at 0))
    c.self.view_is
    (segment_has (option_copied c.nth.result) c.self.inside.segments.items c.args.k c.self.invariant c.nth.ensures)

use Rattle.std.proofs.Common.{◌≡◌, ◌+◌, ◌-◌, sym, ap, subst, refl, ◌∙◌, arith}
use Rattle.word_region.specs.Layout.{blocks_of, IsSound}
use Rattle.word_region.proofs.Sound.{live_count, placed_blocks, placed_sound, taken_bounded}
use Rattle.word_region.proofs.blocks.Region.place.Goals as goal

pub invariant_of-self : goal.invariant_of-self
invariant_of-self c =
    let i = c.self.inside in
    let spare : i.spare ≡ c.args.self.now.spare = ap (λ r. r.spare) c.self.view_is in
    subst (λ ss. IsSound c.clear.new.self ss (i.live + 1) (i.used + c.args.size) (i.spare - (c.args.size + 1))) (sym c.set.ensures)
    (placed_sound i.words c.clear.new.self i.starts i.live i.used i.spare c.args.size c.self.invariant (omega arith) (omega arith) c.clear.ensures.len)

pub returns-clause-address : goal.returns-clause-address
returns-clause-address c =
    let i = c.self.inside in
    sym (live_count i.words i.starts i.live i.used c.args.self.now.blocks (ap (λ r. r.blocks) c.self.view_is))

pub returns-clause-blocks : goal.returns-clause-blocks
returns-clause-blocks c =
    let i = c.self.inside in
    let spare : i.spare ≡ c.args.self.now.spare = ap (λ r. r.spare) c.self.view_is in
    ap (λ ss. blocks_of c.clear.new.self ss (i.live + 1) (i.used + c.args.size)) c.set.ensures
    ∙ placed_blocks i.words c.clear.new.self i.starts i.live i.used i.spare c.args.size c.args.self.now.blocks c.self.invariant (ap (λ r. r.blocks) c.self.view_is) (omega arith) c.clear.ensures.before c.clear.ensures.cleared

pub returns-clause-bounded : goal.returns-clause-bounded
returns-clause-bounded c =
    let i = c.self.inside in
    taken_bounded c.clear.new.self c.set.new.self (i.live + 1) (i.used + c.args.size) (i.spare - (c.args.size + 1)) _ (invariant_of-self c) refl

use Rattle.std.proofs.Common.{◌≡◌, ◌<◌, ◌+◌, ◌*◌, ◌^◌, length, sym, ap, subst, refl, arith}
use Rattle.word_region.specs.Layout.{blocks_of}
use Rattle.word_region.specs.Regions.{taken}
use Rattle.word_region.proofs.Sound.{grown_blocks, grown_sound, grown_spare, taken_bounded}
use Rattle.word_region.proofs.blocks.Region.reserve.Goals as goal

pub returns-then-words-self-clause-bounded : goal.returns-then-words-self-clause-bounded
returns-then-words-self-clause-bounded c =
    let i = c.self.inside in
    subst (λ s. taken c.args.self.now.blocks + s < 2 ^ 60) (ap (λ r. r.spare) c.self.view_is)
    (taken_bounded i.words i.starts i.live i.used i.spare c.args.self.now.blocks c.self.invariant (ap (λ r. r.blocks) c.self.view_is))

pub returns-in_err-more-clause-bounded : goal.returns-in_err-more-clause-bounded
returns-in_err-more-clause-bounded c =
    let i = c.self.inside in
    subst (λ s. taken c.args.self.now.blocks + s < 2 ^ 60) (ap (λ r. r.spare) c.self.view_is)
    (taken_bounded i.words i.starts i.live i.used i.spare c.args.self.now.blocks c.self.invariant (ap (λ r. r.blocks) c.self.view_is))

pub returns-in_err-grow_both-clause-bounded : goal.returns-in_err-grow_both-clause-bounded
returns-in_err-grow_both-clause-bounded c =
    let i = c.self.inside in
    subst (λ ws. taken (blocks_of ws c.grow_both.new.starts i.live i.used) + i.spare < 2 ^ 60) (sym c.in_err-grow_both.ensures.words_err)
    (subst (λ ss. taken (blocks_of i.words ss i.live i.used) + i.spare < 2 ^ 60) (sym c.in_err-grow_both.ensures.starts_err)
    (taken_bounded i.words i.starts i.live i.used i.spare (blocks_of i.words i.starts i.live i.used) c.self.invariant refl))

pub invariant_of-self-2 : goal.invariant_of-self-2
invariant_of-self-2 c =
    let i = c.self.inside in
    let more = 65536 * c.in_ok-more.more in
    let fit : length i.words ≡ i.used + i.live + i.spare = c.self.invariant.words_fit in
    let small : i.used + i.live + i.spare + 65536 * c.in_ok-more.more < 2 ^ 60 = omega (arith, c.segment_count.ensures, c.in_ok-more.ensures.fits) in
    grown_sound i.words c.grow_both.new.words i.starts c.grow_both.new.starts i.live i.used i.spare more c.self.invariant c.in_ok-grow_both.ensures.longer c.in_ok-grow_both.ensures.alike c.in_ok-grow_both.ensures.starts_kept small

pub returns-clause-grown : goal.returns-clause-grown
returns-clause-grown c l =
    let i = c.self.inside in
    grown_spare i.words i.starts i.live i.used i.spare c.args.words c.segment_count.result c.in_ok-more.more c.args.self.now.blocks c.self.invariant (ap (λ r. r.blocks) c.self.view_is) c.segment_count.ensures c.in_ok-more.ensures.whole

pub returns-clause-blocks : goal.returns-clause-blocks
returns-clause-blocks c =
    let i = c.self.inside in
    grown_blocks i.words c.grow_both.new.words i.starts c.grow_both.new.starts i.live i.used i.spare c.args.self.now.blocks c.self.invariant (ap (λ r. r.blocks) c.self.view_is) c.in_ok-grow_both.ensures.words_kept c.in_ok-grow_both.ensures.starts_kept

pub returns-clause-bounded : goal.returns-clause-bounded
returns-clause-bounded c =
    let i = c.self.inside in
    taken_bounded c.grow_both.new.words c.grow_both.new.starts i.live i.used (i.spare + 65536 * c.in_ok-more.more) (blocks_of c.grow_both.new.words c.grow_both.new.starts i.live i.used) (invariant_of-self-2 c) refl

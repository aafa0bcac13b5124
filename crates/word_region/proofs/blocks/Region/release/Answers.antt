use Rattle.std.proofs.Common.{◌≡◌, ◌≤◌, ◌+◌, ◌-◌, drop, length, sym, ap, subst, ◌∙◌, arith}
use Rattle.word_region.specs.Layout.{blocks_of, IsSound, end_of_first}
use Rattle.word_region.specs.Regions.{taken}
use Rattle.word_region.proofs.Laid.{first_before}
use Rattle.word_region.proofs.Sound.{live_count, released_blocks, released_sound, released_spare}
use Rattle.word_region.proofs.blocks.Region.release.Goals as goal

pub overflow_add-self-2 : goal.overflow_add-self-2
overflow_add-self-2 c =
    let i = c.self.inside in
    let count : length c.args.self.now.blocks ≡ i.live = live_count i.words i.starts i.live i.used c.args.self.now.blocks (ap (λ r. r.blocks) c.self.view_is) in
    let b = first_before i.starts i.live i.used c.args.m.0 c.self.invariant.laid (omega arith) in
    let low : end_of_first i.starts i.live i.used c.args.m.0 ≤ i.used = b.low in
    omega (arith, c.end_of-used.ensures, c.self.invariant.bounded)

pub overflow_sub-self : goal.overflow_sub-self
overflow_sub-self c =
    let i = c.self.inside in
    let count : length c.args.self.now.blocks ≡ i.live = live_count i.words i.starts i.live i.used c.args.self.now.blocks (ap (λ r. r.blocks) c.self.view_is) in
    let b = first_before i.starts i.live i.used c.args.m.0 c.self.invariant.laid (omega arith) in
    let low : end_of_first i.starts i.live i.used c.args.m.0 ≤ i.used = b.low in
    omega (arith, c.end_of-used.ensures)

pub invariant_of-self : goal.invariant_of-self
invariant_of-self c =
    let i = c.self.inside in
    let count : length c.args.self.now.blocks ≡ i.live = live_count i.words i.starts i.live i.used c.args.self.now.blocks (ap (λ r. r.blocks) c.self.view_is) in
    subst (λ e. IsSound i.words i.starts c.args.m.0 e (i.spare + (i.used + i.live - (e + c.args.m.0)))) (sym c.end_of-used.ensures)
    (released_sound i.words i.starts i.live i.used i.spare c.args.m.0 c.self.invariant (omega arith))

pub returns-clause-blocks : goal.returns-clause-blocks
returns-clause-blocks c =
    let i = c.self.inside in
    let count : length c.args.self.now.blocks ≡ i.live = live_count i.words i.starts i.live i.used c.args.self.now.blocks (ap (λ r. r.blocks) c.self.view_is) in
    ap (λ e. blocks_of i.words i.starts c.args.m.0 e) c.end_of-used.ensures
    ∙ released_blocks i.words i.starts i.live i.used c.args.m.0 c.args.self.now.blocks (ap (λ r. r.blocks) c.self.view_is) (omega arith)

pub returns-clause-spare : goal.returns-clause-spare
returns-clause-spare c =
    let i = c.self.inside in
    let count : length c.args.self.now.blocks ≡ i.live = live_count i.words i.starts i.live i.used c.args.self.now.blocks (ap (λ r. r.blocks) c.self.view_is) in
    ap (λ e. i.spare + (i.used + i.live - (e + c.args.m.0))) c.end_of-used.ensures
    ∙ released_spare i.words i.starts i.live i.used i.spare c.args.m.0 c.args.self.now.blocks c.self.invariant (ap (λ r. r.blocks) c.self.view_is) (omega arith)
    ∙ ap (λ s. s + taken (drop c.args.m.0 c.args.self.now.blocks)) (ap (λ r. r.spare) c.self.view_is)

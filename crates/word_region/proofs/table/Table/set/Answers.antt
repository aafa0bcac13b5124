use Rattle.std.proofs.Common.{◌≡◌, ◌<◌, ◌/◌, ◌%◌, length, get_or, set, [], ap, ◌∙◌, arith}
use Rattle.std.specs.List.{concat}
use Rattle.std.proofs.lemmas.List.{get_or_read}
use Rattle.word_region.proofs.Joined.{segment_is_there, set_of_segment, set_is_full}
use Rattle.word_region.proofs.table.Table.set.Goals as goal

pub index_mut-requires : goal.index_mut-requires
index_mut-requires c =
    let there = segment_is_there c.self.inside.segments.items c.args.at c.self.invariant (rw c.self.view_is c.requires) in
    omega (arith, there)

pub invariant_of-self : goal.invariant_of-self
invariant_of-self c =
    let ss = c.self.inside.segments.items in
    let q = c.args.at / 65536 in
    let there : q < length ss = segment_is_there ss c.args.at c.self.invariant (rw c.self.view_is c.requires) in
    let read : c.index_mut.result.now ≡ get_or ss q [] = get_or_read ss q c.index_mut.result.now there c.index_mut.ensures.value [] in
    set_is_full ss c.args.at c.args.word c.set.new.self c.self.invariant (rw c.self.view_is c.requires) (c.set.ensures ∙ ap (λ s. set s (c.args.at % 65536) c.args.word) read)

pub returns : goal.returns
returns c =
    let ss = c.self.inside.segments.items in
    let q = c.args.at / 65536 in
    let there : q < length ss = segment_is_there ss c.args.at c.self.invariant (rw c.self.view_is c.requires) in
    let read : c.index_mut.result.now ≡ get_or ss q [] = get_or_read ss q c.index_mut.result.now there c.index_mut.ensures.value [] in
    let e : c.set.new.self ≡ set (get_or ss q []) (c.args.at % 65536) c.args.word = c.set.ensures ∙ ap (λ s. set s (c.args.at % 65536) c.args.word) read in
    ap (λ s. concat (set ss q s)) e ∙ set_of_segment ss c.args.at c.args.word c.self.invariant (rw c.self.view_is c.requires) ∙ ap (λ ws. set ws c.args.at c.args.word) c.self.view_is

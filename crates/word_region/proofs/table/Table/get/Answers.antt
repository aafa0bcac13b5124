use Rattle.std.proofs.Common.{◌≡◌, ◌<◌, ◌/◌, ◌%◌, length, get_or, [], sym, ap, ◌∙◌, arith}
use Rattle.std.proofs.lemmas.List.{get_or_read}
use Rattle.word_region.proofs.Joined.{segment_is_there, word_of_segment}
use Rattle.word_region.proofs.table.Table.get.Goals as goal

pub index-requires : goal.index-requires
index-requires c =
    let there = segment_is_there c.self.inside.segments.items c.args.at c.self.invariant (rw c.self.view_is c.requires) in
    omega (arith, there)

pub returns : goal.returns
returns c =
    let there : c.args.at / 65536 < length c.self.inside.segments.items = segment_is_there c.self.inside.segments.items c.args.at c.self.invariant (rw c.self.view_is c.requires) in
    let read : c.index.result.now ≡ get_or c.self.inside.segments.items (c.args.at / 65536) [] = get_or_read c.self.inside.segments.items (c.args.at / 65536) c.index.result.now there c.index.ensures [] in
    c.get.ensures
    ∙ ap (λ s. get_or s (c.args.at % 65536) 0) read
    ∙ sym (word_of_segment c.self.inside.segments.items c.args.at c.self.invariant (rw c.self.view_is c.requires))
    ∙ ap (λ ws. get_or ws c.args.at 0) c.self.view_is

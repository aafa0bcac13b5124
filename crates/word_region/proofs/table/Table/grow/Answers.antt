use Rattle.std.proofs.lemmas.Result.{on_ok_weaker}
use Rattle.word_region.proofs.Joined.{length_of_added, words_of_added}
use Rattle.word_region.proofs.table.Table.grow.Goals as goal

pub returns-else-is_err-clause-longer : goal.returns-else-is_err-clause-longer
returns-else-is_err-clause-longer c =
    on_ok_weaker c.add_segments-grown.result
    (λ l. length_of_added c.self.inside.segments.items c.add_segments-grown.new.segments.items c.args.self.now c.args.more c.self.invariant c.self.view_is (record { full = c.add_segments-grown.ensures.full; kept = c.add_segments-grown.ensures.kept; longer = l }))
    c.add_segments-grown.ensures.longer

pub returns-else-is_err-clause-kept : goal.returns-else-is_err-clause-kept
returns-else-is_err-clause-kept c =
    on_ok_weaker c.add_segments-grown.result
    (λ l. words_of_added c.self.inside.segments.items c.add_segments-grown.new.segments.items c.args.self.now c.self.invariant c.self.view_is c.add_segments-grown.ensures.full c.add_segments-grown.ensures.kept)
    c.add_segments-grown.ensures.longer

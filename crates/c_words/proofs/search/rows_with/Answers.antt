use Rattle.std.proofs.Common.{◌≡◌, ◌-◌, length, take, drop, rules}
use Rattle.std.proofs.lemmas.List.{take_rest}
use Rattle.std.proofs.lemmas.List.Sorted.{IsPartitionPoint-from_clause}
use Rattle.c_tree.specs.Names.{begins_with}
use Rattle.c_words.specs.Search.{begins_below, behind}
use Rattle.c_words.proofs.Narrowing.{below_parted, same_parted, cut_out}
use Rattle.c_words.proofs.search.rows_with.Goals as goal

pub returns : goal.returns
returns g c =
    let spelled = g.T.Named.spelled in
    let rows = c.args.rows.now in
    let start = c.partition_point-start.result in
    let rest = take (length rows - start) (drop start rows) in
    let is : rest ≡ drop start rows = take_rest rows start in
    let low = IsPartitionPoint-from_clause (λ r. begins_below c.args.byte (behind spelled c.args.depth r)) _ _ c.partition_point-start.ensures.partitioned (below_parted spelled c.args.depth c.args.byte rows c.requires) (λ a r q k. search rules) in
    let same = IsPartitionPoint-from_clause (λ r. begins_with c.args.byte (behind spelled c.args.depth r)) _ _ c.partition_point-end.ensures.partitioned (same_parted spelled c.args.depth c.args.byte rows rest start is c.requires low) (λ a r q k. search rules) in
    cut_out spelled c.args.depth c.args.byte rows rest start c.partition_point-end.result is low same

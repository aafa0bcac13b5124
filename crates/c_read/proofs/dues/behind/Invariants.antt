use Rattle.std.proofs.Common.{◌≡◌, map, drop}
use Rattle.c_read.specs.Dues.{row_of, behind}
use Rattle.c_read.proofs.dues.behind.Given as goal

abbrev pub invariant-loop-row : goal.invariant-loop-row
invariant-loop-row l = behind (map row_of (drop l.row-index l.rows)) l.kind ≡ behind (map row_of l.rows) l.kind

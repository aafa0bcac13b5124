use Rattle.std.proofs.Common.{◌≡◌, ◌++◌, drop}
use Rattle.commands.specs.Commands.{parts_of}
use Rattle.commands.proofs.Joins.{onto}
use Rattle.commands.proofs.words.parts.Given as goal

-- the parts so far, and the open part before those of the rest, are those of all
abbrev pub invariant-loop-byte : goal.invariant-loop-byte
invariant-loop-byte l = l.list ++ onto l.part (parts_of l.at (drop l.byte-index l.bytes)) ≡ parts_of l.at l.bytes

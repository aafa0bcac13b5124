use Rattle.std.proofs.Common.{◌≡◌, take, filter}
use Rattle.commands.specs.Commands.{has_bytes}
use Rattle.commands.proofs.words.words.Given as goal

abbrev pub invariant-loop-piece : goal.invariant-loop-piece
invariant-loop-piece l = l.list ≡ filter has_bytes (take l.piece-index l.piece-items)

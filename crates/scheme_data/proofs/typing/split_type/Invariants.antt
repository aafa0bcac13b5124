use Rattle.std.proofs.Common.{◌≡◌, take, drop}
use Rattle.scheme_data.specs.TypedNames.{split}
use Rattle.scheme_data.proofs.TypeSplits.{in_front}
use Rattle.scheme_data.proofs.typing.split_type.Given as goal

abbrev pub invariant-loop-i : goal.invariant-loop-i
invariant-loop-i l = split l.name ≡ in_front (take l.i l.name) (split (drop l.i l.name))

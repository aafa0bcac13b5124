use Rattle.std.proofs.Common.{◌≡◌, drop}
use Rattle.scheme_data.specs.Places.{end, end_from}
use Rattle.scheme_tokens.specs.Tokens.{tokens_from}
use Rattle.scheme_read.proofs.Middle.{IsMiddle}
use Rattle.scheme_read.proofs.read.read.Given as goal

abbrev pub invariant-loop-i : goal.invariant-loop-i
invariant-loop-i l = record {
  middle : IsMiddle l.bytes (tokens_from l.skip l.place (drop l.i l.bytes)) l.reader;
  place : end_from l.place (drop l.i l.bytes) ≡ end l.bytes;
}

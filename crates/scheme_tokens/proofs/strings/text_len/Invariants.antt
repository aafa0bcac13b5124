use Rattle.std.proofs.Common.{◌≡◌, false, drop}
use Rattle.scheme_tokens.specs.Strings.{spelled_len}
use Rattle.scheme_tokens.proofs.Scanning.{ahead}
use Rattle.scheme_tokens.proofs.strings.text_len.Given as goal

abbrev pub invariant-loop-i : goal.invariant-loop-i
invariant-loop-i l = ahead l.i (spelled_len l.escaped (drop l.i l.rest)) ≡ spelled_len false l.rest

use Rattle.scheme_tokens.proofs.Digits.{IsSoFar}
use Rattle.scheme_tokens.proofs.words.digits.Given as goal

abbrev pub invariant-loop-b : goal.invariant-loop-b
invariant-loop-b l = IsSoFar l.text l.b-index l.n

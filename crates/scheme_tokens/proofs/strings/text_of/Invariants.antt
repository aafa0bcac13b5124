use Rattle.std.proofs.Common.{◌≡◌, ◌++◌, false, drop}
use Rattle.scheme_tokens.specs.Strings.{unescaped}
use Rattle.scheme_tokens.proofs.strings.text_of.Given as goal

abbrev pub invariant-loop-b : goal.invariant-loop-b
invariant-loop-b l = l.text ++ unescaped l.escaped (drop l.b-index l.spelling) ≡ unescaped false l.spelling

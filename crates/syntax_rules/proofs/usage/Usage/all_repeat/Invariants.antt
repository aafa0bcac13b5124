use Rattle.std.proofs.Common.{◌≡◌, drop}
use Rattle.scheme_data.specs.Forms.{form}
use Rattle.syntax_rules.specs.Filling.{all_times}
use Rattle.syntax_rules.proofs.usage.Usage.all_repeat.Given as goal

abbrev pub invariant-loop-number : goal.invariant-loop-number
invariant-loop-number l = all_times l.self.paths.now (form l.self.call.now) l.times l.rows l.numbers
    ≡ all_times l.self.paths.now (form l.self.call.now) l.times l.rows (drop l.number-index l.numbers)

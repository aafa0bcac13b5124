use Rattle.scheme_data.specs.Forms.{form}
use Rattle.core_forms.specs.Working.{open_of}
use Rattle.expansion_steps.specs.Heads.{macros_of}
use Rattle.expansion_steps.specs.Steps.{Settles}
use Rattle.expansion_steps.proofs.looking.settle.Given as goal

-- the value so far stands in the place of the first one
abbrev pub invariant-loop : goal.invariant-loop
invariant-loop l = Settles (macros_of l.fn.ks) l.fn.s l.fn.n (form l.fn.datum) l.n (open_of l.value)

use Rattle.expansion_steps.specs.Heads.{macros_of}
use Rattle.expander.specs.Tops.{all_tops}
use Rattle.expander.proofs.TopTurns.{syntax_added}
use Rattle.expander.proofs.expander.Expander.first.Goals as goal

pub returns-in-Syntax-clause-advances : goal.returns-in-Syntax-clause-advances
returns-in-Syntax-clause-advances c =
    rw c.in-Syntax.is (syntax_added (macros_of c.args.self.now.macros) c.args.self.now.counts c.args.forms.now _ (all_tops c.args.tops.now) c.in-Syntax.at c.in-Syntax.name c.add.result c.add.ensures)

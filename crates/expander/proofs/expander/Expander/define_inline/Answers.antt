use Rattle.scheme_data.specs.Forms.{form}
use Rattle.expansion_steps.specs.Heads.{macros_of}
use Rattle.expander.proofs.TopDefines.{inline_refused, inline_made}
use Rattle.expander.proofs.expander.Expander.define_inline.Goals as goal

pub returns-in-None-clause-walked : goal.returns-in-None-clause-walked
returns-in-None-clause-walked c =
    inline_refused (macros_of c.args.self.now.macros) c.args.self.now.counts (form c.args.datum) c.in_ok-special.special c.in_ok-special.ensures c.args.self.now.counts _ c.in_ok-inline_of.ensures c.in-None.is

pub returns-in-Some-clause-walked : goal.returns-in-Some-clause-walked
returns-in-Some-clause-walked c =
    inline_made (macros_of c.args.self.now.macros) c.args.self.now.counts (form c.args.datum) c.in_ok-special.special c.in_ok-special.ensures c.define_lambda.result c.define_lambda.new.self.counts _ c.in-Some.inline c.in_ok-inline_of.ensures c.in-Some.is c.define_lambda.ensures.walked

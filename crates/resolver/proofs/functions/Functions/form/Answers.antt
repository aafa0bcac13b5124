use Rattle.scheme_data.specs.Data.{plain}
use Rattle.resolver.proofs.DefinedForms.{form_is}
use Rattle.resolver.proofs.functions.Functions.form.Goals as goal

pub returns : goal.returns
returns c = form_is c.args.self.now.names.now c.args.self.now.outside.now _ (plain c.args.d.now) c.expression.result c.new-params.ensures c.expression.ensures

use Rattle.std.proofs.Common.{List, ℕ, ap, sym, ◌∙◌}
use Rattle.std.specs.Option.{option_map}
use Rattle.resolver.specs.BuiltHeads.{says}
use Rattle.core_tree.specs.Tree.{tree}
use Rattle.resolver.proofs.DefinedForms.{lambda_missing, lambda_is}
use Rattle.resolver.proofs.functions.Functions.lambda.Goals as goal

pub returns-in_default : goal.returns-in_default
returns-in_default c =
    lambda_missing c.args.self.now.names.now c.args.self.now.outside.now c.args.self.now.head.now.main c.args.first c.args.d.now c.is_main.result
    (c.is_main.ensures ∙ ap (λ (name : List ℕ). says c.args.self.now.head.now.main name) c.as_bytes.ensures)
    (sym (ap (option_map tree) c.in_default.is) ∙ c.in_ok-body.ensures)

pub returns : goal.returns
returns c =
    lambda_is c.args.self.now.names.now c.args.self.now.outside.now c.args.self.now.head.now.main c.args.first c.args.end c.args.d.now c.is_main.result c.in_ok-params.params (tree c.in-Some.body)
    (c.is_main.ensures ∙ ap (λ (name : List ℕ). says c.args.self.now.head.now.main name) c.as_bytes.ensures)
    (sym (ap (option_map tree) c.in-Some.is) ∙ c.in_ok-body.ensures) c.in_ok-params.ensures c.requires

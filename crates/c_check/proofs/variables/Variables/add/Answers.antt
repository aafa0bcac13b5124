use Rattle.std.proofs.Common.{◌∙◌, ◌++◌, ◌∷◌, [], ap, sym, not}
use Rattle.c_check.proofs.Entries.{has-seen, variables-push}
use Rattle.c_check.proofs.variables.Variables.add.Goals as goal

pub add-requires : goal.add-requires
add-requires c = sym c.contains.ensures ∙ c.if-contains.false

pub returns-then-contains-clause-added : goal.returns-then-contains-clause-added
returns-then-contains-clause-added c =
    ap not (sym (has-seen c.as_bytes-name.result.now c.args.var.now.name c.self.inside.types c.args.self.now c.contains.result c.as_bytes-name.ensures c.self.view_is c.contains.ensures ∙ c.if-contains.true))

pub returns-clause-added : goal.returns-clause-added
returns-clause-added c =
    ap not (sym (has-seen c.as_bytes-name.result.now c.args.var.now.name c.self.inside.types c.args.self.now c.contains.result c.as_bytes-name.ensures c.self.view_is c.contains.ensures ∙ c.if-contains.false))

pub returns-clause-ok : goal.returns-clause-ok
returns-clause-ok c =
    variables-push c.as_bytes-name.result.now c.args.var.now c.self.inside.types c.add.new.self c.as_bytes-name.ensures c.in_ok-add.ensures
    ∙ ap (λ l. l ++ c.args.var.now ∷ []) c.self.view_is

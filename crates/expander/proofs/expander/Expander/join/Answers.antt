use Rattle.std.proofs.Common.{refl}
use Rattle.expander.proofs.Groups.{stays_more, names_more, scope_more}
use Rattle.expander.proofs.expander.Expander.join.Goals as goal

pub returns-clause-stays : goal.returns-clause-stays
returns-clause-stays c = stays_more c.args.group.now (record { at = c.args.group.now.at; names = c.insert.new.self; functions = c.push.new.self }) c.args.function c.args.self.now.scope c.enter.new.self c.requires.named refl
    (names_more c.in_ok-insert.field-0 c.args.group.now.names c.insert.new.self c.as_bytes.result.now c.args.function.binder.name c.args.function.binder.mark c.if-not-branch.false c.as_bytes.ensures c.in_ok-insert.ensures.ok)
    (c.in_ok-push.ensures {u = tt}).ok
    (scope_more c.args.self.now.scope c.enter.new.self c.as_bytes-2.result.now c.args.function.binder.name c.args.function.binder.mark c.as_bytes-2.ensures (c.in_ok-enter.ensures {u = tt}).ok)

use Rattle.resolver.proofs.NamedParts.{no_main, main_says}
use Rattle.resolver.proofs.functions.Functions.is_main.Goals as goal

pub returns-in-None : goal.returns-in-None
returns-in-None c = no_main c.args.self.now.head.now.main c.args.name.now c.in-None.is

pub returns-in-Some : goal.returns-in-Some
returns-in-Some c =
    main_says c.args.self.now.head.now.main c.in-Some.main c.as_bytes.result.now c.args.name.now c.name_is.result c.in-Some.is c.as_bytes.ensures c.name_is.ensures

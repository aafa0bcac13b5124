use Rattle.std.proofs.Common.{◌≡◌, List, map, sym, subst}
use Rattle.c_tree.specs.Code.{Item}
use Rattle.c_tree.specs.Functions.{items_of}
use Rattle.c_tree.specs.Spelling.{NamedItems}
use Rattle.plan_rules.specs.Joined.{joined_with}
use Rattle.linker.specs.Modules.{unit_part}
use Rattle.linker.proofs.Programs.{program_is, joined_named}
use Rattle.linker.proofs.joining.joined_program.Goals as goal

pub returns-clause-is : goal.returns-clause-is
returns-clause-is c =
    program_is c.args.units c.as_slice.result.now c.args.function c.in_ok-main.main c.new-items.result c.push.new.self c.push_units.new.items c.into_list.result
    c.as_slice.ensures c.in_ok-main.ensures c.new-items.ensures c.in_ok-push.ensures.ok c.in_ok-push_units.ensures c.into_list.ensures

pub returns-clause-named : goal.returns-clause-named
returns-clause-named c =
    let is : items_of c.into_list.result ≡ joined_with (map unit_part c.args.units) c.args.function =
    program_is c.args.units c.as_slice.result.now c.args.function c.in_ok-main.main c.new-items.result c.push.new.self c.push_units.new.items c.into_list.result
    c.as_slice.ensures c.in_ok-main.ensures c.new-items.ensures c.in_ok-push.ensures.ok c.in_ok-push_units.ensures c.into_list.ensures in
    subst (λ (items : List Item). NamedItems items) (sym is) (joined_named (map unit_part c.args.units) c.args.function c.requires.named c.requires.function_named)

use Rattle.std.proofs.Common.{rules, subst}
use Rattle.std.proofs.lemmas.Fn.{always_returns_same}
use Rattle.prim_table.specs.declared.primitives.Primitive.TheVariants.{Add}
use Rattle.prim_table.proofs.Rising.{ordered, IsFound, searched}
use Rattle.prim_table.proofs.search.found_in.Goals as goal

-- src/search.rt:97:1
pub returns-in-Ok : goal.returns-in-Ok
returns-in-Ok c =
    let facts = c.binary_search_by.ensures in
    let by_name = facts.position (λ p. ordered p c.args.name.now) (always_returns_same _ _ _ (λ a r f called. search rules)) in
    let found = searched c.args.name.now c.args.rising.now c.requires c.binary_search_by.result facts.bound by_name in
    subst (IsFound c.args.name.now c.args.rising.now) c.in-Ok.is found Add

-- src/search.rt:97:1
pub returns-in-Err : goal.returns-in-Err
returns-in-Err c =
    let facts = c.binary_search_by.ensures in
    let by_name = facts.position (λ p. ordered p c.args.name.now) (always_returns_same _ _ _ (λ a r f called. search rules)) in
    let found = searched c.args.name.now c.args.rising.now c.requires c.binary_search_by.result facts.bound by_name in
    subst (IsFound c.args.name.now c.args.rising.now) c.in-Err.is found

use Rattle.std.proofs.Common.{List, get_or}
use Rattle.std.proofs.lemmas.List.{get_or_default}
use Rattle.c_tree.specs.declared.tree.CTy.{CTy}
use Rattle.c_tree.specs.declared.tree.CTy.TheVariants.{Obj}
use Rattle.c_tree.specs.Spelling.{more_types}
use Rattle.c_write.specs.Adds.{apart}
use Rattle.c_write.proofs.Lists.{adds_more, adds_all, more_types-append}
use Rattle.c_write.proofs.Adding.{adds_both, adds_none}
use Rattle.c_write.proofs.item.put_more_types.Goals as goal

pub loop-ty-init : goal.loop-ty-init
loop-ty-init c = adds_none apart c.args.out.now

pub loop-ty-preserved : goal.loop-ty-preserved
loop-ty-preserved c =
    let types : List CTy = c.args.types.now in
    let i = c.loop-ty.ty-index in
    let ty : CTy = get_or types i Obj in
    adds_more more_types more_types-append types i ty c.loop-ty-test.true (get_or_default types i Obj ty c.loop-ty-test.true) c.loop-ty.invariant (adds_both c.in_ok-put_comma.ensures c.in_ok-put_type.ensures)

pub returns : goal.returns
returns c = adds_all more_types c.args.types.now c.loop-ty.ty-index c.loop-ty-test.false c.loop-ty.invariant

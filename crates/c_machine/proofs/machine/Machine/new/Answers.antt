use Rattle.std.proofs.Common.{◌≡◌, sym, ap, ◌∙◌, subst}
use Rattle.std.specs.Prelude.{List}
use Rattle.c_tree.specs.declared.function.CItem.{CItem}
use Rattle.c_tree.specs.declared.function.CProgram.{CProgram}
use Rattle.c_tree.specs.Functions.{items_of}
use Rattle.c_meaning.specs.Checked.{IsChecked}
use Rattle.c_meaning.proofs.PlainChecked.{checked_is_plain}
use Rattle.c_machine.proofs.machine.Machine.new.Goals as goal

pub decode-requires : goal.decode-requires
decode-requires c =
    let items = c.as_slice-items.result.now in
    let same : c.args.p.items ≡ items = sym (c.as_slice-items.ensures ∙ ap (λ (p : CProgram). p.items) c.program.ensures.same) in
    checked_is_plain (items_of items) (subst (λ (is : List CItem). IsChecked (items_of is)) same c.program.ensures.checked) (sym c.is_runnable.ensures ∙ c.if-not-is_runnable.false)

use Rattle.std.proofs.Common.{◌∙◌, refl, sym}
use Rattle.session.specs.Scripts.{usage, sample, memory}
use Rattle.session.proofs.Top.{line_told, script_told}
use Rattle.session.proofs.script.bglc.Goals as goal

pub returns-in-Err-clause-told : goal.returns-in-Err-clause-told
returns-in-Err-clause-told g c = λ m source base c_is l_is w_is. memory refl (record { files_are = c_is; left_is = l_is; written_is = w_is })

pub returns-in-Ok-None-clause-told : goal.returns-in-Ok-None-clause-told
returns-in-Ok-None-clause-told g c = λ m source base c_is l_is w_is. usage (sym (sym c.in-Ok-None.field-0-is ∙ c.in-Ok-None.ensures)) refl (record { files_are = c_is; left_is = l_is; written_is = w_is })

pub returns-in-Ok-clause-told : goal.returns-in-Ok-clause-told
returns-in-Ok-clause-told g c = λ m source base c_is l_is w_is.
    line_told c.in-Ok-Some-Line.command (sym (rw (c.in-Ok-Some-Line.field-0-is, c.in-Ok-Some-Line.field-0-0-is) at c.in-Ok-Some-Line.ensures)) refl l_is (c.in-Ok.ensures.told m source base c_is w_is)

pub returns-in-Ok-Some-Line-clause-told : goal.returns-in-Ok-Some-Line-clause-told
returns-in-Ok-Some-Line-clause-told g c = λ m source base c_is l_is w_is.
    line_told c.in-Ok-Some-Line.command (sym (rw (c.in-Ok-Some-Line.field-0-is, c.in-Ok-Some-Line.field-0-0-is) at c.in-Ok-Some-Line.ensures)) c.answer_for.ensures l_is (c.in-Err-do_one.ensures.told m source base c_is w_is)

pub returns-in-Ok-do_script-clause-told : goal.returns-in-Ok-do_script-clause-told
returns-in-Ok-do_script-clause-told g c = λ m source base c_is l_is w_is.
    script_told c.in-Ok-Some-Do.name (sym (rw (c.in-Ok-Some-Do.field-0-is, c.in-Ok-Some-Do.field-0-0-is) at c.in-Ok-Some-Do.ensures)) refl l_is (c.in-Ok-do_script.ensures.told m source base c_is w_is)

pub returns-in-Ok-Some-Do-clause-told : goal.returns-in-Ok-Some-Do-clause-told
returns-in-Ok-Some-Do-clause-told g c = λ m source base c_is l_is w_is.
    script_told c.in-Ok-Some-Do.name (sym (rw (c.in-Ok-Some-Do.field-0-is, c.in-Ok-Some-Do.field-0-0-is) at c.in-Ok-Some-Do.ensures)) c.answer_for_stop.ensures l_is (c.in-Err-do_script.ensures.told m source base c_is w_is)

pub returns-clause-told : goal.returns-clause-told
returns-clause-told g c = λ m source base c_is l_is w_is.
    sample _ _ _ _ (sym (rw (c.in-Ok-Some-Sample.field-0-is, c.in-Ok-Some-Sample.field-0-0-is) at c.in-Ok-Some-Sample.ensures)) refl (record { files_are = c_is; left_is = l_is; written_is = w_is })

use Rattle.std.proofs.Common.{◌∙◌, ap, map, Ok, Err}
use Rattle.std.proofs.lemmas.Result.{err_from_is_err_and}
use Rattle.session.specs.Works.{reads_of}
use Rattle.session.specs.Scripts.{held}
use Rattle.session.proofs.Lines.{line_no_memory, line_no_files, line_not_performed, line_finished, read_done, files_told, performed, all_stand, read_file_fault, no_read_write_fault, work_write_fault, no_work_file_fault, write_file_fault, no_write_write_fault}
use Rattle.session.proofs.Folding.{rose_since}
use Rattle.session.proofs.line.do_line.Goals as goal

pub returns-in_err-names-clause-told : goal.returns-in_err-names-clause-told
returns-in_err-names-clause-told g c = λ s base agrees.
    let p = err_from_is_err_and c.from_residual.result c.from_residual.ensures.1 in
    rw (p.1, p.2) (line_no_memory c.args.command.now s base _ _ _ agrees.same)

pub returns-in_err-texts-clause-told : goal.returns-in_err-texts-clause-told
returns-in_err-texts-clause-told g c = λ s base agrees.
    let p = err_from_is_err_and c.from_residual-in_err-texts.result c.from_residual-in_err-texts.ensures.1 in
    let told = files_told s _ _ _ agrees.same.files_are c.in_err-texts.ensures.told in
    rw (p.1, p.2) (line_no_files c.args.command.now s base _ _ _ _ _ (record { files_are = c.read_all.ensures.same ∙ agrees.same.files_are; written_is = agrees.same.written_is }) (c.as_slice.ensures ∙ c.in_ok-names.ensures) told)

pub returns-in_err-effect-clause-told : goal.returns-in_err-effect-clause-told
returns-in_err-effect-clause-told g c = λ s base agrees.
    let p = err_from_is_err_and c.from_residual-in_err-effect.result c.from_residual-in_err-effect.ensures.1 in
    let read = read_done s _ _ (reads_of c.args.command.now) _ agrees.same.files_are (c.as_slice.ensures ∙ c.in_ok-names.ensures) c.in_ok-texts.ensures.told in
    let told = performed _ _ _ _ _ _ agrees.same.written_is (c.in_err-effect.ensures.told (map (held s) (reads_of c.args.command.now)) read.1 (all_stand s (reads_of c.args.command.now) agrees.kept)) in
    rw (p.1, p.2) (line_not_performed c.args.command.now s base _ _ _ _ (c.read_all.ensures.same ∙ agrees.same.files_are) read.0 told)

pub returns-in_err-finish-clause-told : goal.returns-in_err-finish-clause-told
returns-in_err-finish-clause-told g c = λ s base agrees.
    let p = err_from_is_err_and c.from_residual-in_err-finish.result c.from_residual-in_err-finish.ensures.1 in
    let read = read_done s _ _ (reads_of c.args.command.now) _ agrees.same.files_are (c.as_slice.ensures ∙ c.in_ok-names.ensures) c.in_ok-texts.ensures.told in
    let told = performed _ _ _ _ _ _ agrees.same.written_is (c.in_ok-effect.ensures.told (map (held s) (reads_of c.args.command.now)) read.1 (all_stand s (reads_of c.args.command.now) agrees.kept)) in
    rw (p.1, p.2) (line_finished c.law.ensures c.args.command.now s base _ _ _ _ _ _ (Err c.in_err-finish.field-0.0) (c.read_all.ensures.same ∙ agrees.same.files_are) agrees.kept agrees.ends_are read.0 told c.in_err-finish.ensures.told)

pub returns-clause-told : goal.returns-clause-told
returns-clause-told g c = λ s base agrees.
    let read = read_done s _ _ (reads_of c.args.command.now) _ agrees.same.files_are (c.as_slice.ensures ∙ c.in_ok-names.ensures) c.in_ok-texts.ensures.told in
    let told = performed _ _ _ _ _ _ agrees.same.written_is (c.in_ok-effect.ensures.told (map (held s) (reads_of c.args.command.now)) read.1 (all_stand s (reads_of c.args.command.now) agrees.kept)) in
    line_finished c.law.ensures c.args.command.now s base _ _ _ _ _ _ (Ok tt) (c.read_all.ensures.same ∙ agrees.same.files_are) agrees.kept agrees.ends_are read.0 told c.in_ok-finish.ensures.told

pub returns-in_err-texts-clause-file_fault : goal.returns-in_err-texts-clause-file_fault
returns-in_err-texts-clause-file_fault g c = λ n is.
    let p = err_from_is_err_and c.from_residual-in_err-texts.result c.from_residual-in_err-texts.ensures.1 in
    c.in_err-texts.ensures.fault n (ap (λ e. Err e) (read_file_fault _ _ _ n p.1 p.2 is))

pub returns-in_err-texts-clause-write_fault : goal.returns-in_err-texts-clause-write_fault
returns-in_err-texts-clause-write_fault g c = λ is.
    let p = err_from_is_err_and c.from_residual-in_err-texts.result c.from_residual-in_err-texts.ensures.1 in
    absurd (no_read_write_fault _ _ _ p.1 p.2 is)

pub returns-in_err-effect-clause-file_fault : goal.returns-in_err-effect-clause-file_fault
returns-in_err-effect-clause-file_fault g c = λ n is.
    let p = err_from_is_err_and c.from_residual-in_err-effect.result c.from_residual-in_err-effect.ensures.1 in
    absurd (no_work_file_fault _ _ _ n p.1 p.2 is)

pub returns-in_err-effect-clause-write_fault : goal.returns-in_err-effect-clause-write_fault
returns-in_err-effect-clause-write_fault g c = λ is.
    let p = err_from_is_err_and c.from_residual-in_err-effect.result c.from_residual-in_err-effect.ensures.1 in
    c.in_err-effect.ensures.fault (ap (λ e. Err e) (work_write_fault _ _ _ p.1 p.2 is))

pub returns-in_err-finish-clause-write_fault : goal.returns-in_err-finish-clause-write_fault
returns-in_err-finish-clause-write_fault g c = λ is.
    let p = err_from_is_err_and c.from_residual-in_err-finish.result c.from_residual-in_err-finish.ensures.1 in
    absurd (no_write_write_fault _ _ _ p.1 p.2 is)

pub returns-in_err-finish-clause-file_fault : goal.returns-in_err-finish-clause-file_fault
returns-in_err-finish-clause-file_fault g c = λ n is.
    let p = err_from_is_err_and c.from_residual-in_err-finish.result c.from_residual-in_err-finish.ensures.1 in
    rose_since _ _ _ c.in_ok-texts.ensures.later (c.in_err-finish.ensures.fault n (ap (λ e. Err e) (write_file_fault _ _ _ n p.1 p.2 is)))

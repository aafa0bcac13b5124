use Rattle.std.proofs.Common.{◌∙◌, refl, ap, List, ◌∷◌, Err}
use Rattle.base_io.specs.Contents.{Bytes}
use Rattle.std.proofs.lemmas.Result.{err_from_is_err_and}
use Rattle.session.proofs.Acting.{cut, blank_done, stops, made, export_makes, compile_makes, link_makes, run_done, export_reads, compile_reads, run_reads, first_text, others_are}
use Rattle.session.proofs.acts.perform.Goals as goal

pub returns-in-Blank-clause-told : goal.returns-in-Blank-clause-told
returns-in-Blank-clause-told g c = λ hs are all. blank_done c.args.command.now hs _ c.in-Blank.is

pub returns-in_err-interface-in-Iface-clause-told : goal.returns-in_err-interface-in-Iface-clause-told
returns-in_err-interface-in-Iface-clause-told g c = λ hs are all.
    let p = err_from_is_err_and c.from_residual.result c.from_residual.ensures.1 in
    let some = export_reads c.args.command.now _ _ _ c.in-Iface.is c.requires in
    let first = first_text hs c.args.texts.now c.as_slice.result.now c.index-as_slice-0.result c.as_bytes.result.now are c.as_slice.ensures some c.index-as_slice-0.is c.as_bytes.ensures in
    stops _ _ _ _ _ _ _ (export_makes c.args.command.now _ _ hs _ _ c.in-Iface.is first) c.in_err-interface-in-Iface.ensures.told (p.1 ∙ ap (λ h. Err h) p.2)

pub returns-in_err-copy-in-Iface-clause-told : goal.returns-in_err-copy-in-Iface-clause-told
returns-in_err-copy-in-Iface-clause-told g c = λ hs are all.
    let p = err_from_is_err_and c.from_residual-in_err-copy-in-Iface.result c.from_residual-in_err-copy-in-Iface.ensures.1 in
    cut c.args.command.now hs _ _ (p.1 ∙ ap (λ h. Err h) p.2)

pub returns-in_ok-copy-in-Iface-clause-told : goal.returns-in_ok-copy-in-Iface-clause-told
returns-in_ok-copy-in-Iface-clause-told g c = λ hs are all.
    let some = export_reads c.args.command.now _ _ _ c.in-Iface.is c.requires in
    let first = first_text hs c.args.texts.now c.as_slice.result.now c.index-as_slice-0.result c.as_bytes.result.now are c.as_slice.ensures some c.index-as_slice-0.is c.as_bytes.ensures in
    made _ _ _ _ _ _ _ (export_makes c.args.command.now _ _ hs _ _ c.in-Iface.is first) c.in_ok-copy-in-Iface.ensures c.in_ok-interface-in-Iface.ensures.told

pub returns-in_err-ifaces-in-Compile-clause-told : goal.returns-in_err-ifaces-in-Compile-clause-told
returns-in_err-ifaces-in-Compile-clause-told g c = λ hs are all.
    let p = err_from_is_err_and c.from_residual-in_err-ifaces-in-Compile.result c.from_residual-in_err-ifaces-in-Compile.ensures.1 in
    cut c.args.command.now hs _ _ (p.1 ∙ ap (λ h. Err h) p.2)

pub returns-in_err-object-in-Compile-clause-told : goal.returns-in_err-object-in-Compile-clause-told
returns-in_err-object-in-Compile-clause-told g c = λ hs are all.
    let p = err_from_is_err_and c.from_residual-in_err-object-in-Compile.result c.from_residual-in_err-object-in-Compile.ensures.1 in
    let some = compile_reads c.args.command.now _ _ _ _ c.in-Compile.is c.requires in
    let first = first_text hs c.args.texts.now c.as_slice-in-Compile-2.result.now c.index-as_slice-0-in-Compile.result c.as_bytes-in-Compile.result.now are c.as_slice-in-Compile-2.ensures some c.index-as_slice-0-in-Compile.is c.as_bytes-in-Compile.ensures in
    let others = others_are c.args.texts.now c.as_slice-in-Compile.result.now c.in_ok-ifaces-in-Compile.ifaces c.as_slice-in-Compile.ensures c.in_ok-ifaces-in-Compile.ensures in
    stops _ _ _ _ _ _ _ (compile_makes c.args.command.now _ _ _ hs _ _ _ c.in-Compile.is first others) c.in_err-object-in-Compile.ensures.told (p.1 ∙ ap (λ h. Err h) p.2)

pub returns-in_err-copy-in-Compile-clause-told : goal.returns-in_err-copy-in-Compile-clause-told
returns-in_err-copy-in-Compile-clause-told g c = λ hs are all.
    let p = err_from_is_err_and c.from_residual-in_err-copy-in-Compile.result c.from_residual-in_err-copy-in-Compile.ensures.1 in
    cut c.args.command.now hs _ _ (p.1 ∙ ap (λ h. Err h) p.2)

pub returns-in_ok-copy-in-Compile-clause-told : goal.returns-in_ok-copy-in-Compile-clause-told
returns-in_ok-copy-in-Compile-clause-told g c = λ hs are all.
    let some = compile_reads c.args.command.now _ _ _ _ c.in-Compile.is c.requires in
    let first = first_text hs c.args.texts.now c.as_slice-in-Compile-2.result.now c.index-as_slice-0-in-Compile.result c.as_bytes-in-Compile.result.now are c.as_slice-in-Compile-2.ensures some c.index-as_slice-0-in-Compile.is c.as_bytes-in-Compile.ensures in
    let others = others_are c.args.texts.now c.as_slice-in-Compile.result.now c.in_ok-ifaces-in-Compile.ifaces c.as_slice-in-Compile.ensures c.in_ok-ifaces-in-Compile.ensures in
    made _ _ _ _ _ _ _ (compile_makes c.args.command.now _ _ _ hs _ _ _ c.in-Compile.is first others) c.in_ok-copy-in-Compile.ensures c.in_ok-object-in-Compile.ensures.told

pub returns-in_err-program-in-Link-clause-told : goal.returns-in_err-program-in-Link-clause-told
returns-in_err-program-in-Link-clause-told g c = λ hs are all.
    let p = err_from_is_err_and c.from_residual-in_err-program-in-Link.result c.from_residual-in_err-program-in-Link.ensures.1 in
    stops _ _ _ _ _ _ _ (link_makes c.args.command.now _ _ _ hs c.in-Link.is are) c.in_err-program-in-Link.ensures.told (p.1 ∙ ap (λ h. Err h) p.2)

pub returns-in_err-copy-in-Link-clause-told : goal.returns-in_err-copy-in-Link-clause-told
returns-in_err-copy-in-Link-clause-told g c = λ hs are all.
    let p = err_from_is_err_and c.from_residual-in_err-copy-in-Link.result c.from_residual-in_err-copy-in-Link.ensures.1 in
    cut c.args.command.now hs _ _ (p.1 ∙ ap (λ h. Err h) p.2)

pub returns-in_ok-copy-in-Link-clause-told : goal.returns-in_ok-copy-in-Link-clause-told
returns-in_ok-copy-in-Link-clause-told g c = λ hs are all.
    made _ _ _ _ _ _ _ (link_makes c.args.command.now _ _ _ hs c.in-Link.is are) c.in_ok-copy-in-Link.ensures c.in_ok-program-in-Link.ensures.told

pub returns-in_err-words-in-Run-clause-told : goal.returns-in_err-words-in-Run-clause-told
returns-in_err-words-in-Run-clause-told g c = λ hs are all.
    let p = err_from_is_err_and c.from_residual-in_err-words-in-Run.result c.from_residual-in_err-words-in-Run.ensures.1 in
    cut c.args.command.now hs _ _ (p.1 ∙ ap (λ h. Err h) p.2)

pub returns-in_err-end-in-Run-clause-told : goal.returns-in_err-end-in-Run-clause-told
returns-in_err-end-in-Run-clause-told g c = λ hs are all.
    let p = err_from_is_err_and c.from_residual-in_err-end-in-Run.result c.from_residual-in_err-end-in-Run.ensures.1 in
    let some = run_reads c.args.command.now _ _ _ _ c.in-Run.is c.requires in
    let first = first_text hs c.args.texts.now c.as_slice-in-Run-2.result.now c.index-as_slice-0-in-Run.result c.as_bytes-in-Run.result.now are c.as_slice-in-Run-2.ensures some c.index-as_slice-0-in-Run.is c.as_bytes-in-Run.ensures in
    run_done c.args.command.now _ _ _ _ hs _ _ _ _ _ _ c.in-Run.is (c.in_ok-words-in-Run.ensures ∙ ap (λ (l : List Bytes). c.in-Run.program ∷ l) c.as_slice-in-Run.ensures) first all c.in_err-end-in-Run.ensures.told (p.1 ∙ ap (λ h. Err h) p.2)

pub returns-in_ok-end-in-Run-clause-told : goal.returns-in_ok-end-in-Run-clause-told
returns-in_ok-end-in-Run-clause-told g c = λ hs are all.
    let some = run_reads c.args.command.now _ _ _ _ c.in-Run.is c.requires in
    let first = first_text hs c.args.texts.now c.as_slice-in-Run-2.result.now c.index-as_slice-0-in-Run.result c.as_bytes-in-Run.result.now are c.as_slice-in-Run-2.ensures some c.index-as_slice-0-in-Run.is c.as_bytes-in-Run.ensures in
    run_done c.args.command.now _ _ _ _ hs _ _ _ _ _ _ c.in-Run.is (c.in_ok-words-in-Run.ensures ∙ ap (λ (l : List Bytes). c.in-Run.program ∷ l) c.as_slice-in-Run.ensures) first all c.in_ok-end-in-Run.ensures.told refl

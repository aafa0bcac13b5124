use Rattle.std.proofs.Common.{sym, ◌∙◌, ap}
use Rattle.std.proofs.lemmas.Result.{err_from_is_err_and}
use Rattle.std.proofs.lemmas.Result.{on_ok_weaker}
use Rattle.code_gen.specs.Emission.{step_of}
use Rattle.code_gen.proofs.Delivered.{gives_kept, gives_made}
use Rattle.code_gen.proofs.nodes.as_word.Goals as goal

pub returns-in-Keep : goal.returns-in-Keep
returns-in-Keep c = on_ok_weaker c.deliver.result
    (λ puts. gives_kept c.args.e.now c.deliver.new.self c.args.has c.args.call c.args.target (sym (ap step_of c.in-Keep.is) ∙ c.coercion_to.ensures) puts)
    c.deliver.ensures

pub returns-in_ok-word-in-Make : goal.returns-in_ok-word-in-Make
returns-in_ok-word-in-Make c = on_ok_weaker c.deliver-in-Make.result
    (λ puts. gives_made c.args.e.now c.store.new.self c.deliver-in-Make.new.self c.args.has c.in-Make.op c.args.call c.args.target c.in_ok-held-in-Make.held c.in_ok-word-in-Make.word
    (sym (ap step_of c.in-Make.is) ∙ c.coercion_to.ensures) c.in_ok-held-in-Make.ensures c.in_ok-word-in-Make.ensures puts)
    c.deliver-in-Make.ensures

pub returns-in_err-held-in-Make : goal.returns-in_err-held-in-Make
returns-in_err-held-in-Make c =
    let p = err_from_is_err_and c.from_residual.result c.from_residual.ensures.1 in
    rw (p.1) tt

pub returns-in_err-word-in-Make : goal.returns-in_err-word-in-Make
returns-in_err-word-in-Make c =
    let p = err_from_is_err_and c.from_residual-in_err-word-in-Make.result c.from_residual-in_err-word-in-Make.ensures.1 in
    rw (p.1) tt

use Rattle.std.proofs.Common.{◌≡◌, ◌++◌, Some, sym, ◌∙◌, ap}
use Rattle.std.specs.Prelude.{take, drop}
use Rattle.std.proofs.lemmas.Bool.Decides.{Decides-eqb}
use Rattle.std.proofs.lemmas.Slice.Eq.{strip_prefix_is}
use Rattle.object_text.proofs.Cuts.{no_front, no_symbol, run_named}
use Rattle.object_text.proofs.names.named_after.Goals as goal

pub returns-in_err-after-clause-none : goal.returns-in_err-after-clause-none
returns-in_err-after-clause-none c = rw c.from_residual.ensures (no_front c.args.bytes.now c.args.front.now c.in_err-after.ensures.cases)

pub returns-then-not-has_symbol_form-clause-none : goal.returns-then-not-has_symbol_form-clause-none
returns-then-not-has_symbol_form-clause-none c =
    let e : c.args.bytes.now ≡ c.args.front.now ++ c.in_ok-after.after.now = strip_prefix_is Decides-eqb c.args.bytes.now c.args.front.now (Some c.in_ok-after.after) c.in_ok-after.ensures.cases in
    no_symbol c.args.bytes.now c.args.front.now c.in_ok-after.after.now c.split_at.result.0.now c.split_at.result.1.now e
    (c.split_at.ensures.front ∙ ap (λ k. take k c.in_ok-after.after.now) c.symbol_len.ensures.value)
    (sym c.has_symbol_form.ensures ∙ c.if-not-has_symbol_form.true)

pub returns-clause-some : goal.returns-clause-some
returns-clause-some c =
    let e : c.args.bytes.now ≡ c.args.front.now ++ c.in_ok-after.after.now = strip_prefix_is Decides-eqb c.args.bytes.now c.args.front.now (Some c.in_ok-after.after) c.in_ok-after.ensures.cases in
    run_named c.args.bytes.now c.args.front.now c.in_ok-after.after.now c.split_at.result.0.now c.split_at.result.1.now e
    (c.split_at.ensures.front ∙ ap (λ k. take k c.in_ok-after.after.now) c.symbol_len.ensures.value)
    (c.split_at.ensures.back ∙ ap (λ k. drop k c.in_ok-after.after.now) c.symbol_len.ensures.value)
    (sym c.has_symbol_form.ensures ∙ c.if-not-has_symbol_form.false)

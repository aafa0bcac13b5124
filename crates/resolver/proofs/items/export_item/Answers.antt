use Rattle.std.proofs.Common.{ℕ, List, codes, sym, ap, ◌∙◌}
use Rattle.std.proofs.lemmas.Result.{err_from_is_err_and}
use Rattle.resolver.specs.BuiltHeads.{is_word}
use Rattle.resolver.proofs.ItemParts.{export_is}
use Rattle.resolver.proofs.items.export_item.Goals as goal

pub returns : goal.returns
returns c =
    export_is _ c.in-Some.ds.now _ _ _ c.in-Some.ensures c.in-len1-up.len_at_least c.first-item.is c.in-Some-untyped_name.ensures c.in_ok-copy.ensures
    (sym (c.name_is.ensures ∙ ap (λ (name : List ℕ). is_word name (codes "inline")) c.as_bytes.ensures) ∙ c.if-name_is.false)
    (sym c.are_names.ensures ∙ c.if-not-are_names.false)

pub returns-in_err-copy : goal.returns-in_err-copy
returns-in_err-copy c =
    let p = err_from_is_err_and c.from_residual.result c.from_residual.ensures.1 in
    rw (p.1) tt

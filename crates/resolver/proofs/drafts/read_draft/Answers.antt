use Rattle.std.proofs.Common.{List, Some, map, sym, ap, ◌∙◌}
use Rattle.std.specs.Option.{option_map}
use Rattle.resolver.specs.Trees.{head_tree}
use Rattle.resolver.specs.declared.tops.TopForm.{TopForm}
use Rattle.resolver.specs.Parts.{top_of}
use Rattle.resolver.proofs.Sources.{source_is}
use Rattle.resolver.proofs.drafts.read_draft.Goals as goal

pub returns : goal.returns
returns c =
    source_is c.args.forms.now c.first-item.result (head_tree c.in-Some.head) (map top_of c.as_slice.result.now) c.draft_of.result c.in-len1-up.len_at_least c.first-item.is
    (sym (ap (option_map head_tree) c.in-Some.is) ∙ c.in_ok-head.ensures)
    (ap (λ (ts : List TopForm). Some (map top_of ts)) c.as_slice.ensures ∙ sym (ap (option_map (map top_of)) c.in-Some-2.is) ∙ c.in_ok-tops.ensures)
    c.draft_of.ensures

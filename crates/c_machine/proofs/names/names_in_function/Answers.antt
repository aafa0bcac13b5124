use Rattle.std.proofs.Common.{◌++◌, sym, ap, ◌∙◌}
use Rattle.std.proofs.lemmas.List.{map-append}
use Rattle.scheme_data.specs.Names.{are_distinct}
use Rattle.c_tree.specs.declared.tree.CVar.{CVar}
use Rattle.c_machine.specs.Decoded.{variable_names}
use Rattle.c_machine.proofs.Distinct.{distinct_front}
use Rattle.c_machine.proofs.names.names_in_function.Goals as goal

pub add_variables-requires : goal.add_variables-requires
add_variables-requires c =
    let f = c.args.f.now in
    let both = map-append (λ (v : CVar). v.name) f.params f.locals in
    ap (λ n. are_distinct (n ++ variable_names c.as_slice.result.now)) c.new-names.ensures
    ∙ ap (λ n. are_distinct (variable_names n)) c.as_slice.ensures
    ∙ distinct_front (variable_names f.params) (variable_names f.locals) (ap are_distinct (sym both) ∙ c.requires)

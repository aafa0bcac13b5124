use Rattle.std.proofs.Common.{List, ap, sym, ◌∙◌}
use Rattle.std.specs.Option.{option_map}
use Rattle.scheme_data.specs.Data.{plain_all}
use Rattle.scheme_data.specs.declared.datum.Datum.{Datum}
use Rattle.iface_text.specs.Format.{iface_tree}
use Rattle.resolver.specs.Drafts.{exported}
use Rattle.unit_compile.proofs.Units.{is_exported, not_exported}
use Rattle.unit_compile.proofs.export.make_iface.Goals as goal

pub returns-in-Some-clause-value : goal.returns-in-Some-clause-value
returns-in-Some-clause-value c =
    is_exported c.args.source.now c.in_ok-forms.forms c.in-Some.interface c.in_ok-write_iface-in-Some.field-0 c.in_ok-forms.ensures.value.read c.in_ok-forms.ensures.value.read_once
    (ap (option_map iface_tree) (sym c.in-Some.is) ∙ (c.in_ok-interface.ensures.value ∙ ap (λ (ds : List Datum). exported (plain_all ds)) c.as_slice.ensures))
    (rw c.in-Some.is at c.in_ok-interface.ensures.spelled) c.in_ok-write_iface-in-Some.ensures

pub returns-clause-value : goal.returns-clause-value
returns-clause-value c =
    not_exported c.args.source.now c.in_ok-forms.forms c.in_ok-forms.ensures.value.read c.in_ok-forms.ensures.value.read_once c.in_ok-forms.ensures.value.are_right
    (ap (option_map iface_tree) (sym c.in-None.is) ∙ (c.in_ok-interface.ensures.value ∙ ap (λ (ds : List Datum). exported (plain_all ds)) c.as_slice.ensures))

use Rattle.std.proofs.Common.{None, Some, ap, ◌∙◌}
use Rattle.iface_text.specs.declared.interface.Row.{Row}
use Rattle.linker.proofs.Places.{no_module, row_is}
use Rattle.linker.proofs.modules.Modules.current_row.Goals as goal

pub returns-in_err-place : goal.returns-in_err-place
returns-in_err-place c =
    rw c.from_residual.ensures (no_module c.args.self.now.objects.items c.args.used.now c.args.self.now.names c.as_bytes.result.now c.args.self.now.named (c.as_bytes.ensures ∙ c.used_module.ensures) c.in_err-place.ensures)

pub returns-in_err-row : goal.returns-in_err-row
returns-in_err-row c =
    rw c.from_residual-in_err-row.ensures
    (row_is c.args.self.now.objects.items c.deref.result.now c.args.used.now c.args.self.now.names c.in_ok-indexed.indexed.now.exported c.as_bytes.result.now c.as_bytes-2.result.now c.in_ok-place.place c.in_ok-indexed.indexed.now None
    c.args.self.now.named (c.as_bytes.ensures ∙ c.used_module.ensures) c.in_ok-place.ensures c.deref.ensures.value c.in_ok-indexed.ensures.lookup.3.0 c.in_ok-indexed.ensures.lookup.1 c.in_ok-indexed.indexed.now.named (c.as_bytes-2.ensures ∙ ap (λ (r : Row). r.name) c.used_row.ensures) c.in_err-row.ensures)

pub returns : goal.returns
returns c =
    c.get-2.ensures
    ∙ row_is c.args.self.now.objects.items c.deref.result.now c.args.used.now c.args.self.now.names c.in_ok-indexed.indexed.now.exported c.as_bytes.result.now c.as_bytes-2.result.now c.in_ok-place.place c.in_ok-indexed.indexed.now (Some c.in_ok-row.row)
    c.args.self.now.named (c.as_bytes.ensures ∙ c.used_module.ensures) c.in_ok-place.ensures c.deref.ensures.value c.in_ok-indexed.ensures.lookup.3.0 c.in_ok-indexed.ensures.lookup.1 c.in_ok-indexed.indexed.now.named (c.as_bytes-2.ensures ∙ ap (λ (r : Row). r.name) c.used_row.ensures) c.in_ok-row.ensures

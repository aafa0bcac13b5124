use Rattle.std.proofs.Common.{List, ℕ, ◌++◌, ap, ◌∙◌}
use Rattle.iface_text.specs.declared.interface.Row.{Row}
use Rattle.core_tree.specs.declared.tree.ImportItem.{ImportItem}
use Rattle.core_tree.specs.declared.tree.Use.{Use}
use Rattle.object_text.specs.Format.{object_tree}
use Rattle.object_text.specs.Header.{import_text, use_text, export_text}
use Rattle.object_text.specs.Parts.{texts}
use Rattle.object_text.proofs.Writings.{header_written}
use Rattle.object_text.proofs.header.write_header.Goals as goal

pub returns : goal.returns
returns c =
    header_written (object_tree c.args.o.now) c.args.text.now c.extend.new.self c.extend-2.new.self c.push.new.self c.write_run.new.text c.write_run-2.new.text c.write_run-3.new.text c.write_main.new.text c.extend-3.new.self
    c.in_ok-extend.ensures.ok
    (c.in_ok-extend-2.ensures.ok ∙ ap (λ (x : List ℕ). c.extend.new.self ++ x) c.as_bytes.ensures)
    c.in_ok-push.ensures.ok
    (c.in_ok-write_run.ensures ∙ ap (λ (is : List ImportItem). c.push.new.self ++ texts import_text is) c.as_slice.ensures)
    (c.in_ok-write_run-2.ensures ∙ ap (λ (us : List Use). c.write_run.new.text ++ texts use_text us) c.as_slice-2.ensures)
    (c.in_ok-write_run-3.ensures ∙ ap (λ (es : List Row). c.write_run-2.new.text ++ texts export_text es) c.as_slice-3.ensures)
    c.in_ok-write_main.ensures
    c.in_ok-extend-3.ensures.ok

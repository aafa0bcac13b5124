use Rattle.std.proofs.Common.{List, ℕ, ◌++◌, ap, ◌∙◌}
use Rattle.object_text.specs.Header.{name_text}
use Rattle.object_text.specs.Parts.{texts}
use Rattle.object_text.proofs.Writings.{import_written}
use Rattle.object_text.proofs.lines.write_import.Goals as goal

pub returns : goal.returns
returns c =
    import_written c.args.item.now c.args.text.now c.extend.new.self c.extend-2.new.self c.write_run.new.text c.push.new.self
    c.in_ok-extend.ensures.ok
    (c.in_ok-extend-2.ensures.ok ∙ ap (λ (x : List ℕ). c.extend.new.self ++ x) c.as_bytes.ensures)
    (c.in_ok-write_run.ensures ∙ ap (λ (ns : List (List ℕ)). c.extend-2.new.self ++ texts name_text ns) c.as_slice.ensures)
    c.in_ok-push.ensures.ok

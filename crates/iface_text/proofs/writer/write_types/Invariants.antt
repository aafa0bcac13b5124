use Rattle.std.proofs.Common.{◌≡◌, ◌++◌, drop}
use Rattle.iface_text.specs.Format.{more_types, types_text}
use Rattle.iface_text.proofs.writer.write_types.Given as goal

abbrev pub invariant-loop-ty : goal.invariant-loop-ty
invariant-loop-ty l = l.text ++ more_types (drop l.ty-index l.others) ≡ l.fn.text ++ types_text l.types

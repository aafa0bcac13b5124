-- Worked rows: the texts of small interfaces.
use Rattle.std.specs.Prelude.{◌≡◌, List, [], ◌∷◌, codes, refl}
use Rattle.iface_text.specs.declared.interface.Row.{Row}
use Rattle.iface_text.specs.Format.{IfaceTree, spelling}
use Rattle.iface_text.specs.Lines.{untyped_row}

-- of the module a
abbrev pub exporting : List Row → IfaceTree
exporting rows = record { module_name = codes "a"; rows = rows }

one_parameter : spelling (exporting (untyped_row (codes "f") 1 ∷ [])) ≡ codes "bigloo-interface 1\nmodule a\nfun f (obj) obj\nend\n"
one_parameter = refl

no_rows : spelling (exporting []) ≡ codes "bigloo-interface 1\nmodule a\nend\n"
no_rows = refl

several_rows : spelling (exporting (untyped_row (codes "f") 0 ∷ untyped_row (codes "g") 3 ∷ [])) ≡ codes "bigloo-interface 1\nmodule a\nfun f () obj\nfun g (obj obj obj) obj\nend\n"
several_rows = refl

-- Names that may be defined, bound or imported, and the words of special forms.
use Rattle.std.specs.Prelude.{ℕ, is_some, List, [], ◌∷◌, codes, Bool, not, ◌&&◌, ◌||◌}
use Rattle.std.specs.List.{list_any}
use Rattle.built_table.specs.Table.{prim_named}
use Rattle.resolver.specs.BuiltHeads.{is_word, has_type}

-- the primitives that are built are neither defined, bound nor imported
abbrev pub is_primitive_name : List ℕ → Bool
is_primitive_name name = is_some (prim_named name)

-- the words of special forms are not defined
abbrev pub core_forms : List (List ℕ)
core_forms =
    codes "quote" ∷ codes "lambda" ∷ codes "if" ∷ codes "set!" ∷ codes "begin" ∷ codes "let" ∷ codes "letrec" ∷ codes "bind-exit" ∷ codes "unwind-protect" ∷ []

abbrev pub derived_forms : List (List ℕ)
derived_forms = codes "let*" ∷ codes "cond" ∷ codes "case" ∷ codes "and" ∷ codes "or" ∷ codes "when" ∷ codes "unless" ∷ codes "do" ∷ []

abbrev pub top_forms : List (List ℕ)
top_forms = codes "define" ∷ codes "define-inline" ∷ codes "define-syntax" ∷ []

abbrev pub is_special : List ℕ → Bool
is_special name = list_any (is_word name) core_forms || (list_any (is_word name) derived_forms || list_any (is_word name) top_forms)

abbrev pub is_defined_name : List ℕ → Bool
is_defined_name name = not (has_type name) && (not (is_primitive_name name) && not (is_special name))

abbrev pub is_bound_name : List ℕ → Bool
is_bound_name name = not (has_type name) && not (is_primitive_name name)

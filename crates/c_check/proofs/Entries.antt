-- What a look-up in a table's entries gives.
use Rattle.std.proofs.Common.{◌≡◌, ℕ, Bool, true, false, ◌||◌, cond, List, [], ◌∷◌, ◌++◌, Option, Some, None, is_some, refl, sym, ap, ◌∙◌}
use Rattle.std.proofs.lemmas.List.{map-append}
use Rattle.std.specs.Option.{option_map}
use Rattle.std.specs.Map.{lookup}
use Rattle.std.specs.Cmp.Lexicographic.{nat_list_eq_equiv, bytes_decides}
use Rattle.scheme_data.specs.Names.{is_same}
use Rattle.c_tree.specs.declared.tree.CTy.{CTy}
use Rattle.c_tree.specs.declared.tree.CVar.{CVar}
use Rattle.c_meaning.specs.Plain.{signature_named, variable_named}
use Rattle.c_check.specs.Entries.{variable_of_entry, variables_of_entries, signature_of_entry, signatures_of_entries}
use Rattle.c_check.specs.Keys.{has_key}
use Rattle.c_check.specs.Signatures.{signed}
use Rattle.c_meaning.specs.Breaches.{type_of}
use Rattle.c_check.specs.Variables.{has_variable}
use Rattle.c_check.specs.declared.declared.Shape.{Shape}

-- Variables -------------------------------------------------------------------------------------

pub type-lookup : (name : List ℕ) (es : List (List ℕ × CTy)) → lookup (is_same name) es ≡ type_of (variable_named (variables_of_entries es) name)
type-lookup name [] = refl
type-lookup name (e ∷ es) =
    (λ i. cond (nat_list_eq_equiv.symm name e.0 i) (Some e.1) (type-lookup name es i))
    ∙ by (is_same e.0 name)
  where
    by : (b : Bool) → cond b (Some e.1) (type_of (variable_named (variables_of_entries es) name)) ≡ type_of (cond b (Some (variable_of_entry e)) (variable_named (variables_of_entries es) name))
    by true = refl
    by false = refl

pub has-lookup : (name : List ℕ) (es : List (List ℕ × CTy)) → is_some (lookup (is_same name) es) ≡ has_variable (variables_of_entries es) name
has-lookup name [] = refl
has-lookup name (e ∷ es) = by (is_same name e.0) ∙ ap (λ b. is_same name e.0 || b) (has-lookup name es)
  where
    by : (b : Bool) → is_some (cond b (Some e.1) (lookup (is_same name) es)) ≡ (b || is_some (lookup (is_same name) es))
    by true = refl
    by false = refl

-- and where the table is seen as variables
pub has-seen : (name named : List ℕ) (es : List (List ℕ × CTy)) (vars : List CVar) (b : Bool) → name ≡ named → variables_of_entries es ≡ vars → b ≡ is_some (lookup (is_same name) es) → has_variable vars named ≡ b
has-seen name named es vars b same seen is = sym (is ∙ has-lookup name es ∙ (λ i. has_variable (seen i) (same i)))

pub variables-push : (key : List ℕ) (v : CVar) (old new : List (List ℕ × CTy)) → key ≡ v.name → new ≡ old ++ (key, v.ty) ∷ [] → variables_of_entries new ≡ variables_of_entries old ++ v ∷ []
variables-push key v old new is at =
    ap variables_of_entries at ∙ map-append variable_of_entry old ((key, v.ty) ∷ [])
    ∙ ap (λ n. variables_of_entries old ++ (let w : CVar = record { ty = v.ty; name = n } in w) ∷ []) is

-- Signatures ------------------------------------------------------------------------------------

pub shape-lookup : (name : List ℕ) (es : List (List ℕ × Shape)) → option_map (signed name) (lookup (is_same name) es) ≡ signature_named (signatures_of_entries es) name
shape-lookup name [] = refl
shape-lookup name (e ∷ es) =
    by (is_same name e.0) refl
    ∙ (λ i. cond (nat_list_eq_equiv.symm name e.0 i) (Some (signature_of_entry e)) (shape-lookup name es i))
  where
    by : (b : Bool) → is_same name e.0 ≡ b → option_map (signed name) (cond b (Some e.1) (lookup (is_same name) es)) ≡ cond b (Some (signature_of_entry e)) (option_map (signed name) (lookup (is_same name) es))
    by true h = ap (λ n. Some (signed n e.1)) ((bytes_decides name e.0).0 h)
    by false h = refl

map-none : (name : List ℕ) (o : Option Shape) → option_map (signed name) o ≡ None → o ≡ None
map-none name None h = refl
map-none name (Some x) h = absurd (cc)

pub no-shape : (name : List ℕ) (es : List (List ℕ × Shape)) → signature_named (signatures_of_entries es) name ≡ None → has_key name es ≡ false
no-shape name es absent = ap is_some (map-none name (lookup (is_same name) es) (shape-lookup name es ∙ absent))

pub signatures-push : (name : List ℕ) (shape : Shape) (old new : List (List ℕ × Shape)) → new ≡ old ++ (name, shape) ∷ [] → signatures_of_entries new ≡ signatures_of_entries old ++ signed name shape ∷ []
signatures-push name shape old new at = ap signatures_of_entries at ∙ map-append signature_of_entry old ((name, shape) ∷ [])

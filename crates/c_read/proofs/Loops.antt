-- One more in a list, as it is spelled.
use Rattle.std.proofs.Common.{◌≡◌, ◌<◌, List, [], ◌∷◌, ◌++◌, length, Some, None, refl, sym, ap, ◌∙◌, arith}
use Rattle.std.proofs.lemmas.List.{map-append}
use Rattle.std.specs.Prelude.{IsTrue}
use Rattle.c_tree.specs.declared.tree.CTy.{CTy}
use Rattle.c_tree.specs.declared.tree.CArg.{CArg}
use Rattle.c_tree.specs.declared.tree.CVar.{CVar}
use Rattle.c_tree.specs.declared.function.CItem.{CItem}
use Rattle.c_tree.specs.Lexical.{Token, Word, Mark}
use Rattle.c_tree.specs.Names.{is_local_name}
use Rattle.c_tree.specs.Code.{Item, external, global, declared, defined}
use Rattle.c_tree.specs.Functions.{item_of, items_of}
use Rattle.c_tree.specs.Spelling.{
  type_text,
  argument_tokens_of,
  more_arguments,
  argument_tokens,
  code_tokens,
  more_types,
  type_tokens,
  more_params,
  param_tokens,
  local_tokens,
  item_tokens,
  items_tokens,
  NamedArgument,
  NamedArguments,
  NamedVars,
  NamedItem,
  NamedItems,
}
use Rattle.c_read.specs.Productions.{at_end}
use Rattle.c_read.proofs.Extends.{argument_longer, code_extends, types_extends, params_extends, locals_extends}

pub fewer : (old new : List Token) (t : Token) → old ≡ t ∷ new → length new < length old
fewer old new t e = let l : length old ≡ length (t ∷ new) = ap length e in omega arith

pub fewer_by_two : (old new : List Token) (t u : Token) → old ≡ t ∷ u ∷ new → length new < length old
fewer_by_two old new t u e = let l : length old ≡ length (t ∷ u ∷ new) = ap length e in omega arith

pub fewer_by_three : (old new : List Token) (t u v : Token) → old ≡ t ∷ u ∷ v ∷ new → length new < length old
fewer_by_three old new t u v e = let l : length old ≡ length (t ∷ u ∷ v ∷ new) = ap length e in omega arith

-- Arguments

more_arguments_more : (args : List CArg) (a : CArg) (rest : List Token) → more_arguments (args ++ a ∷ []) rest ≡ more_arguments args (Mark 44 ∷ argument_tokens_of a rest)
more_arguments_more [] a rest = refl
more_arguments_more (b ∷ args) a rest = ap (λ ts. Mark 44 ∷ argument_tokens_of b ts) (more_arguments_more args a rest)

pub arguments_more : (args : List CArg) (a : CArg) (rest : List Token) → 0 < length args → argument_tokens (args ++ a ∷ []) rest ≡ argument_tokens args (Mark 44 ∷ argument_tokens_of a rest)
arguments_more [] a rest l = absurd (omega arith)
arguments_more (b ∷ args) a rest l = ap (argument_tokens_of b) (more_arguments_more args a rest)

pub named_arguments_more : (args : List CArg) (a : CArg) → NamedArguments args → NamedArgument a → NamedArguments (args ++ a ∷ [])
named_arguments_more [] a h k = (k, tt)
named_arguments_more (b ∷ args) a h k = (h.0, named_arguments_more args a h.1 k)

pub argument_fewer : (old new : List Token) (a : CArg) → old ≡ Mark 44 ∷ argument_tokens_of a new → length new < length old
argument_fewer old new a e = let l : length old ≡ length (Mark 44 ∷ argument_tokens_of a new) = ap length e in omega (arith, argument_longer a new)

-- Types

more_types_more : (ts : List CTy) (t : CTy) (rest : List Token) → more_types (ts ++ t ∷ []) rest ≡ more_types ts (Mark 44 ∷ Word (type_text t) ∷ rest)
more_types_more [] t rest = refl
more_types_more (u ∷ ts) t rest = ap (λ tokens. Mark 44 ∷ Word (type_text u) ∷ tokens) (more_types_more ts t rest)

pub types_more : (ts : List CTy) (t : CTy) (rest : List Token) → 0 < length ts → type_tokens (ts ++ t ∷ []) rest ≡ type_tokens ts (Mark 44 ∷ Word (type_text t) ∷ rest)
types_more [] t rest l = absurd (omega arith)
types_more (u ∷ ts) t rest l = ap (λ tokens. Word (type_text u) ∷ tokens) (more_types_more ts t rest)

-- Variables

more_params_more : (vs : List CVar) (v : CVar) (rest : List Token) → more_params (vs ++ v ∷ []) rest ≡ more_params vs (Mark 44 ∷ Word (type_text v.ty) ∷ Word v.name ∷ rest)
more_params_more [] v rest = refl
more_params_more (u ∷ vs) v rest = ap (λ tokens. Mark 44 ∷ Word (type_text u.ty) ∷ Word u.name ∷ tokens) (more_params_more vs v rest)

pub params_more : (vs : List CVar) (v : CVar) (rest : List Token) → 0 < length vs → param_tokens (vs ++ v ∷ []) rest ≡ param_tokens vs (Mark 44 ∷ Word (type_text v.ty) ∷ Word v.name ∷ rest)
params_more [] v rest l = absurd (omega arith)
params_more (u ∷ vs) v rest l = ap (λ tokens. Word (type_text u.ty) ∷ Word u.name ∷ tokens) (more_params_more vs v rest)

pub locals_more : (vs : List CVar) (v : CVar) (rest : List Token) → local_tokens (vs ++ v ∷ []) rest ≡ local_tokens vs (Word (type_text v.ty) ∷ Word v.name ∷ Mark 59 ∷ rest)
locals_more [] v rest = refl
locals_more (u ∷ vs) v rest = ap (λ tokens. Word (type_text u.ty) ∷ Word u.name ∷ Mark 59 ∷ tokens) (locals_more vs v rest)

pub named_vars_more : (vs : List CVar) (v : CVar) → NamedVars vs → IsTrue (is_local_name v.name) → NamedVars (vs ++ v ∷ [])
named_vars_more [] v h k = (k, tt)
named_vars_more (u ∷ vs) v h k = (h.0, named_vars_more vs v h.1 k)

-- Items

pub items_more : (is : List CItem) (i : CItem) (rest : List Token) → items_tokens (items_of (is ++ i ∷ [])) rest ≡ items_tokens (items_of is) (item_tokens (item_of i) rest)
items_more [] i rest = refl
items_more (j ∷ is) i rest = ap (item_tokens (item_of j)) (items_more is i rest)

pub named_items_more : (is : List CItem) (i : CItem) → NamedItems (items_of is) → NamedItem (item_of i) → NamedItems (items_of (is ++ i ∷ []))
named_items_more [] i h k = (k, tt)
named_items_more (j ∷ is) i h k = (h.0, named_items_more is i h.1 k)

pub item_longer : (i : Item) (rest : List Token) → length rest < length (item_tokens i rest)
item_longer (external v) rest = omega arith
item_longer (global v) rest = omega arith
item_longer (declared t name params) rest = omega (arith, (types_extends params (Mark 41 ∷ Mark 59 ∷ rest)).longer)
item_longer (defined f) rest =
    let a = (code_extends f.code (Mark 125 ∷ rest)).longer in
    let b = (locals_extends f.locals (code_tokens f.code (Mark 125 ∷ rest))).longer in
    let c = (params_extends f.params (Mark 41 ∷ Mark 123 ∷ local_tokens f.locals (code_tokens f.code (Mark 125 ∷ rest)))).longer in
    omega (arith, a, b, c)

pub item_fewer : (old new : List Token) (i : Item) → old ≡ item_tokens i new → length new < length old
item_fewer old new i e = rw e (item_longer i new)

pub items_of_more : (is is' : List CItem) (i : CItem) → is' ≡ is ++ i ∷ [] → items_of is' ≡ items_of is ++ item_of i ∷ []
items_of_more is is' i e = ap items_of e ∙ map-append item_of is (i ∷ [])

-- The lists as a loop has them

abbrev pub spelled_items : List CItem → List Token → List Token
spelled_items is rest = items_tokens (items_of is) rest

abbrev pub NamedList : List CItem → Type 0
NamedList is = NamedItems (items_of is)

pub not_at_end : (ts : List Token) → (ts ≡ [] → ⊥) → at_end ts ≡ None
not_at_end [] n = absurd (n refl)
not_at_end (t ∷ ts) n = refl

pub is_at_end : (ts : List Token) → ts ≡ [] → at_end ts ≡ Some ts
is_at_end ts e = ap at_end e ∙ ap Some (sym e)

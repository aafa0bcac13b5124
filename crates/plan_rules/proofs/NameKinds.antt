-- What a function of a unit is, by its name: a function of the module, its maker or its initialisation. No two modules share a name.
use Rattle.std.proofs.Common.{◌≡◌, ℕ, true, false, List, [], ◌∷◌, refl, sym, ap, ◌∙◌}
use Rattle.std.specs.List.{list_any}
use Rattle.std.specs.Cmp.Lexicographic.{bytes_decides}
use Rattle.std.proofs.lemmas.Bool.{false_from_ne_true}
use Rattle.scheme_data.specs.Names.{are_distinct, is_same}
use Rattle.c_tree.specs.Names.{function_name, maker_name, initializer_name, is_main, is_maker}
use Rattle.c_meaning.specs.Plain.{Maker, Initializer, Function, role_of, is_called_once}
use Rattle.plan_rules.specs.Translation.{Name}
use Rattle.c_tree.proofs.CNames.{function_name_parts, maker_name_part, initializer_name_part}

-- Roles -------------------------------------------------------------------------------------

pub function_role : (m n : List ℕ) → role_of (function_name m n) ≡ Function
unfolding function_name
function_role m n = refl

pub function_not_main : (m n : List ℕ) → is_main (function_name m n) ≡ false
unfolding function_name
function_not_main m n = refl

pub maker_role : (m : List ℕ) → role_of (maker_name m) ≡ Maker
unfolding maker_name
maker_role m = refl

pub initializer_role : (m : List ℕ) → role_of (initializer_name m) ≡ Initializer
unfolding initializer_name
initializer_role m = refl

-- Names that differ -------------------------------------------------------------------------

-- what a unit defines behind the module's functions
abbrev pub last_names : List ℕ → List (List ℕ)
last_names m = maker_name m ∷ initializer_name m ∷ []

pub function_not_maker : (m k n : List ℕ) → is_same (function_name k n) (maker_name m) ≡ false
unfolding function_name maker_name
function_not_maker m k n = refl

pub function_not_initializer : (m k n : List ℕ) → is_same (function_name k n) (initializer_name m) ≡ false
unfolding function_name initializer_name
function_not_initializer m k n = refl

pub maker_not_initializer : (m : List ℕ) → is_same (maker_name m) (initializer_name m) ≡ false
unfolding maker_name initializer_name
maker_not_initializer m = refl

pub last_other : (m n : List ℕ) → list_any (is_same (function_name m n)) (last_names m) ≡ false
unfolding function_name maker_name initializer_name
last_other m n = refl

pub last_distinct : (m : List ℕ) → are_distinct (last_names m) ≡ true
unfolding maker_name initializer_name
last_distinct m = refl

pub other_name : (a b : Name) → (a ≡ b → ⊥) → is_same a b ≡ false
other_name a b ne = false_from_ne_true (is_same a b) (λ e. ne ((bytes_decides a b).0 e))

-- Kinds of names ----------------------------------------------------------------------------

pub other_kinds : (m k : Name) → maker_name m ≡ initializer_name k → ⊥
unfolding maker_name initializer_name
other_kinds m k e = absurd (let bad : true ≡ false = ap is_maker e in cc)

-- makers and initialisations are called once, and functions are not
pub maker_is_once : (m : Name) → is_called_once (maker_name m) ≡ true
unfolding maker_name
maker_is_once m = refl

pub initializer_is_once : (m : Name) → is_called_once (initializer_name m) ≡ true
unfolding initializer_name
initializer_is_once m = refl

pub function_not_once : (m f : Name) → is_called_once (function_name m f) ≡ false
unfolding function_name
function_not_once m f = refl

pub never_once : (n m f : Name) → n ≡ function_name m f → is_called_once n ≡ true → ⊥
never_once n m f named once = absurd (let bad : false ≡ true = sym (function_not_once m f) ∙ sym (ap is_called_once named) ∙ once in cc)

-- The names that a unit defines -------------------------------------------------------------

pub data NameOf (m n : Name) : Type 0 where
  a_function : (f : Name) → n ≡ function_name m f → NameOf m n
  a_maker : n ≡ maker_name m → NameOf m n
  an_initializer : n ≡ initializer_name m → NameOf m n

pub same_module : (m k n : Name) → NameOf m n → NameOf k n → m ≡ k
same_module m k n (a_function f e) (a_function g d) = (function_name_parts m f k g (sym e ∙ d)).0
same_module m k n (a_maker e) (a_maker d) = maker_name_part m k (sym e ∙ d)
same_module m k n (an_initializer e) (an_initializer d) = initializer_name_part m k (sym e ∙ d)
same_module m k n (a_function f e) (a_maker d) = absurd (never_once n m f e (ap is_called_once d ∙ maker_is_once k))
same_module m k n (a_function f e) (an_initializer d) = absurd (never_once n m f e (ap is_called_once d ∙ initializer_is_once k))
same_module m k n (a_maker e) (a_function g d) = absurd (never_once n k g d (ap is_called_once e ∙ maker_is_once m))
same_module m k n (an_initializer e) (a_function g d) = absurd (never_once n k g d (ap is_called_once e ∙ initializer_is_once m))
same_module m k n (a_maker e) (an_initializer d) = absurd (other_kinds m k (sym e ∙ d))
same_module m k n (an_initializer e) (a_maker d) = absurd (other_kinds k m (sym d ∙ e))

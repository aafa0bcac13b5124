-- What a name is, by its first letter, and which calls may stand in functions of a role.
use Rattle.std.proofs.Common.{◌≡◌, ◌⊎◌, inl, inr, ℕ, Bool, true, false, not, ◌&&◌, ◌||◌, List, [], ◌∷◌, ◌++◌, refl, sym, ap, ◌∙◌, arith}
use Rattle.std.specs.Prelude.{filter, nat_eq, if◌then◌else◌}
use Rattle.std.specs.List.{list_all, list_any}
use Rattle.std.specs.Cmp.Lexicographic.{bytes_decides}
use Rattle.std.proofs.lemmas.Bool.{and_parts, false_from_ne_true, eqb-true}
use Rattle.std.proofs.lemmas.List.{append-nil}
use Rattle.std.proofs.lemmas.List.Elements.{filter-append}
use Rattle.scheme_data.specs.Names.{are_distinct, is_same}
use Rattle.c_tree.specs.Names.{is_prefixed, is_of_module, is_symbol_or_number, is_mangled_symbol, is_numeral, is_module_function, is_entry_name, is_maker_name, is_initializer_name, is_main, is_function_name, is_local_name, is_maker, is_initializer, is_entry}
use Rattle.c_meaning.specs.Plain.{Role, Main, Maker, Initializer, Entry, Function, role_of, may_call as may_name, is_called_once}
use Rattle.c_meaning.specs.Breaches.{may_call}
use Rattle.c_meaning.proofs.Tests.{swapped, are_fresh, fresh_distinct}
use Rattle.c_meaning.proofs.CodeBreaches.{may_all}

-- First letters -----------------------------------------------------------------------------

abbrev first : List ℕ → ℕ
first [] = 0
first (a ∷ bs) = a

prefixed_first : (letter : ℕ) (is_rest : List ℕ → Bool) (n : List ℕ) → is_prefixed letter is_rest n ≡ true → first n ≡ letter
prefixed_first letter is_rest [] h = absurd (cc)
prefixed_first letter is_rest (a ∷ []) h = absurd (cc)
prefixed_first letter is_rest (a ∷ b ∷ rest) h = eqb-true a letter (and_parts (nat_eq a letter) (nat_eq b 95 && is_rest rest) h).0

main_first : (n : List ℕ) → is_main n ≡ true → first n ≡ 109
main_first n h = ap first ((bytes_decides n (109 ∷ 97 ∷ 105 ∷ 110 ∷ [])).0 h)

local_first : (n : List ℕ) → is_local_name n ≡ true → first n ≡ 120
unfolding is_local_name
local_first [] h = absurd (cc)
local_first (a ∷ bs) h = eqb-true a 120 (and_parts (nat_eq a 120) (is_numeral bs) h).0

or_either : (a b : Bool) → (a || b) ≡ true → (a ≡ true) ⊎ (b ≡ true)
or_either true b h = inl refl
or_either false b h = inr h

function_first : (n : List ℕ) → is_function_name n ≡ true → first n ≡ 120 → ⊥
unfolding is_function_name is_module_function is_entry_name is_maker_name is_initializer_name
function_first n h x = go (or_either (is_module_function n) (is_entry_name n || (is_maker_name n || (is_initializer_name n || is_main n))) h)
  where
    from_main : is_main n ≡ true → ⊥
    from_main k = let q = main_first n k in omega (arith, q, x)

    from_initializer : (is_initializer_name n || is_main n) ≡ true → ⊥
    from_initializer k = elim (or_either (is_initializer_name n) (is_main n) k) [ inl e ↦ (let q = prefixed_first 105 is_mangled_symbol n e in omega (arith, q, x)) | inr e ↦ from_main e ]

    from_maker : (is_maker_name n || (is_initializer_name n || is_main n)) ≡ true → ⊥
    from_maker k = elim (or_either (is_maker_name n) (is_initializer_name n || is_main n) k) [ inl e ↦ (let q = prefixed_first 99 is_mangled_symbol n e in omega (arith, q, x)) | inr e ↦ from_initializer e ]

    from_entry : (is_entry_name n || (is_maker_name n || (is_initializer_name n || is_main n))) ≡ true → ⊥
    from_entry k = elim (or_either (is_entry_name n) (is_maker_name n || (is_initializer_name n || is_main n)) k) [ inl e ↦ (let q = prefixed_first 101 (is_of_module is_symbol_or_number) n e in omega (arith, q, x)) | inr e ↦ from_maker e ]

    go : (is_module_function n ≡ true) ⊎ ((is_entry_name n || (is_maker_name n || (is_initializer_name n || is_main n))) ≡ true) → ⊥
    go (inl e) = let q = prefixed_first 102 (is_of_module is_symbol_or_number) n e in omega (arith, q, x)
    go (inr e) = from_entry e

-- a local's name is no function's
pub function_no_local : (n x : List ℕ) → is_function_name n ≡ true → is_local_name x ≡ true → is_same n x ≡ false
function_no_local n x f l = false_from_ne_true (is_same n x) (λ e. function_first n f (ap first ((bytes_decides n x).0 e) ∙ local_first x l))

once_first : (n : List ℕ) → is_called_once n ≡ true → first n ≡ 120 → ⊥
once_first n h x = elim (or_either (is_maker n) (is_initializer n) h) [ inl e ↦ (let q = prefixed_first 99 _ n e in omega (arith, q, x)) | inr e ↦ (let q = prefixed_first 105 _ n e in omega (arith, q, x)) ]

-- and no maker's and no initialisation's
pub once_no_local : (n x : List ℕ) → is_called_once n ≡ true → is_local_name x ≡ true → is_same n x ≡ false
once_no_local n x f l = false_from_ne_true (is_same n x) (λ e. once_first n f (ap first ((bytes_decides n x).0 e) ∙ local_first x l))

-- Roles -------------------------------------------------------------------------------------

abbrev pub is_once_role : Role → Bool
is_once_role Maker = true
is_once_role Initializer = true
is_once_role _ = false

abbrev pub is_main_role : Role → Bool
is_main_role Main = true
is_main_role _ = false

abbrev pub is_entry_role : Role → Bool
is_entry_role Entry = true
is_entry_role _ = false

abbrev role_by : Bool → Bool → Bool → Bool → Role
role_by m k i e = if m then Main else (if k then Maker else (if i then Initializer else (if e then Entry else Function)))

once_by : (m k i e : Bool) → (m ≡ true → k ≡ false) → (m ≡ true → i ≡ false) → (k || i) ≡ is_once_role (role_by m k i e)
once_by true k i e not_maker not_initializer = (λ j. not_maker refl j || not_initializer refl j)
once_by false true i e not_maker not_initializer = refl
once_by false false true e not_maker not_initializer = refl
once_by false false false true not_maker not_initializer = refl
once_by false false false false not_maker not_initializer = refl

main_apart : (letter : ℕ) (is_rest : List ℕ → Bool) (n : List ℕ) → (109 ≡ letter → ⊥) → is_main n ≡ true → is_prefixed letter is_rest n ≡ false
main_apart letter is_rest n other h = false_from_ne_true (is_prefixed letter is_rest n) (λ e. other (sym (main_first n h) ∙ prefixed_first letter is_rest n e))

pub once_role : (n : List ℕ) → is_called_once n ≡ is_once_role (role_of n)
once_role n = once_by (is_main n) (is_maker n) (is_initializer n) (is_entry n) (main_apart 99 _ n (λ e. omega (arith, e))) (main_apart 105 _ n (λ e. omega (arith, e)))

main_by : (m k i e : Bool) → is_main_role (role_by m k i e) ≡ m
main_by true k i e = refl
main_by false true i e = refl
main_by false false true e = refl
main_by false false false true = refl
main_by false false false false = refl

pub main_role : (n : List ℕ) → is_main_role (role_of n) ≡ is_main n
main_role n = main_by (is_main n) (is_maker n) (is_initializer n) (is_entry n)

entry_by : (m k i e : Bool) → (e ≡ true → m ≡ false) → (e ≡ true → k ≡ false) → (e ≡ true → i ≡ false) → is_entry_role (role_by m k i e) ≡ e
entry_by true k i true a b c = absurd (let q = a refl in cc)
entry_by false true i true a b c = absurd (let q = b refl in cc)
entry_by false false true true a b c = absurd (let q = c refl in cc)
entry_by false false false true a b c = refl
entry_by true k i false a b c = refl
entry_by false true i false a b c = refl
entry_by false false true false a b c = refl
entry_by false false false false a b c = refl

pub entry_role : (n : List ℕ) → is_entry_role (role_of n) ≡ is_entry n
entry_role n =
    entry_by (is_main n) (is_maker n) (is_initializer n) (is_entry n)
    (λ h. false_from_ne_true (is_main n) (λ e. let p = prefixed_first 101 _ n h in let q = main_first n e in omega (arith, p, q)))
    (λ h. false_from_ne_true (is_maker n) (λ e. let p = prefixed_first 101 _ n h in let q = prefixed_first 99 _ n e in omega (arith, p, q)))
    (λ h. false_from_ne_true (is_initializer n) (λ e. let p = prefixed_first 101 _ n h in let q = prefixed_first 105 _ n e in omega (arith, p, q)))

-- Calls -------------------------------------------------------------------------------------

-- a call of this name, whatever was called before
abbrev pub may : Role → List ℕ → Bool
may role n = may_name role (role_of n)

-- the roles whose calls don't depend on earlier ones
abbrev pub is_steady : Role → Bool
is_steady Maker = true
is_steady Initializer = true
is_steady Function = true
is_steady _ = false

steady_call : (role other : Role) (called : List (List ℕ)) (n : List ℕ) → is_steady role ≡ true → may_call role called n other ≡ may_name role other
steady_call Maker Main called n h = refl
steady_call Maker Maker called n h = refl
steady_call Maker Initializer called n h = refl
steady_call Maker Entry called n h = refl
steady_call Maker Function called n h = refl
steady_call Initializer Main called n h = refl
steady_call Initializer Maker called n h = refl
steady_call Initializer Initializer called n h = refl
steady_call Initializer Entry called n h = refl
steady_call Initializer Function called n h = refl
steady_call Function Main called n h = refl
steady_call Function Maker called n h = refl
steady_call Function Initializer called n h = refl
steady_call Function Entry called n h = refl
steady_call Function Function called n h = refl
steady_call Main other called n h = absurd (cc)
steady_call Entry other called n h = absurd (cc)

pub steady_calls : (role : Role) (called ns : List (List ℕ)) → is_steady role ≡ true → may_all role called ns ≡ list_all (may role) ns
steady_calls role called [] h = refl
steady_calls role called (n ∷ ns) h = (λ i. steady_call role (role_of n) called n h i && steady_calls role (called ++ n ∷ []) ns h i)

-- `main` calls each maker and each initialisation once
abbrev once : List (List ℕ) → List (List ℕ)
once ns = filter is_called_once ns

pub once_same : (n : List ℕ) (called : List (List ℕ)) → is_called_once n ≡ true → list_any (is_same n) (once called) ≡ list_any (is_same n) called
once_same n [] h = refl
once_same n (m ∷ called) h = go (is_called_once m) refl (once_same n called h)
  where
    go : (b : Bool) → is_called_once m ≡ b → list_any (is_same n) (once called) ≡ list_any (is_same n) called → list_any (is_same n) (if b then m ∷ once called else once called) ≡ (is_same n m || list_any (is_same n) called)
    go true e later = ap (λ c. is_same n m || c) later
    go false e later =
        let other : is_same n m ≡ false = false_from_ne_true (is_same n m) (λ q. let w : true ≡ false = sym h ∙ ap is_called_once ((bytes_decides n m).0 q) ∙ e in absurd (cc)) in
        later ∙ ap (λ c. c || list_any (is_same n) called) (sym other)

once_more : (called : List (List ℕ)) (n : List ℕ) (b : Bool) → is_called_once n ≡ b → once (called ++ n ∷ []) ≡ once called ++ (if b then n ∷ [] else [])
once_more called n b e = filter-append is_called_once called (n ∷ []) ∙ ap (λ c. once called ++ (if c then n ∷ [] else [])) e

once_first_is : (n : List ℕ) (ns : List (List ℕ)) (b : Bool) → is_called_once n ≡ b → once (n ∷ ns) ≡ (if b then n ∷ once ns else once ns)
once_first_is n ns b e = ap (λ c. if c then n ∷ once ns else once ns) e

pub main_calls : (called ns : List (List ℕ)) → may_all Main called ns ≡ (list_all (may Main) ns && are_fresh (once called) (once ns))
main_calls called [] = refl
main_calls called (n ∷ ns) = go (role_of n) (once_role n) (main_calls (called ++ n ∷ []) ns)
  where
    -- a call that is counted
    counted : is_called_once n ≡ true → may_all Main (called ++ n ∷ []) ns ≡ (list_all (may Main) ns && are_fresh (once (called ++ n ∷ [])) (once ns))
        → (not (list_any (is_same n) called) && may_all Main (called ++ n ∷ []) ns) ≡ ((true && list_all (may Main) ns) && are_fresh (once called) (once (n ∷ ns)))
    counted e h =
        (λ i. not (sym (once_same n called e) i) && (h ∙ ap (λ l. list_all (may Main) ns && are_fresh l (once ns)) (once_more called n true e)) i)
        ∙ swapped (not (list_any (is_same n) (once called))) (list_all (may Main) ns) (are_fresh (once called ++ n ∷ []) (once ns))
        ∙ ap (λ l. list_all (may Main) ns && are_fresh (once called) l) (sym (once_first_is n ns true e))

    go : (r : Role) → is_called_once n ≡ is_once_role r → may_all Main (called ++ n ∷ []) ns ≡ (list_all (may Main) ns && are_fresh (once (called ++ n ∷ [])) (once ns))
        → (may_call Main called n r && may_all Main (called ++ n ∷ []) ns) ≡ ((may_name Main r && list_all (may Main) ns) && are_fresh (once called) (once (n ∷ ns)))
    go Main e h = refl
    go Entry e h = refl
    go Maker e h = counted e h
    go Initializer e h = counted e h
    go Function e h =
        h
        ∙ ap (λ l. list_all (may Main) ns && are_fresh l (once ns)) (once_more called n false e ∙ append-nil (once called))
        ∙ ap (λ l. list_all (may Main) ns && are_fresh (once called) l) (sym (once_first_is n ns false e))

pub main_calls_at : (ns : List (List ℕ)) → may_all Main [] ns ≡ (list_all (may Main) ns && are_distinct (once ns))
main_calls_at ns = main_calls [] ns ∙ ap (λ b. list_all (may Main) ns && b) (fresh_distinct (once ns))

-- Which signatures a name has after some items, and when two of them are the same.
use Rattle.std.proofs.Common.{◌≡◌, List, [], ◌∷◌, ◌++◌, Bool, true, false, Some, refl, sym, ap, ◌∙◌}
use Rattle.std.specs.Prelude.{◌&&◌, ◌||◌, if◌then◌else◌}
use Rattle.std.specs.List.{list_any}
use Rattle.std.proofs.lemmas.Bool.{and_from, and_parts}
use Rattle.std.specs.Cmp.Lexicographic.{nat_list_eq_equiv}
use Rattle.scheme_data.specs.Names.{is_same}
use Rattle.c_tree.specs.declared.tree.CTy.{CTy}
use Rattle.c_tree.specs.declared.tree.CTy.TheVariants.{Obj, Long, Char, Int}
use Rattle.c_tree.specs.Code.{Item, external, global, declared, defined}
use Rattle.c_meaning.specs.Plain.{Signature, signature_of, same_type, same_types, same_signature, signature_named, agrees, item_fits, items_fit, defined_names}
use Rattle.plan_rules.specs.Translation.{Name}

-- the signatures after these items, the newest first
abbrev pub after : List Item → List Signature → List Signature
after [] sigs = sigs
after (i ∷ is) sigs = after is (signature_of i ∷ sigs)

-- Tests of equal signatures -----------------------------------------------------------------

type_itself : (t : CTy) → same_type t t ≡ true
type_itself Obj = refl
type_itself Long = refl
type_itself Char = refl
type_itself Int = refl

types_itself : (ts : List CTy) → same_types ts ts ≡ true
types_itself [] = refl
types_itself (t ∷ ts) = and_from (same_type t t) (same_types ts ts) (type_itself t) (types_itself ts)

pub signature_same : (s t : Signature) → s.result ≡ t.result → s.params ≡ t.params → same_signature s t ≡ true
signature_same s t result params =
    and_from (same_type s.result t.result) (same_types s.params t.params)
    (ap (same_type s.result) (sym result) ∙ type_itself s.result)
    (ap (same_types s.params) (sym params) ∙ types_itself s.params)

-- Look-up -----------------------------------------------------------------------------------

abbrev has_signature : List Signature → Name → Bool
has_signature sigs n = list_any (λ s. is_same s.name n) sigs

-- the signature of a name
pub record Signed (sigs : List Signature) (n : Name) : Type 0 where
  pub s : Signature
  pub at : signature_named sigs n ≡ Some s

signed : (sigs : List Signature) (n : Name) → has_signature sigs n ≡ true → Signed sigs n
signed [] n e = absurd (cc)
signed (s ∷ sigs) n e = go (is_same s.name n) refl e (λ e1. signed sigs n e1)
  where
    go : (b : Bool) → is_same s.name n ≡ b → (b || has_signature sigs n) ≡ true → (has_signature sigs n ≡ true → Signed sigs n) → Signed (s ∷ sigs) n
    go true eb q later = record { s = s; at = ap (λ b. if b then Some s else signature_named sigs n) eb }
    go false eb q later = let h = later q in record { s = h.s; at = ap (λ b. if b then Some s else signature_named sigs n) eb ∙ h.at }

pub or_later : (a b : Bool) → b ≡ true → (a || b) ≡ true
or_later true b e = refl
or_later false b e = e

stays_signed : (items : List Item) (sigs : List Signature) (n : Name) → has_signature sigs n ≡ true → has_signature (after items sigs) n ≡ true
stays_signed [] sigs n e = e
stays_signed (i ∷ is) sigs n e = stays_signed is (signature_of i ∷ sigs) n (or_later (is_same (signature_of i).name n) (has_signature sigs n) e)

-- a name at the front, or among the others
front_has : (s : Signature) (is : List Item) (sigs : List Signature) (n : Name) → (is_same n s.name || list_any (is_same n) (defined_names is)) ≡ true → (list_any (is_same n) (defined_names is) ≡ true → has_signature (after is (s ∷ sigs)) n ≡ true) → has_signature (after is (s ∷ sigs)) n ≡ true
front_has s is sigs n e later = go (is_same n s.name) refl e
  where
    go : (b : Bool) → is_same n s.name ≡ b → (b || list_any (is_same n) (defined_names is)) ≡ true → has_signature (after is (s ∷ sigs)) n ≡ true
    go true eb q = stays_signed is (s ∷ sigs) n (ap (λ b. b || has_signature sigs n) (nat_list_eq_equiv.symm s.name n ∙ eb))
    go false eb q = later q

defined_has : (items : List Item) (sigs : List Signature) (n : Name) → list_any (is_same n) (defined_names items) ≡ true → has_signature (after items sigs) n ≡ true
defined_has [] sigs n e = absurd (cc)
defined_has (external v ∷ is) sigs n e = defined_has is (signature_of (external v) ∷ sigs) n e
defined_has (global v ∷ is) sigs n e = front_has (signature_of (global v)) is sigs n e (λ e1. defined_has is (signature_of (global v) ∷ sigs) n e1)
defined_has (declared t k ps ∷ is) sigs n e = defined_has is (signature_of (declared t k ps) ∷ sigs) n e
defined_has (defined g ∷ is) sigs n e = front_has (signature_of (defined g)) is sigs n e (λ e1. defined_has is (signature_of (defined g) ∷ sigs) n e1)

-- what is defined has a signature
pub defined_signed : (items : List Item) (n : Name) → list_any (is_same n) (defined_names items) ≡ true → Signed (after items []) n
defined_signed items n e = signed (after items []) n (defined_has items [] n e)

-- Two texts, one after the other ------------------------------------------------------------

-- items fit, and then others after them
pub fit_both : (names : List Name) (xs ys : List Item) (sigs : List Signature) → items_fit names sigs xs ≡ true → items_fit names (after xs sigs) ys ≡ true → items_fit names sigs (xs ++ ys) ≡ true
fit_both names [] ys sigs e f = f
fit_both names (x ∷ xs) ys sigs e f =
    let here = agrees sigs (signature_of x) && item_fits names (signature_of x ∷ sigs) x in
    let parts = and_parts here (items_fit names (signature_of x ∷ sigs) xs) e in
    and_from here (items_fit names (signature_of x ∷ sigs) (xs ++ ys)) parts.0 (fit_both names xs ys (signature_of x ∷ sigs) parts.1 f)

pub defined_both : (xs ys : List Item) → defined_names (xs ++ ys) ≡ defined_names xs ++ defined_names ys
defined_both [] ys = refl
defined_both (external v ∷ xs) ys = defined_both xs ys
defined_both (global v ∷ xs) ys = ap (λ names. v.name ∷ names) (defined_both xs ys)
defined_both (declared t n ps ∷ xs) ys = defined_both xs ys
defined_both (defined g ∷ xs) ys = ap (λ names. g.name ∷ names) (defined_both xs ys)

-- What a table that is filled from its last row on finds.
use Rattle.std.proofs.Common.{◌≡◌, ℕ, suc, ◌-◌, ◌<◌, ◌≤◌, Bool, true, false, cond, List, [], ◌∷◌, length, get_or, map, drop, Option, None, Some, refl, sym, ap, subst, ◌∙◌, true≢false, arith, drop-cons}
use Rattle.std.specs.Borrow.{Bor}
use Rattle.std.specs.Cmp.Lexicographic.{slice_cmp, nat_list_eq_equiv, bytes_decides, texts_ties}
use Rattle.std.specs.Map.{lookup}
use Rattle.std.specs.Option.{option_map, option_and_then, option_copied}
use Rattle.std.specs.BTreeMap.{insert_entry}
use Rattle.std.specs.Ordering.{is_eq, nat_cmp, eq_by_cmp, match_ordering}
use Rattle.std.specs.declared.cmp.Ordering.{Ordering}
use Rattle.std.specs.declared.cmp.Ordering.TheVariants.{Less, Equal, Greater}
use Rattle.iface_text.specs.declared.interface.Iface.{Iface}
use Rattle.iface_text.specs.declared.interface.Row.{Row}
use Rattle.iface_text.specs.Format.{IfaceTree, iface_tree}
use Rattle.resolver.specs.BuiltHeads.{is_word}
use Rattle.resolver.specs.Elaboration.{interface_named, row_in, row_for}
use Rattle.resolver.specs.UseTables.{Key, is_key, row_named, HaveSameRows, rows_of, AreNamed, ifaces_of, OfferSameRows}

-- the order of keys
abbrev pub key_cmp : Key → Key → Ordering
key_cmp a b = slice_cmp nat_cmp a.now b.now

abbrev pub same_key : Key → Key → Bool
same_key a b = eq_by_cmp (slice_cmp nat_cmp) a.now b.now

-- a key with this name
abbrev pub key_of : List ℕ → Key
key_of name = record { ref_ptr = (0, 0); now = name }

-- the order of two names in a test doesn't matter
pub turned : (k : Key) (name : List ℕ) → is_word k.now name ≡ is_key name k
turned k name = nat_list_eq_equiv.symm k.now name ∙ texts_ties name k.now

pub map-cond : {A B : Type 0} (f : A → B) (b : Bool) (x y : Option A) → option_map f (cond b x y) ≡ cond b (option_map f x) (option_map f y)
map-cond f true x y = refl
map-cond f false x y = refl

-- Rows --------------------------------------------------------------------------------------

abbrev pub row_at : List (Key × Bor Row) → List ℕ → Option Row
row_at es name = option_map (λ r. r.now) (lookup (is_key name) es)

pub record HasRows (es : List (Key × Bor Row)) (rows : List Row) : Type 0 where
  pub named : AreNamed es
  pub found : (name : List ℕ) → row_at es name ≡ row_named rows name

pub named_put : (es : List (Key × Bor Row)) (k : Key) (r : Bor Row) → k.now ≡ r.now.name → AreNamed es → AreNamed (insert_entry key_cmp es k r)
named_put [] k r own h = (own, tt)
named_put (e ∷ es) k r own h = by (named_put es k r own h.1) (key_cmp k e.0) refl
  where
    by : AreNamed (insert_entry key_cmp es k r) → (o : Ordering) → key_cmp k e.0 ≡ o → AreNamed (match_ordering o ((k, r) ∷ e ∷ es) ((e.0, r) ∷ es) (e ∷ insert_entry key_cmp es k r))
    by later Less is = (own, h)
    by later Equal is = (sym ((bytes_decides k.now e.0.now).0 (texts_ties k.now e.0.now ∙ ap is_eq is)) ∙ own, h.1)
    by later Greater is = (h.0, later)

-- the table's rows as a list
pub rows_found : (es : List (Key × Bor Row)) (name : List ℕ) → AreNamed es → row_named (rows_of es) name ≡ row_at es name
rows_found [] name h = refl
rows_found (e ∷ es) name h =
    let test : is_word e.1.now.name name ≡ is_key name e.0 = ap (λ n. is_word n name) (sym h.0) ∙ turned e.0 name in
    (λ i. cond (test i) (Some e.1.now) (rows_found es name h.1 i)) ∙ sym (map-cond (λ r. r.now) (is_key name e.0) (Some e.1) (lookup (is_key name) es))

split : {A : Type 0} (xs : List A) (i : ℕ) (x : A) → 0 < i → i ≤ length xs → x ≡ get_or xs (i - 1) x → drop (i - 1) xs ≡ x ∷ drop i xs
split xs i x some within is =
    let next : suc (i - 1) ≡ i = omega arith in
    drop-cons xs (i - 1) x (omega arith) ∙ (λ j. sym is j ∷ drop (next j) xs)

-- what is put for a key is found by its name, and every other name finds what it did
abbrev pub Puts : {X : Type 0} → List (Key × X) → List (Key × X) → Key → X → Type 0
Puts old new k v = (q : Key) → lookup (same_key q) new ≡ cond (same_key k q) (Some v) (lookup (same_key q) old)

pub rows_more : (rows : List Row) (i : ℕ) (row : Row) (old new : List (Key × Bor Row)) (k : Key) (r : Bor Row) → 0 < i → i ≤ length rows → row ≡ get_or rows (i - 1) row → k.now ≡ row.name → r.now ≡ row → HasRows old (drop i rows) → new ≡ insert_entry key_cmp old k r → Puts old new k r → HasRows new (drop (i - 1) rows)
rows_more rows i row old new k r some within is named own had entries puts = record {
  named = subst AreNamed (sym entries) (named_put old k r (named ∙ ap (λ (x : Row). x.name) (sym own)) had.named);
  found =
      λ name.
      ap (option_map (λ (x : Bor Row). x.now)) (puts (key_of name))
      ∙ map-cond (λ (x : Bor Row). x.now) (same_key k (key_of name)) (Some r) (lookup (is_key name) old)
      ∙ (λ j. cond (sym (texts_ties k.now name) j) (Some (own j)) (had.found name j))
      ∙ ap (λ n. cond (is_word n name) (Some row) (row_named (drop i rows) name)) named
      ∙ ap (λ rs. row_named rs name) (sym (split rows i row some within is));
}

pub rows_all : (rows : List Row) (i : ℕ) (es : List (Key × Bor Row)) → i ≡ 0 → HasRows es (drop i rows) → HaveSameRows (rows_of es) rows
rows_all rows i es none had name = rows_found es name had.named ∙ had.found name ∙ ap (λ n. row_named (drop n rows) name) none

-- Interfaces --------------------------------------------------------------------------------

-- the table's interfaces as a list
pub ifaces_found : (es : List (Key × List Row)) (m name : List ℕ) → row_for (ifaces_of es) m name ≡ option_and_then (λ rows. row_named rows name) (lookup (is_key m) es)
ifaces_found [] m name = refl
ifaces_found (e ∷ es) m name = by (ifaces_found es m name) (is_word e.0.now m) (is_key m e.0) (turned e.0 m)
  where
    by : row_for (ifaces_of es) m name ≡ option_and_then (λ rows. row_named rows name) (lookup (is_key m) es) → (b d : Bool) → b ≡ d → row_in (cond b (Some (record { module_name = e.0.now; rows = e.1 })) (interface_named (ifaces_of es) m)) name ≡ option_and_then (λ rows. row_named rows name) (cond d (Some e.1) (lookup (is_key m) es))
    by later true true p = refl
    by later true false p = absurd (true≢false p)
    by later false true p = absurd (true≢false (sym p))
    by later false false p = later

iface_put : (old : List (Key × List Row)) (rest : List IfaceTree) (i : IfaceTree) (m name : List ℕ) (rows : List Row) (b : Bool) → row_named rows name ≡ row_named i.rows name → row_for (ifaces_of old) m name ≡ row_for rest m name → option_and_then (λ rs. row_named rs name) (cond b (Some rows) (lookup (is_key m) old)) ≡ row_in (cond b (Some i) (interface_named rest m)) name
iface_put old rest i m name rows true here later = here
iface_put old rest i m name rows false here later = sym (ifaces_found old m name) ∙ later

pub ifaces_more : (ifaces : List Iface) (i : ℕ) (iface : Iface) (old new : List (Key × List Row)) (k : Key) (rows slice : List Row) → 0 < i → i ≤ length ifaces → iface ≡ get_or ifaces (i - 1) iface → k.now ≡ iface.module_name → slice ≡ iface.rows → HaveSameRows rows slice → OfferSameRows (ifaces_of old) (map iface_tree (drop i ifaces)) → Puts old new k rows → OfferSameRows (ifaces_of new) (map iface_tree (drop (i - 1) ifaces))
ifaces_more ifaces i iface old new k rows slice some within is named sliced same had puts m name =
    ifaces_found new m name
    ∙ ap (option_and_then (λ rs. row_named rs name)) (puts (key_of m))
    ∙ iface_put old (map iface_tree (drop i ifaces)) (iface_tree iface) m name rows (same_key k (key_of m)) (same name ∙ ap (λ rs. row_named rs name) sliced) (had m name)
    ∙ ap (λ b. row_in (cond b (Some (iface_tree iface)) (interface_named (map iface_tree (drop i ifaces)) m)) name) (sym (texts_ties k.now m) ∙ ap (λ n. is_word n m) named)
    ∙ ap (λ is. row_for (map iface_tree is) m name) (sym (split ifaces i iface some within is))

pub ifaces_all : (ifaces : List Iface) (i : ℕ) (es : List (Key × List Row)) → i ≡ 0 → OfferSameRows (ifaces_of es) (map iface_tree (drop i ifaces)) → OfferSameRows (ifaces_of es) (map iface_tree ifaces)
ifaces_all ifaces i es none had m name = had m name ∙ ap (λ n. row_for (map iface_tree (drop n ifaces)) m name) none

-- where the look-up of a module ends
pub no_iface : (es : List (Key × List Row)) (m name : List ℕ) (r : Option (Bor (List Row))) → r ≡ None → option_copied r ≡ lookup (is_key m) es → None ≡ row_for (ifaces_of es) m name
no_iface es m name r none value =
    ap (λ o. option_and_then (λ rows. row_named rows name) (option_copied o)) (sym none)
    ∙ ap (option_and_then (λ rows. row_named rows name)) value
    ∙ sym (ifaces_found es m name)

pub iface_found : (es : List (Key × List Row)) (m name : List ℕ) (r : Option (Bor (List Row))) (rows : Bor (List Row)) → r ≡ Some rows → option_copied r ≡ lookup (is_key m) es → row_named rows.now name ≡ row_for (ifaces_of es) m name
iface_found es m name r rows some value =
    ap (λ o. option_and_then (λ rs. row_named rs name) (option_copied o)) (sym some)
    ∙ ap (option_and_then (λ rs. row_named rs name)) value
    ∙ sym (ifaces_found es m name)

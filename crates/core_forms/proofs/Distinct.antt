-- Names of a list, found from the left.
use Rattle.std.proofs.Common.{◌≡◌, ℕ, ◌+◌, Bool, true, false, not, ◌&&◌, ◌||◌, if◌then◌else◌, nat_eq, List, [], ◌∷◌, ◌++◌, drop, Option, None, Some, refl, sym, ap, ◌∙◌, arith}
use Rattle.std.proofs.lemmas.Bool.{and_parts}
use Rattle.std.proofs.lemmas.Bool.Decides.{nat_tests}
use Rattle.std.specs.Cmp.Lexicographic.{nat_list_eq_equiv, bytes_decides}
use Rattle.scheme_data.specs.declared.datum.Datum.{Datum}
use Rattle.scheme_data.specs.Forms.{form}
use Rattle.scheme_data.specs.Names.{is_same}
use Rattle.marked_names.specs.MarkedNames.{is_marked, has_marked}
use Rattle.core_forms.specs.Scope.{Marked, marked, all_marked, is_bound}
use Rattle.core_forms.specs.Names.{binder_of, onto_binders, binders_of}
use Rattle.core_forms.specs.Code.{data_of}
use Rattle.core_forms.specs.declared.core_form.Binder.{Binder}

-- these names in front of what the rest has
abbrev pub glued : List Binder → Option (List Binder) → Option (List Binder)
glued [] o = o
glued (a ∷ qs) o = onto_binders (Some a) (glued qs o)

glued-more : (qs : List Binder) (b : Binder) (o : Option (List Binder)) → glued qs (onto_binders (Some b) o) ≡ glued (qs ++ b ∷ []) o
glued-more [] b o = refl
glued-more (a ∷ qs) b o = ap (onto_binders (Some a)) (glued-more qs b o)

glued-none : (qs : List Binder) → glued qs None ≡ None
glued-none [] = refl
glued-none (a ∷ qs) = ap (onto_binders (Some a)) (glued-none qs)

pub on : (types : Bool) (items : List Datum) (i : ℕ) (d : Datum) (qs : List Binder) (b : Binder) → binders_of types (data_of items) ≡ glued qs (binders_of types (data_of (drop i items)))
    → drop i items ≡ d ∷ drop (i + 1) items → Some b ≡ binder_of types (form d) → binders_of types (data_of items) ≡ glued (qs ++ b ∷ []) (binders_of types (data_of (drop (i + 1) items)))
on types items i d qs b h e f =
    h ∙ (ap (λ ds. glued qs (binders_of types (data_of ds))) e
    ∙ (ap (λ o. glued qs (onto_binders o (binders_of types (data_of (drop (i + 1) items))))) (sym f) ∙ glued-more qs b (binders_of types (data_of (drop (i + 1) items)))))

-- what is no name
pub stop : (types : Bool) (items : List Datum) (i : ℕ) (d : Datum) (qs : List Binder) → binders_of types (data_of items) ≡ glued qs (binders_of types (data_of (drop i items)))
    → drop i items ≡ d ∷ drop (i + 1) items → None ≡ binder_of types (form d) → None ≡ binders_of types (data_of items)
stop types items i d qs h e f =
    sym (h ∙ (ap (λ ds. glued qs (binders_of types (data_of ds))) e
    ∙ (ap (λ o. glued qs (onto_binders o (binders_of types (data_of (drop (i + 1) items))))) (sym f) ∙ glued-none qs)))

-- Names that stand twice ----------------------------------------------------------------

abbrev pub sees : List Binder → List ℕ → ℕ → Bool
sees xs x m = is_bound x m (all_marked xs)

abbrev sees_of : Option (List Binder) → List ℕ → ℕ → Bool
sees_of None x m = true
sees_of (Some xs) x m = sees xs x m

or_true : (b : Bool) → (b || true) ≡ true
or_true true = refl
or_true false = refl

or-apart : (a b c : Bool) → (a || (b || c)) ≡ ((a || b) || c)
or-apart true b c = refl
or-apart false b c = refl

keeps-if : (a : Binder) (ws : List Binder) (x : List ℕ) (m : ℕ) (b : Bool) → sees ws x m ≡ true → sees_of (if b then None else Some (a ∷ ws)) x m ≡ true
keeps-if a ws x m true h = refl
keeps-if a ws x m false h = ap (λ c. is_marked x m (marked a) || c) h ∙ or_true (is_marked x m (marked a))

keeps-by : (a : Binder) (o : Option (List Binder)) (x : List ℕ) (m : ℕ) → sees_of o x m ≡ true → sees_of (onto_binders (Some a) o) x m ≡ true
keeps-by a None x m h = refl
keeps-by a (Some ws) x m h = keeps-if a ws x m (sees ws a.name a.mark) h

keeps : (qs zs : List Binder) (x : List ℕ) (m : ℕ) → sees zs x m ≡ true → sees_of (glued qs (Some zs)) x m ≡ true
keeps [] zs x m h = h
keeps (a ∷ qs) zs x m h = keeps-by a (glued qs (Some zs)) x m (keeps qs zs x m h)

onto-none : (a : Binder) (o : Option (List Binder)) → sees_of o a.name a.mark ≡ true → onto_binders (Some a) o ≡ None
onto-none a None h = refl
onto-none a (Some ws) h = rw h refl

same-marked : (x y : List ℕ) (m k : ℕ) → is_marked x m (y, k) ≡ true → (y ≡ x) × (k ≡ m)
same-marked x y m k e =
    let p = and_parts (is_same y x) (nat_eq k m) e in
    ((bytes_decides y x).0 p.0, grind (arith, nat_tests, p.1))

self-marked : (x : List ℕ) (m : ℕ) → is_marked x m (x, m) ≡ true
self-marked x m = ap (λ b. b && nat_eq m m) ((bytes_decides x x).1 refl) ∙ grind (arith, nat_tests)

dup-by : (a : Binder) (qs : List Binder) (b : Binder) (zs : List Binder) (c : Bool) → is_marked b.name b.mark (marked a) ≡ c → sees zs b.name b.mark ≡ true → (c || sees qs b.name b.mark) ≡ true
    → (sees qs b.name b.mark ≡ true → glued qs (Some zs) ≡ None) → onto_binders (Some a) (glued qs (Some zs)) ≡ None
dup-by a qs b zs true e g h later =
    let p = same-marked b.name a.name b.mark a.mark e in
    onto-none a (glued qs (Some zs)) (ap (λ x. sees_of (glued qs (Some zs)) x a.mark) p.0 ∙ (ap (λ m. sees_of (glued qs (Some zs)) b.name m) p.1 ∙ keeps qs zs b.name b.mark g))
dup-by a qs b zs false e g h later = ap (onto_binders (Some a)) (later h)

dup-some : (qs : List Binder) (b : Binder) (zs : List Binder) → sees zs b.name b.mark ≡ true → sees qs b.name b.mark ≡ true → glued qs (Some zs) ≡ None
dup-some [] b zs g h = absurd (cc)
dup-some (a ∷ qs) b zs g h = dup-by a qs b zs (is_marked b.name b.mark (marked a)) refl g h (dup-some qs b zs g)

dup-if : (qs : List Binder) (b : Binder) (ws : List Binder) (c : Bool) → sees qs b.name b.mark ≡ true → glued qs (if c then None else Some (b ∷ ws)) ≡ None
dup-if qs b ws true h = glued-none qs
dup-if qs b ws false h = dup-some qs b (b ∷ ws) (ap (λ c. c || sees ws b.name b.mark) (self-marked b.name b.mark)) h

dup : (qs : List Binder) (b : Binder) (o : Option (List Binder)) → sees qs b.name b.mark ≡ true → glued qs (onto_binders (Some b) o) ≡ None
dup qs b None h = glued-none qs
dup qs b (Some ws) h = dup-if qs b ws (sees ws b.name b.mark) h

-- a name that is there already
pub twice : (types : Bool) (items : List Datum) (i : ℕ) (d : Datum) (qs : List Binder) (b : Binder) → binders_of types (data_of items) ≡ glued qs (binders_of types (data_of (drop i items)))
    → drop i items ≡ d ∷ drop (i + 1) items → Some b ≡ binder_of types (form d) → sees qs b.name b.mark ≡ true → None ≡ binders_of types (data_of items)
twice types items i d qs b h e f g =
    sym (h ∙ (ap (λ ds. glued qs (binders_of types (data_of ds))) e
    ∙ (ap (λ o. glued qs (onto_binders o (binders_of types (data_of (drop (i + 1) items))))) (sym f) ∙ dup qs b (binders_of types (data_of (drop (i + 1) items))) g)))

-- Names that don't ----------------------------------------------------------------------

sees-more : (qs : List Binder) (b : Binder) (x : List ℕ) (m : ℕ) → sees (qs ++ b ∷ []) x m ≡ (sees qs x m || (is_marked x m (marked b) || false))
sees-more [] b x m = refl
sees-more (a ∷ qs) b x m = ap (λ c. is_marked x m (marked a) || c) (sees-more qs b x m) ∙ or-apart (is_marked x m (marked a)) (sees qs x m) (is_marked x m (marked b) || false)

other-way : (a b : Binder) → is_marked a.name a.mark (marked b) ≡ is_marked b.name b.mark (marked a)
other-way a b = ap (λ c. c && nat_eq b.mark a.mark) (nat_list_eq_equiv.symm b.name a.name) ∙ ap (λ c. is_same a.name b.name && c) (grind (arith, nat_tests))

parted : (a : Binder) (qs ws : List Binder) (c : Bool) → sees ws a.name a.mark ≡ c → (if c then None else Some (a ∷ ws)) ≡ Some (a ∷ qs) → (Some ws ≡ Some qs) × (sees qs a.name a.mark ≡ false)
parted a qs ws true e h = absurd (cc)
parted a qs ws false e h = let same : ws ≡ qs = cc in (ap Some same, ap (λ ws. sees ws a.name a.mark) (sym same) ∙ e)

parts-of : (a : Binder) (qs : List Binder) (o : Option (List Binder)) → onto_binders (Some a) o ≡ Some (a ∷ qs) → (o ≡ Some qs) × (sees qs a.name a.mark ≡ false)
parts-of a qs None h = absurd (cc)
parts-of a qs (Some ws) h = parted a qs ws (sees ws a.name a.mark) refl h

or-parts : (a b : Bool) → (a || b) ≡ false → (a ≡ false) × (b ≡ false)
or-parts true b e = absurd (cc)
or-parts false b e = (refl, e)

one-more : (qs : List Binder) (b : Binder) → glued qs (Some []) ≡ Some qs → sees qs b.name b.mark ≡ false → glued qs (Some (b ∷ [])) ≡ Some (qs ++ b ∷ [])
one-more [] b h g = refl
one-more (a ∷ qs) b h g =
    let p = parts-of a qs (glued qs (Some [])) h in
    let q = or-parts (is_marked b.name b.mark (marked a)) (sees qs b.name b.mark) g in
    ap (onto_binders (Some a)) (one-more qs b p.0 q.1)
    ∙ rw (sees-more qs b a.name a.mark ∙ (ap (λ c. c || (is_marked a.name a.mark (marked b) || false)) p.1 ∙ ap (λ c. c || false) (other-way a b ∙ q.0))) refl

pub whole-more : (qs : List Binder) (b : Binder) → glued qs (Some []) ≡ Some qs → sees qs b.name b.mark ≡ false → glued (qs ++ b ∷ []) (Some []) ≡ Some (qs ++ b ∷ [])
whole-more qs b h g = sym (glued-more qs b (Some [])) ∙ one-more qs b h g

pub marked-more : (qs : List Binder) (b : Binder) → all_marked (qs ++ b ∷ []) ≡ all_marked qs ++ (b.name, b.mark) ∷ []
marked-more [] b = refl
marked-more (a ∷ qs) b = ap (λ xs. marked a ∷ xs) (marked-more qs b)

-- A table of the names so far -----------------------------------------------------------

taken : (a b : Bool) → a ≡ not b → not a ≡ true → b ≡ true
taken a true e f = refl
taken a false e f = absurd (cc)

free : (a b : Bool) → a ≡ not b → not a ≡ false → (a ≡ true) × (b ≡ false)
free true true e f = absurd (cc)
free true false e f = (refl, refl)
free false b e f = absurd (cc)

pub there : (qs : List Binder) (seen : List Marked) (x name : List ℕ) (m : ℕ) (added : Bool) → seen ≡ all_marked qs → x ≡ name → added ≡ not (has_marked seen x m) → not added ≡ true → sees qs name m ≡ true
there qs seen x name m added s e a n = ap (λ y. has_marked (all_marked qs) y m) (sym e) ∙ (ap (λ seen. has_marked seen x m) (sym s) ∙ taken added (has_marked seen x m) a n)

pub kept : (types : Bool) (items : List Datum) (i : ℕ) (d : Datum) (qs new : List Binder) (b : Binder) (seen now : List Marked) (x : List ℕ) (added : Bool)
    → seen ≡ all_marked qs → binders_of types (data_of items) ≡ glued qs (binders_of types (data_of (drop i items))) → glued qs (Some []) ≡ Some qs
    → new ≡ qs ++ b ∷ [] → now ≡ (if added then seen ++ (x, b.mark) ∷ [] else seen) → added ≡ not (has_marked seen x b.mark) → not added ≡ false → x ≡ b.name
    → drop i items ≡ d ∷ drop (i + 1) items → Some b ≡ binder_of types (form d)
    → (now ≡ all_marked new) × (binders_of types (data_of items) ≡ glued new (binders_of types (data_of (drop (i + 1) items)))) × (glued new (Some []) ≡ Some new)
kept types items i d qs new b seen now x added s h w n t a f e r g =
    let p = free added (has_marked seen x b.mark) a f in
    let fresh : sees qs b.name b.mark ≡ false = ap (λ y. has_marked (all_marked qs) y b.mark) (sym e) ∙ (ap (λ seen. has_marked seen x b.mark) (sym s) ∙ p.1) in (
      t ∙ (ap (λ c. if c then seen ++ (x, b.mark) ∷ [] else seen) p.0 ∙ (ap (λ seen. seen ++ (x, b.mark) ∷ []) s ∙ (ap (λ x. all_marked qs ++ (x, b.mark) ∷ []) e ∙ (sym (marked-more qs b) ∙ ap all_marked (sym n))))),
      on types items i d qs b h r g ∙ ap (λ new. glued new (binders_of types (data_of (drop (i + 1) items)))) (sym n),
      ap (λ new. glued new (Some [])) n ∙ (whole-more qs b w fresh ∙ ap Some (sym n)),
    )

-- none is left
pub glued_all : (types : Bool) (items left : List Datum) (bs : List Binder) → binders_of types (data_of items) ≡ glued bs (binders_of types (data_of left)) → glued bs (Some []) ≡ Some bs → left ≡ []
    → ◌≡◌ {A = Option (List Binder)} (Some bs) (binders_of types (data_of items))
glued_all types items left bs e f g = sym (e ∙ (ap (λ (left : List Datum). glued bs (binders_of types (data_of left))) g ∙ f))

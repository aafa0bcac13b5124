-- Things until the end, one at a time.
use Rattle.std.proofs.Common.{◌≡◌, ℕ, zero, suc, ◌<◌, List, [], ◌∷◌, ◌++◌, length, Option, Some, None, refl, sym, ap, subst, ◌∙◌, append_assoc, arith}
use Rattle.std.proofs.lemmas.List.{append-nil}
use Rattle.std.specs.Prelude.{Err}
use Rattle.c_tree.specs.Lexical.{Token}
use Rattle.c_read.specs.declared.stop.Stop.{Stop}
use Rattle.c_read.specs.declared.stop.Stop.TheVariants.{Wrong, Memory}
use Rattle.c_read.specs.Sequences.{after, if_else, onto, many, all, Took}

pub onto-nil : {X : Type 0} (r : Option (List X × List Token)) → onto [] r ≡ r
onto-nil None = refl
onto-nil (Some r) = refl

pub onto-onto : {X : Type 0} (xs : List X) (x : X) (r : Option (List X × List Token)) → onto xs (onto (x ∷ []) r) ≡ onto (xs ++ x ∷ []) r
onto-onto xs x None = refl
onto-onto xs x (Some r) = ap (λ ys. Some (ys, r.1)) (sym (append_assoc xs (x ∷ []) r.0))

at_more : {X : Type 0} (one : List Token → Option (X × List Token)) (end : List Token → Option (List Token)) (n : ℕ)
    → (xs : List X) (ts : List Token) (x : X) (rest : List Token) → end ts ≡ None → one ts ≡ Some (x, rest)
    → onto xs (many one end (suc n) ts) ≡ onto (xs ++ x ∷ []) (many one end n rest)
unfolding many
at_more one end n xs ts x rest e f =
    ap (onto xs) (ap (λ o. if_else o (λ left. Some ([], left)) (after (one ts) (λ x rest. onto (x ∷ []) (many one end n rest)))) e
    ∙ ap (λ o. after o (λ x rest. onto (x ∷ []) (many one end n rest))) f)
    ∙ onto-onto xs x (many one end n rest)

at_stuck : {X : Type 0} (one : List Token → Option (X × List Token)) (end : List Token → Option (List Token)) (n : ℕ)
    → (xs : List X) (ts : List Token) → end ts ≡ None → one ts ≡ None → onto xs (many one end (suc n) ts) ≡ None
unfolding many
at_stuck one end n xs ts e f =
    ap (onto xs) (ap (λ o. if_else o (λ left. Some ([], left)) (after (one ts) (λ x rest. onto (x ∷ []) (many one end n rest)))) e
    ∙ ap (λ o. after o (λ x rest. onto (x ∷ []) (many one end n rest))) f)

at_ended : {X : Type 0} (one : List Token → Option (X × List Token)) (end : List Token → Option (List Token)) (n : ℕ)
    → (xs : List X) (ts left : List Token) → end ts ≡ Some left → onto xs (many one end (suc n) ts) ≡ Some (xs, left)
unfolding many
at_ended one end n xs ts left e =
    ap (onto xs) (ap (λ o. if_else o (λ left. Some ([], left)) (after (one ts) (λ x rest. onto (x ∷ []) (many one end n rest)))) e)
    ∙ ap (λ ys. Some (ys, left)) (append-nil xs)

-- in the middle of reading things until the end: those so far, the tokens now, and what is read at last
pub record Going {X : Type 0} (one : List Token → Option (X × List Token)) (end : List Token → Option (List Token))
    (target : Option (List X × List Token)) (xs : List X) (now : List Token) : Type 0 where
  pub most : ℕ
  pub enough : length now < most
  pub goes : onto xs (many one end most now) ≡ target

pub going_from : {X : Type 0} (one : List Token → Option (X × List Token)) (end : List Token → Option (List Token))
    (xs : List X) (now : List Token) → Going one end (onto xs (all one end now)) xs now
unfolding all
going_from one end xs now = record { most = suc (length now); enough = omega arith; goes = refl }

pub going_start : {X : Type 0} (one : List Token → Option (X × List Token)) (end : List Token → Option (List Token))
    (now : List Token) → Going one end (all one end now) [] now
unfolding all
going_start one end now = record { most = suc (length now); enough = omega arith; goes = onto-nil (many one end (suc (length now)) now) }

pub going_more : {X : Type 0} {one : List Token → Option (X × List Token)} {end : List Token → Option (List Token)}
    {target : Option (List X × List Token)} {xs : List X} {now : List Token} → Going one end target xs now
    → (x : X) (rest : List Token) → end now ≡ None → one now ≡ Some (x, rest) → length rest < length now
    → Going one end target (xs ++ x ∷ []) rest
going_more {X} {one} {end} {target} {xs} {now} g x rest e f l = go g.most g.enough g.goes
  where
    go : (n : ℕ) → length now < n → onto xs (many one end n now) ≡ target → Going one end target (xs ++ x ∷ []) rest
    go zero k h = absurd (omega arith)
    go (suc n) k h = record { most = n; enough = omega arith; goes = sym (at_more one end n xs now x rest e f) ∙ h }

pub going_stuck : {X : Type 0} {one : List Token → Option (X × List Token)} {end : List Token → Option (List Token)}
    {target : Option (List X × List Token)} {xs : List X} {now : List Token} → Going one end target xs now
    → end now ≡ None → one now ≡ None → target ≡ None
going_stuck {X} {one} {end} {target} {xs} {now} g e f = go g.most g.enough g.goes
  where
    go : (n : ℕ) → length now < n → onto xs (many one end n now) ≡ target → target ≡ None
    go zero k h = absurd (omega arith)
    go (suc n) k h = sym h ∙ at_stuck one end n xs now e f

pub going_ended : {X : Type 0} {one : List Token → Option (X × List Token)} {end : List Token → Option (List Token)}
    {target : Option (List X × List Token)} {xs : List X} {now : List Token} → Going one end target xs now
    → (left : List Token) → end now ≡ Some left → target ≡ Some (xs, left)
going_ended {X} {one} {end} {target} {xs} {now} g left e = go g.most g.enough g.goes
  where
    go : (n : ℕ) → length now < n → onto xs (many one end n now) ≡ target → target ≡ Some (xs, left)
    go zero k h = absurd (omega arith)
    go (suc n) k h = sym h ∙ at_ended one end n xs now left e

-- The same over the names that a loop's steps have.

pub starts_from : {X : Type 0} (one : List Token → Option (X × List Token)) (end : List Token → Option (List Token))
    (xs' xs : List X) (now : List Token) → xs' ≡ xs → Going one end (onto xs (all one end now)) xs' now
starts_from one end xs' xs now e = subst (λ ys. Going one end (onto xs (all one end now)) ys now) (sym e) (going_from one end xs now)

pub starts : {X : Type 0} (one : List Token → Option (X × List Token)) (end : List Token → Option (List Token))
    (xs : List X) (now : List Token) → xs ≡ [] → Going one end (all one end now) xs now
starts one end xs now e = subst (λ ys. Going one end (all one end now) ys now) (sym e) (going_start one end now)

pub goes_on : {X : Type 0} {one : List Token → Option (X × List Token)} {end : List Token → Option (List Token)}
    {target : Option (List X × List Token)} {xs : List X} {now : List Token} → Going one end target xs now
    → (now' rest : List Token) (x : X) (xs' : List X) → now' ≡ now → end now ≡ None → one now' ≡ Some (x, rest) → length rest < length now'
    → xs' ≡ xs ++ x ∷ [] → Going one end target xs' rest
goes_on {X} {one} {end} {target} {xs} {now} g now' rest x xs' e n f l s =
    subst (λ ys. Going one end target ys rest) (sym s)
    (going_more g x rest n (ap one (sym e) ∙ f) (subst (λ ts. length rest < length ts) e l))

pub stops : {X : Type 0} {one : List Token → Option (X × List Token)} {end : List Token → Option (List Token)}
    {target : Option (List X × List Token)} {xs : List X} {now : List Token} → Going one end target xs now
    → (now' left gone : List Token) (e : Stop) → now' ≡ now → end now ≡ None → Took (one now') (Err e) left → Took target (Err e) gone
stops {X} {one} g now' left gone Wrong e n t = going_stuck g n (ap one (sym e) ∙ t)
stops g now' left gone Memory e n t = tt

-- a list is one longer, and so is its text
pub spelled_on : {X : Type 0} (spell : List X → List Token → List Token) (before now now' middle rest : List Token) (xs xs' : List X) (x : X)
    → before ≡ spell xs now → now' ≡ now → now' ≡ middle → spell (xs ++ x ∷ []) rest ≡ spell xs middle → xs' ≡ xs ++ x ∷ []
    → before ≡ spell xs' rest
spelled_on spell before now now' middle rest xs xs' x b e m s k =
    b ∙ ap (spell xs) (sym e ∙ m) ∙ sym s ∙ ap (λ ys. spell ys rest) (sym k)

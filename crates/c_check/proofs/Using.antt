-- Names that are used, noted one after another.
use Rattle.std.proofs.Common.{◌≡◌, ℕ, ◌+◌, ◌≤◌, Bool, true, false, not, ◌&&◌, ◌||◌, List, [], ◌∷◌, ◌++◌, map, length, drop, refl, sym, ap, ◌∙◌, append_assoc}
use Rattle.std.specs.List.{list_any, list_all, flat_map}
use Rattle.std.proofs.lemmas.Bool.{and_parts}
use Rattle.std.proofs.lemmas.List.{drop_all}
use Rattle.std.proofs.lemmas.List.Folds.{list_any-append}
use Rattle.scheme_data.specs.Names.{is_same}
use Rattle.c_tree.specs.declared.pieces.Piece.{Piece}
use Rattle.c_tree.specs.declared.pieces.Piece.TheVariants as piece
use Rattle.c_tree.specs.declared.pieces.PieceRef.{PieceRef}
use Rattle.c_tree.specs.Code.{Code, done, assign, call, return, test, loop, ended, goto, catch, protect}
use Rattle.c_tree.specs.Pieces.{pieces, piece_of}
use Rattle.c_meaning.specs.Breaches.{has}
use Rattle.c_tree.specs.declared.function.CItem.{CItem}
use Rattle.c_tree.specs.Functions.{item_of, items_of}
use Rattle.c_meaning.specs.Checked.{name_of_item, used_in_call, used_in_expr, used_in, used_by}
use Rattle.c_check.specs.declared.used.Noted.{Noted}
use Rattle.c_check.specs.Used.{piece_used, used_pieces, begins_as_local, is_left_out, IsUsed, stands_out, SameOf, IsUsedBy}

append-nil : {A : Type 0} (xs : List A) → xs ++ [] ≡ xs
append-nil [] = refl
append-nil (x ∷ xs) = ap (λ r. x ∷ r) (append-nil xs)

-- some pass among these, and those behind them
some-behind : (p : List ℕ → Bool) (old a mid b : List (List ℕ)) → list_any p mid ≡ list_any p (old ++ a) → list_any p (mid ++ b) ≡ list_any p (old ++ (a ++ b))
some-behind p old a mid b is =
    list_any-append p mid b ∙ ap (λ q. q || list_any p b) is ∙ sym (list_any-append p (old ++ a) b) ∙ ap (list_any p) (append_assoc old a b)

pub used-both : (old : Noted) (a : List (List ℕ)) (mid : Noted) (b : List (List ℕ)) (new : Noted) → IsUsed old a mid → IsUsed mid b new → IsUsed old (a ++ b) new
used-both old a mid b new first second = record {
  skips = second.skips ∙ first.skips;
  found = λ n out. second.found n (ap (λ s. is_left_out s n) first.skips ∙ out) ∙ some-behind (is_same n) old.names a mid.names b (first.found n out);
}

pub used-as : (old : Noted) (a b : List (List ℕ)) (new : Noted) → a ≡ b → IsUsed old a new → IsUsed old b new
used-as old a b new is noted = record {
  skips = noted.skips;
  found = λ n out. noted.found n out ∙ ap (λ l. has (old.names ++ l) n) is;
}

-- A loop over what uses names
module _ {X : Type 0} (uses : X → List (List ℕ)) (start : Noted) (xs : List X) where
  pub record UsedFrom (i : ℕ) (now : Noted) : Type 0 where
    pub skips : now.skips ≡ start.skips
    pub found : (n : List ℕ) → is_left_out start.skips n ≡ false → has (now.names ++ flat_map uses (drop i xs)) n ≡ has (start.names ++ flat_map uses xs) n

  pub used_on : (i : ℕ) (now next : Noted) → UsedFrom i now → (x : X) → drop i xs ≡ x ∷ drop (i + 1) xs → IsUsed now (uses x) next → UsedFrom (i + 1) next
  used_on i now next so_far x at noted = record {
    skips = noted.skips ∙ so_far.skips;
    found = λ n out.
        some-behind (is_same n) now.names (uses x) next.names (flat_map uses (drop (i + 1) xs)) (noted.found n (ap (λ s. is_left_out s n) so_far.skips ∙ out))
        ∙ ap (λ l. has (now.names ++ flat_map uses l) n) (sym at) ∙ so_far.found n out;
  }

  pub used_end : (i : ℕ) (now : Noted) → UsedFrom i now → length xs ≤ i → IsUsed start (flat_map uses xs) now
  used_end i now so_far over = record {
    skips = so_far.skips;
    found = λ n out. ap (λ l. has l n) (sym (append-nil now.names)) ∙ ap (λ l. has (now.names ++ flat_map uses l) n) (sym (drop_all i xs over)) ∙ so_far.found n out;
  }

-- where no item has a name that is left out, all that matters is found
pub used-of : (items : List CItem) (skips : Bool) (names others : List (List ℕ)) → (skips ≡ true → list_all stands_out items ≡ true) → ((n : List ℕ) → is_left_out skips n ≡ false → has names n ≡ has others n) → SameOf items names others
used-of [] skips names others out same = tt
used-of (i ∷ is) skips names others out same =
    (same (name_of_item (item_of i)) (kept skips out), used-of is skips names others (λ s. (and_parts (stands_out i) (list_all stands_out is) (out s)).1) same)
  where
    not_so : (b : Bool) → not b ≡ true → b ≡ false
    not_so true h = absurd (cc)
    not_so false h = refl

    kept : (s : Bool) → (s ≡ true → (stands_out i && list_all stands_out is) ≡ true) → is_left_out s (name_of_item (item_of i)) ≡ false
    kept true h = not_so (begins_as_local (name_of_item (item_of i))) (and_parts (stands_out i) (list_all stands_out is) (h refl)).0
    kept false h = refl

-- Pieces
abbrev pub uses_at : PieceRef → List (List ℕ)
uses_at p = piece_used (piece_of p)

pub pieces-flat : (ps : List PieceRef) → flat_map uses_at ps ≡ used_pieces (map piece_of ps)
pieces-flat [] = refl
pieces-flat (p ∷ ps) = ap (λ l. piece_used (piece_of p) ++ l) (pieces-flat ps)

abbrev Uses : Code → Type 0
Uses c = (others : List Piece) → used_pieces (pieces c others) ≡ used_in c ++ used_pieces others

behind : (a : List (List ℕ)) (c : Code) → Uses c → (others : List Piece) → a ++ used_pieces (pieces c others) ≡ (a ++ used_in c) ++ used_pieces others
behind a c uses others = ap (λ l. a ++ l) (uses others) ∙ sym (append_assoc a (used_in c) (used_pieces others))

two : (a b : Code) → Uses a → Uses b → (p : Piece) → piece_used p ≡ [] → (others : List Piece) → used_pieces (pieces a (p ∷ pieces b others)) ≡ (used_in a ++ used_in b) ++ used_pieces others
two a b ua ub p none others =
    ua (p ∷ pieces b others) ∙ ap (λ l. used_in a ++ (l ++ used_pieces (pieces b others))) none ∙ behind (used_in a) b ub others

three : (a b c : Code) → Uses a → Uses b → Uses c → (p : Piece) → piece_used p ≡ [] → (others : List Piece)
    → used_pieces (pieces a (p ∷ pieces b (piece.End ∷ pieces c others))) ≡ (used_in a ++ (used_in b ++ used_in c)) ++ used_pieces others
three a b c ua ub uc p none others =
    ua (p ∷ pieces b (piece.End ∷ pieces c others))
    ∙ ap (λ l. used_in a ++ (l ++ used_pieces (pieces b (piece.End ∷ pieces c others)))) none
    ∙ ap (λ l. used_in a ++ l) (two b c ub uc piece.End refl others)
    ∙ sym (append_assoc (used_in a) (used_in b ++ used_in c) (used_pieces others))

uses : (c : Code) → Uses c
uses done others = refl
uses (assign x e rest) others = ap (λ l. x ∷ l) (behind (used_in_expr e) rest (uses rest) others)
uses (call c rest) others = behind (used_in_call c) rest (uses rest) others
uses (return e rest) others = behind (used_in_expr e) rest (uses rest) others
uses (test e a b rest) others =
    ap (λ l. used_in_expr e ++ l) (three a b rest (uses a) (uses b) (uses rest) piece.Else refl others)
    ∙ sym (append_assoc (used_in_expr e) (used_in a ++ (used_in b ++ used_in rest)) (used_pieces others))
uses (loop l body rest) others = two body rest (uses body) (uses rest) piece.End refl others
uses (ended body l rest) others = two body rest (uses body) (uses rest) (piece.Ended l) refl others
uses (goto l rest) others = uses rest others
uses (catch k r body rest) others = two body rest (uses body) (uses rest) piece.End refl others
uses (protect a b rest) others = three a b rest (uses a) (uses b) (uses rest) piece.Cleanup refl others

pub used-so : (c : Code) → used_pieces (pieces c []) ≡ used_in c
used-so c = uses c [] ∙ append-nil (used_in c)

pub items-flat : (items : List CItem) → flat_map (λ item. used_by (item_of item)) items ≡ flat_map used_by (items_of items)
items-flat [] = refl
items-flat (i ∷ is) = ap (λ l. used_by (item_of i) ++ l) (items-flat is)

-- all items were gone through
pub used_all : (items : List CItem) (fresh : List (List ℕ)) (skipping : Bool) (i : ℕ) (now : Noted) → fresh ≡ [] → skipping ≡ list_all stands_out items
    → UsedFrom (λ item. used_by (item_of item)) (record { names = fresh; skips = skipping }) items i now → length items ≤ i → IsUsedBy items now.names
used_all items fresh skipping i now none is so_far over =
    let noted = used_end (λ item. used_by (item_of item)) (record { names = fresh; skips = skipping }) items i now so_far over in
    used-of items skipping now.names (flat_map used_by (items_of items)) (λ on. sym is ∙ on)
    (λ n out. noted.found n out ∙ ap (λ l. has (l ++ flat_map (λ item. used_by (item_of item)) items) n) none ∙ ap (λ l. has l n) (items-flat items))

-- A walk over pieces, and the labels ahead of it.
use Rattle.std.proofs.Common.{◌≡◌, ℕ, zero, suc, ◌+◌, ◌-◌, Bool, false, List, [], ◌∷◌, ◌++◌, map, length, drop, slice_get, Option, Some, is_some, refl, sym, ap, ◌∙◌, arith}
use Rattle.c_tree.specs.declared.pieces.PieceRef.{PieceRef}
use Rattle.c_tree.specs.Pieces.{piece_of}
use Rattle.c_meaning.specs.declared.breach.BadCause.{BadCause}
use Rattle.c_check.specs.Firsts.{first}
use Rattle.c_check.specs.Pieces.{returns_at, ends_in_return}
use Rattle.c_check.specs.Agreeing.{SameState}
use Rattle.c_check.specs.Walks.{State, piece_breaches, after_piece, walk_breaches}
use Rattle.c_check.proofs.Agreeing.{walk-same}
use Rattle.c_check.proofs.Firsts.{first_behind}

module _ (start : State) (ps : List PieceRef) where
  -- nothing is wrong so far: what is wrong at all is what is wrong at those that are left
  abbrev pub WalksFrom : ℕ → State → Type 0
  WalksFrom i now = first (walk_breaches start (map piece_of ps)) ≡ first (walk_breaches now (map piece_of (drop i ps)))

  module _ (i : ℕ) (now : State) (so_far : WalksFrom i now) (p : PieceRef) (at : drop i ps ≡ p ∷ drop (i + 1) ps) (r : Option BadCause) (is : r ≡ first (piece_breaches now.scope (piece_of p))) where
    split : first (walk_breaches start (map piece_of ps)) ≡ first (piece_breaches now.scope (piece_of p) ++ walk_breaches (after_piece now (piece_of p)) (map piece_of (drop (i + 1) ps)))
    split = so_far ∙ ap (λ l. first (walk_breaches now (map piece_of l))) at

    pub walk_right : is_some r ≡ false → (next : State) → SameState next (after_piece now (piece_of p)) → WalksFrom (i + 1) next
    walk_right none next same =
        split
        ∙ first_behind (piece_breaches now.scope (piece_of p)) (walk_breaches (after_piece now (piece_of p)) (map piece_of (drop (i + 1) ps))) r is none
        ∙ ap first (sym (walk-same (map piece_of (drop (i + 1) ps)) next (after_piece now (piece_of p)) same))

-- The last piece
last_is : (ps : List PieceRef) (n : ℕ) (before : Bool) (p : PieceRef) → n ≡ length ps - 1 → slice_get ps n ≡ Some p → returns_at (piece_of p) ≡ ends_in_return before (map piece_of ps)
last_is [] n before p is h = absurd (cc)
last_is (q ∷ []) zero before p is h = let same : q ≡ p = cc in ap (λ r. returns_at (piece_of r)) (sym same)
last_is (q ∷ []) (suc n) before p is h = absurd (omega arith)
last_is (q ∷ r ∷ ps) zero before p is h = absurd (omega arith)
last_is (q ∷ r ∷ ps) (suc n) before p is h = last_is (r ∷ ps) n (returns_at (piece_of q)) p (omega arith) h

pub last_returns : (ps : List PieceRef) (p : PieceRef) → slice_get ps (length ps - 1) ≡ Some p → returns_at (piece_of p) ≡ ends_in_return false (map piece_of ps)
last_returns ps p h = last_is ps (length ps - 1) false p refl h

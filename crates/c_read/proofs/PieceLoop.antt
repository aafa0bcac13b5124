-- The pieces of a function, one at a time.
use Rattle.std.proofs.Common.{◌≡◌, ℕ, zero, suc, ◌<◌, List, [], ◌∷◌, ◌++◌, length, Option, Some, None, refl, sym, ap, subst, ◌∙◌, arith}
use Rattle.std.proofs.lemmas.List.{append-nil}
use Rattle.std.specs.Prelude.{Err}
use Rattle.c_tree.specs.declared.pieces.Piece.{Piece}
use Rattle.c_tree.specs.declared.laying.Layout.{Layout}
use Rattle.c_tree.specs.Lexical.{Token, Mark}
use Rattle.c_tree.specs.Code.{Code}
use Rattle.c_tree.specs.Pieces.{LaysOut}
use Rattle.c_tree.specs.Spelling.{piece_tokens, pieces_tokens, NamedPiece, NamedPieces}
use Rattle.c_tree.proofs.Spelled.{pieces_spelled, named_code}
use Rattle.c_read.specs.declared.stop.Stop.{Stop}
use Rattle.c_read.specs.declared.stop.Stop.TheVariants.{Wrong, Memory}
use Rattle.c_read.specs.Sequences.{after, read_as, if_else, onto, Took}
use Rattle.c_read.specs.Productions.{next_piece, opens_after, after_body, pieces_within, all_pieces, body}
use Rattle.c_read.specs.Nesting.{code_in}
use Rattle.c_read.specs.declared.bodies.Open.{Open}
use Rattle.c_read.specs.Yields.{YieldsPieces, YieldsBody, laid_code}
use Rattle.c_read.proofs.Many.{onto-nil, onto-onto}
use Rattle.c_read.proofs.Nesting.{laid, not_laid}
use Rattle.c_read.proofs.Extends.{piece_longer}

pub within_more : (most : ℕ) (opens : List Open) (ps : List Piece) (ts : List Token) (p : Piece) (rest : List Token) → after_body opens ts ≡ None → next_piece opens ts ≡ Some (p, rest)
    → onto ps (pieces_within (suc most) opens ts) ≡ onto (ps ++ p ∷ []) (pieces_within most (opens_after p opens) rest)
unfolding pieces_within
within_more most opens ps ts p rest e f =
    ap (onto ps) (ap (λ o. if_else o (λ left. Some ([], left)) (after (next_piece opens ts) (λ p rest. onto (p ∷ []) (pieces_within most (opens_after p opens) rest)))) e
    ∙ ap (λ o. after o (λ p rest. onto (p ∷ []) (pieces_within most (opens_after p opens) rest))) f)
    ∙ onto-onto ps p (pieces_within most (opens_after p opens) rest)

within_stuck : (most : ℕ) (opens : List Open) (ps : List Piece) (ts : List Token) → after_body opens ts ≡ None → next_piece opens ts ≡ None → onto ps (pieces_within (suc most) opens ts) ≡ None
unfolding pieces_within
within_stuck most opens ps ts e f =
    ap (onto ps) (ap (λ o. if_else o (λ left. Some ([], left)) (after (next_piece opens ts) (λ p rest. onto (p ∷ []) (pieces_within most (opens_after p opens) rest)))) e
    ∙ ap (λ o. after o (λ p rest. onto (p ∷ []) (pieces_within most (opens_after p opens) rest))) f)

pub within_ended : (most : ℕ) (opens : List Open) (ps : List Piece) (ts left : List Token) → after_body opens ts ≡ Some left → onto ps (pieces_within (suc most) opens ts) ≡ Some (ps, left)
unfolding pieces_within
within_ended most opens ps ts left e =
    ap (onto ps) (ap (λ o. if_else o (λ left. Some ([], left)) (after (next_piece opens ts) (λ p rest. onto (p ∷ []) (pieces_within most (opens_after p opens) rest)))) e)
    ∙ ap (λ qs. Some (qs, left)) (append-nil ps)

-- in the middle of a function: the pieces so far, which blocks are open, the tokens now, and what is read at last
pub record Within (target : Option (List Piece × List Token)) (ps : List Piece) (opens : List Open) (now : List Token) : Type 0 where
  pub most : ℕ
  pub enough : length now < most
  pub goes : onto ps (pieces_within most opens now) ≡ target

pub within_starts : (ps : List Piece) (now : List Token) → ps ≡ [] → Within (all_pieces now) ps [] now
unfolding all_pieces
within_starts ps now e =
    subst (λ qs. Within (pieces_within (suc (length now)) [] now) qs [] now) (sym e)
    (record { most = suc (length now); enough = omega arith; goes = onto-nil (pieces_within (suc (length now)) [] now) })

pub within_goes_on : {target : Option (List Piece × List Token)} {ps : List Piece} {opens : List Open} {now : List Token} → Within target ps opens now
    → (now' rest : List Token) (p : Piece) (ps' : List Piece) (opens' : List Open) → now' ≡ now → after_body opens now ≡ None → next_piece opens now' ≡ Some (p, rest)
    → length rest < length now' → ps' ≡ ps ++ p ∷ [] → opens' ≡ opens_after p opens → Within target ps' opens' rest
within_goes_on {target} {ps} {opens} {now} w now' rest p ps' opens' e n f l s o =
    subst (λ qs. Within target qs opens' rest) (sym s)
    (subst (λ k. Within target (ps ++ p ∷ []) k rest) (sym o) (go w.most w.enough w.goes (ap (next_piece opens) (sym e) ∙ f) (subst (λ ts. length rest < length ts) e l)))
  where
    go : (most : ℕ) → length now < most → onto ps (pieces_within most opens now) ≡ target → next_piece opens now ≡ Some (p, rest) → length rest < length now
        → Within target (ps ++ p ∷ []) (opens_after p opens) rest
    go zero k h f l = absurd (omega arith)
    go (suc most) k h f l = record { most = most; enough = omega arith; goes = sym (within_more most opens ps now p rest n f) ∙ h }

pub within_stops : {target : Option (List Piece × List Token)} {ps : List Piece} {opens : List Open} {now : List Token} → Within target ps opens now
    → (now' left gone : List Token) (e : Stop) → now' ≡ now → after_body opens now ≡ None → Took (next_piece opens now') (Err e) left → Took target (Err e) gone
within_stops {target} {ps} {opens} {now} w now' left gone Wrong e n t = go w.most w.enough w.goes
  where
    go : (most : ℕ) → length now < most → onto ps (pieces_within most opens now) ≡ target → target ≡ None
    go zero k h = absurd (omega arith)
    go (suc most) k h = sym h ∙ within_stuck most opens ps now n (ap (next_piece opens) (sym e) ∙ t)
within_stops w now' left gone Memory e n t = tt

pub within_ends : {target : Option (List Piece × List Token)} {ps : List Piece} {opens : List Open} {now : List Token} → Within target ps opens now
    → (left : List Token) → after_body opens now ≡ Some left → target ≡ Some (ps, left)
within_ends {target} {ps} {opens} {now} w left e = go w.most w.enough w.goes
  where
    go : (most : ℕ) → length now < most → onto ps (pieces_within most opens now) ≡ target → target ≡ Some (ps, left)
    go zero k h = absurd (omega arith)
    go (suc most) k h = sym h ∙ within_ended most opens ps now left e

-- One more piece, as it is spelled

pub pieces_more : (ps : List Piece) (p : Piece) (rest : List Token) → pieces_tokens (ps ++ p ∷ []) rest ≡ pieces_tokens ps (piece_tokens p rest)
pieces_more [] p rest = refl
pieces_more (q ∷ ps) p rest = ap (piece_tokens q) (pieces_more ps p rest)

pub named_pieces_more : (ps : List Piece) (p : Piece) → NamedPieces ps → NamedPiece p → NamedPieces (ps ++ p ∷ [])
named_pieces_more [] p h k = (k, tt)
named_pieces_more (q ∷ ps) p h k = (h.0, named_pieces_more ps p h.1 k)

pub piece_fewer : (old new : List Token) (p : Piece) → old ≡ piece_tokens p new → length new < length old
piece_fewer old new p e = rw e (piece_longer p new)

-- What is laid out is the body that is read, with the tokens and names of its pieces.

read_code : (ts left : List Token) (ps : List Piece) (o : Option Code) → all_pieces ts ≡ Some (ps, left) → code_in ps ≡ o → body ts ≡ read_as o left
unfolding body
read_code ts left ps o e f = ap (λ r. after r (λ ps rest. read_as (code_in ps) rest)) e ∙ ap (λ o. read_as o left) f

pub laid_body : (ts left : List Token) (ps : List Piece) (l : Layout) → all_pieces ts ≡ Some (ps, left) → LaysOut ps (Some l) → body ts ≡ Some (laid_code l, left)
laid_body ts left ps l e h = read_code ts left ps (Some (laid_code l)) e (laid ps l h)

pub not_laid_body : (ts left : List Token) (ps : List Piece) → all_pieces ts ≡ Some (ps, left) → LaysOut ps None → body ts ≡ None
not_laid_body ts left ps e h = read_code ts left ps None e (not_laid ps h)

pub yields_body : (old left : List Token) (ps : List Piece) (l : Layout) → YieldsPieces old ps (Mark 125 ∷ left) → LaysOut ps (Some l) → YieldsBody old l left
yields_body old left ps l y h = (
  y.0 ∙ ap (λ qs. pieces_tokens qs (Mark 125 ∷ left)) h ∙ pieces_spelled (laid_code l) [] (Mark 125 ∷ left),
  (named_code (laid_code l) [] (subst NamedPieces h y.1)).code,
)

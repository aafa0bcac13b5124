-- The tokens of code are those of its pieces, and names are right in the one where they are in the other.
use Rattle.std.proofs.Common.{◌≡◌, List, ◌∷◌, refl, ap, ◌∙◌}
use Rattle.std.specs.Prelude.{codes}
use Rattle.c_tree.specs.declared.pieces.Piece.{Piece}
use Rattle.c_tree.specs.declared.pieces.Piece.TheVariants as piece
use Rattle.c_tree.specs.Code.{Code, done, assign, call, return, test, loop, ended, goto, catch, protect}
use Rattle.c_tree.specs.Lexical.{Token, Word, Mark}
use Rattle.c_tree.specs.Pieces.{pieces}
use Rattle.c_tree.specs.Spelling.{code_tokens, pieces_tokens, piece_tokens, NamedCode, NamedPieces}

pub pieces_spelled : (c : Code) (others : List Piece) (rest : List Token) → pieces_tokens (pieces c others) rest ≡ code_tokens c (pieces_tokens others rest)
pieces_spelled done others rest = refl
pieces_spelled (assign x e next) others rest = ap (λ ts. piece_tokens (piece.Assign x e) ts) (pieces_spelled next others rest)
pieces_spelled (call c next) others rest = ap (λ ts. piece_tokens (piece.Call c) ts) (pieces_spelled next others rest)
pieces_spelled (return e next) others rest = ap (λ ts. piece_tokens (piece.Return e) ts) (pieces_spelled next others rest)
pieces_spelled (test e a b next) others rest =
    ap (λ ts. piece_tokens (piece.If e) ts)
    (pieces_spelled a (piece.Else ∷ pieces b (piece.End ∷ pieces next others)) rest
    ∙ ap (λ ts. code_tokens a (Mark 125 ∷ Word (codes "else") ∷ Mark 123 ∷ ts))
    (pieces_spelled b (piece.End ∷ pieces next others) rest ∙ ap (λ ts. code_tokens b (Mark 125 ∷ ts)) (pieces_spelled next others rest)))
pieces_spelled (loop l body next) others rest =
    ap (λ ts. piece_tokens (piece.Loop l) ts)
    (pieces_spelled body (piece.End ∷ pieces next others) rest ∙ ap (λ ts. code_tokens body (Mark 125 ∷ ts)) (pieces_spelled next others rest))
pieces_spelled (ended body l next) others rest =
    ap (λ ts. piece_tokens piece.Begin ts)
    (pieces_spelled body (piece.Ended l ∷ pieces next others) rest ∙ ap (λ ts. code_tokens body (piece_tokens (piece.Ended l) ts)) (pieces_spelled next others rest))
pieces_spelled (goto l next) others rest = ap (λ ts. piece_tokens (piece.Goto l) ts) (pieces_spelled next others rest)
pieces_spelled (catch k r body next) others rest =
    ap (λ ts. piece_tokens (piece.Catch k r) ts)
    (pieces_spelled body (piece.End ∷ pieces next others) rest ∙ ap (λ ts. code_tokens body (Mark 125 ∷ ts)) (pieces_spelled next others rest))
pieces_spelled (protect a b next) others rest =
    ap (λ ts. piece_tokens piece.Protect ts)
    (pieces_spelled a (piece.Cleanup ∷ pieces b (piece.End ∷ pieces next others)) rest
    ∙ ap (λ ts. code_tokens a (piece_tokens piece.Cleanup ts))
    (pieces_spelled b (piece.End ∷ pieces next others) rest ∙ ap (λ ts. code_tokens b (Mark 125 ∷ ts)) (pieces_spelled next others rest)))

pub named_pieces : (c : Code) (others : List Piece) → NamedCode c → NamedPieces others → NamedPieces (pieces c others)
named_pieces done others h k = k
named_pieces (assign x e next) others h k = ((h.0, h.1), named_pieces next others h.2 k)
named_pieces (call c next) others h k = (h.0, named_pieces next others h.1 k)
named_pieces (return e next) others h k = (h.0, named_pieces next others h.1 k)
named_pieces (test e a b next) others h k = (h.0, named_pieces a (piece.Else ∷ pieces b (piece.End ∷ pieces next others)) h.1 (tt, named_pieces b (piece.End ∷ pieces next others) h.2 (tt, named_pieces next others h.3 k)))
named_pieces (loop l body next) others h k = (h.0, named_pieces body (piece.End ∷ pieces next others) h.1 (tt, named_pieces next others h.2 k))
named_pieces (ended body l next) others h k = (tt, named_pieces body (piece.Ended l ∷ pieces next others) h.0 (h.1, named_pieces next others h.2 k))
named_pieces (goto l next) others h k = (h.0, named_pieces next others h.1 k)
named_pieces (catch e r body next) others h k = ((h.0, h.1), named_pieces body (piece.End ∷ pieces next others) h.2 (tt, named_pieces next others h.3 k))
named_pieces (protect a b next) others h k = (tt, named_pieces a (piece.Cleanup ∷ pieces b (piece.End ∷ pieces next others)) h.0 (tt, named_pieces b (piece.End ∷ pieces next others) h.1 (tt, named_pieces next others h.2 k)))

-- the names of what stands in front of others, and of these
pub record Both (c : Code) (others : List Piece) : Type 0 where
  pub code : NamedCode c
  pub rest : NamedPieces others

pub named_code : (c : Code) (others : List Piece) → NamedPieces (pieces c others) → Both c others
named_code done others h = record { code = tt; rest = h }
named_code (assign x e next) others h = let n = named_code next others h.1 in record { code = (h.0.0, h.0.1, n.code); rest = n.rest }
named_code (call c next) others h = let n = named_code next others h.1 in record { code = (h.0, n.code); rest = n.rest }
named_code (return e next) others h = let n = named_code next others h.1 in record { code = (h.0, n.code); rest = n.rest }
named_code (test e a b next) others h =
    let m = named_code a (piece.Else ∷ pieces b (piece.End ∷ pieces next others)) h.1 in
    let k = named_code b (piece.End ∷ pieces next others) m.rest.1 in
    let n = named_code next others k.rest.1 in
    record { code = (h.0, m.code, k.code, n.code); rest = n.rest }
named_code (loop l body next) others h =
    let m = named_code body (piece.End ∷ pieces next others) h.1 in
    let n = named_code next others m.rest.1 in
    record { code = (h.0, m.code, n.code); rest = n.rest }
named_code (ended body l next) others h =
    let m = named_code body (piece.Ended l ∷ pieces next others) h.1 in
    let n = named_code next others m.rest.1 in
    record { code = (m.code, m.rest.0, n.code); rest = n.rest }
named_code (goto l next) others h = let n = named_code next others h.1 in record { code = (h.0, n.code); rest = n.rest }
named_code (catch k r body next) others h =
    let m = named_code body (piece.End ∷ pieces next others) h.1 in
    let n = named_code next others m.rest.1 in
    record { code = (h.0.0, h.0.1, m.code, n.code); rest = n.rest }
named_code (protect a b next) others h =
    let m = named_code a (piece.Cleanup ∷ pieces b (piece.End ∷ pieces next others)) h.1 in
    let k = named_code b (piece.End ∷ pieces next others) m.rest.1 in
    let n = named_code next others k.rest.1 in
    record { code = (m.code, k.code, n.code); rest = n.rest }

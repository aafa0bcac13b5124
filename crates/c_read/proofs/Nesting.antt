-- Pieces are walked to the code that they are the pieces of.
use Rattle.std.proofs.Common.{◌≡◌, ℕ, List, [], ◌∷◌, Option, Some, None, refl, ap, ◌∙◌}
use Rattle.c_tree.specs.declared.tree.CExpr.{CExpr}
use Rattle.c_tree.specs.declared.pieces.Piece.{Piece}
use Rattle.c_tree.specs.declared.pieces.Piece.TheVariants as piece
use Rattle.c_tree.specs.declared.laying.Layout.{Layout}
use Rattle.c_tree.specs.Code.{Code, done, assign, call, return, test, loop, ended, goto, catch, protect}
use Rattle.c_tree.specs.Pieces.{pieces, LaysOut}
use Rattle.c_read.specs.Nesting.{Whole, follows, other, labelled, cleanup, Walk, walk, test_of, loop_of, ended_of, catch_of, protect_of, before, before_walk, walked, alone, whole_code, code_in}
use Rattle.c_read.specs.Yields.{laid_code}

-- Forward -----------------------------------------------------------------------------------

walked_on : (p : Piece) (others : List Piece) (w : Walk) → walked others ≡ Some w → walked (p ∷ others) ≡ before p w.code w.behind
walked_on p others w h = ap (before_walk p) h

walked_pieces : (c : Code) (others : List Piece) (behind : List Whole) → walked others ≡ Some (walk done behind) → walked (pieces c others) ≡ Some (walk c behind)
walked_pieces done others behind h = h
walked_pieces (assign x e next) others behind h = walked_on (piece.Assign x e) (pieces next others) (walk next behind) (walked_pieces next others behind h)
walked_pieces (call c next) others behind h = walked_on (piece.Call c) (pieces next others) (walk next behind) (walked_pieces next others behind h)
walked_pieces (return e next) others behind h = walked_on (piece.Return e) (pieces next others) (walk next behind) (walked_pieces next others behind h)
walked_pieces (test e a b next) others behind h =
    let end = piece.End ∷ pieces next others in
    let second = piece.Else ∷ pieces b end in
    let n : walked end ≡ Some (walk done (follows next ∷ behind)) = walked_on piece.End (pieces next others) (walk next behind) (walked_pieces next others behind h) in
    let m : walked second ≡ Some (walk done (other b ∷ follows next ∷ behind)) =
    walked_on piece.Else (pieces b end) (walk b (follows next ∷ behind)) (walked_pieces b end (follows next ∷ behind) n) in
    walked_on (piece.If e) (pieces a second) (walk a (other b ∷ follows next ∷ behind)) (walked_pieces a second (other b ∷ follows next ∷ behind) m)
walked_pieces (loop l body next) others behind h =
    let end = piece.End ∷ pieces next others in
    let n : walked end ≡ Some (walk done (follows next ∷ behind)) = walked_on piece.End (pieces next others) (walk next behind) (walked_pieces next others behind h) in
    walked_on (piece.Loop l) (pieces body end) (walk body (follows next ∷ behind)) (walked_pieces body end (follows next ∷ behind) n)
walked_pieces (ended body l next) others behind h =
    let end = piece.Ended l ∷ pieces next others in
    let n : walked end ≡ Some (walk done (labelled l next ∷ behind)) = walked_on (piece.Ended l) (pieces next others) (walk next behind) (walked_pieces next others behind h) in
    walked_on piece.Begin (pieces body end) (walk body (labelled l next ∷ behind)) (walked_pieces body end (labelled l next ∷ behind) n)
walked_pieces (goto l next) others behind h = walked_on (piece.Goto l) (pieces next others) (walk next behind) (walked_pieces next others behind h)
walked_pieces (catch k r body next) others behind h =
    let end = piece.End ∷ pieces next others in
    let n : walked end ≡ Some (walk done (follows next ∷ behind)) = walked_on piece.End (pieces next others) (walk next behind) (walked_pieces next others behind h) in
    walked_on (piece.Catch k r) (pieces body end) (walk body (follows next ∷ behind)) (walked_pieces body end (follows next ∷ behind) n)
walked_pieces (protect a b next) others behind h =
    let end = piece.End ∷ pieces next others in
    let second = piece.Cleanup ∷ pieces b end in
    let n : walked end ≡ Some (walk done (follows next ∷ behind)) = walked_on piece.End (pieces next others) (walk next behind) (walked_pieces next others behind h) in
    let m : walked second ≡ Some (walk done (cleanup b ∷ follows next ∷ behind)) =
    walked_on piece.Cleanup (pieces b end) (walk b (follows next ∷ behind)) (walked_pieces b end (follows next ∷ behind) n) in
    walked_on piece.Protect (pieces a second) (walk a (cleanup b ∷ follows next ∷ behind)) (walked_pieces a second (cleanup b ∷ follows next ∷ behind) m)

pub code_in_pieces : (c : Code) → code_in (pieces c []) ≡ Some c
unfolding code_in
code_in_pieces c = ap whole_code (walked_pieces c [] [] refl)

-- Back --------------------------------------------------------------------------------------

abbrev pieces_behind : List Whole → List Piece
pieces_behind [] = []
pieces_behind (follows c ∷ behind) = piece.End ∷ pieces c (pieces_behind behind)
pieces_behind (other c ∷ behind) = piece.Else ∷ pieces c (pieces_behind behind)
pieces_behind (labelled l c ∷ behind) = piece.Ended l ∷ pieces c (pieces_behind behind)
pieces_behind (cleanup c ∷ behind) = piece.Cleanup ∷ pieces c (pieces_behind behind)

abbrev pieces_of : Walk → List Piece
pieces_of w = pieces w.code (pieces_behind w.behind)

pieces_of_some : Option Walk → List Piece
pieces_of_some None = []
pieces_of_some (Some w) = pieces_of w

same_pieces : (v w : Walk) → Some v ≡ Some w → pieces_of v ≡ pieces_of w
unfolding pieces_of_some
same_pieces v w e = ap pieces_of_some e

test_back : (e : CExpr) (a : Code) (behind : List Whole) (w : Walk) → test_of e a behind ≡ Some w → piece.If e ∷ pieces a (pieces_behind behind) ≡ pieces_of w
test_back e a (other b ∷ follows rest ∷ behind) w h = same_pieces (walk (test e a b rest) behind) w h
test_back e a [] w h = absurd (cc)
test_back e a (follows b ∷ behind) w h = absurd (cc)
test_back e a (labelled l b ∷ behind) w h = absurd (cc)
test_back e a (cleanup b ∷ behind) w h = absurd (cc)
test_back e a (other b ∷ []) w h = absurd (cc)
test_back e a (other b ∷ other d ∷ behind) w h = absurd (cc)
test_back e a (other b ∷ labelled l d ∷ behind) w h = absurd (cc)
test_back e a (other b ∷ cleanup d ∷ behind) w h = absurd (cc)

loop_back : (l : List ℕ) (body : Code) (behind : List Whole) (w : Walk) → loop_of l body behind ≡ Some w → piece.Loop l ∷ pieces body (pieces_behind behind) ≡ pieces_of w
loop_back l body (follows rest ∷ behind) w h = same_pieces (walk (loop l body rest) behind) w h
loop_back l body [] w h = absurd (cc)
loop_back l body (other b ∷ behind) w h = absurd (cc)
loop_back l body (labelled k b ∷ behind) w h = absurd (cc)
loop_back l body (cleanup b ∷ behind) w h = absurd (cc)

ended_back : (body : Code) (behind : List Whole) (w : Walk) → ended_of body behind ≡ Some w → piece.Begin ∷ pieces body (pieces_behind behind) ≡ pieces_of w
ended_back body (labelled l rest ∷ behind) w h = same_pieces (walk (ended body l rest) behind) w h
ended_back body [] w h = absurd (cc)
ended_back body (follows b ∷ behind) w h = absurd (cc)
ended_back body (other b ∷ behind) w h = absurd (cc)
ended_back body (cleanup b ∷ behind) w h = absurd (cc)

catch_back : (k r : List ℕ) (body : Code) (behind : List Whole) (w : Walk) → catch_of k r body behind ≡ Some w → piece.Catch k r ∷ pieces body (pieces_behind behind) ≡ pieces_of w
catch_back k r body (follows rest ∷ behind) w h = same_pieces (walk (catch k r body rest) behind) w h
catch_back k r body [] w h = absurd (cc)
catch_back k r body (other b ∷ behind) w h = absurd (cc)
catch_back k r body (labelled l b ∷ behind) w h = absurd (cc)
catch_back k r body (cleanup b ∷ behind) w h = absurd (cc)

protect_back : (a : Code) (behind : List Whole) (w : Walk) → protect_of a behind ≡ Some w → piece.Protect ∷ pieces a (pieces_behind behind) ≡ pieces_of w
protect_back a (cleanup b ∷ follows rest ∷ behind) w h = same_pieces (walk (protect a b rest) behind) w h
protect_back a [] w h = absurd (cc)
protect_back a (follows b ∷ behind) w h = absurd (cc)
protect_back a (other b ∷ behind) w h = absurd (cc)
protect_back a (labelled l b ∷ behind) w h = absurd (cc)
protect_back a (cleanup b ∷ []) w h = absurd (cc)
protect_back a (cleanup b ∷ other d ∷ behind) w h = absurd (cc)
protect_back a (cleanup b ∷ labelled l d ∷ behind) w h = absurd (cc)
protect_back a (cleanup b ∷ cleanup d ∷ behind) w h = absurd (cc)

before_back : (p : Piece) (code : Code) (behind : List Whole) (w : Walk) → before p code behind ≡ Some w → p ∷ pieces code (pieces_behind behind) ≡ pieces_of w
before_back (piece.Assign x e) code behind w h = same_pieces (walk (assign x e code) behind) w h
before_back (piece.Call c) code behind w h = same_pieces (walk (call c code) behind) w h
before_back (piece.Return e) code behind w h = same_pieces (walk (return e code) behind) w h
before_back (piece.Goto l) code behind w h = same_pieces (walk (goto l code) behind) w h
before_back (piece.If e) code behind w h = test_back e code behind w h
before_back piece.Else code behind w h = same_pieces (walk done (other code ∷ behind)) w h
before_back (piece.Loop l) code behind w h = loop_back l code behind w h
before_back piece.Begin code behind w h = ended_back code behind w h
before_back (piece.Ended l) code behind w h = same_pieces (walk done (labelled l code ∷ behind)) w h
before_back (piece.Catch k r) code behind w h = catch_back k r code behind w h
before_back piece.Protect code behind w h = protect_back code behind w h
before_back piece.Cleanup code behind w h = same_pieces (walk done (cleanup code ∷ behind)) w h
before_back piece.End code behind w h = same_pieces (walk done (follows code ∷ behind)) w h

walked_back : (ps : List Piece) (w : Walk) → walked ps ≡ Some w → ps ≡ pieces_of w
walked_back [] w h = same_pieces (walk done []) w h
walked_back (p ∷ ps) w h = go (λ v e. walked_back ps v e) (walked ps) refl h
  where
    go : ((v : Walk) → walked ps ≡ Some v → ps ≡ pieces_of v) → (o : Option Walk) → walked ps ≡ o → before_walk p o ≡ Some w → p ∷ ps ≡ pieces_of w
    go back None e k = absurd (cc)
    go back (Some v) e k = ap (λ qs. p ∷ qs) (back v e) ∙ before_back p v.code v.behind w k

alone_back : (code : Code) (behind : List Whole) (c : Code) → alone code behind ≡ Some c → (code ≡ c) × (behind ≡ [])
alone_back code [] c h = (cc, refl)
alone_back code (b ∷ bs) c h = absurd (cc)

code_in_back : (ps : List Piece) (c : Code) → code_in ps ≡ Some c → ps ≡ pieces c []
unfolding code_in
code_in_back ps c = go (walked ps) refl
  where
    go : (o : Option Walk) → walked ps ≡ o → whole_code o ≡ Some c → ps ≡ pieces c []
    go None e h = absurd (cc)
    go (Some w) e h =
        let k = alone_back w.code w.behind c h in
        walked_back ps w e ∙ ap (λ behind. pieces w.code (pieces_behind behind)) k.1 ∙ ap (λ code. pieces code []) k.0

-- What lays pieces out finds their code, and finds none where there is none.

pub laid : (ps : List Piece) (l : Layout) → LaysOut ps (Some l) → code_in ps ≡ Some (laid_code l)
laid ps l h = ap code_in h ∙ code_in_pieces (laid_code l)

pub not_laid : (ps : List Piece) → LaysOut ps None → code_in ps ≡ None
not_laid ps h = go (code_in ps) refl
  where
    go : (o : Option Code) → code_in ps ≡ o → o ≡ None
    go None e = refl
    go (Some c) e = absurd (h c (code_in_back ps c e))

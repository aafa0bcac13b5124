-- A walk over statements gives the pieces of what is left of their code.
use Rattle.std.proofs.Common.{◌≡◌, ℕ, suc, ◌+◌, ◌-◌, ◌<◌, ◌≤◌, false, eqb, List, [], ◌∷◌, ◌++◌, length, drop, get_or, Option, Some, None, refl, sym, ap, ◌∙◌, subst, arith, add-one, drop-cons, length-drop, eq-eqb}
use Rattle.std.specs.Prelude.{slice_get, map}
use Rattle.std.proofs.lemmas.Bool.Decides.{nat_tests}
use Rattle.std.proofs.lemmas.List.{append-nil, append_assoc, map-append, length-append, length-map}
use Rattle.std.proofs.lemmas.Option.{slice_get-get_or, slice_get_past}
use Rattle.c_tree.specs.declared.tree.CBlock.{CBlock}
use Rattle.c_tree.specs.declared.tree.CStmt.{CStmt}
use Rattle.c_tree.specs.declared.tree.CStmt.TheVariants as stmt
use Rattle.c_tree.specs.declared.pieces.Piece.{Piece}
use Rattle.c_tree.specs.declared.pieces.PieceRef.{PieceRef}
use Rattle.c_tree.specs.declared.closing.Closing.{Closing}
use Rattle.c_tree.specs.declared.closing.Closing.TheVariants.{End, Ended, Else, Cleanup}
use Rattle.c_tree.specs.declared.walk.Walk.{Walk}
use Rattle.c_tree.specs.Code.{Code, done, assign, call, return, test, loop, ended, goto, catch, protect}
use Rattle.c_tree.specs.Layout.{size, block, flat, code_of, IsLaid}
use Rattle.c_tree.specs.Pieces.{pieces, piece_of, opening}
use Rattle.c_tree.specs.Steps.{Position, position, Step, step_of, is_over, entered, opened, next_step}
use Rattle.c_tree.proofs.Left.{Frame, ends, stops, turns, cleans, Left, left, flat_behind, closings_behind, pieces_behind, flat_left, closings_left, pieces_left, no_more}

-- the walk is before what is left
pub record IsAt (stmts : List CStmt) (l : Left) (w : Position) : Type 0 where
  pub rest : drop w.at stmts ≡ flat_left l w.at
  pub around : w.closings ≡ closings_left l w.at

abbrev pub GoesOn : List CStmt → Left → Option Step → Type 0
GoesOn stmts l None = pieces_left l ≡ []
GoesOn stmts l (Some step) = (more : Left) × (pieces_left l ≡ step.piece ∷ pieces_left more) × IsAt stmts more step.walk

other : (n at : ℕ) → at < n → eqb n at ≡ false
other n at h = grind (arith, nat_tests)

-- no block is over where a statement comes
not_over : (fs : List Frame) (n at : ℕ) → at < n → is_over (slice_get (closings_behind fs n) 0) at ≡ false
not_over [] n at h = refl
not_over (ends rest ∷ fs) n at h = other n at h
not_over (stops l rest ∷ fs) n at h = other n at h
not_over (turns b rest ∷ fs) n at h = other n at h
not_over (cleans b rest ∷ fs) n at h = other n at h

-- the statement at a place, and those behind it
here : (stmts : List CStmt) (at : ℕ) (s : CStmt) (ss : List CStmt) → drop at stmts ≡ s ∷ ss → at < length stmts
here stmts at s ss e = omega (arith, ap length e, length-drop at stmts)

head_here : (stmts : List CStmt) (at : ℕ) (s : CStmt) (ss : List CStmt) → drop at stmts ≡ s ∷ ss → slice_get stmts at ≡ Some s
head_here stmts at s ss e =
    let h = here stmts at s ss e in
    let d : get_or stmts at s ∷ drop (suc at) stmts ≡ s ∷ ss = sym (drop-cons stmts at s h) ∙ e in
    let first : get_or stmts at s ≡ s = cc in
    slice_get-get_or stmts at s h ∙ ap Some first

tail_here : (stmts : List CStmt) (at : ℕ) (s : CStmt) (ss : List CStmt) → drop at stmts ≡ s ∷ ss → drop (suc at) stmts ≡ ss
tail_here stmts at s ss e =
    let h = here stmts at s ss e in
    let d : get_or stmts at s ∷ drop (suc at) stmts ≡ s ∷ ss = sym (drop-cons stmts at s h) ∙ e in
    cc

none_here : (stmts : List CStmt) (at : ℕ) → drop at stmts ≡ [] → slice_get stmts at ≡ None
none_here stmts at e = slice_get_past stmts at (omega (arith, ap length e, length-drop at stmts))

module _ (stmts : List CStmt) (at : ℕ) where
  abbrev walk : List Closing → Position
  walk cs = record { at = at; closings = cs }

  -- the next step where no block is over
  entering : (fs : List Frame) (n : ℕ) (o : Option CStmt) → is_over (slice_get (closings_behind fs n) 0) at ≡ false → slice_get stmts at ≡ o → next_step stmts (walk (closings_behind fs n)) ≡ entered o (walk (closings_behind fs n))
  entering fs n o over here = rw (over, here) refl

  -- a statement is next
  enters : (l more : Left) (s : CStmt) (n : ℕ) → at < n → drop at stmts ≡ s ∷ flat_left more (suc at) → pieces_left l ≡ opening s ∷ pieces_left more → opened s (closings_behind l.frames n) ≡ closings_left more (suc at) → GoesOn stmts l (next_step stmts (walk (closings_behind l.frames n)))
  enters l more s n before e is around =
      subst (GoesOn stmts l) (sym (entering l.frames n (Some s) (not_over l.frames n at before) (head_here stmts at s (flat_left more (suc at)) e)))
      (more, is, record { rest = rw add-one (tail_here stmts at s (flat_left more (suc at)) e); around = rw add-one around })

  -- a statement of one piece is next
  enters_plain : (fs : List Frame) (c rest : Code) (s : CStmt) → drop at stmts ≡ s ∷ flat rest (suc at) (flat_behind fs (at + suc (size rest))) → size c ≡ suc (size rest) → pieces c (pieces_behind fs) ≡ opening s ∷ pieces rest (pieces_behind fs) → ((cs : List Closing) → opened s cs ≡ cs) → GoesOn stmts (left c fs) (next_step stmts (walk (closings_behind fs (at + suc (size rest)))))
  enters_plain fs c rest s e z is plain =
      let n : at + suc (size rest) ≡ suc at + size rest = omega arith in
      enters (left c fs) (left rest fs) s (at + suc (size rest)) (omega arith)
      (e ∙ ap (λ (k : ℕ). s ∷ flat rest (suc at) (flat_behind fs k)) n)
      is
      (plain (closings_behind fs (at + suc (size rest))) ∙ ap (closings_behind fs) n)

  -- what the next step is, by what is left
  goes_on_at : (c : Code) (fs : List Frame) → drop at stmts ≡ flat_left (left c fs) at → GoesOn stmts (left c fs) (next_step stmts (walk (closings_left (left c fs) at)))
  goes_on_at done [] e = rw (none_here stmts at e) refl
  goes_on_at done (ends rest ∷ fs) e =
      rw (no_more at, eq-eqb at at refl)
      (left rest fs, refl, record { rest = e ∙ rw (no_more at) refl; around = refl })
  goes_on_at done (stops l rest ∷ fs) e =
      rw (no_more at, eq-eqb at at refl)
      (left rest fs, refl, record { rest = e ∙ rw (no_more at) refl; around = refl })
  goes_on_at done (turns b rest ∷ fs) e =
      rw (no_more at, eq-eqb at at refl)
      (left b (ends rest ∷ fs), refl, record { rest = e ∙ rw (no_more at) refl; around = refl })
  goes_on_at done (cleans b rest ∷ fs) e =
      rw (no_more at, eq-eqb at at refl)
      (left b (ends rest ∷ fs), refl, record { rest = e ∙ rw (no_more at) refl; around = refl })
  goes_on_at (assign x v rest) fs e = enters_plain fs (assign x v rest) rest (stmt.Assign x v) e refl refl (λ cs. refl)
  goes_on_at (call k rest) fs e = enters_plain fs (call k rest) rest (stmt.Call k) e refl refl (λ cs. refl)
  goes_on_at (return v rest) fs e = enters_plain fs (return v rest) rest (stmt.Return v) e refl refl (λ cs. refl)
  goes_on_at (test v a b rest) fs e =
      let n : at + suc (size a + (size b + size rest)) ≡ suc at + size a + size b + size rest = omega arith in
      let m = suc at + size a in
      let s = stmt.If v (block (suc at) m) (block m (m + size b)) in
      enters (left (test v a b rest) fs) (left a (turns b rest ∷ fs)) s (at + suc (size a + (size b + size rest))) (omega arith)
      (e ∙ ap (λ (k : ℕ). s ∷ flat a (suc at) (flat b m (flat rest (m + size b) (flat_behind fs k)))) n)
      refl
      (ap (λ (k : ℕ). Else (block m (m + size b)) ∷ closings_behind fs k) n)
  goes_on_at (loop l body rest) fs e =
      let n : at + suc (size body + size rest) ≡ suc at + size body + size rest = omega arith in
      let m = suc at + size body in
      let s = stmt.Loop l (block (suc at) m) in
      enters (left (loop l body rest) fs) (left body (ends rest ∷ fs)) s (at + suc (size body + size rest)) (omega arith)
      (e ∙ ap (λ (k : ℕ). s ∷ flat body (suc at) (flat rest m (flat_behind fs k))) n)
      refl
      (ap (λ (k : ℕ). End m ∷ closings_behind fs k) n)
  goes_on_at (ended body l rest) fs e =
      let n : at + suc (size body + size rest) ≡ suc at + size body + size rest = omega arith in
      let m = suc at + size body in
      let s = stmt.Ended (block (suc at) m) l in
      enters (left (ended body l rest) fs) (left body (stops l rest ∷ fs)) s (at + suc (size body + size rest)) (omega arith)
      (e ∙ ap (λ (k : ℕ). s ∷ flat body (suc at) (flat rest m (flat_behind fs k))) n)
      refl
      (ap (λ (k : ℕ). Ended (record { end = m; label = l }) ∷ closings_behind fs k) n)
  goes_on_at (goto l rest) fs e = enters_plain fs (goto l rest) rest (stmt.Goto l) e refl refl (λ cs. refl)
  goes_on_at (catch c r body rest) fs e =
      let n : at + suc (size body + size rest) ≡ suc at + size body + size rest = omega arith in
      let m = suc at + size body in
      let s = stmt.Catch c r (block (suc at) m) in
      enters (left (catch c r body rest) fs) (left body (ends rest ∷ fs)) s (at + suc (size body + size rest)) (omega arith)
      (e ∙ ap (λ (k : ℕ). s ∷ flat body (suc at) (flat rest m (flat_behind fs k))) n)
      refl
      (ap (λ (k : ℕ). End m ∷ closings_behind fs k) n)
  goes_on_at (protect a b rest) fs e =
      let n : at + suc (size a + (size b + size rest)) ≡ suc at + size a + size b + size rest = omega arith in
      let m = suc at + size a in
      let s = stmt.Protect (block (suc at) m) (block m (m + size b)) in
      enters (left (protect a b rest) fs) (left a (cleans b rest ∷ fs)) s (at + suc (size a + (size b + size rest))) (omega arith)
      (e ∙ ap (λ (k : ℕ). s ∷ flat a (suc at) (flat b m (flat rest (m + size b) (flat_behind fs k)))) n)
      refl
      (ap (λ (k : ℕ). Cleanup (block m (m + size b)) ∷ closings_behind fs k) n)

goes_on : (stmts : List CStmt) (l : Left) (w : Position) → IsAt stmts l w → GoesOn stmts l (next_step stmts w)
goes_on stmts l w h =
    subst (λ (cs : List Closing). GoesOn stmts l (next_step stmts (record { at = w.at; closings = cs }))) (sym h.around) (goes_on_at stmts w.at l.code l.frames h.rest)

-- the pieces that were shown, and those of what is left, are all of them
pub record Shows (stmts : List CStmt) (all : List Piece) (w : Walk) (shown : List PieceRef) : Type 0 where
  pub behind : Left
  pub at : IsAt stmts behind (position w)
  pub parted : map piece_of shown ++ pieces_left behind ≡ all

pub shows_first : (stmts : List CStmt) (body : CBlock) (w : Walk) (shown : List PieceRef) → IsLaid stmts body → w ≡ record { at = 0; around = [] } → shown ≡ [] → Shows stmts (pieces (code_of stmts body) []) w shown
shows_first stmts body w shown laid e f =
    rw (e, f) (record { behind = left (code_of stmts body) []; at = record { rest = laid.1; around = refl }; parted = refl })

module _ (stmts : List CStmt) (all : List Piece) (w : Walk) (shown : List PieceRef) where
  pub shows_on : (p : PieceRef) (next : Walk) (more : List PieceRef) → step_of (Some p) next ≡ next_step stmts (position w) → more ≡ shown ++ p ∷ [] → Shows stmts all w shown → Shows stmts all next more
  shows_on p next more e f s =
      let g : GoesOn stmts s.behind (step_of (Some p) next) = subst (GoesOn stmts s.behind) (sym e) (goes_on stmts s.behind (position w) s.at) in
      record {
        behind = g.0;
        at = g.2;
        parted =
            ap (λ (ps : List PieceRef). map piece_of ps ++ pieces_left g.0) f
            ∙ ap (λ (ps : List Piece). ps ++ pieces_left g.0) (map-append piece_of shown (p ∷ []))
            ∙ append_assoc (map piece_of shown) (piece_of p ∷ []) (pieces_left g.0)
            ∙ ap (λ (ps : List Piece). map piece_of shown ++ ps) (sym g.1)
            ∙ s.parted;
      }

  pub shows_all : (next : Walk) → step_of None next ≡ next_step stmts (position w) → Shows stmts all w shown → map piece_of shown ≡ all
  shows_all next e s =
      let g : pieces_left s.behind ≡ [] = subst (GoesOn stmts s.behind) (sym e) (goes_on stmts s.behind (position w) s.at) in
      sym (append-nil (map piece_of shown)) ∙ ap (λ (ps : List Piece). map piece_of shown ++ ps) (sym g) ∙ s.parted

  pub shown_within : Shows stmts all w shown → length shown ≤ length all
  shown_within s = omega (arith, ap length s.parted, length-append (map piece_of shown) (pieces_left s.behind), length-map shown piece_of)

pub one_less : (all : List Piece) (shown more : List PieceRef) (p : PieceRef) → more ≡ shown ++ p ∷ [] → length more ≤ length all → length all - length more < length all - length shown
one_less all shown more p e h = omega (arith, ap length e, length-append shown (p ∷ []))

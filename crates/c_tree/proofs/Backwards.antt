-- A pass over pieces from the last to the first makes the statements of what is left of their code.
use Rattle.std.proofs.Common.{◌≡◌, ℕ, suc, ◌+◌, ◌-◌, ◌<◌, ◌≤◌, List, [], ◌∷◌, ◌++◌, length, take, get_or, add-one, Option, Some, None, Ok, Err, refl, sym, ap, ◌∙◌, subst, arith}
use Rattle.std.specs.Prelude.{reverse, IfOk, Result}
use Rattle.std.proofs.lemmas.List.{append-nil, append_assoc, reverse-append, reverse-reverse}
use Rattle.std.proofs.Math.Seq.{take-suc}
use Rattle.scheme_data.specs.declared.text.OutOfMemory.{OutOfMemory}
use Rattle.c_tree.specs.declared.laying.Layout.{Layout}
use Rattle.c_tree.specs.declared.tree.CBlock.{CBlock}
use Rattle.c_tree.specs.declared.tree.CStmt.{CStmt}
use Rattle.c_tree.specs.declared.pieces.Piece.{Piece}
use Rattle.c_tree.specs.declared.pieces.Piece.TheVariants as piece
use Rattle.c_tree.specs.declared.closing.Closing.{Closing}
use Rattle.c_tree.specs.declared.building.Building.{Building}
use Rattle.c_tree.specs.Code.{Code, done, assign, call, return, test, loop, ended, goto, catch, protect}
use Rattle.c_tree.specs.Layout.{size, block, flat, code_of, IsLaid}
use Rattle.c_tree.specs.Pieces.{pieces, LaysOut, GivesCode}
use Rattle.c_tree.specs.Steps.{weight, weights, put}
use Rattle.c_tree.proofs.Ranges.{is_laid, code_of-flat}
use Rattle.c_tree.proofs.Left.{Frame, ends, stops, turns, cleans, Left, left, flat_left, closings_left, pieces_left, read, read_more, read_piece, read-left, read-pieces, read-stuck, same_pieces, no_more}

-- what is built of what is left
abbrev pub built : Left → ℕ → Building
built l at = record { at = at; stmts = flat_left l at; closings = closings_left l at }

-- what a piece in front makes of what is left, and of what is built
abbrev pub Agrees : Piece → Left → ℕ → Option Building → Type 0
Agrees p l at None = read_piece p l ≡ None
Agrees p l at (Some b) = (more : Left) × (p ∷ pieces_left l ≡ pieces_left more) × (b ≡ built more b.at) × (weight p + b.at ≡ at)

before : (at k : ℕ) → 1 ≤ at → suc (at - 1) + k ≡ at + k
before at k h = omega arith

before_all : (at k : ℕ) → 1 ≤ at → at - 1 + suc k ≡ at + k
before_all at k h = omega arith

first_before : (at : ℕ) → 1 ≤ at → suc (at - 1) ≡ at
first_before at h = omega arith

all_of_if : (at a b c : ℕ) → 1 ≤ at → at - 1 + suc (a + (b + c)) ≡ at + a + b + c
all_of_if at a b c h = omega arith

all_of_loop : (at a b : ℕ) → 1 ≤ at → at - 1 + suc (a + b) ≡ at + a + b
all_of_loop at a b h = omega arith

pub put_agrees : (p : Piece) (c : Code) (fs : List Frame) (at : ℕ) → weight p ≤ at → Agrees p (left c fs) at (put p (built (left c fs) at))
put_agrees (piece.Assign x e) c fs at h = (left (assign x e c) fs, refl, rw (first_before at h, before_all at (size c) h) refl, omega arith)
put_agrees (piece.Call k) c fs at h = (left (call k c) fs, refl, rw (first_before at h, before_all at (size c) h) refl, omega arith)
put_agrees (piece.Return e) c fs at h = (left (return e c) fs, refl, rw (first_before at h, before_all at (size c) h) refl, omega arith)
put_agrees (piece.Goto l) c fs at h = (left (goto l c) fs, refl, rw (first_before at h, before_all at (size c) h) refl, omega arith)
put_agrees (piece.If e) c [] at h = refl
put_agrees (piece.If e) c (ends rest ∷ fs) at h = refl
put_agrees (piece.If e) c (stops m rest ∷ fs) at h = refl
put_agrees (piece.If e) c (cleans b rest ∷ fs) at h = refl
put_agrees (piece.If e) c (turns b rest ∷ fs) at h = (left (test e c b rest) fs, refl, rw (first_before at h, all_of_if at (size c) (size b) (size rest) h) refl, omega arith)
put_agrees piece.Else c [] at h = refl
put_agrees piece.Else c (stops m rest ∷ fs) at h = refl
put_agrees piece.Else c (turns b rest ∷ fs) at h = refl
put_agrees piece.Else c (cleans b rest ∷ fs) at h = refl
put_agrees piece.Else c (ends rest ∷ fs) at h = (left done (turns c rest ∷ fs), refl, rw (no_more at) refl, omega arith)
put_agrees (piece.Loop l) c [] at h = refl
put_agrees (piece.Loop l) c (stops m rest ∷ fs) at h = refl
put_agrees (piece.Loop l) c (turns b rest ∷ fs) at h = refl
put_agrees (piece.Loop l) c (cleans b rest ∷ fs) at h = refl
put_agrees (piece.Loop l) c (ends rest ∷ fs) at h = (left (loop l c rest) fs, refl, rw (first_before at h, all_of_loop at (size c) (size rest) h) refl, omega arith)
put_agrees piece.Begin c [] at h = refl
put_agrees piece.Begin c (ends rest ∷ fs) at h = refl
put_agrees piece.Begin c (turns b rest ∷ fs) at h = refl
put_agrees piece.Begin c (cleans b rest ∷ fs) at h = refl
put_agrees piece.Begin c (stops m rest ∷ fs) at h = (left (ended c m rest) fs, refl, rw (first_before at h, all_of_loop at (size c) (size rest) h) refl, omega arith)
put_agrees (piece.Ended l) c fs at h = (left done (stops l c ∷ fs), refl, rw (no_more at) refl, omega arith)
put_agrees (piece.Catch k r) c [] at h = refl
put_agrees (piece.Catch k r) c (stops m rest ∷ fs) at h = refl
put_agrees (piece.Catch k r) c (turns b rest ∷ fs) at h = refl
put_agrees (piece.Catch k r) c (cleans b rest ∷ fs) at h = refl
put_agrees (piece.Catch k r) c (ends rest ∷ fs) at h = (left (catch k r c rest) fs, refl, rw (first_before at h, all_of_loop at (size c) (size rest) h) refl, omega arith)
put_agrees piece.Protect c [] at h = refl
put_agrees piece.Protect c (ends rest ∷ fs) at h = refl
put_agrees piece.Protect c (stops m rest ∷ fs) at h = refl
put_agrees piece.Protect c (turns b rest ∷ fs) at h = refl
put_agrees piece.Protect c (cleans b rest ∷ fs) at h = (left (protect c b rest) fs, refl, rw (first_before at h, all_of_if at (size c) (size b) (size rest) h) refl, omega arith)
put_agrees piece.Cleanup c [] at h = refl
put_agrees piece.Cleanup c (stops m rest ∷ fs) at h = refl
put_agrees piece.Cleanup c (turns b rest ∷ fs) at h = refl
put_agrees piece.Cleanup c (cleans b rest ∷ fs) at h = refl
put_agrees piece.Cleanup c (ends rest ∷ fs) at h = (left done (cleans c rest ∷ fs), refl, rw (no_more at) refl, omega arith)
put_agrees piece.End c fs at h = (left done (ends c ∷ fs), refl, rw (no_more at) refl, omega arith)

weights-append : (ps qs : List Piece) → weights (ps ++ qs) ≡ weights ps + weights qs
weights-append [] qs = omega arith
weights-append (p ∷ ps) qs = omega (arith, weights-append ps qs)

pub weight_small : (p : Piece) → weight p ≤ 1
weight_small (piece.Assign x e) = omega arith
weight_small (piece.Call c) = omega arith
weight_small (piece.Return e) = omega arith
weight_small (piece.Goto l) = omega arith
weight_small (piece.If e) = omega arith
weight_small piece.Else = omega arith
weight_small (piece.Loop l) = omega arith
weight_small piece.Begin = omega arith
weight_small (piece.Ended l) = omega arith
weight_small (piece.Catch k r) = omega arith
weight_small piece.Protect = omega arith
weight_small piece.Cleanup = omega arith
weight_small piece.End = omega arith

pub weights-take : (ps : List Piece) (i : ℕ) (p : Piece) → i < length ps → p ≡ get_or ps i p → weights (take (i + 1) ps) ≡ weights (take i ps) + weight p
weights-take ps i p within is =
    let more : take (i + 1) ps ≡ take i ps ++ p ∷ [] = rw (add-one, take-suc ps i p within) (ap (λ (q : Piece). take i ps ++ q ∷ []) (sym is)) in
    ap weights more ∙ weights-append (take i ps) (p ∷ []) ∙ omega arith

weights-reverse : (ps : List Piece) → weights (reverse ps) ≡ weights ps
weights-reverse [] = refl
weights-reverse (p ∷ ps) = ap weights (reverse-append (p ∷ []) ps) ∙ omega (arith, weights-append (reverse ps) (p ∷ []), weights-reverse ps)

-- where the pass is, before the pieces that are still to come, the next of them first
pub record Stands (ps rest : List Piece) (b : Building) : Type 0 where
  pub behind : Left
  pub parted : ps ≡ reverse rest ++ pieces_left behind
  pub made : b ≡ built behind b.at
  pub counted : weights rest ≡ b.at

pub stands_first : (ps rest : List Piece) (b : Building) → rest ≡ reverse ps → b ≡ record { at = weights ps; stmts = []; closings = [] } → Stands ps rest b
stands_first ps rest b r e =
    rw (r, e) (record {
      behind = left done [];
      parted = sym (append-nil (reverse (reverse ps)) ∙ reverse-reverse ps);
      made = refl;
      counted = weights-reverse ps;
    })

module _ (ps : List Piece) (p : Piece) (rest : List Piece) (b : Building) where
  shifted : (l : Left) → ps ≡ reverse (p ∷ rest) ++ pieces_left l → ps ≡ reverse rest ++ (p ∷ pieces_left l)
  shifted l e = e ∙ ap (λ (qs : List Piece). qs ++ pieces_left l) (reverse-append (p ∷ []) rest) ∙ append_assoc (reverse rest) (p ∷ []) (pieces_left l)

  weighed : Stands ps (p ∷ rest) b → weight p ≤ b.at
  weighed s = omega (arith, s.counted)

  agreed : (s : Stands ps (p ∷ rest) b) → Agrees p s.behind b.at (put p b)
  agreed s = subst (λ (z : Building). Agrees p s.behind b.at (put p z)) (sym s.made) (put_agrees p s.behind.code s.behind.frames b.at (weighed s))

  pub stands_on : (next : Building) → put p b ≡ Some next → Stands ps (p ∷ rest) b → Stands ps rest next
  stands_on next e s =
      let a : Agrees p s.behind b.at (Some next) = subst (λ (o : Option Building). Agrees p s.behind b.at o) e (agreed s) in
      record {
        behind = a.0;
        parted = shifted s.behind s.parted ∙ ap (λ (qs : List Piece). reverse rest ++ qs) a.1;
        made = a.2;
        counted = omega (arith, s.counted, a.3);
      }

  pub stuck : put p b ≡ None → Stands ps (p ∷ rest) b → LaysOut ps None
  stuck e s c is =
      let a : read_piece p s.behind ≡ None = subst (λ (o : Option Building). Agrees p s.behind b.at o) e (agreed s) in
      let more : read (p ∷ pieces_left s.behind) ≡ None = ap (read_more p) (read-left s.behind) ∙ a in
      let whole : read ps ≡ None = ap read (shifted s.behind s.parted) ∙ read-stuck (reverse rest) (p ∷ pieces_left s.behind) more in
      let code : read ps ≡ Some (left c []) = ap read is ∙ read-pieces c [] [] refl in
      absurd cc

-- what is built of code is its list
abbrev pub Finished : List Piece → Building → Type 0
Finished ps b = IsLaid b.stmts (block 0 (length b.stmts)) × (ps ≡ pieces (code_of b.stmts (block 0 (length b.stmts))) [])

finished_at : (ps : List Piece) (l : Left) (cs : List Closing) → ps ≡ pieces_left l → cs ≡ closings_left l 0 → cs ≡ [] → Finished ps (built l 0)
finished_at ps l cs e h none = of_frames l.frames l.code e (sym h ∙ none)
  where
    of_frames : (fs : List Frame) (c : Code) → ps ≡ pieces_left (left c fs) → closings_left (left c fs) 0 ≡ [] → Finished ps (built (left c fs) 0)
    of_frames [] c e none = (is_laid c (flat c 0 []) refl, e ∙ ap (λ (d : Code). pieces d []) (sym (code_of-flat c)))
    of_frames (ends rest ∷ fs) c e none = absurd cc
    of_frames (stops l rest ∷ fs) c e none = absurd cc
    of_frames (turns d rest ∷ fs) c e none = absurd cc
    of_frames (cleans d rest ∷ fs) c e none = absurd cc

module _ (ps : List Piece) (b : Building) where
  first : Stands ps [] b → b.at ≡ 0
  first s = sym s.counted

  at_first : (s : Stands ps [] b) → b ≡ built s.behind 0
  at_first s = s.made ∙ ap (built s.behind) (first s)

  pub finished : b.closings ≡ [] → Stands ps [] b → Finished ps b
  finished none s =
      subst (Finished ps) (sym (at_first s)) (finished_at ps s.behind b.closings s.parted (ap (λ (z : Building). z.closings) (at_first s)) none)

  pub unfinished : (b.closings ≡ [] → ⊥) → Stands ps [] b → LaysOut ps None
  unfinished some s c is =
      let e : Some s.behind ≡ Some (left c []) = sym (read-left s.behind) ∙ ap read (sym s.parted ∙ is) ∙ read-pieces c [] [] refl in
      let same : s.behind ≡ left c [] = cc in
      some (ap (λ (z : Building). z.closings) (at_first s) ∙ ap (λ (l : Left). closings_left l 0) same)

pub laid_same : (stmts made : List CStmt) (body : CBlock) → stmts ≡ made → body ≡ block 0 (length made) → pieces (code_of stmts body) [] ≡ pieces (code_of made (block 0 (length made))) []
laid_same stmts made body e f = rw (e, f) refl

-- what has these pieces is what is given
pub gives : (ps : List Piece) (result : Result (Option Layout) OutOfMemory) → IfOk result (LaysOut ps) → (c : Code) → ps ≡ pieces c [] → GivesCode c result
gives ps (Ok None) h c e = absurd (h c e)
gives ps (Ok (Some l)) h c e = same_pieces (code_of l.stmts l.body) c (sym h ∙ e)
gives ps (Err e) h c is = tt

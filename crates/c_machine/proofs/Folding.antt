-- The pieces of code are decoded to its lines.
use Rattle.std.proofs.Common.{◌≡◌, ℕ, suc, ◌+◌, ◌-◌, List, [], ◌∷◌, length, refl, ap, ◌∙◌, arith}
use Rattle.c_tree.specs.declared.tree.CStmt.{CStmt}
use Rattle.c_tree.specs.declared.pieces.Piece.{Piece}
use Rattle.c_tree.specs.declared.pieces.Piece.TheVariants as piece
use Rattle.c_tree.specs.Code.{Code, done, assign, call, return, test, loop, ended, goto, catch, protect}
use Rattle.c_tree.specs.Layout.{size, flat}
use Rattle.c_tree.specs.Pieces.{pieces}
use Rattle.c_meaning.specs.Execution.{Names, position_of}
use Rattle.c_machine.specs.declared.program.Target.TheVariants as target
use Rattle.c_machine.specs.declared.program.Instr.{Instr}
use Rattle.c_machine.specs.declared.program.Instr.TheVariants as instr
use Rattle.c_machine.specs.declared.program.Line.{Line}
use Rattle.c_machine.specs.declared.lines.Open.{Open}
use Rattle.c_machine.specs.declared.lines.Decoding.{Decoding}
use Rattle.c_machine.specs.Decoded.{line, lines, first_of, last_of, code_of, call_of, expr_instr}
use Rattle.c_machine.specs.Decoding.{started, put, decoded, decoded_all}

pub length-flat : (c : Code) (at : ℕ) (others : List CStmt) → length (flat c at others) ≡ size c + length others
length-flat done at others = omega arith
length-flat (assign x e rest) at others = let h = length-flat rest (suc at) others in omega arith
length-flat (call c rest) at others = let h = length-flat rest (suc at) others in omega arith
length-flat (return e rest) at others = let h = length-flat rest (suc at) others in omega arith
length-flat (test e a b rest) at others =
    let m = suc at + size a in
    let k = m + size b in
    let i = length-flat a (suc at) (flat b m (flat rest k others)) in
    let j = length-flat b m (flat rest k others) in
    let h = length-flat rest k others in
    omega arith
length-flat (loop l body rest) at others =
    let m = suc at + size body in
    let i = length-flat body (suc at) (flat rest m others) in
    let h = length-flat rest m others in
    omega arith
length-flat (ended body l rest) at others =
    let m = suc at + size body in
    let i = length-flat body (suc at) (flat rest m others) in
    let h = length-flat rest m others in
    omega arith
length-flat (goto l rest) at others = let h = length-flat rest (suc at) others in omega arith
length-flat (catch k r body rest) at others =
    let m = suc at + size body in
    let i = length-flat body (suc at) (flat rest m others) in
    let h = length-flat rest m others in
    omega arith
length-flat (protect a b rest) at others =
    let m = suc at + size a in
    let k = m + size b in
    let i = length-flat a (suc at) (flat b m (flat rest k others)) in
    let j = length-flat b m (flat rest k others) in
    let h = length-flat rest k others in
    omega arith

abbrev state : ℕ → ℕ → List Open → List Line → Decoding
state at next blocks ls = record { at = at; next = next; blocks = blocks; lines = ls }

-- a line in front, where the place of the one behind it is known
put_state : (i : Instr) (at next : ℕ) (blocks : List Open) (ls : List Line) → put i (state (suc at) next blocks ls) ≡ state at at blocks (line i next ∷ ls)
put_state i at next blocks ls = let back : suc at - 1 ≡ at = omega arith in ap (λ (n : ℕ). state n n blocks (line i next ∷ ls)) back

module _ (names funs : Names) (d : Decoding) where
  abbrev all : List Piece → Decoding
  all ps = decoded_all names funs ps d

  -- in front of others, code is decoded to its lines in front of theirs
  pub code_decoded : (c : Code) (others : List Piece) (at on end : ℕ) (blocks : List Open) (ls : List Line) → end ≡ at + size c → all others ≡ state end on blocks ls → all (pieces c others) ≡ state at (first_of c at on) blocks (lines names funs c at on ls)
  code_decoded done others at on end blocks ls is h = h ∙ ap (λ (n : ℕ). state n on blocks ls) (omega (arith, is))
  code_decoded (assign x e rest) others at on end blocks ls is h =
      let p = piece.Assign x e in
      ap (decoded names funs p) (code_decoded rest others (suc at) on end blocks ls (omega (arith, is)) h)
      ∙ put_state (expr_instr names funs (target.Local (position_of x names)) e) at (first_of rest (suc at) on) blocks (lines names funs rest (suc at) on ls)
  code_decoded (call c rest) others at on end blocks ls is h =
      ap (decoded names funs (piece.Call c)) (code_decoded rest others (suc at) on end blocks ls (omega (arith, is)) h)
      ∙ put_state (call_of names funs target.Nowhere c.callee c.args) at (first_of rest (suc at) on) blocks (lines names funs rest (suc at) on ls)
  code_decoded (return e rest) others at on end blocks ls is h =
      ap (decoded names funs (piece.Return e)) (code_decoded rest others (suc at) on end blocks ls (omega (arith, is)) h)
      ∙ put_state (expr_instr names funs target.Caller e) at (first_of rest (suc at) on) blocks (lines names funs rest (suc at) on ls)
  code_decoded (test e a b rest) others at on end blocks ls is h =
      let m = suc at + size a in
      let k = m + size b in
      let after = first_of rest k on in
      let second = first_of b m after in
      let behind = lines names funs rest k on ls in
      let both = lines names funs b m after behind in
      let closed : Open = record { after = after; second = after } in
      let half : Open = record { after = after; second = second } in
      let r = code_decoded rest others k on end blocks ls (omega (arith, is)) h in
      let q = code_decoded b (piece.End ∷ pieces rest others) m after k (closed ∷ blocks) behind refl (ap (decoded names funs piece.End) r) in
      let p = code_decoded a (piece.Else ∷ pieces b (piece.End ∷ pieces rest others)) (suc at) after m (half ∷ blocks) both refl (ap (decoded names funs piece.Else) q) in
      ap (decoded names funs (piece.If e)) p
      ∙ put_state (expr_instr names funs (target.Test second) e) at (first_of a (suc at) after) blocks (lines names funs a (suc at) after both)
  code_decoded (loop l body rest) others at on end blocks ls is h =
      let k = suc at + size body in
      let after = first_of rest k on in
      let behind = lines names funs rest k on ls in
      let closed : Open = record { after = after; second = after } in
      let r = code_decoded rest others k on end blocks ls (omega (arith, is)) h in
      let q = code_decoded body (piece.End ∷ pieces rest others) (suc at) after k (closed ∷ blocks) behind refl (ap (decoded names funs piece.End) r) in
      ap (decoded names funs (piece.Loop l)) q
      ∙ put_state instr.Turn at (first_of body (suc at) after) blocks (lines names funs body (suc at) after behind)
  code_decoded (ended body l rest) others at on end blocks ls is h =
      let k = suc at + size body in
      let after = first_of rest k on in
      let behind = lines names funs rest k on ls in
      let closed : Open = record { after = after; second = after } in
      let r = code_decoded rest others k on end blocks ls (omega (arith, is)) h in
      let q = code_decoded body (piece.Ended l ∷ pieces rest others) (suc at) after k (closed ∷ blocks) behind refl (ap (decoded names funs (piece.Ended l)) r) in
      ap (decoded names funs piece.Begin) q
      ∙ put_state instr.Stop at (first_of body (suc at) after) blocks (lines names funs body (suc at) after behind)
  code_decoded (goto l rest) others at on end blocks ls is h =
      ap (decoded names funs (piece.Goto l)) (code_decoded rest others (suc at) on end blocks ls (omega (arith, is)) h)
      ∙ put_state instr.Stop at (first_of rest (suc at) on) blocks (lines names funs rest (suc at) on ls)
  code_decoded (catch x y body rest) others at on end blocks ls is h =
      let k = suc at + size body in
      let after = first_of rest k on in
      let behind = lines names funs rest k on ls in
      let closed : Open = record { after = after; second = after } in
      let r = code_decoded rest others k on end blocks ls (omega (arith, is)) h in
      let q = code_decoded body (piece.End ∷ pieces rest others) (suc at) after k (closed ∷ blocks) behind refl (ap (decoded names funs piece.End) r) in
      ap (decoded names funs (piece.Catch x y)) q
      ∙ put_state instr.Stop at (first_of body (suc at) after) blocks (lines names funs body (suc at) after behind)
  code_decoded (protect a b rest) others at on end blocks ls is h =
      let m = suc at + size a in
      let k = m + size b in
      let after = first_of rest k on in
      let second = first_of b m after in
      let behind = lines names funs rest k on ls in
      let both = lines names funs b m after behind in
      let closed : Open = record { after = after; second = after } in
      let half : Open = record { after = after; second = second } in
      let r = code_decoded rest others k on end blocks ls (omega (arith, is)) h in
      let q = code_decoded b (piece.End ∷ pieces rest others) m after k (closed ∷ blocks) behind refl (ap (decoded names funs piece.End) r) in
      let p = code_decoded a (piece.Cleanup ∷ pieces b (piece.End ∷ pieces rest others)) (suc at) after m (half ∷ blocks) both refl (ap (decoded names funs piece.Cleanup) q) in
      ap (decoded names funs piece.Protect) p
      ∙ put_state instr.Stop at (first_of a (suc at) after) blocks (lines names funs a (suc at) after both)

-- a function's pieces, decoded from the end of its list of statements
pub pieces_decoded : (names funs : Names) (c : Code) (stmts : List CStmt) (ps : List Piece) (end : ℕ) (i : Instr) (d : Decoding) → stmts ≡ flat c 0 [] → ps ≡ pieces c [] → end ≡ suc (length stmts) → i ≡ last_of c → d ≡ decoded_all names funs ps (started end i) → line instr.Give 1 ∷ d.lines ≡ code_of names funs c
pieces_decoded names funs c stmts ps end i d laid is long last h =
    let size_is : length stmts ≡ size c = (let e = ap length laid in let n = length-flat c 0 [] in omega arith) in
    let all : d ≡ decoded_all names funs (pieces c []) (started (suc (size c)) (last_of c)) =
    h ∙ ap (λ (qs : List Piece). decoded_all names funs qs (started end i)) is ∙ ap (λ (n : ℕ). decoded_all names funs (pieces c []) (started n i)) (long ∙ ap (λ (n : ℕ). suc n) size_is) ∙ ap (λ (j : Instr). decoded_all names funs (pieces c []) (started (suc (size c)) j)) last in
    let done : decoded_all names funs (pieces c []) (started (suc (size c)) (last_of c)) ≡ state 1 (first_of c 1 (suc (size c))) [] (lines names funs c 1 (suc (size c)) (line (last_of c) (suc (size c)) ∷ [])) =
    code_decoded names funs (started (suc (size c)) (last_of c)) c [] 1 (suc (size c)) (suc (size c)) [] (line (last_of c) (suc (size c)) ∷ []) (omega arith) refl in
    ap (λ (x : Decoding). line instr.Give 1 ∷ x.lines) (all ∙ done)

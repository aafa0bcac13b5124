-- Statements in one list: how many they are, and that a range gives its code back.
use Rattle.std.proofs.Common.{◌≡◌, ℕ, suc, ◌+◌, ◌<◌, ◌≤◌, List, [], ◌∷◌, length, refl, sym, ap, ◌∙◌, subst, arith}
use Rattle.std.proofs.lemmas.Bool.{lt-ltb, le-ltb}
use Rattle.c_tree.specs.declared.tree.CStmt.{CStmt}
use Rattle.c_tree.specs.declared.tree.CStmt.TheVariants as stmt
use Rattle.c_tree.specs.Code.{Code, done, assign, call, return, test, loop, ended, goto, catch, protect}
use Rattle.c_tree.specs.Layout.{size, block, flat, code_from, code_with, code_of, IsLaid}

pub length-flat : (c : Code) (at : ℕ) (others : List CStmt) → length (flat c at others) ≡ size c + length others
length-flat done at others = omega arith
length-flat (assign x e rest) at others = omega (arith, length-flat rest (suc at) others)
length-flat (call c rest) at others = omega (arith, length-flat rest (suc at) others)
length-flat (return e rest) at others = omega (arith, length-flat rest (suc at) others)
length-flat (test e a b rest) at others =
    omega (arith, length-flat a (suc at) (flat b (suc at + size a) (flat rest (suc at + size a + size b) others)), length-flat b (suc at + size a) (flat rest (suc at + size a + size b) others), length-flat rest (suc at + size a + size b) others)
length-flat (loop l body rest) at others =
    omega (arith, length-flat body (suc at) (flat rest (suc at + size body) others), length-flat rest (suc at + size body) others)
length-flat (ended body l rest) at others =
    omega (arith, length-flat body (suc at) (flat rest (suc at + size body) others), length-flat rest (suc at + size body) others)
length-flat (goto l rest) at others = omega (arith, length-flat rest (suc at) others)
length-flat (catch k r body rest) at others =
    omega (arith, length-flat body (suc at) (flat rest (suc at + size body) others), length-flat rest (suc at + size body) others)
length-flat (protect a b rest) at others =
    omega (arith, length-flat a (suc at) (flat b (suc at + size a) (flat rest (suc at + size a + size b) others)), length-flat b (suc at + size a) (flat rest (suc at + size a + size b) others), length-flat rest (suc at + size a + size b) others)

-- a statement before the range is passed over, one in it is read, and none behind it is
passed : (s : CStmt) (ss : List CStmt) (at first end : ℕ) → at < first → code_from at (s ∷ ss) first end ≡ code_from (suc at) ss first end
passed s ss at first end before = rw (lt-ltb at first before) refl

begun : (s : CStmt) (ss : List CStmt) (at first end : ℕ) → first ≤ at → at < end → code_from at (s ∷ ss) first end ≡ code_with (code_from (suc at) ss) s (suc at) end
begun s ss at first end from before = rw (le-ltb at first from, lt-ltb at end before) refl

none_after : (ss : List CStmt) (at first end : ℕ) → first ≤ at → end ≤ at → code_from at ss first end ≡ done
none_after [] at first end from behind = refl
none_after (s ∷ ss) at first end from behind = rw (le-ltb at first from, le-ltb at end behind) refl

-- a range behind code is read behind it
pub code_from-past : (c : Code) (at : ℕ) (more : List CStmt) (first end : ℕ) → at + size c ≤ first → code_from at (flat c at more) first end ≡ code_from (at + size c) more first end
code_from-past done at more first end h = let e : at + 0 ≡ at = omega arith in rw e refl
code_from-past (assign x e rest) at more first end h =
    let k : suc at + size rest ≡ at + suc (size rest) = omega arith in
    passed (stmt.Assign x e) (flat rest (suc at) more) at first end (omega arith) ∙ code_from-past rest (suc at) more first end (omega arith) ∙ rw k refl
code_from-past (call c rest) at more first end h =
    let k : suc at + size rest ≡ at + suc (size rest) = omega arith in
    passed (stmt.Call c) (flat rest (suc at) more) at first end (omega arith) ∙ code_from-past rest (suc at) more first end (omega arith) ∙ rw k refl
code_from-past (return e rest) at more first end h =
    let k : suc at + size rest ≡ at + suc (size rest) = omega arith in
    passed (stmt.Return e) (flat rest (suc at) more) at first end (omega arith) ∙ code_from-past rest (suc at) more first end (omega arith) ∙ rw k refl
code_from-past (test e a b rest) at more first end h =
    let m = suc at + size a in
    let n = m + size b in
    let k : n + size rest ≡ at + suc (size a + (size b + size rest)) = omega arith in
    passed (stmt.If e (block (suc at) m) (block m n)) (flat a (suc at) (flat b m (flat rest n more))) at first end (omega arith)
    ∙ code_from-past a (suc at) (flat b m (flat rest n more)) first end (omega arith)
    ∙ code_from-past b m (flat rest n more) first end (omega arith)
    ∙ code_from-past rest n more first end (omega arith)
    ∙ rw k refl
code_from-past (loop l body rest) at more first end h =
    let m = suc at + size body in
    let k : m + size rest ≡ at + suc (size body + size rest) = omega arith in
    passed (stmt.Loop l (block (suc at) m)) (flat body (suc at) (flat rest m more)) at first end (omega arith)
    ∙ code_from-past body (suc at) (flat rest m more) first end (omega arith)
    ∙ code_from-past rest m more first end (omega arith)
    ∙ rw k refl
code_from-past (ended body l rest) at more first end h =
    let m = suc at + size body in
    let k : m + size rest ≡ at + suc (size body + size rest) = omega arith in
    passed (stmt.Ended (block (suc at) m) l) (flat body (suc at) (flat rest m more)) at first end (omega arith)
    ∙ code_from-past body (suc at) (flat rest m more) first end (omega arith)
    ∙ code_from-past rest m more first end (omega arith)
    ∙ rw k refl
code_from-past (goto l rest) at more first end h =
    let k : suc at + size rest ≡ at + suc (size rest) = omega arith in
    passed (stmt.Goto l) (flat rest (suc at) more) at first end (omega arith) ∙ code_from-past rest (suc at) more first end (omega arith) ∙ rw k refl
code_from-past (catch k r body rest) at more first end h =
    let m = suc at + size body in
    let all : m + size rest ≡ at + suc (size body + size rest) = omega arith in
    passed (stmt.Catch k r (block (suc at) m)) (flat body (suc at) (flat rest m more)) at first end (omega arith)
    ∙ code_from-past body (suc at) (flat rest m more) first end (omega arith)
    ∙ code_from-past rest m more first end (omega arith)
    ∙ rw all refl
code_from-past (protect a b rest) at more first end h =
    let m = suc at + size a in
    let n = m + size b in
    let k : n + size rest ≡ at + suc (size a + (size b + size rest)) = omega arith in
    passed (stmt.Protect (block (suc at) m) (block m n)) (flat a (suc at) (flat b m (flat rest n more))) at first end (omega arith)
    ∙ code_from-past a (suc at) (flat b m (flat rest n more)) first end (omega arith)
    ∙ code_from-past b m (flat rest n more) first end (omega arith)
    ∙ code_from-past rest n more first end (omega arith)
    ∙ rw k refl

-- a range that begins no later than code and ends where it does is the code
pub code_from-at : (c : Code) (at : ℕ) (more : List CStmt) (first end : ℕ) → first ≤ at → end ≡ at + size c → code_from at (flat c at more) first end ≡ c
code_from-at done at more first end from e = none_after more at first end from (omega arith)
code_from-at (assign x e rest) at more first end from h =
    begun (stmt.Assign x e) (flat rest (suc at) more) at first end from (omega arith)
    ∙ ap (assign x e) (code_from-at rest (suc at) more (suc at) end (omega arith) (omega arith))
code_from-at (call c rest) at more first end from h =
    begun (stmt.Call c) (flat rest (suc at) more) at first end from (omega arith)
    ∙ ap (call c) (code_from-at rest (suc at) more (suc at) end (omega arith) (omega arith))
code_from-at (return e rest) at more first end from h =
    begun (stmt.Return e) (flat rest (suc at) more) at first end from (omega arith)
    ∙ ap (return e) (code_from-at rest (suc at) more (suc at) end (omega arith) (omega arith))
code_from-at (test e a b rest) at more first end from h =
    let m = suc at + size a in
    let n = m + size b in
    let laid = flat b m (flat rest n more) in
    let one : code_from (suc at) (flat a (suc at) laid) (suc at) m ≡ a = code_from-at a (suc at) laid (suc at) m (omega arith) refl in
    let two : code_from (suc at) (flat a (suc at) laid) m n ≡ b = code_from-past a (suc at) laid m n (omega arith) ∙ code_from-at b m (flat rest n more) m n (omega arith) refl in
    let three : code_from (suc at) (flat a (suc at) laid) n end ≡ rest =
    code_from-past a (suc at) laid n end (omega arith) ∙ code_from-past b m (flat rest n more) n end (omega arith) ∙ code_from-at rest n more n end (omega arith) (omega arith) in
    begun (stmt.If e (block (suc at) m) (block m n)) (flat a (suc at) laid) at first end from (omega arith) ∙ rw (one, two, three) refl
code_from-at (loop l body rest) at more first end from h =
    let m = suc at + size body in
    let one : code_from (suc at) (flat body (suc at) (flat rest m more)) (suc at) m ≡ body = code_from-at body (suc at) (flat rest m more) (suc at) m (omega arith) refl in
    let two : code_from (suc at) (flat body (suc at) (flat rest m more)) m end ≡ rest =
    code_from-past body (suc at) (flat rest m more) m end (omega arith) ∙ code_from-at rest m more m end (omega arith) (omega arith) in
    begun (stmt.Loop l (block (suc at) m)) (flat body (suc at) (flat rest m more)) at first end from (omega arith) ∙ rw (one, two) refl
code_from-at (ended body l rest) at more first end from h =
    let m = suc at + size body in
    let one : code_from (suc at) (flat body (suc at) (flat rest m more)) (suc at) m ≡ body = code_from-at body (suc at) (flat rest m more) (suc at) m (omega arith) refl in
    let two : code_from (suc at) (flat body (suc at) (flat rest m more)) m end ≡ rest =
    code_from-past body (suc at) (flat rest m more) m end (omega arith) ∙ code_from-at rest m more m end (omega arith) (omega arith) in
    begun (stmt.Ended (block (suc at) m) l) (flat body (suc at) (flat rest m more)) at first end from (omega arith) ∙ rw (one, two) refl
code_from-at (goto l rest) at more first end from h =
    begun (stmt.Goto l) (flat rest (suc at) more) at first end from (omega arith)
    ∙ ap (goto l) (code_from-at rest (suc at) more (suc at) end (omega arith) (omega arith))
code_from-at (catch k r body rest) at more first end from h =
    let m = suc at + size body in
    let one : code_from (suc at) (flat body (suc at) (flat rest m more)) (suc at) m ≡ body = code_from-at body (suc at) (flat rest m more) (suc at) m (omega arith) refl in
    let two : code_from (suc at) (flat body (suc at) (flat rest m more)) m end ≡ rest =
    code_from-past body (suc at) (flat rest m more) m end (omega arith) ∙ code_from-at rest m more m end (omega arith) (omega arith) in
    begun (stmt.Catch k r (block (suc at) m)) (flat body (suc at) (flat rest m more)) at first end from (omega arith) ∙ rw (one, two) refl
code_from-at (protect a b rest) at more first end from h =
    let m = suc at + size a in
    let n = m + size b in
    let laid = flat b m (flat rest n more) in
    let one : code_from (suc at) (flat a (suc at) laid) (suc at) m ≡ a = code_from-at a (suc at) laid (suc at) m (omega arith) refl in
    let two : code_from (suc at) (flat a (suc at) laid) m n ≡ b = code_from-past a (suc at) laid m n (omega arith) ∙ code_from-at b m (flat rest n more) m n (omega arith) refl in
    let three : code_from (suc at) (flat a (suc at) laid) n end ≡ rest =
    code_from-past a (suc at) laid n end (omega arith) ∙ code_from-past b m (flat rest n more) n end (omega arith) ∙ code_from-at rest n more n end (omega arith) (omega arith) in
    begun (stmt.Protect (block (suc at) m) (block m n)) (flat a (suc at) laid) at first end from (omega arith) ∙ rw (one, two, three) refl

-- the list of code has this code
pub code_of-flat : (c : Code) → code_of (flat c 0 []) (block 0 (length (flat c 0 []))) ≡ c
code_of-flat c = code_from-at c 0 [] 0 (length (flat c 0 [])) (omega arith) (omega (arith, length-flat c 0 []))

pub is_laid : (c : Code) (stmts : List CStmt) → stmts ≡ flat c 0 [] → IsLaid stmts (block 0 (length stmts))
is_laid c stmts e = subst (λ (ss : List CStmt). IsLaid ss (block 0 (length ss))) (sym e) (refl, ap (λ (d : Code). flat d 0 []) (sym (code_of-flat c)))

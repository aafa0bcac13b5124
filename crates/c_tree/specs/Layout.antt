-- Statements in one list, in text order: a statement stands right before those of its blocks, and a block is the range of places of its statements.
use Rattle.std.specs.Prelude.{◌≡◌, ℕ, suc, ◌+◌, List, [], ◌∷◌, length, nat_lt, if◌then◌else◌}
use Rattle.c_tree.specs.declared.tree.CBlock.{CBlock}
use Rattle.c_tree.specs.declared.tree.CStmt.{CStmt}
use Rattle.c_tree.specs.declared.tree.CStmt.TheVariants as stmt
use Rattle.c_tree.specs.Code.{Code, done, assign, call, return, test, loop, ended, goto, catch, protect}

-- how many statements there are
abbrev pub size : Code → ℕ
size done = 0
size (assign x e rest) = suc (size rest)
size (call c rest) = suc (size rest)
size (return e rest) = suc (size rest)
size (test e a b rest) = suc (size a + (size b + size rest))
size (loop l body rest) = suc (size body + size rest)
size (ended body l rest) = suc (size body + size rest)
size (goto l rest) = suc (size rest)
size (catch k r body rest) = suc (size body + size rest)
size (protect a b rest) = suc (size a + (size b + size rest))

abbrev pub block : ℕ → ℕ → CBlock
block first end = record { first = first; end = end }

-- the list of statements that stand from a place on, in front of others
abbrev pub flat : Code → ℕ → List CStmt → List CStmt
flat done at others = others
flat (assign x e rest) at others = stmt.Assign x e ∷ flat rest (suc at) others
flat (call c rest) at others = stmt.Call c ∷ flat rest (suc at) others
flat (return e rest) at others = stmt.Return e ∷ flat rest (suc at) others
flat (test e a b rest) at others =
    stmt.If e (block (suc at) (suc at + size a)) (block (suc at + size a) (suc at + size a + size b))
    ∷ flat a (suc at) (flat b (suc at + size a) (flat rest (suc at + size a + size b) others))
flat (loop l body rest) at others =
    stmt.Loop l (block (suc at) (suc at + size body)) ∷ flat body (suc at) (flat rest (suc at + size body) others)
flat (ended body l rest) at others =
    stmt.Ended (block (suc at) (suc at + size body)) l ∷ flat body (suc at) (flat rest (suc at + size body) others)
flat (goto l rest) at others = stmt.Goto l ∷ flat rest (suc at) others
flat (catch k r body rest) at others =
    stmt.Catch k r (block (suc at) (suc at + size body)) ∷ flat body (suc at) (flat rest (suc at + size body) others)
flat (protect a b rest) at others =
    stmt.Protect (block (suc at) (suc at + size a)) (block (suc at + size a) (suc at + size a + size b))
    ∷ flat a (suc at) (flat b (suc at + size a) (flat rest (suc at + size a + size b) others))

-- a statement, where the code of each range behind it is known, and what follows it to the end of its block
abbrev pub code_with : (ℕ → ℕ → Code) → CStmt → ℕ → ℕ → Code
code_with from (stmt.Assign x e) next end = assign x e (from next end)
code_with from (stmt.Call c) next end = call c (from next end)
code_with from (stmt.Return e) next end = return e (from next end)
code_with from (stmt.If e p q) next end = test e (from p.first p.end) (from q.first q.end) (from q.end end)
code_with from (stmt.Loop l p) next end = loop l (from p.first p.end) (from p.end end)
code_with from (stmt.Ended p l) next end = ended (from p.first p.end) l (from p.end end)
code_with from (stmt.Goto l) next end = goto l (from next end)
code_with from (stmt.Catch k r p) next end = catch k r (from p.first p.end) (from p.end end)
code_with from (stmt.Protect p q) next end = protect (from p.first p.end) (from q.first q.end) (from q.end end)

-- the code of a range of places, of statements of which the first stands at a place
abbrev pub code_from : ℕ → List CStmt → ℕ → ℕ → Code
code_from at [] first end = done
code_from at (s ∷ ss) first end =
    if nat_lt at first then code_from (suc at) ss first end
    else (if nat_lt at end then code_with (code_from (suc at) ss) s (suc at) end else done)

abbrev pub code_of : List CStmt → CBlock → Code
code_of stmts body = code_from 0 stmts body.first body.end

-- the list is that of its code, in text order, and the body is the range of all of them
abbrev pub IsLaid : List CStmt → CBlock → Type 0
IsLaid stmts body = (body ≡ block 0 (length stmts)) × (stmts ≡ flat (code_of stmts body) 0 [])

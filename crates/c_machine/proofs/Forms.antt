-- Statements in one list are runnable exactly where their code is.
use Rattle.std.proofs.Common.{◌≡◌, ℕ, suc, ◌+◌, Bool, true, false, ◌&&◌, List, [], ◌∷◌, length, drop, Some, slice_get, refl, sym, ap, ◌∙◌, arith}
use Rattle.std.specs.Prelude.{nat_eq}
use Rattle.std.specs.List.{list_all}
use Rattle.std.proofs.lemmas.Bool.{eq-eqb, ne_eqb}
use Rattle.c_tree.specs.declared.tree.CBlock.{CBlock}
use Rattle.c_tree.specs.declared.tree.CStmt.{CStmt}
use Rattle.c_tree.specs.declared.tree.CStmt.TheVariants as stmt
use Rattle.c_tree.specs.Code.{Code, done, assign, call, return, test, loop, ended, goto, catch, protect}
use Rattle.c_tree.specs.Layout.{size, flat}
use Rattle.c_meaning.specs.Runnable.{is_runnable_call, is_runnable_expr, is_straight, is_runnable_code}
use Rattle.c_machine.specs.Forms.{is_straight_statement, are_runnable}
use Rattle.c_machine.proofs.Folding.{length-flat}

associated : (a b c : Bool) → (a && (b && c)) ≡ ((a && b) && c)
associated true b c = refl
associated false b c = refl

and_true : (a : Bool) → (a && true) ≡ a
and_true true = refl
and_true false = refl

abbrev all : List CStmt → Bool
all ss = list_all is_straight_statement ss

-- a statement, and what follows it
step : (a b c d : Bool) → b ≡ (c && d) → (a && b) ≡ ((a && c) && d)
step a b c d e = ap (λ x. a && x) e ∙ associated a c d

straight_flat : (c : Code) (at : ℕ) (others : List CStmt) → all (flat c at others) ≡ (is_straight c && all others)
straight_flat done at others = refl
straight_flat (assign x e rest) at others = step (is_runnable_expr e) (all (flat rest (suc at) others)) (is_straight rest) (all others) (straight_flat rest (suc at) others)
straight_flat (call c rest) at others = step (is_runnable_call c) (all (flat rest (suc at) others)) (is_straight rest) (all others) (straight_flat rest (suc at) others)
straight_flat (return e rest) at others = step (is_runnable_expr e) (all (flat rest (suc at) others)) (is_straight rest) (all others) (straight_flat rest (suc at) others)
straight_flat (test e a b rest) at others =
    let m = suc at + size a in
    let k = m + size b in
    let behind = flat rest k others in
    step (is_runnable_expr e) (all (flat a (suc at) (flat b m behind))) (is_straight a && (is_straight b && is_straight rest)) (all others)
    (straight_flat a (suc at) (flat b m behind)
    ∙ step (is_straight a) (all (flat b m behind)) (is_straight b && is_straight rest) (all others)
    (straight_flat b m behind ∙ step (is_straight b) (all behind) (is_straight rest) (all others) (straight_flat rest k others)))
straight_flat (loop l body rest) at others = refl
straight_flat (ended body l rest) at others = refl
straight_flat (goto l rest) at others = refl
straight_flat (catch k r body rest) at others = refl
straight_flat (protect a b rest) at others = refl

whole_flat : (c : Code) → all (flat c 0 []) ≡ is_straight c
whole_flat c = straight_flat c 0 [] ∙ and_true (is_straight c)

-- the end of a block before other statements isn't that of all
more_behind : (body rest : Code) (n : ℕ) → size rest ≡ suc n → nat_eq (1 + size body) (suc (length (flat body 1 (flat rest (1 + size body) [])))) ≡ false
more_behind body rest n e =
    let i = length-flat body 1 (flat rest (1 + size body) []) in
    let j = length-flat rest (1 + size body) [] in
    ne_eqb (1 + size body) (suc (length (flat body 1 (flat rest (1 + size body) [])))) (λ q. omega (arith, i, j, e, q))

runnable_loop : (l : List ℕ) (body rest : Code) → are_runnable (flat (loop l body rest) 0 []) ≡ is_runnable_code (loop l body rest)
runnable_loop l body done =
    let i = length-flat body 1 [] in
    ap (λ b. b && all (flat body 1 [])) (eq-eqb (1 + size body) (suc (length (flat body 1 []))) (omega (arith, i)))
    ∙ straight_flat body 1 [] ∙ and_true (is_straight body)
runnable_loop l body (assign x e rest) = ap (λ b. b && all (flat body 1 (flat (assign x e rest) (1 + size body) []))) (more_behind body (assign x e rest) (size rest) refl)
runnable_loop l body (call c rest) = ap (λ b. b && all (flat body 1 (flat (call c rest) (1 + size body) []))) (more_behind body (call c rest) (size rest) refl)
runnable_loop l body (return e rest) = ap (λ b. b && all (flat body 1 (flat (return e rest) (1 + size body) []))) (more_behind body (return e rest) (size rest) refl)
runnable_loop l body (test e a b rest) = ap (λ q. q && all (flat body 1 (flat (test e a b rest) (1 + size body) []))) (more_behind body (test e a b rest) (size a + (size b + size rest)) refl)
runnable_loop l body (loop m c rest) = ap (λ b. b && all (flat body 1 (flat (loop m c rest) (1 + size body) []))) (more_behind body (loop m c rest) (size c + size rest) refl)
runnable_loop l body (ended c m rest) = ap (λ b. b && all (flat body 1 (flat (ended c m rest) (1 + size body) []))) (more_behind body (ended c m rest) (size c + size rest) refl)
runnable_loop l body (goto m rest) = ap (λ b. b && all (flat body 1 (flat (goto m rest) (1 + size body) []))) (more_behind body (goto m rest) (size rest) refl)
runnable_loop l body (catch k r c rest) = ap (λ b. b && all (flat body 1 (flat (catch k r c rest) (1 + size body) []))) (more_behind body (catch k r c rest) (size c + size rest) refl)
runnable_loop l body (protect a b rest) = ap (λ q. q && all (flat body 1 (flat (protect a b rest) (1 + size body) []))) (more_behind body (protect a b rest) (size a + (size b + size rest)) refl)

runnable_flat : (c : Code) → are_runnable (flat c 0 []) ≡ is_runnable_code c
runnable_flat done = refl
runnable_flat (assign x e rest) = whole_flat (assign x e rest)
runnable_flat (call c rest) = whole_flat (call c rest)
runnable_flat (return e rest) = whole_flat (return e rest)
runnable_flat (test e a b rest) = whole_flat (test e a b rest)
runnable_flat (loop l body rest) = runnable_loop l body rest
runnable_flat (ended body l rest) = refl
runnable_flat (goto l rest) = refl
runnable_flat (catch k r body rest) = refl
runnable_flat (protect a b rest) = refl

-- the statements of a function
pub runnable_laid : (c : Code) (stmts : List CStmt) → stmts ≡ flat c 0 [] → are_runnable stmts ≡ is_runnable_code c
runnable_laid c stmts laid = ap are_runnable laid ∙ runnable_flat c

-- Lists -------------------------------------------------------------------------------------

-- a loop in front
pub loop_first : (stmts : List CStmt) (l : List ℕ) (p : CBlock) → slice_get stmts 0 ≡ Some (stmt.Loop l p) → (nat_eq p.end (length stmts) && all (drop 1 stmts)) ≡ are_runnable stmts
loop_first [] l p e = absurd (cc)
loop_first (s ∷ ss) l p e =
    let same : s ≡ stmt.Loop l p = cc in
    ap (λ t. are_runnable (t ∷ ss)) (sym same)

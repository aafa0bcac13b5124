-- What breaks a rule in code is what breaks a rule at its pieces.
use Rattle.std.proofs.Common.{◌≡◌, ℕ, not, List, [], ◌∷◌, ◌++◌, Some, None, refl, sym, ap, ◌∙◌, append_assoc}
use Rattle.c_tree.specs.declared.tree.CTy.TheVariants.{Int}
use Rattle.c_tree.specs.declared.pieces.Piece.{Piece}
use Rattle.c_tree.specs.declared.pieces.Piece.TheVariants as piece
use Rattle.c_tree.specs.declared.tree.CExpr.{CExpr}
use Rattle.c_tree.specs.declared.tree.CExpr.TheVariants as expr
use Rattle.c_tree.specs.declared.tree.CCall.{CCall}
use Rattle.c_tree.specs.Code.{Code, done, assign, call, return, test, loop, ended, goto, catch, protect}
use Rattle.c_tree.specs.Pieces.{pieces}
use Rattle.c_meaning.specs.declared.breach.BadCause.{BadCause}
use Rattle.c_meaning.specs.declared.breach.BadCause.TheVariants.{Twice, Label}
use Rattle.c_meaning.specs.Breaches.{unless, has, variable_type, name_breaches, standing, expr_breaches, callee_breaches, operands_breaches, local_breaches, may_return, may_go, calls_of, called_in, Within, Held, Room, Free, next_room, Scope, inside, behind, with_label, in_block, after_expr, after_code, calls_in, labels_in, code_breaches}
use Rattle.c_check.specs.Walks.{Frame, State, frame, piece_breaches, walk_breaches, ends_in, Ends, put_end, ends_of, start}

append-nil : {A : Type 0} (xs : List A) → xs ++ [] ≡ xs
append-nil [] = refl
append-nil (x ∷ xs) = ap (λ r. x ∷ r) (append-nil xs)

abbrev room_past : Code → Room → Room
room_past done r = r
room_past (assign x e rest) r = room_past rest (next_room r)
room_past (call c rest) r = room_past rest (next_room r)
room_past (return e rest) r = room_past rest (next_room r)
room_past (test e a b rest) r = room_past rest (next_room r)
room_past (loop l body rest) r = room_past rest (next_room r)
room_past (ended body l rest) r = room_past rest (next_room r)
room_past (goto l rest) r = room_past rest (next_room r)
room_past (catch k r' body rest) r = room_past rest (next_room r)
room_past (protect a b rest) r = room_past rest (next_room r)

room-free : (c : Code) → room_past c Free ≡ Free
room-free done = refl
room-free (assign x e rest) = room-free rest
room-free (call c rest) = room-free rest
room-free (return e rest) = room-free rest
room-free (test e a b rest) = room-free rest
room-free (loop l body rest) = room-free rest
room-free (ended body l rest) = room-free rest
room-free (goto l rest) = room-free rest
room-free (catch k r body rest) = room-free rest
room-free (protect a b rest) = room-free rest

abbrev past : Code → Scope → Scope
past c s = record (after_code c s) { room = room_past c s.room }

abbrev at : Scope → List Frame → List (List ℕ) → State
at s fs h = record { scope = s; frames = fs; ahead = h }

-- the pieces of code in front of others
abbrev Walks : Code → Type 0
Walks c = (s : Scope) (fs : List Frame) (more : List (List ℕ)) (others : List Piece)
    → walk_breaches (at s fs (ends_in c ++ more)) (pieces c others) ≡ code_breaches s c ++ walk_breaches (at (past c s) fs more) others

-- in a block, with further labels
block : (c : Code) → Walks c → (s : Scope) → s.room ≡ Free → (fs : List Frame) (ends more : List (List ℕ)) (others : List Piece)
    → walk_breaches (at s fs ((ends_in c ++ ends) ++ more)) (pieces c others) ≡ code_breaches s c ++ walk_breaches (at (after_code c s) fs (ends ++ more)) others
block c walks s free fs ends more others =
    ap (λ h. walk_breaches (at s fs h) (pieces c others)) (append_assoc (ends_in c) ends more)
    ∙ walks s fs (ends ++ more) others
    ∙ ap (λ r. code_breaches s c ++ walk_breaches (at (record (after_code c s) { room = r }) fs (ends ++ more)) others) (ap (room_past c) free ∙ room-free c ∙ sym free)

-- Statements without blocks
plain : (p : Piece) (a b : List BadCause) (s next : Scope) (rest : Code) (ends : Scope) → piece_breaches s p ≡ a ++ b → Walks rest → (fs : List Frame) (more : List (List ℕ)) (others : List Piece)
    → past rest next ≡ ends
    → piece_breaches s p ++ walk_breaches (at next fs (ends_in rest ++ more)) (pieces rest others) ≡ (a ++ (b ++ code_breaches next rest)) ++ walk_breaches (at ends fs more) others
plain p a b s next rest ends is walks fs more others same =
    (λ i. is i ++ walks next fs more others i)
    ∙ append_assoc a b (code_breaches next rest ++ walk_breaches (at (past rest next) fs more) others)
    ∙ ap (λ q. a ++ q) (sym (append_assoc b (code_breaches next rest) (walk_breaches (at (past rest next) fs more) others)))
    ∙ sym (append_assoc a (b ++ code_breaches next rest) (walk_breaches (at (past rest next) fs more) others))
    ∙ ap (λ e. (a ++ (b ++ code_breaches next rest)) ++ walk_breaches (at e fs more) others) same

assoc3 : {A : Type 0} (a b c d : List A) → ((a ++ b) ++ c) ++ d ≡ a ++ (b ++ (c ++ d))
assoc3 a b c d = simp append_assoc

assoc4 : {A : Type 0} (a b c d e : List A) → (((a ++ b) ++ c) ++ d) ++ e ≡ a ++ (b ++ (c ++ (d ++ e)))
assoc4 a b c d e = simp append_assoc

-- what comes first, what stands in blocks, what follows
group3 : {A : Type 0} (p a r w : List A) → p ++ (a ++ (r ++ w)) ≡ (p ++ (a ++ r)) ++ w
group3 p a r w = simp append_assoc

group4 : {A : Type 0} (p a b r w : List A) → p ++ (a ++ (b ++ (r ++ w))) ≡ (p ++ (a ++ (b ++ r))) ++ w
group4 p a b r w = simp append_assoc

group5 : {A : Type 0} (p q a b r w : List A) → (p ++ q) ++ (a ++ (b ++ (r ++ w))) ≡ (p ++ (q ++ (a ++ (b ++ r)))) ++ w
group5 p q a b r w = simp append_assoc

group6 : {A : Type 0} (p k q a r w : List A) → (p ++ (k ++ q)) ++ (a ++ (r ++ w)) ≡ (p ++ (k ++ (q ++ (a ++ r)))) ++ w
group6 p k q a r w = simp append_assoc

-- a scope with other labels and calls
abbrev noted : Scope → List (List ℕ) → List (List ℕ) → Room → Scope
noted s labels called room = record s { labels = labels; called = called; room = room }

ends-with : (s : Scope) (labels labels2 called called2 : List (List ℕ)) (room : Room) (fs : List Frame) (more : List (List ℕ)) (others : List Piece) → labels ≡ labels2 → called ≡ called2
    → walk_breaches (at (noted s labels called room) fs more) others ≡ walk_breaches (at (noted s labels2 called2 room) fs more) others
ends-with s labels labels2 called called2 room fs more others l c = λ i. walk_breaches (at (noted s (l i) (c i) room) fs more) others

walks_done : Walks done
walks_done s fs more others = sym (ends-with s (s.labels ++ []) s.labels (s.called ++ []) s.called s.room fs more others (append-nil s.labels) (append-nil s.called))

walks_assign : (x : List ℕ) (e : CExpr) (rest : Code) → Walks rest → Walks (assign x e rest)
walks_assign x e rest walks s fs more others =
    plain (piece.Assign x e) (name_breaches None (variable_type s x) ++ standing s) (expr_breaches s (variable_type s x) e) s (behind (after_expr e s)) rest (past (assign x e rest) s) refl walks fs more others
    (λ i. noted s (s.labels ++ labels_in rest) (append_assoc s.called (calls_of e) (calls_in rest) i) (room_past rest (next_room s.room)))

walks_call : (c : CCall) (rest : Code) → Walks rest → Walks (call c rest)
walks_call c rest walks s fs more others =
    plain (piece.Call c) (callee_breaches s None c.callee ++ standing s) (operands_breaches s c c.callee) s (behind (after_expr (expr.Call c) s)) rest (past (call c rest) s) refl walks fs more others
    (λ i. noted s (s.labels ++ labels_in rest) (append_assoc s.called (called_in c.callee) (calls_in rest) i) (room_past rest (next_room s.room)))

walks_return : (e : CExpr) (rest : Code) → Walks rest → Walks (return e rest)
walks_return e rest walks s fs more others =
    plain (piece.Return e) (unless Label (may_return s.blocks) ++ standing s) (expr_breaches s (Some s.result) e) s (behind (after_expr e s)) rest (past (return e rest) s) refl walks fs more others
    (λ i. noted s (s.labels ++ labels_in rest) (append_assoc s.called (calls_of e) (calls_in rest) i) (room_past rest (next_room s.room)))

walks_goto : (l : List ℕ) (rest : Code) → Walks rest → Walks (goto l rest)
walks_goto l rest walks s fs more others =
    plain (piece.Goto l) (standing s) (unless Label (may_go s.blocks l)) s (behind s) rest (past (goto l rest) s) refl walks fs more others refl

-- Statements with blocks
walks_test : (e : CExpr) (a b rest : Code) → Walks a → Walks b → Walks rest → Walks (test e a b rest)
walks_test e a b rest wa wb wr s fs more others =
    let first : Scope = in_block (after_expr e s) in
    let second : Scope = after_code a first in
    let next : Scope = behind (after_code b (after_code a (after_expr e s))) in
    let around : List Frame = frame s ∷ fs in
    let here : List BadCause = standing s ++ expr_breaches s (Some Int) e in
    ap (λ q. here ++ q)
    (block a wa first refl around (ends_in b ++ ends_in rest) more (piece.Else ∷ pieces b (piece.End ∷ pieces rest others))
    ∙ ap (λ q. code_breaches first a ++ q)
    (block b wb second refl around (ends_in rest) more (piece.End ∷ pieces rest others)
    ∙ ap (λ q. code_breaches second b ++ q) (wr next fs more others)))
    ∙ group5 (standing s) (expr_breaches s (Some Int) e) (code_breaches first a) (code_breaches second b) (code_breaches next rest) (walk_breaches (at (past rest next) fs more) others)
    ∙ ap (λ w. code_breaches s (test e a b rest) ++ w)
    (ends-with s (((s.labels ++ labels_in a) ++ labels_in b) ++ labels_in rest) (s.labels ++ (labels_in a ++ (labels_in b ++ labels_in rest)))
    ((((s.called ++ calls_of e) ++ calls_in a) ++ calls_in b) ++ calls_in rest) (s.called ++ (calls_of e ++ (calls_in a ++ (calls_in b ++ calls_in rest))))
    (room_past rest (next_room s.room)) fs more others
    (assoc3 s.labels (labels_in a) (labels_in b) (labels_in rest)) (assoc4 s.called (calls_of e) (calls_in a) (calls_in b) (calls_in rest)))

walks_loop : (l : List ℕ) (body rest : Code) → Walks body → Walks rest → Walks (loop l body rest)
walks_loop l body rest wb wr s fs more others =
    let within : Scope = inside (Within l) (with_label l s) in
    let next : Scope = behind (after_code body (with_label l s)) in
    let here : List BadCause = piece_breaches s (piece.Loop l) in
    ap (λ q. here ++ q)
    (block body wb within refl (frame s ∷ fs) (ends_in rest) more (piece.End ∷ pieces rest others)
    ∙ ap (λ q. code_breaches within body ++ q) (wr next fs more others))
    ∙ group3 here (code_breaches within body) (code_breaches next rest) (walk_breaches (at (past rest next) fs more) others)
    ∙ ap (λ w. code_breaches s (loop l body rest) ++ w)
    (ends-with s (((s.labels ++ l ∷ []) ++ labels_in body) ++ labels_in rest) (s.labels ++ l ∷ (labels_in body ++ labels_in rest))
    ((s.called ++ calls_in body) ++ calls_in rest) (s.called ++ (calls_in body ++ calls_in rest)) (room_past rest (next_room s.room)) fs more others
    (assoc3 s.labels (l ∷ []) (labels_in body) (labels_in rest)) (append_assoc s.called (calls_in body) (calls_in rest)))

walks_ended : (body : Code) (l : List ℕ) (rest : Code) → Walks body → Walks rest → Walks (ended body l rest)
walks_ended body l rest wb wr s fs more others =
    let within : Scope = inside (Within l) s in
    let next : Scope = behind (with_label l (after_code body s)) in
    let twice : List BadCause = unless Twice (not (has (after_code body s).labels l)) in
    ap (λ q. standing s ++ q)
    (block body wb within refl (frame s ∷ fs) (ends_in rest) more (piece.Ended l ∷ pieces rest others)
    ∙ ap (λ q. code_breaches within body ++ (twice ++ q)) (wr next fs more others))
    ∙ group4 (standing s) (code_breaches within body) twice (code_breaches next rest) (walk_breaches (at (past rest next) fs more) others)
    ∙ ap (λ w. code_breaches s (ended body l rest) ++ w)
    (ends-with s (((s.labels ++ labels_in body) ++ l ∷ []) ++ labels_in rest) (s.labels ++ (labels_in body ++ l ∷ labels_in rest))
    ((s.called ++ calls_in body) ++ calls_in rest) (s.called ++ (calls_in body ++ calls_in rest)) (room_past rest (next_room s.room)) fs more others
    (assoc3 s.labels (labels_in body) (l ∷ []) (labels_in rest)) (append_assoc s.called (calls_in body) (calls_in rest)))

walks_catch : (k r : List ℕ) (body rest : Code) → Walks body → Walks rest → Walks (catch k r body rest)
walks_catch k r body rest wb wr s fs more others =
    let within : Scope = inside Held s in
    let next : Scope = behind (after_code body s) in
    ap (λ q. (standing s ++ (local_breaches s k ++ local_breaches s r)) ++ q)
    (block body wb within refl (frame s ∷ fs) (ends_in rest) more (piece.End ∷ pieces rest others)
    ∙ ap (λ q. code_breaches within body ++ q) (wr next fs more others))
    ∙ group6 (standing s) (local_breaches s k) (local_breaches s r) (code_breaches within body) (code_breaches next rest) (walk_breaches (at (past rest next) fs more) others)
    ∙ ap (λ w. code_breaches s (catch k r body rest) ++ w)
    (ends-with s ((s.labels ++ labels_in body) ++ labels_in rest) (s.labels ++ (labels_in body ++ labels_in rest))
    ((s.called ++ calls_in body) ++ calls_in rest) (s.called ++ (calls_in body ++ calls_in rest)) (room_past rest (next_room s.room)) fs more others
    (append_assoc s.labels (labels_in body) (labels_in rest)) (append_assoc s.called (calls_in body) (calls_in rest)))

walks_protect : (a b rest : Code) → Walks a → Walks b → Walks rest → Walks (protect a b rest)
walks_protect a b rest wa wb wr s fs more others =
    let first : Scope = inside Held s in
    let second : Scope = after_code a first in
    let next : Scope = behind (after_code b (after_code a s)) in
    let around : List Frame = frame s ∷ fs in
    ap (λ q. standing s ++ q)
    (block a wa first refl around (ends_in b ++ ends_in rest) more (piece.Cleanup ∷ pieces b (piece.End ∷ pieces rest others))
    ∙ ap (λ q. code_breaches first a ++ q)
    (block b wb second refl around (ends_in rest) more (piece.End ∷ pieces rest others)
    ∙ ap (λ q. code_breaches second b ++ q) (wr next fs more others)))
    ∙ group4 (standing s) (code_breaches first a) (code_breaches second b) (code_breaches next rest) (walk_breaches (at (past rest next) fs more) others)
    ∙ ap (λ w. code_breaches s (protect a b rest) ++ w)
    (ends-with s (((s.labels ++ labels_in a) ++ labels_in b) ++ labels_in rest) (s.labels ++ (labels_in a ++ (labels_in b ++ labels_in rest)))
    (((s.called ++ calls_in a) ++ calls_in b) ++ calls_in rest) (s.called ++ (calls_in a ++ (calls_in b ++ calls_in rest))) (room_past rest (next_room s.room)) fs more others
    (assoc3 s.labels (labels_in a) (labels_in b) (labels_in rest)) (assoc3 s.called (calls_in a) (calls_in b) (calls_in rest)))

walks : (c : Code) → Walks c
walks done = walks_done
walks (assign x e rest) = walks_assign x e rest (walks rest)
walks (call c rest) = walks_call c rest (walks rest)
walks (return e rest) = walks_return e rest (walks rest)
walks (test e a b rest) = walks_test e a b rest (walks a) (walks b) (walks rest)
walks (loop l body rest) = walks_loop l body rest (walks body) (walks rest)
walks (ended body l rest) = walks_ended body l rest (walks body) (walks rest)
walks (goto l rest) = walks_goto l rest (walks rest)
walks (catch k r body rest) = walks_catch k r body rest (walks body) (walks rest)
walks (protect a b rest) = walks_protect a b rest (walks a) (walks b) (walks rest)

-- The labels behind blocks ------------------------------------------------------------------

abbrev with_begun : Ends → List (List ℕ) → Ends
with_begun e ls = record e { begun = ls ++ e.begun }

with-two : (e : Ends) (a b : List (List ℕ)) → with_begun (with_begun e b) a ≡ with_begun e (a ++ b)
with-two e a b = ap (λ n. record e { begun = n }) (sym (append_assoc a b e.begun))

abbrev Begins : Code → Type 0
Begins c = (others : List Piece) → ends_of (pieces c others) ≡ with_begun (ends_of others) (ends_in c)

two : (a b : Code) → Begins a → Begins b → (p : Piece) (others : List Piece) → ((e : Ends) → put_end p e ≡ e)
    → ends_of (pieces a (p ∷ pieces b others)) ≡ with_begun (ends_of others) (ends_in a ++ ends_in b)
two a b ba bb p others keeps =
    ba (p ∷ pieces b others) ∙ ap (λ e. with_begun e (ends_in a)) (keeps (ends_of (pieces b others)) ∙ bb others) ∙ with-two (ends_of others) (ends_in a) (ends_in b)

three : (a b c : Code) → Begins a → Begins b → Begins c → (p : Piece) (others : List Piece) → ((e : Ends) → put_end p e ≡ e)
    → ends_of (pieces a (p ∷ pieces b (piece.End ∷ pieces c others))) ≡ with_begun (ends_of others) (ends_in a ++ (ends_in b ++ ends_in c))
three a b c ba bb bc p others keeps =
    ba (p ∷ pieces b (piece.End ∷ pieces c others))
    ∙ ap (λ e. with_begun e (ends_in a)) (keeps (ends_of (pieces b (piece.End ∷ pieces c others))) ∙ two b c bb bc piece.End others (λ e. refl))
    ∙ with-two (ends_of others) (ends_in a) (ends_in b ++ ends_in c)

begins_ended : (body : Code) (l : List ℕ) (rest : Code) → Begins body → Begins rest → Begins (ended body l rest)
begins_ended body l rest bb br others =
    ap (put_end piece.Begin)
    (bb (piece.Ended l ∷ pieces rest others) ∙ ap (λ e. with_begun (put_end (piece.Ended l) e) (ends_in body)) (br others))
    ∙ ap (λ n. record (ends_of others) { begun = l ∷ n }) (sym (append_assoc (ends_in body) (ends_in rest) (ends_of others).begun))

begins : (c : Code) → Begins c
begins done others = refl
begins (assign x e rest) others = begins rest others
begins (call c rest) others = begins rest others
begins (return e rest) others = begins rest others
begins (test e a b rest) others = three a b rest (begins a) (begins b) (begins rest) piece.Else others (λ e. refl)
begins (loop l body rest) others = two body rest (begins body) (begins rest) piece.End others (λ e. refl)
begins (ended body l rest) others = begins_ended body l rest (begins body) (begins rest) others
begins (goto l rest) others = begins rest others
begins (catch k r body rest) others = two body rest (begins body) (begins rest) piece.End others (λ e. refl)
begins (protect a b rest) others = three a b rest (begins a) (begins b) (begins rest) piece.Cleanup others (λ e. refl)

pub walked : (s : Scope) (c : Code) → walk_breaches (start s (pieces c [])) (pieces c []) ≡ code_breaches s c
walked s c =
    ap (λ e. walk_breaches (at s [] e.begun) (pieces c [])) (begins c [])
    ∙ walks c s [] [] []
    ∙ append-nil (code_breaches s c)

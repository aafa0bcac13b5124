-- Scopes in which the same is found have the same breaches.
use Rattle.std.proofs.Common.{◌≡◌, ℕ, Bool, true, false, not, ◌&&◌, ◌||◌, List, [], ◌∷◌, ◌++◌, Option, Some, None, is_some, if◌then◌else◌, refl, sym, subst, ap, ◌∙◌, true≢false}
use Rattle.std.specs.Cmp.Lexicographic.{bytes_decides}
use Rattle.std.specs.List.{list_any}
use Rattle.std.proofs.lemmas.List.Folds.{list_any-append}
use Rattle.scheme_data.specs.Names.{is_same}
use Rattle.c_tree.specs.declared.tree.CTy.{CTy}
use Rattle.c_tree.specs.declared.tree.CTy.TheVariants.{Obj, Int}
use Rattle.c_tree.specs.declared.op.Wants.{Wants}
use Rattle.c_tree.specs.declared.op.Wants.TheVariants.{AType, AnEntry}
use Rattle.c_tree.specs.Operations.{wants_of, takes_more, gives_of}
use Rattle.c_tree.specs.declared.tree.CAtom.{CAtom}
use Rattle.c_tree.specs.declared.tree.CAtom.TheVariants as atom
use Rattle.c_tree.specs.declared.tree.CArg.{CArg}
use Rattle.c_tree.specs.declared.tree.CArg.TheVariants as arg
use Rattle.c_tree.specs.declared.tree.Callee.{Callee}
use Rattle.c_tree.specs.declared.tree.Callee.TheVariants as callee
use Rattle.c_tree.specs.declared.tree.CCall.{CCall}
use Rattle.c_tree.specs.declared.tree.CExpr.{CExpr}
use Rattle.c_tree.specs.declared.tree.CExpr.TheVariants as expr
use Rattle.c_tree.specs.declared.pieces.Piece.{Piece}
use Rattle.c_tree.specs.declared.pieces.Piece.TheVariants as piece
use Rattle.c_meaning.specs.declared.breach.BadCause.TheVariants.{Undeclared, Twice, Types, Label, Shape}
use Rattle.c_meaning.specs.Plain.{signature_named, Role, Main, Maker, Initializer, Entry, Function, role_of, variable_named}
use Rattle.c_meaning.specs.Breaches.{unless, has, Open, Within, Held, Room, Free, next_room, Scope, may_stand, may_go, may_return, inside, behind, with_label, in_block, variable_type, name_breaches, atom_breaches, misplaced, argument_breaches, more_asked, arguments_breaches, is_function, may_call, may_do, is_asked, result_asked, callee_breaches, params_asked, operands_breaches, expr_breaches, calls_of, after_expr, standing, may_loop, local_breaches, type_of}
use Rattle.c_check.specs.Agreeing.{Same, SameState, IsNoted}
use Rattle.c_check.specs.Walks.{Frame, State, frame, restored, tail, next_label, piece_breaches, after_piece, goes_on, begins, walk_breaches}

-- Expressions -------------------------------------------------------------------------------

module _ (t s : Scope) (same : Same t s) where
  declared-same : (name : List ℕ) → unless Undeclared (is_some (signature_named t.functions name)) ≡ unless Undeclared (is_some (signature_named s.functions name))
  declared-same name = ap (λ f. unless Undeclared (is_some f)) (same.functions name)

  atom-same : (asked : Option CTy) (a : CAtom) → atom_breaches t asked a ≡ atom_breaches s asked a
  atom-same asked (atom.Name x) = ap (name_breaches asked) (same.types x)
  atom-same asked _ = refl

  misplaced-name : (x : List ℕ) → misplaced t (arg.Atom (atom.Name x)) ≡ misplaced s (arg.Atom (atom.Name x))
  misplaced-name x = ap (λ v. unless Undeclared (is_some v) ++ Types ∷ []) (same.types x)

  argument-same : (asked : Option Wants) (a : CArg) → argument_breaches t asked a ≡ argument_breaches s asked a
  argument-same (Some (AType u)) (arg.Atom a) = atom-same (Some u) a
  argument-same (Some AnEntry) (arg.Entry name) = declared-same name
  argument-same None (arg.Atom (atom.Name x)) = misplaced-name x
  argument-same (Some w) (arg.Atom (atom.Name x)) = misplaced-name x
  argument-same _ _ = refl

  arguments-same : (wants : List Wants) (more : Bool) (args : List CArg) → arguments_breaches t wants more args ≡ arguments_breaches s wants more args
  arguments-same [] more [] = refl
  arguments-same (w ∷ ws) more [] = refl
  arguments-same [] more (a ∷ others) = λ i. argument-same (more_asked more) a i ++ arguments-same [] more others i
  arguments-same (w ∷ ws) more (a ∷ others) = λ i. argument-same (Some w) a i ++ arguments-same ws more others i

  may_call-same : (caller r : Role) (name : List ℕ) → may_call caller t.called name r ≡ may_call caller s.called name r
  may_call-same Main Maker name = ap not (same.called name)
  may_call-same Main Initializer name = ap not (same.called name)
  may_call-same Entry Function name = ap not same.calls
  may_call-same _ _ name = refl

  callee-same : (asked : Option CTy) (c : Callee) → callee_breaches t asked c ≡ callee_breaches s asked c
  callee-same asked (callee.Fun name) =
      λ i. declared-same name i ++ (unless Types (result_asked asked (same.functions name i))
      ++ unless Shape ((ap (λ r. may_call r t.called name (role_of name)) same.role ∙ may_call-same s.role (role_of name) name) i))
  callee-same asked (callee.Op op) = ap (λ r. unless Types (is_asked asked (gives_of op)) ++ unless Shape (may_do r op)) same.role

  operands-same : (c : CCall) (f : Callee) → operands_breaches t c f ≡ operands_breaches s c f
  operands-same c (callee.Fun name) =
      ap (λ f. arguments_breaches t (params_asked f) false c.args) (same.functions name)
      ∙ arguments-same (params_asked (signature_named s.functions name)) false c.args
  operands-same c (callee.Op op) = arguments-same (wants_of op) (takes_more op) c.args

  expr-same : (asked : Option CTy) (e : CExpr) → expr_breaches t asked e ≡ expr_breaches s asked e
  expr-same asked (expr.Atom a) = ap (λ b. b ++ []) (atom-same asked a)
  expr-same asked (expr.Call c) = λ i. callee-same asked c.callee i ++ operands-same c c.callee i

  -- Pieces

  standing-same : standing t ≡ standing s
  standing-same = ap (λ r. unless Shape (may_stand r false)) same.room

  local-same : (x : List ℕ) → local_breaches t x ≡ local_breaches s x
  local-same x = ap (λ vs. name_breaches (Some Obj) (type_of (variable_named vs x))) same.variables

  pub piece-same : (p : Piece) → piece_breaches t p ≡ piece_breaches s p
  piece-same (piece.Assign x e) =
      λ i. (name_breaches None (same.types x i) ++ standing-same i) ++ (ap (λ a. expr_breaches t a e) (same.types x) ∙ expr-same (variable_type s x) e) i
  piece-same (piece.Call c) = λ i. (callee-same None c.callee i ++ standing-same i) ++ operands-same c c.callee i
  piece-same (piece.Return e) =
      λ i. (unless Label (may_return (same.blocks i)) ++ standing-same i) ++ (ap (λ a. expr_breaches t (Some a) e) same.gives ∙ expr-same (Some s.result) e) i
  piece-same (piece.Goto l) = λ i. standing-same i ++ unless Label (may_go (same.blocks i) l)
  piece-same (piece.If e) = λ i. standing-same i ++ expr-same (Some Int) e i
  piece-same piece.Else = refl
  piece-same (piece.Loop l) = λ i. unless Twice (not (same.labels l i)) ++ unless Shape (may_loop (same.role i) && may_stand (same.room i) true)
  piece-same piece.Begin = standing-same
  piece-same (piece.Ended l) = ap (λ b. unless Twice (not b)) (same.labels l)
  piece-same (piece.Catch k r) = λ i. standing-same i ++ (local-same k i ++ local-same r i)
  piece-same piece.Protect = standing-same
  piece-same piece.Cleanup = refl
  piece-same piece.End = refl

  -- Scopes behind

  pub remade : (l1 l2 c1 c2 : List (List ℕ)) (b1 b2 : List Open) (r1 r2 : Room) → ((l : List ℕ) → has l1 l ≡ has l2 l) → ((name : List ℕ) → has c1 name ≡ has c2 name) → list_any is_function c1 ≡ list_any is_function c2 → b1 ≡ b2 → r1 ≡ r2
      → Same (record t { labels = l1; called = c1; blocks = b1; room = r1 }) (record s { labels = l2; called = c2; blocks = b2; room = r2 })
  remade l1 l2 c1 c2 b1 b2 r1 r2 l c f b r = record {
    role = same.role;
    gives = same.gives;
    functions = same.functions;
    types = same.types;
    variables = same.variables;
    labels = l;
    called = c;
    calls = f;
    blocks = b;
    room = r;
  }

  pub behind-same : Same (behind t) (behind s)
  behind-same = remade t.labels s.labels t.called s.called t.blocks s.blocks (next_room t.room) (next_room s.room) same.labels same.called same.calls same.blocks (ap next_room same.room)

  pub in_block-same : Same (in_block t) (in_block s)
  in_block-same = remade t.labels s.labels t.called s.called t.blocks s.blocks Free Free same.labels same.called same.calls same.blocks refl

  pub inside-same : (o : Open) → Same (inside o t) (inside o s)
  inside-same o = remade t.labels s.labels t.called s.called (o ∷ t.blocks) (o ∷ s.blocks) Free Free same.labels same.called same.calls (ap (λ b. o ∷ b) same.blocks) refl

  pub with_label-same : (l : List ℕ) → Same (with_label l t) (with_label l s)
  with_label-same l = remade (t.labels ++ l ∷ []) (s.labels ++ l ∷ []) t.called s.called t.blocks s.blocks t.room s.room (λ name. list_any-append (is_same name) t.labels (l ∷ []) ∙ ap (λ b. b || has (l ∷ []) name) (same.labels name) ∙ sym (list_any-append (is_same name) s.labels (l ∷ []))) same.called same.calls same.blocks same.room

  pub after_expr-same : (e : CExpr) → Same (after_expr e t) (after_expr e s)
  after_expr-same e =
      remade t.labels s.labels (t.called ++ calls_of e) (s.called ++ calls_of e) t.blocks s.blocks t.room s.room same.labels
      (λ name. list_any-append (is_same name) t.called (calls_of e) ∙ ap (λ b. b || has (calls_of e) name) (same.called name) ∙ sym (list_any-append (is_same name) s.called (calls_of e)))
      (list_any-append is_function t.called (calls_of e) ∙ ap (λ b. b || list_any is_function (calls_of e)) same.calls ∙ sym (list_any-append is_function s.called (calls_of e)))
      same.blocks same.room

  pub restored-same : (fs : List Frame) → Same (restored fs t) (restored fs s)
  restored-same [] = same
  restored-same (f ∷ fs) = remade t.labels s.labels t.called s.called f.blocks f.blocks (next_room f.room) (next_room f.room) same.labels same.called same.calls refl refl

-- Walks -------------------------------------------------------------------------------------

module _ (a b : State) (same : SameState a b) where
  goes : (t s : Scope) → Same t s → SameState (goes_on t a) (goes_on s b)
  goes t s scope = record { scope = scope; frames = same.frames; ahead = same.ahead }

  around : frame a.scope ∷ a.frames ≡ frame b.scope ∷ b.frames
  around = λ i. record { blocks = same.scope.blocks i; room = same.scope.room i } ∷ same.frames i

  opens : (t s : Scope) → Same t s → SameState (begins t a) (begins s b)
  opens t s scope = record { scope = scope; frames = around; ahead = same.ahead }

  restored-both : Same (restored a.frames a.scope) (restored b.frames b.scope)
  restored-both = subst (λ fs. Same (restored a.frames a.scope) (restored fs b.scope)) same.frames (restored-same a.scope b.scope same.scope a.frames)

  pub after-same : (p : Piece) → SameState (after_piece a p) (after_piece b p)
  after-same (piece.Assign x e) = goes (behind (after_expr e a.scope)) (behind (after_expr e b.scope)) (behind-same (after_expr e a.scope) (after_expr e b.scope) (after_expr-same a.scope b.scope same.scope e))
  after-same (piece.Call c) = goes (behind (after_expr (expr.Call c) a.scope)) (behind (after_expr (expr.Call c) b.scope)) (behind-same (after_expr (expr.Call c) a.scope) (after_expr (expr.Call c) b.scope) (after_expr-same a.scope b.scope same.scope (expr.Call c)))
  after-same (piece.Return e) = goes (behind (after_expr e a.scope)) (behind (after_expr e b.scope)) (behind-same (after_expr e a.scope) (after_expr e b.scope) (after_expr-same a.scope b.scope same.scope e))
  after-same (piece.Goto l) = goes (behind a.scope) (behind b.scope) (behind-same a.scope b.scope same.scope)
  after-same (piece.If e) = opens (in_block (after_expr e a.scope)) (in_block (after_expr e b.scope)) (in_block-same (after_expr e a.scope) (after_expr e b.scope) (after_expr-same a.scope b.scope same.scope e))
  after-same piece.Else = same
  after-same (piece.Loop l) = opens (inside (Within l) (with_label l a.scope)) (inside (Within l) (with_label l b.scope)) (inside-same (with_label l a.scope) (with_label l b.scope) (with_label-same a.scope b.scope same.scope l) (Within l))
  after-same piece.Begin = record {
    scope = subst (λ ls. Same (inside (Within (next_label a.ahead)) a.scope) (inside (Within (next_label ls)) b.scope)) same.ahead (inside-same a.scope b.scope same.scope (Within (next_label a.ahead)));
    frames = around;
    ahead = ap tail same.ahead;
  }
  after-same (piece.Ended l) = record {
    scope = with_label-same (restored a.frames a.scope) (restored b.frames b.scope) restored-both l;
    frames = ap tail same.frames;
    ahead = same.ahead;
  }
  after-same (piece.Catch k r) = opens (inside Held a.scope) (inside Held b.scope) (inside-same a.scope b.scope same.scope Held)
  after-same piece.Protect = opens (inside Held a.scope) (inside Held b.scope) (inside-same a.scope b.scope same.scope Held)
  after-same piece.Cleanup = same
  after-same piece.End = record { scope = restored-both; frames = ap tail same.frames; ahead = same.ahead }

pub walk-same : (ps : List Piece) (a b : State) → SameState a b → walk_breaches a ps ≡ walk_breaches b ps
walk-same [] a b same = refl
walk-same (p ∷ ps) a b same = λ i. piece-same a.scope b.scope same.scope p i ++ walk-same ps (after_piece a p) (after_piece b p) (after-same a b same p) i

-- Names that are noted ------------------------------------------------------------------------

pub same-self : (s : Scope) → Same s s
same-self s = record {
  role = refl;
  gives = refl;
  functions = λ name. refl;
  types = λ x. refl;
  variables = refl;
  labels = λ l. refl;
  called = λ name. refl;
  calls = refl;
  blocks = refl;
  room = refl;
}

append-nil : {A : Type 0} (xs : List A) → xs ++ [] ≡ xs
append-nil [] = refl
append-nil (x ∷ xs) = ap (λ r. x ∷ r) (append-nil xs)

-- a name that stands in a list passes what it passes there
among : (p : List ℕ → Bool) (x : List ℕ) (xs : List (List ℕ)) → has xs x ≡ true → p x ≡ true → list_any p xs ≡ true
among p x [] h passes = absurd (true≢false (sym h))
among p x (y ∷ ys) h passes = by (is_same x y) refl h (λ rest. among p x ys rest passes)
  where
    or-true : (b : Bool) → (b || true) ≡ true
    or-true true = refl
    or-true false = refl

    by : (b : Bool) → is_same x y ≡ b → (b || has ys x) ≡ true → (has ys x ≡ true → list_any p ys ≡ true) → (p y || list_any p ys) ≡ true
    by true e h rest = ap (λ b. b || list_any p ys) (ap p (sym ((bytes_decides x y).0 e)) ∙ passes)
    by false e h rest = ap (λ b. p y || b) (rest h) ∙ or-true (p y)

-- a table of distinct names takes one more
pub noted : (old new : List (List ℕ)) (name : List ℕ) (added : Bool) → added ≡ not (has old name) → new ≡ (if added then old ++ name ∷ [] else old) → IsNoted old (name ∷ []) new
noted old new name added is at = by (has old name) refl
  where
    absorbed : (p : List ℕ → Bool) → has old name ≡ true → list_any p old ≡ list_any p (old ++ name ∷ [])
    absorbed p h = both (p name) refl ∙ sym (list_any-append p old (name ∷ []))
      where
        or-false : (b : Bool) → (b || false) ≡ b
        or-false true = refl
        or-false false = refl

        both : (b : Bool) → p name ≡ b → list_any p old ≡ (list_any p old || (p name || false))
        both true e = among p name old h e ∙ sym (ap (λ b. b || (p name || false)) (among p name old h e))
        both false e = sym (ap (λ b. list_any p old || (b || false)) e ∙ or-false (list_any p old))

    by : (b : Bool) → has old name ≡ b → IsNoted old (name ∷ []) new
    by true e =
        let same : new ≡ old = at ∙ ap (λ b. if b then old ++ name ∷ [] else old) (is ∙ ap not e) in
        record { found = λ n. ap (λ l. has l n) same ∙ absorbed (is_same n) e; calls = ap (list_any is_function) same ∙ absorbed is_function e }
    by false e =
        let more : new ≡ old ++ name ∷ [] = at ∙ ap (λ b. if b then old ++ name ∷ [] else old) (is ∙ ap not e) in
        record { found = λ n. ap (λ l. has l n) more; calls = ap (list_any is_function) more }

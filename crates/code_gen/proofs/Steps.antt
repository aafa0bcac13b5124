-- Steps of the emitter, one after another.
use Rattle.std.proofs.Common.{◌≡◌, ℕ, suc, ◌<◌, ◌≤◌, ◌^◌, List, [], ◌∷◌, ◌++◌, refl, sym, ap, ◌∙◌, subst, arith, append_assoc}
use Rattle.c_tree.specs.declared.tree.CCall.{CCall}
use Rattle.c_tree.specs.declared.tree.CExpr.{CExpr}
use Rattle.c_tree.specs.declared.tree.CVar.{CVar}
use Rattle.c_tree.specs.declared.pieces.Piece.{Piece}
use Rattle.c_tree.specs.declared.pieces.Piece.TheVariants as piece
use Rattle.c_tree.specs.Code.{Code, done, assign, call, test, loop}
use Rattle.c_tree.specs.Names.{local_name}
use Rattle.c_tree.specs.Pieces.{pieces}
use Rattle.plan_rules.specs.declared.rep.Rep.{Rep}
use Rattle.plan_rules.specs.Representation.{c_type_of}
use Rattle.plan_rules.specs.Translation.{Name, IsLocal, deliver}
use Rattle.code_gen.specs.declared.emitter.Emitter.{Emitter}
use Rattle.code_gen.specs.declared.emitter.Target.{Target as NumberedTarget}
use Rattle.code_gen.specs.declared.emitter.Target.TheVariants.{Into, Back}
use Rattle.code_gen.specs.Emission.{target_of, piece_to, AreCounted, AreLocals, AddsLocal, Puts, Grows, Emits, Stores, LeavesUnset}
use Rattle.code_gen.proofs.Counts.{counted_one, locals_before, local_last}

abbrev pub Means : Type 1
Means = List CVar → Code → Code → Type 0

grows_then : (s t u : Emitter) → Grows s t → Grows t u → Grows s u
grows_then s t u one two = record {
  later = let a : s.next ≤ t.next = one.later in let b : t.next ≤ u.next = two.later in omega arith;
  small = λ h. two.small (one.small h);
  counted = λ first h. two.counted first (one.counted first h);
  kept = λ vars h. one.kept vars (two.kept vars h);
}

pub same : (s : Emitter) → Emits s s (λ vars code rest. code ≡ rest)
same s = record {
  grows = record { later = omega arith; small = λ h. h; counted = λ first h. h; kept = λ vars h. h };
  code = λ vars h rest. record { code = rest; is = λ out. refl; meant = refl };
}

pub then : (s t u : Emitter) (P Q R : Means) → Emits s t P → Emits t u Q
    → ((vars : List CVar) (code middle rest : Code) → P vars code middle → Q vars middle rest → R vars code rest) → Emits s u R
then s t u P Q R one two join = record {
  grows = grows_then s t u one.grows two.grows;
  code = λ vars h rest.
      let w = two.code vars h rest in
      let v = one.code vars (two.grows.kept vars h) w.code in
      record { code = v.code; is = λ out. v.is out ∙ w.is out; meant = join vars v.code w.code rest v.meant w.meant };
}

pub weaker : (s t : Emitter) (P R : Means) → Emits s t P → ((vars : List CVar) (code rest : Code) → P vars code rest → R vars code rest) → Emits s t R
weaker s t P R one so = record {
  grows = one.grows;
  code = λ vars h rest. let v = one.code vars h rest in record { code = v.code; is = v.is; meant = so vars v.code rest v.meant };
}

-- A local -----------------------------------------------------------------------------------

local_grows : (s t : Emitter) (h : Rep) (x : ℕ) → AddsLocal s t h x → Grows s t
local_grows s t h x a =
    let v : CVar = record { ty = c_type_of h; name = local_name x } in
    record {
      later = let n : x ≡ s.next = a.number in let m : t.next ≡ suc x = a.next_is in omega arith;
      small = λ h. let m : t.next ≡ suc x = a.next_is in let below : x < 2 ^ 32 = a.small in omega arith;
      counted = λ first c.
          let P : List CVar → ℕ → Type 0 = λ vs m. AreCounted vs first m in
          subst (λ vs. P vs t.next) (sym a.locals) (subst (P (s.locals ++ v ∷ [])) (sym (a.next_is ∙ ap suc a.number)) (counted_one s.locals v first s.next c (ap local_name a.number)));
      kept = λ vars l. locals_before vars s.locals v (subst (AreLocals vars) a.locals l);
    }

pub local_emits : (s t : Emitter) (h : Rep) (x : ℕ) → AddsLocal s t h x → Emits s t (λ vars code rest. (code ≡ rest) × IsLocal vars (local_name x) (c_type_of h))
local_emits s t h x a =
    let v : CVar = record { ty = c_type_of h; name = local_name x } in
    record {
      grows = local_grows s t h x a;
      code = λ vars l rest. record {
        code = rest;
        is = λ out. ap (λ ps. ps ++ pieces rest out) (sym a.pieces_are);
        meant = (refl, local_last vars s.locals v (subst (AreLocals vars) a.locals l));
      };
    }

-- A piece -----------------------------------------------------------------------------------

put_grows : (s t : Emitter) (one : Piece) → Puts s t one → Grows s t
put_grows s t one p = record {
  later = let m : t.next ≡ s.next = p.next_is in omega arith;
  small = λ h. let m : t.next ≡ s.next = p.next_is in omega arith;
  counted = λ first c. subst (λ vs. AreCounted vs first t.next) (sym p.locals) (subst (AreCounted s.locals first) (sym p.next_is) c);
  kept = λ vars l. subst (AreLocals vars) p.locals l;
}

-- a piece is in front of what comes after it
put_front : (s t : Emitter) (one : Piece) (others : List Piece) → Puts s t one → s.pieces ++ one ∷ others ≡ t.pieces ++ others
put_front s t one others p = sym (append_assoc s.pieces (one ∷ []) others) ∙ ap (λ ps. ps ++ others) (sym p.pieces_are)

put_emits : (s t : Emitter) (one : Piece) (wrap : Code → Code) → ((rest : Code) (out : List Piece) → pieces (wrap rest) out ≡ one ∷ pieces rest out) → Puts s t one
    → Emits s t (λ vars code rest. code ≡ wrap rest)
put_emits s t one wrap wraps p = record {
  grows = put_grows s t one p;
  code = λ vars l rest. record {
    code = wrap rest;
    is = λ out. ap (λ ps. s.pieces ++ ps) (wraps rest out) ∙ put_front s t one (pieces rest out) p;
    meant = refl;
  };
}

pub call_emits : (s t : Emitter) (c : CCall) → Puts s t (piece.Call c) → Emits s t (λ vars code rest. code ≡ call c rest)
call_emits s t c p = put_emits s t (piece.Call c) (λ rest. call c rest) (λ rest out. refl) p

delivers : (to : NumberedTarget) (e : CExpr) (rest : Code) (out : List Piece) → pieces (deliver (target_of to) e rest) out ≡ piece_to to e ∷ pieces rest out
delivers (Into x) e rest out = refl
delivers Back e rest out = refl

pub deliver_emits : (s t : Emitter) (to : NumberedTarget) (e : CExpr) → Puts s t (piece_to to e) → Emits s t (λ vars code rest. code ≡ deliver (target_of to) e rest)
deliver_emits s t to e p = put_emits s t (piece_to to e) (λ rest. deliver (target_of to) e rest) (delivers to e) p

-- A local with a value ----------------------------------------------------------------------

pub stores : (s t u : Emitter) (h : Rep) (x : ℕ) (e : CExpr) → AddsLocal s t h x → Puts t u (piece.Assign (local_name x) e) → Stores s u h e (record { local = x; rep = h })
stores s t u h x e adds puts = record {
  rep = refl;
  number = adds.number;
  small = adds.small;
  next_is = puts.next_is ∙ adds.next_is;
  emits = then s t u
      (λ vars code rest. (code ≡ rest) × IsLocal vars (local_name x) (c_type_of h))
      (λ vars code rest. code ≡ assign (local_name x) e rest)
      (λ vars code rest. (code ≡ assign (local_name x) e rest) × IsLocal vars (local_name x) (c_type_of h))
      (local_emits s t h x adds) (deliver_emits t u (Into x) e puts)
      (λ vars code middle rest p q. (p.0 ∙ q, p.1));
}

pub leaves_unset : (s t : Emitter) (h : Rep) (x : ℕ) → AddsLocal s t h x → LeavesUnset s t h (record { local = x; rep = h })
leaves_unset s t h x adds = record { rep = refl; number = adds.number; small = adds.small; next_is = adds.next_is; emits = local_emits s t h x adds }

-- Two blocks --------------------------------------------------------------------------------

-- an `if` of two blocks, each of which is related to its end
pub record Chosen (e : CExpr) (one other : Code → Type 0) (code rest : Code) : Type 0 where
  pub first : Code
  pub second : Code
  pub is : code ≡ test e first second rest
  pub taken : one first
  pub else_taken : other second

pub blocks : (s t u v x y : Emitter) (e : CExpr) (A B : Means) → Puts s t (piece.If e) → Emits t u A → Puts u v piece.Else → Emits v x B → Puts x y piece.End
    → Emits s y (λ vars code rest. Chosen e (λ code. A vars code done) (λ code. B vars code done) code rest)
blocks s t u v x y e A B opens one turns other closes = record {
  grows = grows_then s t y (put_grows s t (piece.If e) opens) (grows_then t u y one.grows (grows_then u v y (put_grows u v piece.Else turns) (grows_then v x y other.grows (put_grows x y piece.End closes))));
  code = λ vars l rest.
      let in_other : AreLocals vars x.locals = (put_grows x y piece.End closes).kept vars l in
      let in_one : AreLocals vars u.locals = (put_grows u v piece.Else turns).kept vars (other.grows.kept vars in_other) in
      let a = one.code vars in_one done in
      let b = other.code vars in_other done in
      record {
        code = test e a.code b.code rest;
        is = λ out.
            let after_other : List Piece = piece.End ∷ pieces rest out in
            let after_one : List Piece = piece.Else ∷ pieces b.code after_other in
            put_front s t (piece.If e) (pieces a.code after_one) opens ∙ a.is after_one
            ∙ put_front u v piece.Else (pieces b.code after_other) turns ∙ b.is after_other
            ∙ put_front x y piece.End (pieces rest out) closes;
        meant = record { first = a.code; second = b.code; is = refl; taken = a.meant; else_taken = b.meant };
      };
}

-- One loop ----------------------------------------------------------------------------------

pub record Looped (l : Name) (one : Code → Type 0) (code rest : Code) : Type 0 where
  pub body : Code
  pub is : code ≡ loop l body rest
  pub inside : one body

pub loops : (s t u v : Emitter) (l : Name) (A : Means) → Puts s t (piece.Loop l) → Emits t u A → Puts u v piece.End → Emits s v (λ vars code rest. Looped l (λ body. A vars body done) code rest)
loops s t u v l A opens one closes = record {
  grows = grows_then s t v (put_grows s t (piece.Loop l) opens) (grows_then t u v one.grows (put_grows u v piece.End closes));
  code = λ vars k rest.
      let a = one.code vars ((put_grows u v piece.End closes).kept vars k) done in
      record {
        code = loop l a.code rest;
        is = λ out.
            let after : List Piece = piece.End ∷ pieces rest out in
            put_front s t (piece.Loop l) (pieces a.code after) opens ∙ a.is after ∙ put_front u v piece.End (pieces rest out) closes;
        meant = record { body = a.code; is = refl; inside = a.meant };
      };
}

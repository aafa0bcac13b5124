-- What derivations in examples of translations share: a value to a local, arguments and what makes them fit, and branches. The values are those of any nodes.
use Rattle.std.proofs.Common.{◌≡◌, ℕ, List, [], ◌∷◌, Bool, true, false, refl, sym, ap, ◌∙◌, inl, inr}
use Rattle.std.specs.Prelude.{pos, if◌then◌else◌, ◌&&◌}
use Rattle.std.proofs.lemmas.Bool.{and_parts}
use Rattle.scheme_data.specs.Names.{is_same}
use Rattle.built_table.specs.declared.primitives.Ty.{Ty}
use Rattle.built_table.specs.declared.primitives.Ty.TheVariants as ty
use Rattle.c_tree.specs.declared.op.Op.{Op}
use Rattle.c_tree.specs.declared.op.Op.TheVariants.{UnboxLong}
use Rattle.c_tree.specs.declared.tree.CTy.{CTy}
use Rattle.c_tree.specs.declared.tree.CTy.TheVariants.{Obj, Long}
use Rattle.c_tree.specs.declared.tree.CArg.{CArg}
use Rattle.c_tree.specs.declared.tree.CAtom.TheVariants as atom
use Rattle.c_tree.specs.declared.tree.CExpr.TheVariants as expr
use Rattle.c_tree.specs.declared.tree.CVar.{CVar}
use Rattle.c_tree.specs.Code.{Code, assign, call, test}
use Rattle.c_meaning.specs.Plain.{is_typed, variable_named}
use Rattle.plan_rules.specs.declared.rep.Rep.{Rep}
use Rattle.plan_rules.specs.declared.rep.Rep.TheVariants as rep
use Rattle.plan_rules.specs.Representation.{rep_of, c_type_of, step, condition, operation, raise_count, raise_type, local}
use Rattle.plan_rules.specs.Translation.{Name, Fresh, Target, into, deliver, Statements, IsLocal, Boxed, Made, Refused, Fits, Applied, Argument, Then, Branches, Miscounted}
use Rattle.std.specs.Cmp.Lexicographic.{bytes_decides}

-- Which locals are free ---------------------------------------------------------------------

abbrev pub absent : Name → List Name → Bool
absent x [] = true
absent x (y ∷ ys) = if is_same x y then false else absent x ys

fresh : (x : Name) (xs : List Name) → absent x xs ≡ true → Fresh x xs
fresh x [] e i = i
fresh x (y ∷ ys) e (inl q) = let bad : false ≡ true = sym (ap (λ b. if b then false else absent x ys) ((bytes_decides x y).1 q)) ∙ e in absurd (cc)
fresh x (y ∷ ys) e (inr i) = fresh x ys (go (is_same x y) e) i
  where
    go : (b : Bool) → (if b then false else absent x ys) ≡ true → absent x ys ≡ true
    go true e1 = absurd (cc)
    go false e1 = e1

-- a local of a C type, and none of the names that are still needed
abbrev pub usable : List CVar → List Name → CTy → Name → Bool
usable vars live t x = absent x live && is_typed t (variable_named vars x)

usable_so : (vars : List CVar) (live : List Name) (t : CTy) (x : Name) → usable vars live t x ≡ true → Fresh x live × IsLocal vars x t
usable_so vars live t x e = let parts = and_parts (absent x live) (is_typed t (variable_named vars x)) e in (fresh x live parts.0, parts.1)

-- Nodes -------------------------------------------------------------------------------------

module _ {vars : List CVar} where
  -- one part, and then the others
  pub then_so : {first others : Code → Type 0} (middle : Code) → first middle → others middle → Then vars first others
  then_so middle one all = record { middle = middle; one = one; all = all }

  -- a number or a truth value in a local, and then a word of it
  pub boxed_so : {live : List Name} {o : Op} {t : CTy} {given : Statements} {target : Target} {code rest : Code} (x : Name) → usable vars live t x ≡ true → given (into x) code (deliver target (expr.Call (operation o (local x ∷ []))) rest) → Boxed vars o t given live target code rest
  boxed_so {live = live} {t = t} x e value =
      let free = usable_so vars live t x e in
      record { temporary = x; middle = _; fresh = free.0; is_local = free.1; value = value; box = refl }

  -- an argument that an operation makes fit
  pub made_so : {live : List Name} {o : Op} {x : Name} {t : CTy} {y : Name} {rest : Code} → usable vars live t y ≡ true → Made vars o live x t (assign y (expr.Call (operation o (local x ∷ []))) rest) y rest
  made_so {live = live} {t = t} {y = y} e =
      let free = usable_so vars live t y e in
      record { fresh = free.0; is_local = free.1; is = refl }

  -- an argument of a wrong type, in whose place a number stands
  pub refused_so : {live : List Name} {t : Ty} {y : Name} {rest : Code} → usable vars live (c_type_of (rep_of t)) y ≡ true → Refused vars t live (call (raise_type t) (assign y (expr.Atom (atom.Int (pos 0))) rest)) y rest
  refused_so {live = live} {t = t} {y = y} e =
      let free = usable_so vars live (c_type_of (rep_of t)) y e in
      record { fresh = free.0; is_local = free.1; is = refl }

  -- a value in a local, and then the other arguments
  pub held : {live : List Name} {value : Statements} {others : Name → List Name → Code → Type 0} {h : Rep} {rest : List Name} {code : Code} (x : Name) (middle : Code) → usable vars live (c_type_of h) x ≡ true → value (into x) code middle → others x rest middle → Argument vars value others h live (x ∷ rest) code
  held {live = live} {h = h} x middle e given all =
      let free = usable_so vars live (c_type_of h) x e in
      record { first = x; rest = _; middle = middle; are = refl; fresh = free.0; is_local = free.1; given = given; all = all }

  -- a test in a local, and by it two blocks
  pub branch_so : {live : List Name} {has : Rep} {value : Statements} {one other : Code → Type 0} {code rest : Code} (x : Name) (first second : Code) → usable vars live (c_type_of has) x ≡ true → value (into x) code (test (condition has x) first second rest) → one first → other second → Branches vars has value live one other code rest
  branch_so {live = live} {has = has} x first second e given taken else_taken =
      let free = usable_so vars live (c_type_of has) x e in
      record { temporary = x; middle = _; first = first; second = second; fresh = free.0; is_local = free.1; given = given; is = refl; taken = taken; else_taken = else_taken }

  -- arguments whose number is wrong
  pub miscounted_so : {arguments : List Name → Code → Code → Type 0} {want : ℕ} {code rest : Code} (names : List Name) → arguments names code (call (raise_count want) rest) → Miscounted vars arguments want code rest
  miscounted_so names values = record { temporaries = names; middle = _; values = values; is = refl }

  -- an operation without arguments
  pub none_so : {live : List Name} {finish : List CArg → Code} {code : Code} → code ≡ finish [] → Applied vars (λ names code rest. (names ≡ []) × (code ≡ rest)) [] [] live finish code
  none_so e = record { temporaries = []; made = []; middle = _; last = _; values = (refl, e); fit = (refl, refl); is = refl }

-- Operations with arguments -----------------------------------------------------------------

-- the one argument, and the two arguments, with how their values come
abbrev pub One : List CVar → List Name → Statements → Rep → List Name → Code → Code → Type 0
One vars live value h names code rest = Argument vars value (λ x others middle. (others ≡ []) × (middle ≡ rest)) h live names code

abbrev pub Two : List CVar → List Name → Statements → Rep → (Name → Statements) → Rep → List Name → Code → Code → Type 0
Two vars live value h other k names code rest = Argument vars value (λ x others middle. One vars (x ∷ live) (other x) k others middle rest) h live names code

module _ {vars : List CVar} {live : List Name} {value : Statements} {finish : List CArg → Code} {code : Code} where
  -- the value in a local `x`, and in `y` what fits
  pub one_so : {t : Ty} {h : Rep} (x y : Name) (middle : Code) → usable vars live (c_type_of h) x ≡ true → value (into x) code middle → Fits vars t (step t h) (x ∷ live) x middle y (finish (local y ∷ [])) → Applied vars (One vars live value h) (t ∷ []) (h ∷ []) live finish code
  one_so x y middle e given fits =
      record { temporaries = x ∷ []; made = y ∷ []; middle = _; last = _; values = held x middle e given (refl, refl); fit = record { first = y; rest = []; middle = _; are = refl; fits = fits; all = (refl, refl) }; is = refl }

  -- a word that fits as it is
  pub one_kept : (x : Name) → usable vars live Obj x ≡ true → value (into x) code (finish (local x ∷ [])) → Applied vars (One vars live value rep.Obj) (ty.Obj ∷ []) (rep.Obj ∷ []) live finish code
  one_kept x e given = one_so x x _ e given (refl, refl)

  module _ {other : Name → Statements} where
    -- the values in locals `x` and `y`, and in `a` and `b` what fits
    pub two_so : {t u : Ty} {h k : Rep} (x y a b : Name) (middle last fitted : Code) → (usable vars live (c_type_of h) x && usable vars (x ∷ live) (c_type_of k) y) ≡ true → value (into x) code middle → other x (into y) middle last → Fits vars t (step t h) (x ∷ y ∷ live) x last a fitted → Fits vars u (step u k) (a ∷ x ∷ y ∷ live) y fitted b (finish (local a ∷ local b ∷ [])) → Applied vars (Two vars live value h other k) (t ∷ u ∷ []) (h ∷ k ∷ []) live finish code
    two_so {h = h} {k = k} x y a b middle last fitted e one another fits others =
        let parts = and_parts (usable vars live (c_type_of h) x) (usable vars (x ∷ live) (c_type_of k) y) e in
        record {
          temporaries = x ∷ y ∷ [];
          made = a ∷ b ∷ [];
          middle = _;
          last = _;
          values = held x middle parts.0 one (held y last parts.1 another (refl, refl));
          fit = record { first = a; rest = b ∷ []; middle = fitted; are = refl; fits = fits; all = record { first = b; rest = []; middle = _; are = refl; fits = others; all = (refl, refl) } };
          is = refl;
        }

    -- numbers that fit as they are
    pub two_kept : (x y : Name) (middle : Code) → (usable vars live Long x && usable vars (x ∷ live) Long y) ≡ true → value (into x) code middle → other x (into y) middle (finish (local x ∷ local y ∷ [])) → Applied vars (Two vars live value rep.Long other rep.Long) (ty.Long ∷ ty.Long ∷ []) (rep.Long ∷ rep.Long ∷ []) live finish code
    two_kept x y middle e one another = two_so x y x y middle _ _ e one another (refl, refl) (refl, refl)

    -- a word that is unboxed to `a`, and a number
    pub first_unboxed : (x y a : Name) (middle : Code) → (usable vars live Obj x && usable vars (x ∷ live) Long y) ≡ true → usable vars (x ∷ y ∷ live) Long a ≡ true → value (into x) code middle → other x (into y) middle (assign a (expr.Call (operation UnboxLong (local x ∷ []))) (finish (local a ∷ local y ∷ []))) → Applied vars (Two vars live value rep.Obj other rep.Long) (ty.Long ∷ ty.Long ∷ []) (rep.Obj ∷ rep.Long ∷ []) live finish code
    first_unboxed x y a middle e made one another = two_so x y a y middle _ _ e one another (made_so made) (refl, refl)

-- What slots hold: the bits of cells that their types allow.
use Rattle.std.proofs.Common.{◌≡◌, ℕ, suc, ◌+◌, ◌-◌, ◌<◌, ◌^◌, Bool, true, false, cond, List, [], ◌∷◌, ◌++◌, length, Option, Some, None, slice_get, get_or, refl, sym, ap, subst, ◌∙◌, arith, ⊎_elim, get_or-set_same, get_or-set_other, if◌then◌else◌, length-append}
use Rattle.std.specs.Prelude.{ℤ, slice_set, ◌==◌}
use Rattle.std.specs.Cmp.Lexicographic.{nat_list_eq_equiv}
use Rattle.std.proofs.lemmas.List.{get_or-append-add, set-append_right, length-set}
use Rattle.std.proofs.lemmas.Bool.{cases_eq, eq-eqb, ne_eqb}
use Rattle.std.proofs.lemmas.Option.{slice_get_within}
use Rattle.scheme_data.specs.Names.{is_same}
use Rattle.scheme_data.specs.Fixnum.{IsFixnum, long_word}
use Rattle.c_tree.specs.declared.tree.CTy.{CTy}
use Rattle.c_tree.specs.declared.tree.CTy.TheVariants.{Obj, Long, Char, Int}
use Rattle.c_tree.specs.declared.tree.CAtom.{CAtom}
use Rattle.c_tree.specs.declared.tree.CAtom.TheVariants as atoms
use Rattle.c_tree.specs.declared.tree.CVar.{CVar}
use Rattle.c_meaning.specs.Word.{Word, False, True, Nil, Unspec, Eof, bits_of}
use Rattle.c_meaning.specs.State.{Cell, AWord, ANumber, Frame, put}
use Rattle.c_meaning.specs.Execution.{position_of, atom}
use Rattle.c_meaning.specs.Plain.{same_type, number_fits, is_byte, is_typed, variable_named, atom_fits}
use Rattle.c_machine.specs.declared.program.Operand.{Operand}
use Rattle.c_machine.specs.declared.program.Operand.TheVariants as operand
use Rattle.c_machine.specs.Steps.{look, Reads}
use Rattle.c_machine.specs.Decoded.{operand_of, variable_names}
use Rattle.c_machine.proofs.Numbers.{WordFits, long_fits, byte_fixnum}

-- the bits of a cell
abbrev pub slot_of : Cell → ℕ
slot_of (AWord w) = bits_of w
slot_of (ANumber z) = long_word z

-- the cells that a type allows
abbrev pub Fits : CTy → Cell → Type 0
Fits Obj (AWord w) = WordFits w
Fits Obj (ANumber z) = ⊥
Fits Long (AWord w) = ⊥
Fits Long (ANumber z) = IsFixnum z
Fits Char (AWord w) = ⊥
Fits Char (ANumber z) = is_byte z ≡ true
Fits Int (AWord w) = ⊥
Fits Int (ANumber z) = is_byte z ≡ true

-- a slot has the bits of a cell that the type allows
pub record Slot (t : CTy) (c : Cell) (v : ℕ) : Type 0 where
  pub fits : Fits t c
  pub is : v ≡ slot_of c

-- a function's slots hold the cells of its variables
pub record Holds (vars : List CVar) (f : Frame) (env : List ℕ) : Type 0 where
  pub long : length env ≡ length vars
  pub each : (k : ℕ) (v : CVar) → slice_get vars k ≡ Some v → Slot v.ty (f k) (get_or env k 0)

pub same_type_is : (t u : CTy) → same_type t u ≡ true → t ≡ u
same_type_is Obj Obj h = refl
same_type_is Obj Long h = absurd (cc)
same_type_is Obj Char h = absurd (cc)
same_type_is Obj Int h = absurd (cc)
same_type_is Long Obj h = absurd (cc)
same_type_is Long Long h = refl
same_type_is Long Char h = absurd (cc)
same_type_is Long Int h = absurd (cc)
same_type_is Char Obj h = absurd (cc)
same_type_is Char Long h = absurd (cc)
same_type_is Char Char h = refl
same_type_is Char Int h = absurd (cc)
same_type_is Int Obj h = absurd (cc)
same_type_is Int Long h = absurd (cc)
same_type_is Int Char h = absurd (cc)
same_type_is Int Int h = refl

pub same_type_self : (t : CTy) → same_type t t ≡ true
same_type_self Obj = refl
same_type_self Long = refl
same_type_self Char = refl
same_type_self Int = refl

-- a variable stands at the position of its name
pub variable_at : (x : List ℕ) (vars : List CVar) (v : CVar) → variable_named vars x ≡ Some v → slice_get vars (position_of x (variable_names vars)) ≡ Some v
variable_at x [] v h = absurd (cc)
variable_at x (u ∷ us) v h = from (is_same x u.name) (nat_list_eq_equiv.symm x u.name) (variable_at x us v) h
  where
    from : (b : Bool) → b ≡ is_same u.name x → (variable_named us x ≡ Some v → slice_get us (position_of x (variable_names us)) ≡ Some v) → cond (is_same u.name x) (Some u) (variable_named us x) ≡ Some v → slice_get (u ∷ us) (if b then 0 else suc (position_of x (variable_names us))) ≡ Some v
    from true e rest h = ap (λ b. cond b (Some u) (variable_named us x)) e ∙ h
    from false e rest h = rest (ap (λ b. cond b (Some u) (variable_named us x)) e ∙ h)

number_slot : (z : ℤ) (t : CTy) → number_fits z t ≡ true → Slot t (ANumber z) (long_word z)
number_slot z Obj h = absurd (cc)
number_slot z Long h = record { fits = h; is = refl }
number_slot z Char h = record { fits = h; is = refl }
number_slot z Int h = record { fits = h; is = refl }

number_bits : (z : ℤ) (t : CTy) → number_fits z t ≡ true → long_word z < 2 ^ 64
number_bits z Obj h = absurd (cc)
number_bits z Long h = long_fits z h
number_bits z Char h = long_fits z (byte_fixnum z h)
number_bits z Int h = long_fits z (byte_fixnum z h)

constant_slot : (w : Word) (t : CTy) → WordFits w → same_type t Obj ≡ true → Slot t (AWord w) (bits_of w)
constant_slot w Obj f h = record { fits = f; is = refl }
constant_slot w Long f h = absurd (cc)
constant_slot w Char f h = absurd (cc)
constant_slot w Int f h = absurd (cc)

-- what an atom's operand reads is its cell
pub record Reading (t : CTy) (c : Cell) (base : ℕ) (slots : List ℕ) (a : Operand) : Type 0 where
  pub slot : Slot t c (look base slots a)
  pub reads : Reads base slots a

name_reading : (vars : List CVar) (f : Frame) (below env : List ℕ) (t : CTy) (x : List ℕ) (o : Option CVar) → variable_named vars x ≡ o → is_typed t o ≡ true → Holds vars f env → Reading t (f (position_of x (variable_names vars))) (length below) (below ++ env) (operand.Local (position_of x (variable_names vars)))
name_reading vars f below env t x None e h hs = absurd (cc)
name_reading vars f below env t x (Some v) e h hs =
    let at = variable_at x vars v e in
    let k = position_of x (variable_names vars) in
    let s = hs.each k v at in
    let same : v.ty ≡ t = sym (same_type_is t v.ty h) in
    let lt = slice_get_within vars k v at in
    record {
      slot = record { fits = subst (λ (u : CTy). Fits u (f k)) same s.fits; is = get_or-append-add below env k 0 ∙ s.is };
      reads = omega (arith, hs.long, lt, length-append below env);
    }

pub atom_reading : (vars : List CVar) (f : Frame) (below env : List ℕ) (t : CTy) (a : CAtom) → atom_fits vars a t ≡ true → Holds vars f env → Reading t (atom (variable_names vars) f a) (length below) (below ++ env) (operand_of (variable_names vars) a)
atom_reading vars f below env t (atoms.Int n) h hs = record { slot = number_slot n t h; reads = number_bits n t h }
atom_reading vars f below env t (atoms.Name x) h hs = name_reading vars f below env t x (variable_named vars x) refl h hs
atom_reading vars f below env t (atoms.Sym x) h hs = absurd (cc)
atom_reading vars f below env t atoms.False h hs = record { slot = constant_slot False t tt h; reads = omega arith }
atom_reading vars f below env t atoms.True h hs = record { slot = constant_slot True t tt h; reads = omega arith }
atom_reading vars f below env t atoms.Nil h hs = record { slot = constant_slot Nil t tt h; reads = omega arith }
atom_reading vars f below env t atoms.Unspec h hs = record { slot = constant_slot Unspec t tt h; reads = omega arith }
atom_reading vars f below env t atoms.Eof h hs = record { slot = constant_slot Eof t tt h; reads = omega arith }

pub set_env : (below env : List ℕ) (x v : ℕ) → slice_set (below ++ env) (length below + x) v ≡ below ++ slice_set env x v
set_env below env x v =
    let e : length below + x - length below ≡ x = omega arith in
    set-append_right below env (length below) (length below + x) v refl (omega arith) ∙ ap (λ (k : ℕ). below ++ slice_set env k v) e

pub slot_by : (t u : CTy) (c d : Cell) (v w : ℕ) → Slot t c v → t ≡ u → c ≡ d → v ≡ w → Slot u d w
slot_by t u c d v w s et ec ev = record {
  fits = subst (λ (e : Cell). Fits u e) ec (subst (λ (a : CTy). Fits a c) et s.fits);
  is = sym ev ∙ s.is ∙ ap slot_of ec;
}

-- a write to a variable
pub put_holds : (vars : List CVar) (f : Frame) (env : List ℕ) (x : ℕ) (u : CVar) (c : Cell) (v : ℕ) → slice_get vars x ≡ Some u → Slot u.ty c v → Holds vars f env → Holds vars (put x c f) (slice_set env x v)
put_holds vars f env x u c v at s hs = record {
  long = length-set env x v ∙ hs.long;
  each = λ k w e. ⊎_elim (same k w e) (other k w e) (cases_eq k x);
}
  where
    same : (k : ℕ) (w : CVar) → slice_get vars k ≡ Some w → k ≡ x → Slot w.ty (put x c f k) (get_or (slice_set env x v) k 0)
    same k w e eq =
        let uw : Some u ≡ Some w = sym at ∙ ap (slice_get vars) (sym eq) ∙ e in
        let found : u ≡ w = cc in
        let test : (k == x) ≡ true = eq-eqb k x eq in
        let inside = slice_get_within vars x u at in
        let lt : x < length env = omega (arith, hs.long, inside) in
        slot_by u.ty w.ty c (put x c f k) v (get_or (slice_set env x v) k 0) s (ap (λ (a : CVar). a.ty) found) (ap (λ b. if b then c else f k) (sym test)) (sym (ap (λ n. get_or (slice_set env x v) n 0) eq ∙ get_or-set_same env x v 0 lt))

    other : (k : ℕ) (w : CVar) → slice_get vars k ≡ Some w → (k ≡ x → ⊥) → Slot w.ty (put x c f k) (get_or (slice_set env x v) k 0)
    other k w e ne =
        let test : (k == x) ≡ false = ne_eqb k x ne in
        slot_by w.ty w.ty (f k) (put x c f k) (get_or env k 0) (get_or (slice_set env x v) k 0) (hs.each k w e) refl (ap (λ b. if b then c else f k) (sym test)) (sym (get_or-set_other env x k v 0 ne))

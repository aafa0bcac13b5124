-- Each operation gives what its action gives.
use Rattle.std.proofs.Common.{◌≡◌, ℕ, ◌<◌, ◌≤◌, ◌%◌, Bool, true, false, List, [], ◌∷◌, ◌++◌, length, refl, sym, ap, subst, ◌∙◌, if◌then◌else◌, arith}
use Rattle.std.specs.Prelude.{ℤ, pos, negsuc, ◌+ℤ◌, int_lt, nat_lt, nat_le, nat_eq}
use Rattle.std.proofs.lemmas.List.{append-nil}
use Rattle.std.proofs.lemmas.Bool.{and_parts, leb-true, lt-ltb}
use Rattle.scheme_data.specs.Fixnum.{IsFixnum, is_fixnum, long_word, fixnum_word}
use Rattle.base_io.specs.declared.end.End.TheVariants.{Raised}
use Rattle.prim_table.specs.Errors.{number_of}
use Rattle.prim_table.specs.declared.errors.ErrCode.TheVariants.{WrongType, Range, ZeroDivisor}
use Rattle.built_table.specs.Table.{name_of, type_name}
use Rattle.built_table.specs.declared.primitives.Ty.TheVariants as types
use Rattle.built_table.specs.declared.primitives.Primitive.{Primitive}
use Rattle.built_table.specs.declared.primitives.Primitive.TheVariants.{Add, Less, Display, Newline}
use Rattle.prim_table.specs.declared.primitives.Primitive.TheVariants as table
use Rattle.c_tree.specs.declared.op.Op.{Op}
use Rattle.c_tree.specs.declared.op.Op.TheVariants.{BoxLong, BoxBool, UnboxLong, Truth, Raise, Args, Status, Primitive as Prim_op}
use Rattle.c_tree.specs.declared.tree.CTy.{CTy}
use Rattle.c_tree.specs.declared.tree.CTy.TheVariants.{Obj, Long, Int}
use Rattle.c_tree.specs.declared.tree.CAtom.{CAtom}
use Rattle.c_tree.specs.declared.tree.CAtom.TheVariants as atoms
use Rattle.c_tree.specs.declared.tree.CArg.{CArg}
use Rattle.c_tree.specs.declared.tree.CArg.TheVariants as arg
use Rattle.c_tree.specs.declared.tree.CVar.{CVar}
use Rattle.c_tree.specs.declared.op.Wants.TheVariants.{AType, AnError, AText}
use Rattle.c_tree.specs.Operations.{wants_of, gives_of, primitive_op}
use Rattle.c_meaning.specs.Word.{Word, Fixnum, False, True, Nil, Unspec, Eof, bits_of}
use Rattle.c_meaning.specs.State.{Cell, AWord, ANumber, State, Frame, Answer, Has, Leaves, Stops, Ends, Faults}
use Rattle.c_meaning.specs.Operations.{ACell, operate, print, fixnum_in, in_range, is_true, truth_word, truth_number}
use Rattle.c_meaning.specs.Execution.{Names, atom, arguments}
use Rattle.c_meaning.specs.Plain.{argument_fits, arguments_fit, atom_fits, is_built_op, is_byte}
use Rattle.c_machine.specs.declared.program.Action.{Action}
use Rattle.c_machine.specs.Words.{long_of, fixnum_of, word_text, byte_of, status_of, truth_of, boxed_truth_of, less_of}
use Rattle.c_machine.specs.Steps.{look, NeedsAction, Gave, Gives, Quits, performed, ranged, unboxed_of}
use Rattle.c_machine.specs.Decoded.{operand_of, action_of, variable_names}
use Rattle.c_machine.proofs.Numbers.{WordFits, long_back, fixnum_back, fixnum_tag, word_text_is, status_is, status_byte, fixnum_no_constant, when_true, when_false}
use Rattle.c_machine.proofs.Typing.{Slot, Holds, Reading, atom_reading}

-- an action gives what an answer has, or ends the run as the answer does
abbrev pub Matches : CTy → State → Gave → Answer → Type 0
Matches t s (Gives v bytes) (Has c s1) = Slot t c v × (s1 ≡ print bytes s)
Matches t s (Gives v bytes) (Leaves x w s1) = ⊥
Matches t s (Gives v bytes) (Stops code text s1) = ⊥
Matches t s (Gives v bytes) (Ends s1) = ⊥
Matches t s (Gives v bytes) (Faults k s1) = ⊥
Matches t s (Quits e) (Has c s1) = ⊥
Matches t s (Quits e) (Leaves x w s1) = ⊥
Matches t s (Quits e) (Stops code text s1) = (e ≡ Raised code text) × (s1 ≡ s)
Matches t s (Quits e) (Ends s1) = ⊥
Matches t s (Quits e) (Faults k s1) = ⊥

pub print_nothing : (s : State) → s ≡ print [] s
print_nothing s = ap (λ (o : List ℕ). record s { output = o }) (sym (append-nil s.output))

-- Arguments ---------------------------------------------------------------------------------

pub record OneArg (vars : List CVar) (t : CTy) (args : List CArg) : Type 0 where
  pub first : CAtom
  pub is : args ≡ arg.Atom first ∷ []
  pub fits : atom_fits vars first t ≡ true

pub record TwoArgs (vars : List CVar) (t u : CTy) (args : List CArg) : Type 0 where
  pub first : CAtom
  pub second : CAtom
  pub is : args ≡ arg.Atom first ∷ arg.Atom second ∷ []
  pub fits : atom_fits vars first t ≡ true
  pub fits_too : atom_fits vars second u ≡ true

pub no_args : (vars : List CVar) (args : List CArg) → arguments_fit vars [] args ≡ true → args ≡ []
no_args vars [] h = refl
no_args vars (a ∷ others) h = absurd (cc)

pub one_arg : (vars : List CVar) (t : CTy) (args : List CArg) → arguments_fit vars (AType t ∷ []) args ≡ true → OneArg vars t args
one_arg vars t [] h = absurd (cc)
one_arg vars t (arg.Atom a ∷ others) h =
    let p = and_parts (atom_fits vars a t) (arguments_fit vars [] others) h in
    record { first = a; is = ap (λ l. arg.Atom a ∷ l) (no_args vars others p.1); fits = p.0 }
one_arg vars t (arg.Str text ∷ others) h = absurd (cc)
one_arg vars t (arg.Entry n ∷ others) h = absurd (cc)

pub two_args : (vars : List CVar) (t u : CTy) (args : List CArg) → arguments_fit vars (AType t ∷ AType u ∷ []) args ≡ true → TwoArgs vars t u args
two_args vars t u [] h = absurd (cc)
two_args vars t u (arg.Atom a ∷ others) h =
    let p = and_parts (atom_fits vars a t) (arguments_fit vars (AType u ∷ []) others) h in
    let q = one_arg vars u others p.1 in
    record { first = a; second = q.first; is = ap (λ l. arg.Atom a ∷ l) q.is; fits = p.0; fits_too = q.fits }
two_args vars t u (arg.Str text ∷ others) h = absurd (cc)
two_args vars t u (arg.Entry n ∷ others) h = absurd (cc)

pub record RaiseArgs (args : List CArg) : Type 0 where
  pub code : ℕ
  pub text : List ℕ
  pub is : args ≡ arg.Atom (atoms.Int (pos code)) ∷ arg.Str text ∷ []
  pub small : code < 256

text_arg : (vars : List CVar) (args : List CArg) → arguments_fit vars (AText ∷ []) args ≡ true → (text : List ℕ) × (args ≡ arg.Str text ∷ [])
text_arg vars [] h = absurd (cc)
text_arg vars (arg.Atom a ∷ others) h = absurd (cc)
text_arg vars (arg.Entry n ∷ others) h = absurd (cc)
text_arg vars (arg.Str text ∷ others) h = (text, ap (λ l. arg.Str text ∷ l) (no_args vars others h))

raise_atom : (vars : List CVar) (a : CAtom) → argument_fits vars AnError (arg.Atom a) ≡ true → (code : ℕ) × (a ≡ atoms.Int (pos code)) × (code < 256)
raise_atom vars (atoms.Int (pos n)) h =
    let p = and_parts (nat_le (number_of WrongType) n) (nat_le n (number_of ZeroDivisor)) h in
    let le : n ≤ 10 = leb-true n (number_of ZeroDivisor) p.1 in (n, refl, omega arith)
raise_atom vars (atoms.Int (negsuc n)) h = absurd (cc)
raise_atom vars (atoms.Name x) h = absurd (cc)
raise_atom vars (atoms.Sym x) h = absurd (cc)
raise_atom vars atoms.False h = absurd (cc)
raise_atom vars atoms.True h = absurd (cc)
raise_atom vars atoms.Nil h = absurd (cc)
raise_atom vars atoms.Unspec h = absurd (cc)
raise_atom vars atoms.Eof h = absurd (cc)

pub raise_args : (vars : List CVar) (args : List CArg) → arguments_fit vars (AnError ∷ AText ∷ []) args ≡ true → RaiseArgs args
raise_args vars [] h = absurd (cc)
raise_args vars (arg.Str t ∷ others) h = absurd (cc)
raise_args vars (arg.Entry n ∷ others) h = absurd (cc)
raise_args vars (arg.Atom a ∷ others) h =
    let p = and_parts (argument_fits vars AnError (arg.Atom a)) (arguments_fit vars (AText ∷ []) others) h in
    let q = raise_atom vars a p.0 in
    let r = text_arg vars others p.1 in
    record { code = q.0; text = r.0; is = ap (λ (x : CAtom). arg.Atom x ∷ others) q.1 ∙ ap (λ l. arg.Atom (atoms.Int (pos q.0)) ∷ l) r.1; small = q.2 }

-- Operations --------------------------------------------------------------------------------

-- what an operation's action needs, and that it gives what the operation answers
pub record Operated (t : CTy) (s : State) (base : ℕ) (slots : List ℕ) (a : Action) (answer : Answer) : Type 0 where
  pub needs : NeedsAction a base slots
  pub same : Matches t s (performed a base slots) answer

boxed_same : (c : Cell) (s : State) (v : ℕ) → Slot Long c v → (IsFixnum (long_of v)) × Matches Obj s (Gives (fixnum_word (long_of v)) []) (operate BoxLong (ACell c ∷ []) s)
boxed_same (AWord w) s v h = absurd h.fits
boxed_same (ANumber z) s v h =
    let back : long_of v ≡ z = ap long_of h.is ∙ long_back z h.fits in
    (subst IsFixnum (sym back) h.fits, (record { fits = h.fits; is = ap fixnum_word back }, print_nothing s))

boxed_truth_same : (c : Cell) (s : State) (v : ℕ) → Slot Int c v → Matches Obj s (Gives (boxed_truth_of v) []) (operate BoxBool (ACell c ∷ []) s)
boxed_truth_same (AWord w) s v h = absurd h.fits
boxed_truth_same (ANumber (negsuc n)) s v h = absurd (let no = h.fits in cc)
boxed_truth_same (ANumber (pos n)) s v h = subst (λ (u : ℕ). Matches Obj s (Gives (boxed_truth_of u) []) (operate BoxBool (ACell (ANumber (pos n)) ∷ []) s)) (sym h.is) (each (nat_eq n 0), print_nothing s)
  where
    each : (b : Bool) → Slot Obj (AWord (truth_word (if b then false else true))) (if b then bits_of False else bits_of True)
    each true = record { fits = tt; is = refl }
    each false = record { fits = tt; is = refl }

truth_same : (c : Cell) (s : State) (v : ℕ) → Slot Obj c v → Matches Int s (Gives (truth_of v) []) (operate Truth (ACell c ∷ []) s)
truth_same (ANumber z) s v h = absurd h.fits
truth_same (AWord w) s v h = (record { fits = number w; is = ap truth_of h.is ∙ each w h.fits }, print_nothing s)
  where
    number : (w : Word) → is_byte (truth_number (is_true w)) ≡ true
    number (Fixnum z) = refl
    number False = refl
    number True = refl
    number Nil = refl
    number Unspec = refl
    number Eof = refl

    each : (w : Word) → WordFits w → truth_of (bits_of w) ≡ long_word (truth_number (is_true w))
    each (Fixnum z) f = when_false (nat_eq (fixnum_word z) (bits_of False)) 0 1 (fixnum_no_constant z f)
    each False f = refl
    each True f = refl
    each Nil f = refl
    each Unspec f = refl
    each Eof f = refl

unboxed_same : (c : Cell) (s : State) (v : ℕ) → Slot Obj c v → Matches Long s (unboxed_of v) (operate UnboxLong (ACell c ∷ []) s)
unboxed_same (ANumber z) s v h = absurd h.fits
unboxed_same (AWord w) s v h = subst (λ (u : ℕ). Matches Long s (unboxed_of u) (fixnum_in w s)) (sym h.is) (each w h.fits)
  where
    each : (w : Word) → WordFits w → Matches Long s (unboxed_of (bits_of w)) (fixnum_in w s)
    each (Fixnum z) f =
        subst (λ (g : Gave). Matches Long s g (Has (ANumber z) s)) (sym (when_true (nat_eq (fixnum_word z % 8) 0) (Gives (long_word (fixnum_of (fixnum_word z))) []) (Quits (Raised (number_of WrongType) (type_name types.Long))) (fixnum_tag z f)))
        (record { fits = f; is = ap long_word (fixnum_back z f) }, print_nothing s)
    each False f = (refl, refl)
    each True f = (refl, refl)
    each Nil f = (refl, refl)
    each Unspec f = (refl, refl)
    each Eof f = (refl, refl)

status_same : (c : Cell) (s : State) (v : ℕ) → Slot Obj c v → Matches Int s (Gives (status_of v) []) (operate Status (ACell c ∷ []) s)
status_same (ANumber z) s v h = absurd h.fits
status_same (AWord w) s v h = (record { fits = status_byte w; is = ap status_of h.is ∙ status_is w h.fits }, print_nothing s)

ranged_same : (p : Primitive) (z : ℤ) (s : State) → Matches Long s (ranged p z) (in_range p z s)
ranged_same p z s = by (is_fixnum z) refl
  where
    by : (b : Bool) → is_fixnum z ≡ b → Matches Long s (if b then Gives (long_word z) [] else Quits (Raised (number_of Range) (name_of p))) (if b then Has (ANumber z) s else Stops (number_of Range) (name_of p) s)
    by true e = (record { fits = e; is = refl }, print_nothing s)
    by false e = (refl, refl)

added_same : (c d : Cell) (s : State) (v w : ℕ) → Slot Long c v → Slot Long d w → (IsFixnum (long_of v)) × (IsFixnum (long_of w)) × Matches Long s (ranged Add (long_of v +ℤ long_of w)) (operate (primitive_op Add) (ACell c ∷ ACell d ∷ []) s)
added_same (AWord x) d s v w h i = absurd h.fits
added_same (ANumber y) (AWord x) s v w h i = absurd i.fits
added_same (ANumber y) (ANumber z) s v w h i =
    let left : long_of v ≡ y = ap long_of h.is ∙ long_back y h.fits in
    let right : long_of w ≡ z = ap long_of i.is ∙ long_back z i.fits in
    let both : long_of v +ℤ long_of w ≡ y +ℤ z = ap (λ (x : ℤ). x +ℤ long_of w) left ∙ ap (λ (x : ℤ). y +ℤ x) right in (
      subst IsFixnum (sym left) h.fits,
      subst IsFixnum (sym right) i.fits,
      subst (λ (n : ℤ). Matches Long s (ranged Add n) (in_range Add (y +ℤ z) s)) (sym both) (ranged_same Add (y +ℤ z) s),
    )

less_same : (c d : Cell) (s : State) (v w : ℕ) → Slot Long c v → Slot Long d w → (IsFixnum (long_of v)) × (IsFixnum (long_of w)) × Matches Int s (Gives (less_of (long_of v) (long_of w)) []) (operate (primitive_op Less) (ACell c ∷ ACell d ∷ []) s)
less_same (AWord x) d s v w h i = absurd h.fits
less_same (ANumber y) (AWord x) s v w h i = absurd i.fits
less_same (ANumber y) (ANumber z) s v w h i =
    let left : long_of v ≡ y = ap long_of h.is ∙ long_back y h.fits in
    let right : long_of w ≡ z = ap long_of i.is ∙ long_back z i.fits in
    let both : less_of (long_of v) (long_of w) ≡ less_of y z = ap (λ (x : ℤ). less_of x (long_of w)) left ∙ ap (λ (x : ℤ). less_of y x) right in
    (subst IsFixnum (sym left) h.fits, subst IsFixnum (sym right) i.fits, (subst (λ (u : ℕ). Slot Int (ANumber (truth_number (int_lt y z))) u) (sym both) (each (int_lt y z)), print_nothing s))
  where
    each : (b : Bool) → Slot Int (ANumber (truth_number b)) (if b then 1 else 0)
    each true = record { fits = refl; is = refl }
    each false = record { fits = refl; is = refl }

shown_same : (c : Cell) (s : State) (v : ℕ) → Slot Obj c v → Matches Obj s (Gives (bits_of Unspec) (word_text v)) (operate (primitive_op Display) (ACell c ∷ []) s)
shown_same (ANumber z) s v h = absurd h.fits
shown_same (AWord w) s v h = (record { fits = tt; is = refl }, ap (λ (t : List ℕ). print t s) (sym (ap word_text h.is ∙ word_text_is w h.fits)))

module _ (vars : List CVar) (f : Frame) (below env : List ℕ) (s : State) (hs : Holds vars f env) where
  abbrev base : ℕ
  base = length below

  abbrev slots : List ℕ
  slots = below ++ env

  abbrev names : Names
  names = variable_names vars

  abbrev cell : CAtom → Cell
  cell a = atom names f a

  abbrev value : CAtom → ℕ
  value a = look base slots (operand_of names a)

  record OneRead (t : CTy) (args : List CArg) : Type 0 where
    first : CAtom
    is : args ≡ arg.Atom first ∷ []
    has : Reading t (cell first) base slots (operand_of names first)

  record TwoRead (t u : CTy) (args : List CArg) : Type 0 where
    first : CAtom
    second : CAtom
    is : args ≡ arg.Atom first ∷ arg.Atom second ∷ []
    has : Reading t (cell first) base slots (operand_of names first)
    has_too : Reading u (cell second) base slots (operand_of names second)

  one_read : (t : CTy) (args : List CArg) → arguments_fit vars (AType t ∷ []) args ≡ true → OneRead t args
  one_read t args h = let a = one_arg vars t args h in record { first = a.first; is = a.is; has = atom_reading vars f below env t a.first a.fits hs }

  two_read : (t u : CTy) (args : List CArg) → arguments_fit vars (AType t ∷ AType u ∷ []) args ≡ true → TwoRead t u args
  two_read t u args h =
      let a = two_args vars t u args h in
      record { first = a.first; second = a.second; is = a.is; has = atom_reading vars f below env t a.first a.fits hs; has_too = atom_reading vars f below env u a.second a.fits_too hs }

  abbrev Done : Op → List CArg → Type 0
  Done op args = Operated (gives_of op) s base slots (action_of names op args) (operate op (arguments names f args) s)

  operated_by : (p : Primitive) (args : List CArg) → arguments_fit vars (wants_of (primitive_op p)) args ≡ true → Done (primitive_op p) args
  operated_by Add args h =
      let a = two_read Long Long args h in
      let d = added_same (cell a.first) (cell a.second) s (value a.first) (value a.second) a.has.slot a.has_too.slot in
      subst (Done (primitive_op Add)) (sym a.is) (record { needs = ((a.has.reads, d.0), ((a.has_too.reads, d.1), tt)); same = d.2 })
  operated_by Less args h =
      let a = two_read Long Long args h in
      let d = less_same (cell a.first) (cell a.second) s (value a.first) (value a.second) a.has.slot a.has_too.slot in
      subst (Done (primitive_op Less)) (sym a.is) (record { needs = ((a.has.reads, d.0), ((a.has_too.reads, d.1), tt)); same = d.2 })
  operated_by Display args h =
      let a = one_read Obj args h in
      subst (Done (primitive_op Display)) (sym a.is) (record { needs = (a.has.reads, tt); same = shown_same (cell a.first) s (value a.first) a.has.slot })
  operated_by Newline args h = subst (Done (primitive_op Newline)) (sym (no_args vars args h)) (record { needs = tt; same = (record { fits = tt; is = refl }, refl) })

  pub operated : (op : Op) (args : List CArg) → is_built_op op ≡ true → arguments_fit vars (wants_of op) args ≡ true → Done op args
  operated BoxLong args b h =
      let a = one_read Long args h in
      let d = boxed_same (cell a.first) s (value a.first) a.has.slot in
      subst (Done BoxLong) (sym a.is) (record { needs = (a.has.reads, d.0); same = d.1 })
  operated BoxBool args b h =
      let a = one_read Int args h in
      subst (Done BoxBool) (sym a.is) (record { needs = a.has.reads; same = boxed_truth_same (cell a.first) s (value a.first) a.has.slot })
  operated UnboxLong args b h =
      let a = one_read Obj args h in
      subst (Done UnboxLong) (sym a.is) (record { needs = a.has.reads; same = unboxed_same (cell a.first) s (value a.first) a.has.slot })
  operated Truth args b h =
      let a = one_read Obj args h in
      subst (Done Truth) (sym a.is) (record { needs = a.has.reads; same = truth_same (cell a.first) s (value a.first) a.has.slot })
  operated Raise args b h =
      let a = raise_args vars args h in
      let code : byte_of (pos a.code) ≡ a.code = when_true (nat_lt a.code 256) a.code 0 (lt-ltb a.code 256 a.small) in
      subst (Done Raise) (sym a.is) (record { needs = tt; same = (ap (λ (n : ℕ). Raised n a.text) code, refl) })
  operated Args args b h = subst (Done Args) (sym (no_args vars args h)) (record { needs = tt; same = (record { fits = tt; is = refl }, print_nothing s) })
  operated Status args b h =
      let a = one_read Obj args h in
      subst (Done Status) (sym a.is) (record { needs = a.has.reads; same = status_same (cell a.first) s (value a.first) a.has.slot })
  operated (Prim_op table.Add) args b h = operated_by Add args h
  operated (Prim_op table.Less) args b h = operated_by Less args h
  operated (Prim_op table.Display) args b h = operated_by Display args h
  operated (Prim_op table.Newline) args b h = operated_by Newline args h
  operated _ args b h = absurd (cc)

-- Each primitive does the same on both sides.
use Rattle.std.proofs.Common.{◌≡◌, ℕ, List, [], ◌∷◌, ◌++◌, Bool, true, false, refl, sym, ap, ◌∙◌, arith}
use Rattle.std.specs.Prelude.{ℤ, ◌+ℤ◌, int_lt, map, if◌then◌else◌}
use Rattle.scheme_data.specs.Fixnum.{is_fixnum}
use Rattle.built_table.specs.declared.primitives.Primitive.{Primitive as Builtin}
use Rattle.built_table.specs.declared.primitives.Primitive.TheVariants.{Add, Less, Display, Newline}
use Rattle.prim_table.specs.Errors.{number_of}
use Rattle.prim_table.specs.declared.errors.ErrCode.TheVariants.{Range}
use Rattle.built_table.specs.Table.{name_of, params_of, result_of}
use Rattle.meaning.specs.Value.{Value, Fixnum, Boolean, Empty, Unspecified, State}
use Rattle.meaning.specs.Value as src
use Rattle.meaning.specs.Primitives.{act}
use Rattle.meaning.specs.Primitives as prim
use Rattle.c_tree.specs.Operations.{primitive_op}
use Rattle.c_tree.specs.declared.tree.CVar.{CVar}
use Rattle.c_meaning.specs.Word.{Word, Unspec}
use Rattle.c_meaning.specs.Word as word
use Rattle.c_meaning.specs.State.{Cell, AWord, ANumber, Frame, State as CState}
use Rattle.c_meaning.specs.State as c
use Rattle.c_meaning.specs.Operations.{ACell, operate, truth_number}
use Rattle.c_meaning.specs.Operations as op
use Rattle.c_meaning.specs.Execution.{arguments}
use Rattle.plan_rules.specs.declared.rep.Rep.TheVariants.{Obj, Long, Bool as Truth_rep}
use Rattle.plan_rules.specs.Representation.{rep_of, local}
use Rattle.plan_rules.specs.Translation.{Name}
use Rattle.simulation.proofs.Frames.{names}
use Rattle.simulation.proofs.Worlds.{World, WordOf, ObjCell, LongCell, grows_same, frozen_same, kinds_same, hide, Same}
use Rattle.simulation.proofs.Ends.{Answers, Answered}
use Rattle.simulation.proofs.Fits.{AllArgs, no_arguments, argument}

-- the number, or an error of the primitive where it is no fixnum
in_range_at : (p : Builtin) (b : Bool) (world : World) (n : ℤ) (s : State) (t : CState) → Same world s t
    → Answered world s Long (if b then src.Gives (Fixnum n) s else src.Raises (number_of Range) (name_of p) s) (if b then c.Has (ANumber n) t else c.Stops (number_of Range) (name_of p) t)
in_range_at p true world n s t same = record { later = world; cell = ANumber n; t = t; is = refl; here = record { n = n; value = refl; is = refl }; grows = grows_same world; frozen = frozen_same (hide world) s; same = same }
in_range_at p false world n s t same = record { later = world; t = t; is = refl; same = same }

truth_answers : (world : World) (b : Bool) (s : State) (t : CState) → Same world s t → Answers world s Truth_rep (Boolean b) s (c.Has (ANumber (truth_number b)) t)
truth_answers world b s t same = record { later = world; cell = ANumber (truth_number b); t = t; is = refl; here = record { b = b; value = refl; is = refl }; grows = grows_same world; frozen = frozen_same (hide world) s; same = same }

add_at : (world : World) (v u : Value) (a b : Cell) (s : State) (t : CState) → LongCell v a → LongCell u b → Same world s t → Answered world s Long (prim.add (v ∷ u ∷ []) s) (operate (primitive_op Add) (ACell a ∷ ACell b ∷ []) t)
add_at world v u a b s t l r same = rw (l.value, r.value, l.is, r.is) (in_range_at Add (is_fixnum (l.n +ℤ r.n)) world (l.n +ℤ r.n) s t same)

less_at : (world : World) (v u : Value) (a b : Cell) (s : State) (t : CState) → LongCell v a → LongCell u b → Same world s t → Answered world s Truth_rep (prim.less (v ∷ u ∷ []) s) (operate (primitive_op Less) (ACell a ∷ ACell b ∷ []) t)
less_at world v u a b s t l r same = rw (l.value, r.value, l.is, r.is) (truth_answers world (int_lt l.n r.n) s t same)

printed_alike : (world : World) (v : Value) (w : Word) → WordOf world v w → prim.printed v ≡ word.printed w
printed_alike world (Fixnum n) w h = sym (ap word.printed h)
printed_alike world (Boolean true) w h = sym (ap word.printed h)
printed_alike world (Boolean false) w h = sym (ap word.printed h)
printed_alike world Empty w h = sym (ap word.printed h)
printed_alike world Unspecified w h = sym (ap word.printed h)

-- nothing changes but the output, by the same text
prints : (world : World) (a b : List ℕ) (s : State) (t : CState) → a ≡ b → Same world s t → Answers world s Obj Unspecified (prim.print a s) (c.Has (AWord Unspec) (op.print b t))
prints world a b s t e same =
    record {
      later = world;
      cell = AWord Unspec;
      t = op.print b t;
      is = refl;
      here = record { w = Unspec; is = refl; means = refl };
      grows = grows_same world;
      frozen = record { turns = omega arith; away = λ k e. refl; kinds = kinds_same s.store };
      same = record { output = ap (λ x. x ++ a) same.output ∙ ap (λ x. t.output ++ x) e; input = same.input; turns = same.turns; size = same.size; one_place = same.one_place; blocks = same.blocks; globals = same.globals };
    }

display_at : (world : World) (v : Value) (a : Cell) (s : State) (t : CState) → ObjCell world v a → Same world s t → Answered world s Obj (prim.display (v ∷ []) s) (operate (primitive_op Display) (ACell a ∷ []) t)
display_at world v a s t l same = rw l.is (prints world (prim.printed v) (word.printed l.w) s t (printed_alike world v l.w l.means) same)

pub acts_alike : (q : Builtin) (vars : List CVar) (world : World) (vs : List Value) (xs : List Name) (f : Frame) (s : State) (t : CState) → AllArgs vars world f (params_of q) vs xs → Same world s t → Answered world s (rep_of (result_of q)) (act q vs s) (operate (primitive_op q) (arguments (names vars) f (map local xs)) t)
acts_alike Add vars world _ _ f s t (argument l lf (argument r rf no_arguments)) same = add_at world _ _ _ _ s t l r same
acts_alike Less vars world _ _ f s t (argument l lf (argument r rf no_arguments)) same = less_at world _ _ _ _ s t l r same
acts_alike Display vars world _ _ f s t (argument l lf no_arguments) same = display_at world _ _ s t l same
acts_alike Newline vars world _ _ f s t no_arguments same = prints world (10 ∷ []) (10 ∷ []) s t refl same

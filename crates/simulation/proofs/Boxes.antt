-- A value that comes as a number, as the word that its box is.
use Rattle.std.proofs.Common.{◌≡◌, [], ◌∷◌, Bool, true, false, refl, sym, ap, ◌∙◌, subst}
use Rattle.meaning.specs.Value.{Value}
use Rattle.c_tree.specs.declared.op.Op.{Op}
use Rattle.c_tree.specs.declared.op.Op.TheVariants.{BoxLong, BoxBool}
use Rattle.c_meaning.specs.Word.{Word, Fixnum}
use Rattle.c_meaning.specs.State.{Cell, AWord, State as CState, Has}
use Rattle.c_meaning.specs.Operations.{ACell, operate, is_set, truth_word, truth_number}
use Rattle.simulation.proofs.Worlds.{World, WordOf, LongCell, TruthCell}

pub record Boxes (o : Op) (world : World) (v : Value) (cell : Cell) (t : CState) : Type 0 where
  pub w : Word
  pub is : operate o (ACell cell ∷ []) t ≡ Has (AWord w) t
  pub means : WordOf world v w

pub long_boxes : (world : World) (v : Value) (cell : Cell) (t : CState) → LongCell v cell → Boxes BoxLong world v cell t
long_boxes world v cell t h =
    record { w = Fixnum h.n; is = ap (λ k. operate BoxLong (ACell k ∷ []) t) h.is; means = subst (λ u. WordOf world u (Fixnum h.n)) (sym h.value) refl }

is_set_so : (b : Bool) → is_set (truth_number b) ≡ b
is_set_so true = refl
is_set_so false = refl

pub truth_boxes : (world : World) (v : Value) (cell : Cell) (t : CState) → TruthCell v cell → Boxes BoxBool world v cell t
truth_boxes world v cell t h =
    record {
      w = truth_word h.b;
      is = ap (λ k. operate BoxBool (ACell k ∷ []) t) h.is ∙ ap (λ b. Has (AWord (truth_word b)) t) (is_set_so h.b);
      means = subst (λ u. WordOf world u (truth_word h.b)) (sym h.value) refl;
    }

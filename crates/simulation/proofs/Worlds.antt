-- What a state of the source and a state of the C text have in common.
use Rattle.std.proofs.Common.{◌≡◌, ℕ, zero, suc, ◌≤◌, List, [], ◌∷◌, length, Bool, Option, Some, None, refl, sym, ap, ◌∙◌, subst, arith}
use Rattle.std.specs.Prelude.{slice_get, map, ℤ}
use Rattle.meaning.specs.Value.{Value, Fixnum, Boolean, Empty, Unspecified, Object, Closure, State}
use Rattle.c_meaning.specs.Word.{Word, Nil, Unspec}
use Rattle.c_meaning.specs.Word as word
use Rattle.c_meaning.specs.State.{Cell, AWord, ANumber, Block, State as CState}
use Rattle.c_meaning.specs.Operations.{truth_word, truth_number}
use Rattle.plan_rules.specs.declared.rep.Rep.{Rep}
use Rattle.plan_rules.specs.declared.rep.Rep.TheVariants.{Obj, Long, Bool as Truth_rep}

-- where an object of the store is: in a block, in a local of this call, or in none that it sees
pub data Role : Type 0 where
  AtBlock : ℕ → Role
  Mine : Role
  Away : Role

-- a role for each place of the store. It only grows
abbrev pub World : Type 0
World = List Role

-- Values ------------------------------------------------------------------------------------

abbrev pub WordOf : World → Value → Word → Type 0
WordOf world (Fixnum n) w = w ≡ word.Fixnum n
WordOf world (Boolean b) w = w ≡ truth_word b
WordOf world Empty w = w ≡ Nil
WordOf world Unspecified w = w ≡ Unspec

pub record ObjCell (world : World) (v : Value) (c : Cell) : Type 0 where
  pub w : Word
  pub is : c ≡ AWord w
  pub means : WordOf world v w

pub record LongCell (v : Value) (c : Cell) : Type 0 where
  pub n : ℤ
  pub value : v ≡ Fixnum n
  pub is : c ≡ ANumber n

pub record TruthCell (v : Value) (c : Cell) : Type 0 where
  pub b : Bool
  pub value : v ≡ Boolean b
  pub is : c ≡ ANumber (truth_number b)

abbrev pub IsRep : World → Rep → Value → Cell → Type 0
IsRep world Obj v c = ObjCell world v c
IsRep world Long v c = LongCell v c
IsRep world Truth_rep v c = TruthCell v c

pub rep_moves : (world : World) (r : Rep) (v : Value) (a b : Cell) → b ≡ a → IsRep world r v a → IsRep world r v b
rep_moves world r v a b e h = subst (λ c. IsRep world r v c) (sym e) h

-- values as words, in cells
pub data Words (world : World) : List Value → List Cell → Type 0 where
  no_words : Words world [] []
  a_word : {v : Value} {c : Cell} {vs : List Value} {cs : List Cell} → ObjCell world v c → Words world vs cs → Words world (v ∷ vs) (c ∷ cs)

-- Worlds ------------------------------------------------------------------------------------

pub record Grows (world later : World) : Type 0 where
  pub by : (k : ℕ) (r : Role) → slice_get world k ≡ Some r → slice_get later k ≡ Some r

pub grows_same : (world : World) → Grows world world
grows_same world = record { by = λ k r e. e }

pub grows_on : {a b c : World} → Grows a b → Grows b c → Grows a c
grows_on g h = record { by = λ k r e. h.by k r (g.by k r e) }

pub word_grows : (v : Value) (w : Word) (world later : World) → Grows world later → WordOf world v w → WordOf later v w
word_grows (Fixnum n) w world later g h = h
word_grows (Boolean b) w world later g h = h
word_grows Empty w world later g h = h
word_grows Unspecified w world later g h = h

pub rep_grows : (r : Rep) (v : Value) (c : Cell) (world later : World) → Grows world later → IsRep world r v c → IsRep later r v c
rep_grows Obj v c world later g h = record { w = h.w; is = h.is; means = word_grows v h.w world later g h.means }
rep_grows Long v c world later g h = h
rep_grows Truth_rep v c world later g h = h

-- a callee sees no box of its caller
abbrev pub hidden : Role → Role
hidden (AtBlock j) = AtBlock j
hidden Mine = Away
hidden Away = Away

abbrev pub hide : World → World
hide world = map hidden world

hide_away : (world : World) (k : ℕ) → slice_get world k ≡ Some Away → slice_get (hide world) k ≡ Some Away
hide_away [] k e = absurd (cc)
hide_away (r ∷ rs) zero e = let same : r ≡ Away = cc in ap (λ x. Some (hidden x)) same
hide_away (r ∷ rs) (suc k) e = hide_away rs k e

-- States ------------------------------------------------------------------------------------

-- what an object can become
abbrev pub Follows : Object → Option Object → Type 0
Follows (Closure m f) later = later ≡ Some (Closure m f)

abbrev pub Kinds : List Object → List Object → Type 0
Kinds store later = (k : ℕ) (o : Object) → slice_get store k ≡ Some o → Follows o (slice_get later k)

follows_same : (o : Object) → Follows o (Some o)
follows_same (Closure m f) = refl

follows_on : (o : Object) (a b : Option Object) → Follows o a → ((o1 : Object) → a ≡ Some o1 → Follows o1 b) → Follows o b
follows_on (Closure m f) a b h go = go (Closure m f) h

pub kinds_same : (store : List Object) → Kinds store store
kinds_same store k o e = subst (λ q. Follows o q) (sym e) (follows_same o)

-- what this call doesn't see stays, each object keeps its kind, and turns never rise
pub record Frozen (world : World) (s later : State) : Type 0 where
  pub turns : later.turns ≤ s.turns
  pub away : (k : ℕ) → slice_get world k ≡ Some Away → slice_get later.store k ≡ slice_get s.store k
  pub kinds : Kinds s.store later.store

pub frozen_same : (world : World) (s : State) → Frozen world s s
frozen_same world s = record { turns = omega arith; away = λ k e. refl; kinds = kinds_same s.store }

pub frozen_on : {world later : World} {s s1 s2 : State} → Grows world later → Frozen world s s1 → Frozen later s1 s2 → Frozen world s s2
frozen_on {s = s} {s1 = s1} {s2 = s2} g a b =
    record { turns = omega (arith, a.turns, b.turns); away = λ k e. b.away k (g.by k Away e) ∙ a.away k e; kinds = λ k o e. follows_on o (slice_get s1.store k) (slice_get s2.store k) (a.kinds k o e) (λ o1 e1. b.kinds k o1 e1) }

pub frozen_hidden : (world : World) (s later : State) → Frozen (hide world) s later → Frozen world s later
frozen_hidden world s later h = record { turns = h.turns; away = λ k e. h.away k (hide_away world k e); kinds = h.kinds }

-- an object and its block. A procedure object of a function that is only called has none
abbrev pub Alike : World → Object → Block → Type 0
Alike world (Closure m f) block = ⊥

pub record Mapped (world : World) (store : List Object) (heap : List Block) (k j : ℕ) : Type 0 where
  pub object : Object
  pub block : Block
  pub stored : slice_get store k ≡ Some object
  pub at : slice_get heap j ≡ Some block
  pub alike : Alike world object block

-- a variable that isn't set yet has any word
abbrev pub GlobalOf : World → Option Value → Word → Type 0
GlobalOf world (Some v) w = WordOf world v w
GlobalOf world None w = Unit {0}

pub data Globals (world : World) : List (Option Value) → List Word → Type 0 where
  no_globals : Globals world [] []
  global : {v : Option Value} {w : Word} {vs : List (Option Value)} {ws : List Word} → GlobalOf world v w → Globals world vs ws → Globals world (v ∷ vs) (w ∷ ws)

pub record Same (world : World) (s : State) (t : CState) : Type 0 where
  pub output : s.output ≡ t.output
  pub input : s.input ≡ t.input
  pub turns : s.turns ≡ t.turns
  pub size : length world ≡ length s.store
  pub one_place : (k i j : ℕ) → slice_get world k ≡ Some (AtBlock j) → slice_get world i ≡ Some (AtBlock j) → k ≡ i
  pub blocks : (k j : ℕ) → slice_get world k ≡ Some (AtBlock j) → Mapped world s.store t.heap k j
  pub globals : Globals world s.globals t.globals

-- The world of a call: what the callee sees of its caller's, and the caller's after it.
use Rattle.std.proofs.Common.{◌≡◌, ℕ, zero, suc, List, [], ◌∷◌, length, Option, Some, None, refl, ap, ◌∙◌}
use Rattle.std.specs.Prelude.{slice_get}
use Rattle.meaning.specs.Value.{Value, Fixnum, Boolean, Empty, Unspecified, Object, Closure, State}
use Rattle.c_meaning.specs.Word.{Word}
use Rattle.c_meaning.specs.State.{Cell, Block, State as CState}
use Rattle.simulation.proofs.Worlds.{Role, AtBlock, Mine, Away, World, WordOf, ObjCell, Words, no_words, a_word, Grows, grows_same, hidden, hide, Alike, GlobalOf, Globals, no_globals, global, Same}

-- the roles of the caller's world, and then of what the callee made
abbrev pub restore : World → World → World
restore [] later = hide later
restore (r ∷ world) [] = r ∷ world
restore (r ∷ world) (q ∷ later) = r ∷ restore world later

tails : (r q : Role) (world later : World) → Grows (r ∷ world) (q ∷ later) → Grows world later
tails r q world later g = record { by = λ k x e. g.by (suc k) x e }

grow_both : (r : Role) (world later : World) → Grows world later → Grows (r ∷ world) (r ∷ later)
grow_both r world later g = record { by = λ k x e. go k x e }
  where
    go : (k : ℕ) (x : Role) → slice_get (r ∷ world) k ≡ Some x → slice_get (r ∷ later) k ≡ Some x
    go zero x e = e
    go (suc k) x e = g.by k x e

pub restore_grows : (world later : World) → Grows world (restore world later)
restore_grows [] later = record { by = λ k r e. absurd (cc) }
restore_grows (r ∷ world) [] = grows_same (r ∷ world)
restore_grows (r ∷ world) (q ∷ later) = grow_both r world (restore world later) (restore_grows world later)

-- Blocks ------------------------------------------------------------------------------------

-- the blocks of one world are those of another
abbrev pub Blocks : World → World → Type 0
Blocks world later = (k j : ℕ) → slice_get world k ≡ Some (AtBlock j) → slice_get later k ≡ Some (AtBlock j)

hide_block : (world : World) → Blocks world (hide world)
hide_block [] k j e = absurd (cc)
hide_block (r ∷ world) zero j e = let same : r ≡ AtBlock j = cc in ap (λ x. Some (hidden x)) same
hide_block (r ∷ world) (suc k) j e = hide_block world k j e

hidden_block : (r : Role) (j : ℕ) → hidden r ≡ AtBlock j → r ≡ AtBlock j
hidden_block (AtBlock i) j e = e
hidden_block Mine j e = absurd (cc)
hidden_block Away j e = absurd (cc)

block_hidden : (world : World) → Blocks (hide world) world
block_hidden [] k j e = absurd (cc)
block_hidden (r ∷ world) zero j e = let same : hidden r ≡ AtBlock j = cc in ap (λ x. Some x) (hidden_block r j same)
block_hidden (r ∷ world) (suc k) j e = block_hidden world k j e

pub restore_block : (world later : World) → Grows (hide world) later → Blocks later (restore world later)
restore_block [] later g k j e = hide_block later k j e
restore_block (r ∷ world) [] g k j e = absurd (cc)
restore_block (r ∷ world) (q ∷ later) g zero j e =
    let here : Some q ≡ Some (hidden r) = g.by 0 (hidden r) refl in
    let same : hidden r ≡ AtBlock j = cc in ap (λ x. Some x) (hidden_block r j same)
restore_block (r ∷ world) (q ∷ later) g (suc k) j e = restore_block world later (tails (hidden r) q (hide world) later g) k j e

block_restored : (world later : World) → Grows (hide world) later → Blocks (restore world later) later
block_restored [] later g k j e = block_hidden later k j e
block_restored (r ∷ world) [] g k j e = g.by k (AtBlock j) (hide_block (r ∷ world) k j e)
block_restored (r ∷ world) (q ∷ later) g zero j e = g.by zero (AtBlock j) (hide_block (r ∷ world) zero j e)
block_restored (r ∷ world) (q ∷ later) g (suc k) j e = block_restored world later (tails (hidden r) q (hide world) later g) k j e

hide_length : (world : World) → length (hide world) ≡ length world
hide_length [] = refl
hide_length (r ∷ world) = ap suc (hide_length world)

restore_length : (world later : World) → Grows (hide world) later → length (restore world later) ≡ length later
restore_length [] later g = hide_length later
restore_length (r ∷ world) [] g = let bad : None ≡ Some (hidden r) = g.by 0 (hidden r) refl in absurd (cc)
restore_length (r ∷ world) (q ∷ later) g = ap suc (restore_length world later (tails (hidden r) q (hide world) later g))

-- Values and states -------------------------------------------------------------------------

pub word_blocks : (v : Value) (w : Word) (world later : World) → Blocks world later → WordOf world v w → WordOf later v w
word_blocks (Fixnum n) w world later b h = h
word_blocks (Boolean x) w world later b h = h
word_blocks Empty w world later b h = h
word_blocks Unspecified w world later b h = h

pub cell_blocks : (v : Value) (c : Cell) (world later : World) → Blocks world later → ObjCell world v c → ObjCell later v c
cell_blocks v c world later b h = record { w = h.w; is = h.is; means = word_blocks v h.w world later b h.means }

pub words_hidden : (world : World) {vs : List Value} {cs : List Cell} → Words world vs cs → Words (hide world) vs cs
words_hidden world no_words = no_words
words_hidden world (a_word here others) = a_word (cell_blocks _ _ world (hide world) (hide_block world) here) (words_hidden world others)

global_blocks : (v : Option Value) (w : Word) (world later : World) → Blocks world later → GlobalOf world v w → GlobalOf later v w
global_blocks None w world later b h = h
global_blocks (Some v) w world later b h = word_blocks v w world later b h

globals_stay : (world later : World) {vs : List (Option Value)} {ws : List Word} → Blocks world later → Globals world vs ws → Globals later vs ws
globals_stay world later b no_globals = no_globals
globals_stay world later b (global here others) = global (global_blocks _ _ world later b here) (globals_stay world later b others)

alike_blocks : (o : Object) (block : Block) (world later : World) → Blocks world later → Alike world o block → Alike later o block
alike_blocks (Closure m f) block world later b h = absurd h

pub same_blocks : (world later : World) (s : State) (t : CState) → Blocks world later → Blocks later world → length later ≡ length world → Same world s t → Same later s t
same_blocks world later s t b back e h =
    record {
      output = h.output;
      input = h.input;
      turns = h.turns;
      size = e ∙ h.size;
      one_place = λ k i j x y. h.one_place k i j (back k j x) (back i j y);
      blocks = λ k j x. let at = h.blocks k j (back k j x) in record { object = at.object; block = at.block; stored = at.stored; at = at.at; alike = alike_blocks at.object at.block world later b at.alike };
      globals = globals_stay world later b h.globals;
    }

pub same_hidden : (world : World) (s : State) (t : CState) → Same world s t → Same (hide world) s t
same_hidden world s t h = same_blocks world (hide world) s t (hide_block world) (block_hidden world) (hide_length world) h

pub same_restored : (world later : World) (s : State) (t : CState) → Grows (hide world) later → Same later s t → Same (restore world later) s t
same_restored world later s t g h = same_blocks later (restore world later) s t (restore_block world later g) (block_restored world later g) (restore_length world later g) h

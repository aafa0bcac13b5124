-- The code that pieces are those of, by one walk from the last piece to the first.
use Rattle.std.specs.Prelude.{ℕ, List, [], ◌∷◌, Option, Some, None}
use Rattle.c_tree.specs.declared.tree.CExpr.{CExpr}
use Rattle.c_tree.specs.declared.pieces.Piece.{Piece}
use Rattle.c_tree.specs.declared.pieces.Piece.TheVariants as piece
use Rattle.c_tree.specs.Code.{Code, done, assign, call, return, test, loop, ended, goto, catch, protect}

-- a block that is whole, while the one before it is walked over
pub data Whole : Type 0 where
  -- behind the end of a block
  follows : Code → Whole
  -- behind `else`
  other : Code → Whole
  -- behind the end of a block with a label
  labelled : List ℕ → Code → Whole
  -- the second block of a `BGL_PROTECT`
  cleanup : Code → Whole

-- what the pieces so far are: the code to the end of its block, and the blocks behind it, innermost first
pub record Walk : Type 0 where
  pub code : Code
  pub behind : List Whole

abbrev pub walk : Code → List Whole → Walk
walk code behind = record { code = code; behind = behind }

abbrev pub test_of : CExpr → Code → List Whole → Option Walk
test_of e a (other b ∷ follows rest ∷ behind) = Some (walk (test e a b rest) behind)
test_of e a _ = None

abbrev pub loop_of : List ℕ → Code → List Whole → Option Walk
loop_of l body (follows rest ∷ behind) = Some (walk (loop l body rest) behind)
loop_of l body _ = None

abbrev pub ended_of : Code → List Whole → Option Walk
ended_of body (labelled l rest ∷ behind) = Some (walk (ended body l rest) behind)
ended_of body _ = None

abbrev pub catch_of : List ℕ → List ℕ → Code → List Whole → Option Walk
catch_of k r body (follows rest ∷ behind) = Some (walk (catch k r body rest) behind)
catch_of k r body _ = None

abbrev pub protect_of : Code → List Whole → Option Walk
protect_of a (cleanup b ∷ follows rest ∷ behind) = Some (walk (protect a b rest) behind)
protect_of a _ = None

abbrev pub before : Piece → Code → List Whole → Option Walk
before (piece.Assign x e) code behind = Some (walk (assign x e code) behind)
before (piece.Call c) code behind = Some (walk (call c code) behind)
before (piece.Return e) code behind = Some (walk (return e code) behind)
before (piece.Goto l) code behind = Some (walk (goto l code) behind)
before (piece.If e) code behind = test_of e code behind
before piece.Else code behind = Some (walk done (other code ∷ behind))
before (piece.Loop l) code behind = loop_of l code behind
before piece.Begin code behind = ended_of code behind
before (piece.Ended l) code behind = Some (walk done (labelled l code ∷ behind))
before (piece.Catch k r) code behind = catch_of k r code behind
before piece.Protect code behind = protect_of code behind
before piece.Cleanup code behind = Some (walk done (cleanup code ∷ behind))
before piece.End code behind = Some (walk done (follows code ∷ behind))

abbrev pub before_walk : Piece → Option Walk → Option Walk
before_walk p None = None
before_walk p (Some w) = before p w.code w.behind

abbrev pub walked : List Piece → Option Walk
walked [] = Some (walk done [])
walked (p ∷ ps) = before_walk p (walked ps)

abbrev pub alone : Code → List Whole → Option Code
alone code [] = Some code
alone code (b ∷ bs) = None

abbrev pub whole_code : Option Walk → Option Code
whole_code None = None
whole_code (Some w) = alone w.code w.behind

-- none where the pieces are those of no code
unfoldable pub code_in : List Piece → Option Code
code_in ps = whole_code (walked ps)

-- Tests and coercions of arguments, left to right.
use Rattle.std.proofs.Common.{◌≡◌, suc, List, [], ◌∷◌, length, true, false, refl, sym, ap, ◌∙◌, subst, inl, inr, eq-eqb}
use Rattle.std.specs.Prelude.{nat_eq, if◌then◌else◌}
use Rattle.prim_table.specs.Errors.{number_of}
use Rattle.prim_table.specs.declared.errors.ErrCode.TheVariants.{WrongType}
use Rattle.built_table.specs.declared.primitives.Ty.{Ty}
use Rattle.built_table.specs.declared.primitives.Ty.TheVariants as ty
use Rattle.built_table.specs.Table.{type_name}
use Rattle.meaning.specs.Value.{Value, Fixnum, Boolean, Empty, Unspecified, State, Outcome}
use Rattle.meaning.specs.Value as src
use Rattle.meaning.specs.Primitives.{fits, tested}
use Rattle.c_tree.specs.declared.op.Op.{Op}
use Rattle.c_tree.specs.declared.op.Op.TheVariants.{BoxLong, BoxBool, UnboxLong}
use Rattle.c_tree.specs.declared.tree.CVar.{CVar}
use Rattle.c_tree.specs.Code.{Code, Fun}
use Rattle.c_meaning.specs.Word.{Word, True, False, Nil, Unspec}
use Rattle.c_meaning.specs.Word as word
use Rattle.c_meaning.specs.State.{Cell, AWord, ANumber, Frame, State as CState, put, with}
use Rattle.c_meaning.specs.State as c
use Rattle.c_meaning.specs.Operations.{ACell, operate}
use Rattle.c_meaning.specs.Execution.{Lower, position_of, exec}
use Rattle.plan_rules.specs.declared.rep.Rep.{Rep}
use Rattle.plan_rules.specs.declared.rep.Rep.TheVariants.{Obj, Long, Bool as Truth_rep}
use Rattle.plan_rules.specs.Representation.{rep_of, c_type_of, step}
use Rattle.plan_rules.specs.Translation.{Name, Fits, Made, Refused, AllFit}
use Rattle.simulation.proofs.Frames.{names, Kept, kept_same, kept_on, kept_put, put_here, Writable, Within, nothing, also, within_more}
use Rattle.simulation.proofs.Worlds.{World, WordOf, IsRep, rep_moves, rep_grows, Grows, grows_same}
use Rattle.simulation.proofs.Boxes.{Boxes, long_boxes, truth_boxes}

-- values in locals
pub data AllRep (vars : List CVar) (world : World) (f : Frame) : List Rep → List Value → List Name → Type 0 where
  no_values : AllRep vars world f [] [] []
  value : {r : Rep} {v : Value} {x : Name} {rs : List Rep} {vs : List Value} {xs : List Name} → IsRep world r v (f (position_of x (names vars))) → AllRep vars world f rs vs xs → AllRep vars world f (r ∷ rs) (v ∷ vs) (x ∷ xs)

-- values of types in locals
pub data AllArgs (vars : List CVar) (world : World) (f : Frame) : List Ty → List Value → List Name → Type 0 where
  no_arguments : AllArgs vars world f [] [] []
  argument : {t : Ty} {v : Value} {x : Name} {ts : List Ty} {vs : List Value} {xs : List Name} → IsRep world (rep_of t) v (f (position_of x (names vars))) → fits t v ≡ true → AllArgs vars world f ts vs xs → AllArgs vars world f (t ∷ ts) (v ∷ vs) (x ∷ xs)

pub all_kept : (vars : List CVar) (world later : World) (live : List Name) (f g : Frame) → Grows world later → Kept vars live f g → {rs : List Rep} {vs : List Value} {xs : List Name} → Within live xs → AllRep vars world f rs vs xs → AllRep vars later g rs vs xs
all_kept vars world later live f g grows kept nothing no_values = no_values
all_kept vars world later live f g grows kept (also i w) (value {r = r} {v = v} {x = x} here all) =
    value (rep_moves later r v (f (position_of x (names vars))) (g (position_of x (names vars))) (kept.by x i) (rep_grows r v (f (position_of x (names vars))) world later grows here)) (all_kept vars world later live f g grows kept w all)

module _ (vars : List CVar) (p : List Fun) (lower : Lower) (world : World) (t : CState) (s : State) where
  abbrev runs : Code → Frame → c.Flow
  runs code f = exec p lower (names vars) code f t

  -- one value is of its type and stands in a local, or the error of a wrong type is raised
  data OneDone (live : List Name) (f : Frame) (type : Ty) (v : Value) (code : Code) (made : Name) (rest : Code) : Type 0 where
    fine : (g : Frame) → fits type v ≡ true → runs code f ≡ runs rest g → Kept vars live f g → IsRep world (rep_of type) v (g (position_of made (names vars))) → OneDone live f type v code made rest
    refused : fits type v ≡ false → runs code f ≡ c.Raises (number_of WrongType) (type_name type) t → OneDone live f type v code made rest

  as_it_is : (live : List Name) (f : Frame) (type : Ty) (v : Value) (code : Code) (temporary made : Name) (rest : Code) → code ≡ rest → made ≡ temporary → fits type v ≡ true → IsRep world (rep_of type) v (f (position_of temporary (names vars))) → OneDone live f type v code made rest
  as_it_is live f type v code temporary made rest is e ok here =
      fine f ok (ap (λ x. runs x f) is) (kept_same vars live f) (subst (λ x. IsRep world (rep_of type) v (f (position_of x (names vars)))) (sym e) here)

  -- an operation on the temporary makes a new local
  made_so : (o : Op) (live : List Name) (f : Frame) (type : Ty) (v : Value) (code : Code) (temporary made : Name) (rest : Code) (cell new : Cell) → Made vars o live temporary (c_type_of (rep_of type)) code made rest → fits type v ≡ true → f (position_of temporary (names vars)) ≡ cell → operate o (ACell cell ∷ []) t ≡ c.Has new t → IsRep world (rep_of type) v new → OneDone live f type v code made rest
  made_so o live f type v code temporary made rest cell new h ok is does here =
      let at = position_of made (names vars) in
      let writable : Writable vars live made = record { fresh = h.fresh; type = c_type_of (rep_of type); is_local = h.is_local } in
      fine (put at new f) ok
      (ap (λ x. runs x f) h.is ∙ ap (λ a. with a f (λ k s1. exec p lower (names vars) rest (put at k f) s1)) (ap (λ k. operate o (ACell k ∷ []) t) is ∙ does))
      (kept_put vars live made new f writable)
      (rep_moves world (rep_of type) v new (put at new f at) (put_here at new f) here)

  refused_so : (o : Op) (live : List Name) (f : Frame) (type : Ty) (v : Value) (code : Code) (temporary made : Name) (rest : Code) (cell : Cell) → Made vars o live temporary (c_type_of (rep_of type)) code made rest → fits type v ≡ false → f (position_of temporary (names vars)) ≡ cell → operate o (ACell cell ∷ []) t ≡ c.Stops (number_of WrongType) (type_name type) t → OneDone live f type v code made rest
  refused_so o live f type v code temporary made rest cell h bad is does =
      let at = position_of made (names vars) in
      refused bad (ap (λ x. runs x f) h.is ∙ ap (λ a. with a f (λ k s1. exec p lower (names vars) rest (put at k f) s1)) (ap (λ k. operate o (ACell k ∷ []) t) is ∙ does))

  unboxed : (live : List Name) (f : Frame) (v : Value) (code : Code) (temporary made : Name) (rest : Code) (w : Word) → Made vars UnboxLong live temporary (c_type_of Long) code made rest → f (position_of temporary (names vars)) ≡ AWord w → WordOf world v w → OneDone live f ty.Long v code made rest
  unboxed live f (Fixnum n) code temporary made rest w h is means =
      made_so UnboxLong live f ty.Long (Fixnum n) code temporary made rest (AWord (word.Fixnum n)) (ANumber n) h refl (is ∙ ap AWord means) refl (record { n = n; value = refl; is = refl })
  unboxed live f (Boolean true) code temporary made rest w h is means =
      refused_so UnboxLong live f ty.Long (Boolean true) code temporary made rest (AWord True) h refl (is ∙ ap AWord means) refl
  unboxed live f (Boolean false) code temporary made rest w h is means =
      refused_so UnboxLong live f ty.Long (Boolean false) code temporary made rest (AWord False) h refl (is ∙ ap AWord means) refl
  unboxed live f Empty code temporary made rest w h is means =
      refused_so UnboxLong live f ty.Long Empty code temporary made rest (AWord Nil) h refl (is ∙ ap AWord means) refl
  unboxed live f Unspecified code temporary made rest w h is means =
      refused_so UnboxLong live f ty.Long Unspecified code temporary made rest (AWord Unspec) h refl (is ∙ ap AWord means) refl

  boxed : (o : Op) (live : List Name) (f : Frame) (v : Value) (code : Code) (temporary made : Name) (rest : Code) → Made vars o live temporary (c_type_of Obj) code made rest → Boxes o world v (f (position_of temporary (names vars))) t → OneDone live f ty.Obj v code made rest
  boxed o live f v code temporary made rest h box =
      made_so o live f ty.Obj v code temporary made rest (f (position_of temporary (names vars))) (AWord box.w) h refl refl box.is (record { w = box.w; is = refl; means = box.means })

  -- no value of the representation is of the type
  never_fits : (live : List Name) (f : Frame) (type : Ty) (v : Value) (code : Code) (made : Name) (rest : Code) → Refused vars type live code made rest → fits type v ≡ false → OneDone live f type v code made rest
  never_fits live f type v code made rest h bad = refused bad (ap (λ x. runs x f) h.is)

  one_done : (type : Ty) (r : Rep) (live : List Name) (f : Frame) (v : Value) (temporary : Name) (code : Code) (made : Name) (rest : Code) → Fits vars type (step type r) live temporary code made rest → IsRep world r v (f (position_of temporary (names vars))) → OneDone live f type v code made rest
  one_done ty.Obj Obj live f v temporary code made rest h here = as_it_is live f ty.Obj v code temporary made rest h.0 h.1 refl here
  one_done ty.Obj Long live f v temporary code made rest h here =
      boxed BoxLong live f v code temporary made rest h (long_boxes world v (f (position_of temporary (names vars))) t here)
  one_done ty.Obj Truth_rep live f v temporary code made rest h here =
      boxed BoxBool live f v code temporary made rest h (truth_boxes world v (f (position_of temporary (names vars))) t here)
  one_done ty.Long Obj live f v temporary code made rest h here = unboxed live f v code temporary made rest here.w h here.is here.means
  one_done ty.Long Long live f v temporary code made rest h here = as_it_is live f ty.Long v code temporary made rest h.0 h.1 (ap (λ x. fits ty.Long x) here.value) here
  one_done ty.Long Truth_rep live f v temporary code made rest h here = never_fits live f ty.Long v code made rest h (ap (λ x. fits ty.Long x) here.value)
  one_done ty.Bool Obj live f v temporary code made rest h here = absurd h
  one_done ty.Bool Long live f v temporary code made rest h here = never_fits live f ty.Bool v code made rest h (ap (λ x. fits ty.Bool x) here.value)
  one_done ty.Bool Truth_rep live f v temporary code made rest h here = as_it_is live f ty.Bool v code temporary made rest h.0 h.1 (ap (λ x. fits ty.Bool x) here.value) here

  -- all of them
  pub data AllDone (live : List Name) (f : Frame) (ts : List Ty) (vs : List Value) (code : Code) (made : List Name) (rest : Code) : Type 0 where
    passed : (g : Frame) → ((next : Outcome Value) → tested ts vs s next ≡ next) → runs code f ≡ runs rest g → Kept vars live f g → AllArgs vars world g ts vs made → AllDone live f ts vs code made rest
    failed : (type : Ty) → ((next : Outcome Value) → tested ts vs s next ≡ src.Raises (number_of WrongType) (type_name type) s) → runs code f ≡ c.Raises (number_of WrongType) (type_name type) t → AllDone live f ts vs code made rest

  then_others : (live : List Name) (f g : Frame) (type : Ty) (v : Value) (ts : List Ty) (vs : List Value) (code middle rest : Code) (first : Name) (others : List Name) → fits type v ≡ true → runs code f ≡ runs middle g → Kept vars live f g → IsRep world (rep_of type) v (g (position_of first (names vars))) → AllDone (first ∷ live) g ts vs middle others rest → AllDone live f (type ∷ ts) (v ∷ vs) code (first ∷ others) rest
  then_others live f g type v ts vs code middle rest first others ok e kept here (passed h so e2 kept2 all) =
      let at = position_of first (names vars) in
      passed h (λ next. ap (λ b. if b then tested ts vs s next else src.Raises (number_of WrongType) (type_name type) s) ok ∙ so next) (e ∙ e2) (kept_on vars (λ x i. inr i) kept kept2) (argument (rep_moves world (rep_of type) v (g at) (h at) (kept2.by first (inl refl)) here) ok all)
  then_others live f g type v ts vs code middle rest first others ok e kept here (failed wrong so e2) =
      failed wrong (λ next. ap (λ b. if b then tested ts vs s next else src.Raises (number_of WrongType) (type_name type) s) ok ∙ so next) (e ∙ e2)

  one_others : (live : List Name) (f : Frame) (type : Ty) (v : Value) (ts : List Ty) (vs : List Value) (code middle rest : Code) (first : Name) (others : List Name) → OneDone live f type v code first middle → ((g : Frame) → Kept vars live f g → AllDone (first ∷ live) g ts vs middle others rest) → AllDone live f (type ∷ ts) (v ∷ vs) code (first ∷ others) rest
  one_others live f type v ts vs code middle rest first others (fine g ok e kept here) go = then_others live f g type v ts vs code middle rest first others ok e kept here (go g kept)
  one_others live f type v ts vs code middle rest first others (refused bad e) go =
      failed type (λ next. ap (λ b. if b then tested ts vs s next else src.Raises (number_of WrongType) (type_name type) s) bad) e

  pub all_done : (ts : List Ty) (hs : List Rep) (vs : List Value) (temporaries live : List Name) (code : Code) (made : List Name) (rest : Code) (f : Frame) → AllFit vars ts hs temporaries live code made rest → AllRep vars world f hs vs temporaries → Within live temporaries → AllDone live f ts vs code made rest
  all_done [] [] _ [] live code made rest f h no_values w =
      subst (λ x. AllDone live f [] [] code x rest) (sym h.1) (passed f (λ next. refl) (ap (λ x. runs x f) h.0) (kept_same vars live f) no_arguments)
  all_done (type ∷ ts) (r ∷ hs) _ (y ∷ ys) live code made rest f h (value {v = v} {vs = vs} here all) (also i w) =
      let one = one_done type r live f v y code h.first h.middle h.fits here in
      let go = λ (g : Frame) (kept : Kept vars live f g). all_done ts hs vs ys (h.first ∷ live) h.middle h.rest rest g h.all (all_kept vars world world live f g (grows_same world) kept w all) (within_more live (h.first ∷ live) (λ x j. inr j) w) in
      subst (λ x. AllDone live f (type ∷ ts) (v ∷ vs) code x rest) (sym h.are) (one_others live f type v ts vs code h.middle rest h.first h.rest one go)
  all_done [] (r ∷ hs) vs ys live code made rest f h all w = absurd h
  all_done (type ∷ ts) [] vs ys live code made rest f h all w = absurd h
  all_done [] [] vs (y ∷ ys) live code made rest f h all w = absurd h
  all_done (type ∷ ts) (r ∷ hs) vs [] live code made rest f h all w = absurd h

-- there are as many values as parameters
as_long : (vars : List CVar) (world : World) (g : Frame) (ts : List Ty) (hs : List Rep) (vs : List Value) (temporaries live : List Name) (code : Code) (made : List Name) (rest : Code) → AllFit vars ts hs temporaries live code made rest → AllRep vars world g hs vs temporaries → length vs ≡ length ts
as_long vars world g [] [] _ [] live code made rest h no_values = refl
as_long vars world g (type ∷ ts) (r ∷ hs) _ (y ∷ ys) live code made rest h (value {vs = vs} here all) = ap suc (as_long vars world g ts hs vs ys (h.first ∷ live) h.middle h.rest rest h.all all)
as_long vars world g [] (r ∷ hs) vs ys live code made rest h all = absurd h
as_long vars world g (type ∷ ts) [] vs ys live code made rest h all = absurd h
as_long vars world g [] [] vs (y ∷ ys) live code made rest h all = absurd h
as_long vars world g (type ∷ ts) (r ∷ hs) vs [] live code made rest h all = absurd h

pub as_many : (vars : List CVar) (world : World) (g : Frame) (ts : List Ty) (hs : List Rep) (vs : List Value) (temporaries live : List Name) (code : Code) (made : List Name) (rest : Code) → AllFit vars ts hs temporaries live code made rest → AllRep vars world g hs vs temporaries → nat_eq (length vs) (length ts) ≡ true
as_many vars world g ts hs vs temporaries live code made rest h all = eq-eqb (length vs) (length ts) (as_long vars world g ts hs vs temporaries live code made rest h all)

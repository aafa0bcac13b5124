-- The relation between a module and a unit. Which locals are temporaries, and their names, are free.
-- A node is related to the code and the code after it.
use Rattle.std.specs.Prelude.{◌≡◌, ◌⊎◌, ℕ, List, [], ◌∷◌, ◌++◌, map, replicate, pos, IsTrue, nat_eq, Bool, true, false, ◌&&◌, Option, Some, None, Contains}
use Rattle.scheme_data.specs.Names.{are_distinct}
use Rattle.built_table.specs.declared.primitives.Ty.{Ty}
use Rattle.built_table.specs.declared.primitives.Ty.TheVariants as ty
use Rattle.built_table.specs.Table.{params_of, result_of}
use Rattle.core_tree.specs.declared.tree.VarId.{VarId}
use Rattle.core_tree.specs.Tree.{Tree, Constant, Variable, If, Sequence, Call, Primitive, Trees, none, more, count, FunctionTree, ModuleTree, Callee, own_callee, used_callees, callee_of}
use Rattle.c_tree.specs.declared.op.Op.TheVariants.{BoxLong, BoxBool}
use Rattle.c_tree.specs.Operations.{primitive_op}
use Rattle.c_tree.specs.declared.tree.CTy.{CTy}
use Rattle.c_tree.specs.declared.tree.CTy.TheVariants as c_ty
use Rattle.c_tree.specs.declared.tree.CArg.{CArg}
use Rattle.c_tree.specs.declared.op.Op.{Op}
use Rattle.c_tree.specs.declared.tree.CAtom.TheVariants as atom
use Rattle.c_tree.specs.declared.tree.CCall.{CCall}
use Rattle.c_tree.specs.declared.tree.CExpr.{CExpr}
use Rattle.c_tree.specs.declared.tree.CExpr.TheVariants as expr
use Rattle.c_tree.specs.declared.tree.CVar.{CVar}
use Rattle.c_tree.specs.Code.{Code, done, assign, call, return, test, loop, Fun, Item, external, global, declared, defined}
use Rattle.c_tree.specs.Names.{function_name, maker_name, initializer_name}
use Rattle.c_tree.specs.Spelling.{NamedItems}
use Rattle.c_meaning.specs.Plain.{is_typed, variable_named, variables_of, defined_names, items_fit}
use Rattle.plan_rules.specs.declared.rep.Rep.{Rep}
use Rattle.plan_rules.specs.declared.rep.Rep.TheVariants.{Obj, Long, Bool as Truth_rep}
use Rattle.plan_rules.specs.Representation.{Slot, PlainAt, Scope, slot_of, rep_of, c_type_of, has_of, operation, raise_count, raise_type, call_of, local, constant_expr, condition, Step, Keep, Make, Refuse, Unbuilt, step}

abbrev pub Name : Type 0
Name = List ℕ

-- Locals ------------------------------------------------------------------------------------

abbrev pub In : Name → List Name → Type 0
In x [] = ⊥
In x (y ∷ ys) = (x ≡ y) ⊎ In x ys

-- a temporary is none of the names that are still needed
abbrev pub Fresh : Name → List Name → Type 0
Fresh x live = In x live → ⊥

-- Statements --------------------------------------------------------------------------------

-- where a value goes
pub data Target : Type 0 where
  into : Name → Target
  back : Target

abbrev pub deliver : Target → CExpr → Code → Code
deliver (into x) e rest = assign x e rest
deliver back e rest = return e rest

abbrev pub Statements : Type 1
Statements = Target → Code → Code → Type 0

-- The variables of the function in which the statements stand.
module _ (vars : List CVar) where
  -- a local of a C type
  abbrev pub IsLocal : Name → CTy → Type 0
  IsLocal y t = IsTrue (is_typed t (variable_named vars y))

  -- a value that comes as a number of a C type, and is wanted as a word
  pub record Boxed (o : Op) (t : CTy) (given : Statements) (live : List Name) (target : Target) (code rest : Code) : Type 0 where
    pub temporary : Name
    pub middle : Code
    pub fresh : Fresh temporary live
    pub is_local : IsLocal temporary t
    pub value : given (into temporary) code middle
    pub box : middle ≡ deliver target (expr.Call (operation o (local temporary ∷ []))) rest

  -- a value that comes in one representation, delivered in another
  abbrev pub Coerced : Rep → Rep → Statements → List Name → Target → Code → Code → Type 0
  Coerced Obj Obj given live target code rest = given target code rest
  Coerced Obj Long given live target code rest = ⊥
  Coerced Obj Truth_rep given live target code rest = ⊥
  Coerced Long Obj given live target code rest = Boxed BoxLong c_ty.Long given live target code rest
  Coerced Long Long given live target code rest = given target code rest
  Coerced Long Truth_rep given live target code rest = ⊥
  Coerced Truth_rep Obj given live target code rest = Boxed BoxBool c_ty.Int given live target code rest
  Coerced Truth_rep Long given live target code rest = ⊥
  Coerced Truth_rep Truth_rep given live target code rest = given target code rest

  -- one argument is made to fit: the name of its value, and what stays live
  pub record Made (o : Op) (live : List Name) (temporary : Name) (t : CTy) (code : Code) (made : Name) (rest : Code) : Type 0 where
    pub fresh : Fresh made live
    pub is_local : IsLocal made t
    pub is : code ≡ assign made (expr.Call (operation o (local temporary ∷ []))) rest

  -- one argument is of a wrong type, whatever its value is
  pub record Refused (t : Ty) (live : List Name) (code : Code) (made : Name) (rest : Code) : Type 0 where
    pub fresh : Fresh made live
    pub is_local : IsLocal made (c_type_of (rep_of t))
    pub is : code ≡ call (raise_type t) (assign made (expr.Atom (atom.Int (pos 0))) rest)

  abbrev pub Fits : Ty → Step → List Name → Name → Code → Name → Code → Type 0
  Fits t Keep live temporary code made rest = (code ≡ rest) × (made ≡ temporary)
  Fits t (Make o) live temporary code made rest = Made o live temporary (c_type_of (rep_of t)) code made rest
  Fits t Refuse live temporary code made rest = Refused t live code made rest
  Fits t Unbuilt live temporary code made rest = ⊥

  pub record FirstFits (one : Name → Code → Type 0) (others : Name → List Name → Code → Type 0) (made : List Name) : Type 0 where
    pub first : Name
    pub rest : List Name
    pub middle : Code
    pub are : made ≡ first ∷ rest
    pub fits : one first middle
    pub all : others first rest middle

  -- tests and coercions, left to right, of arguments that were evaluated to temporaries
  abbrev pub AllFit : List Ty → List Rep → List Name → List Name → Code → List Name → Code → Type 0
  AllFit [] [] [] live code made rest = (code ≡ rest) × (made ≡ [])
  AllFit (t ∷ ts) (h ∷ hs) (y ∷ ys) live code made rest =
      FirstFits (λ first middle. Fits t (step t h) live y code first middle) (λ first others middle. AllFit ts hs ys (first ∷ live) middle others rest) made
  AllFit _ _ _ live code made rest = ⊥

  -- the arguments to temporaries, their tests, and the operation
  pub record Applied (arguments : List Name → Code → Code → Type 0) (ts : List Ty) (hs : List Rep) (live : List Name) (finish : List CArg → Code) (code : Code) : Type 0 where
    pub temporaries : List Name
    pub made : List Name
    pub middle : Code
    pub last : Code
    pub values : arguments temporaries code middle
    pub fit : AllFit ts hs temporaries (temporaries ++ live) middle made last
    pub is : last ≡ finish (map local made)

  pub record Argument (value : Statements) (others : Name → List Name → Code → Type 0) (h : Rep) (live : List Name) (temporaries : List Name) (code : Code) : Type 0 where
    pub first : Name
    pub rest : List Name
    pub middle : Code
    pub are : temporaries ≡ first ∷ rest
    pub fresh : Fresh first live
    pub is_local : IsLocal first (c_type_of h)
    pub given : value (into first) code middle
    pub all : others first rest middle

  pub record Then (first : Code → Type 0) (others : Code → Type 0) : Type 0 where
    pub middle : Code
    pub one : first middle
    pub all : others middle

  -- the test to a temporary, and by it one of two blocks
  pub record Branches (has : Rep) (value : Statements) (live : List Name) (one other : Code → Type 0) (code rest : Code) : Type 0 where
    pub temporary : Name
    pub middle : Code
    pub first : Code
    pub second : Code
    pub fresh : Fresh temporary live
    pub is_local : IsLocal temporary (c_type_of has)
    pub given : value (into temporary) code middle
    pub is : middle ≡ test (condition has temporary) first second rest
    pub taken : one first
    pub else_taken : other second

  -- arguments whose number is wrong are evaluated, and then the error of their number is raised
  pub record Miscounted (arguments : List Name → Code → Code → Type 0) (want : ℕ) (code rest : Code) : Type 0 where
    pub temporaries : List Name
    pub middle : Code
    pub values : arguments temporaries code middle
    pub is : middle ≡ call (raise_count want) rest

-- How each argument's value comes.
abbrev pub haves : Scope → List Ty → Trees → List Rep
haves scope [] none = []
haves scope (t ∷ ts) (more n ns) = has_of scope n (rep_of t) ∷ haves scope ts ns
haves scope [] (more n ns) = []
haves scope (t ∷ ts) none = []

-- arguments of a function are words
abbrev pub objects : Trees → List Ty
objects none = []
objects (more n ns) = ty.Obj ∷ objects ns

abbrev pub is_counted : Callee → Trees → Bool
is_counted c ns = nat_eq (count ns) c.params

-- the name of its C function
abbrev pub c_name_of : Callee → Name
c_name_of c = function_name c.module_name c.name

-- The module, the variables in scope, and the locals of the function in which the statements stand.
module _ (m : ModuleTree) (scope : Scope) (vars : List CVar) where
  -- a variable's value goes to a target in its own representation
  abbrev pub TrVariable : Option Slot → Rep → Statements
  TrVariable None h target code rest = ⊥
  TrVariable (Some (PlainAt r y)) h target code rest = (h ≡ r) × (code ≡ deliver target (expr.Atom (atom.Name y)) rest)

  abbrev pub TrVariableUnused : Option Slot → Code → Code → Type 0
  TrVariableUnused None code rest = ⊥
  TrVariableUnused (Some slot) code rest = code ≡ rest

  -- a constant goes to a target in a representation that it may have
  abbrev pub TrConstant : Option CExpr → Statements
  TrConstant None target code rest = ⊥
  TrConstant (Some e) target code rest = code ≡ deliver target e rest

  -- a call of a function, where the number of arguments is right or not; `finish` does the call and what comes after
  abbrev pub TrCounted : Bool → Callee → (List Name → Code → Code → Type 0) → Trees → List Name → (CCall → Code) → Code → Code → Type 0
  TrCounted true c arguments ns live finish code rest = Applied vars arguments (objects ns) (haves scope (objects ns) ns) live (λ args. finish (call_of (c_name_of c) args)) code
  TrCounted false c arguments ns live finish code rest = Miscounted vars arguments c.params code rest

  abbrev pub TrCall : Option Callee → (List Name → Code → Code → Type 0) → Trees → List Name → (CCall → Code) → Code → Code → Type 0
  TrCall None arguments ns live finish code rest = ⊥
  TrCall (Some c) arguments ns live finish code rest = TrCounted (is_counted c ns) c arguments ns live finish code rest

  unfoldable mutual
    -- the node's value, in a representation, goes to a target
    pub Tr : Tree → Rep → List Name → Statements
    Tr (Constant c) h live target code rest = TrConstant (constant_expr c h) target code rest
    Tr (Variable x) h live target code rest = TrVariable (slot_of x scope) h target code rest
    Tr (If a b c) h live target code rest =
        (h ≡ Obj)
        × Branches vars (has_of scope a Truth_rep) (λ target code rest. Tr a (has_of scope a Truth_rep) live target code rest) live
        (λ code. Coerced vars (has_of scope b Obj) Obj (λ target code rest. Tr b (has_of scope b Obj) live target code rest) live target code done)
        (λ code. Coerced vars (has_of scope c Obj) Obj (λ target code rest. Tr c (has_of scope c Obj) live target code rest) live target code done) code rest
    Tr (Sequence ts) h live target code rest = TrLast ts h live target code rest
    Tr (Call g ns) h live target code rest =
        (h ≡ Obj)
        × TrCall (callee_of m g) (λ temporaries code middle. TrArguments (objects ns) ns live temporaries code middle) ns live (λ c. deliver target (expr.Call c) rest) code rest
    Tr (Primitive p ns) h live target code rest =
        (h ≡ rep_of (result_of p))
        × Applied vars (λ temporaries code middle. TrArguments (params_of p) ns live temporaries code middle) (params_of p) (haves scope (params_of p) ns) live (λ args. deliver target (expr.Call (operation (primitive_op p) args)) rest) code

    -- nobody takes the node's value
    pub TrUnused : Tree → List Name → Code → Code → Type 0
    TrUnused (Constant c) live code rest = code ≡ rest
    TrUnused (Variable x) live code rest = TrVariableUnused (slot_of x scope) code rest
    TrUnused (If a b c) live code rest =
        Branches vars (has_of scope a Truth_rep) (λ target code rest. Tr a (has_of scope a Truth_rep) live target code rest) live
        (λ code. TrUnused b live code done) (λ code. TrUnused c live code done) code rest
    TrUnused (Sequence ts) live code rest = TrAllUnused ts live code rest
    TrUnused (Call g ns) live code rest =
        TrCall (callee_of m g) (λ temporaries code middle. TrArguments (objects ns) ns live temporaries code middle) ns live (λ c. call c rest) code rest
    TrUnused (Primitive p ns) live code rest =
        Applied vars (λ temporaries code middle. TrArguments (params_of p) ns live temporaries code middle) (params_of p) (haves scope (params_of p) ns) live (λ args. call (operation (primitive_op p) args) rest) code

    pub TrAllUnused : Trees → List Name → Code → Code → Type 0
    TrAllUnused none live code rest = code ≡ rest
    TrAllUnused (more t ts) live code rest = Then vars (λ middle. TrUnused t live code middle) (λ middle. TrAllUnused ts live middle rest)

    -- parts in order, the last to the target
    pub TrLast : Trees → Rep → List Name → Statements
    TrLast none h live target code rest = ⊥
    TrLast (more t none) h live target code rest = Coerced vars (has_of scope t h) h (λ target code rest. Tr t (has_of scope t h) live target code rest) live target code rest
    TrLast (more t (more u us)) h live target code rest = Then vars (λ middle. TrUnused t live code middle) (λ middle. TrLast (more u us) h live target middle rest)

    -- the arguments, left to right, each to a temporary of its own
    pub TrArguments : List Ty → Trees → List Name → List Name → Code → Code → Type 0
    TrArguments [] none live temporaries code rest = (temporaries ≡ []) × (code ≡ rest)
    TrArguments (t ∷ ts) (more n ns) live temporaries code rest =
        Argument vars (λ target code rest. Tr n (has_of scope n (rep_of t)) live target code rest) (λ first others middle. TrArguments ts ns (first ∷ live) others middle rest) (has_of scope n (rep_of t)) live temporaries code
    TrArguments [] (more n ns) live temporaries code rest = ⊥
    TrArguments (t ∷ ts) none live temporaries code rest = ⊥

-- Functions ---------------------------------------------------------------------------------

-- each parameter is in the local of its place
abbrev pub scope_of : List VarId → List CVar → Scope
scope_of (x ∷ xs) (v ∷ vs) = (x, PlainAt Obj v.name) ∷ scope_of xs vs
scope_of _ _ = []

-- a function takes and gives words, and its statements are one loop around its body
pub record TrFunction (m : ModuleTree) (f : FunctionTree) (g : Fun) : Type 0 where
  pub name : g.name ≡ function_name m.name f.name
  pub result : g.result ≡ c_ty.Obj
  pub params : map (λ v. v.ty) g.params ≡ map (λ _. c_ty.Obj) f.params
  pub label : Name
  pub body : Code
  pub looped : g.code ≡ loop label body done
  pub translated : Tr m (scope_of f.params g.params) (variables_of g) (Sequence (more f.body none)) Obj (map (λ v. v.name) g.params) back body done

-- a function without parameters and locals that does nothing: it gives `BGL_UNSPEC`
pub record IsEmpty (name : Name) (g : Fun) : Type 0 where
  pub named : g.name ≡ name
  pub result : g.result ≡ c_ty.Obj
  pub params : g.params ≡ []
  pub locals : g.locals ≡ []
  pub code : g.code ≡ return (expr.Atom atom.Unspec) done

-- declarations alone
abbrev pub DefineNothing : List Item → Type 0
DefineNothing [] = Unit {0}
DefineNothing (external v ∷ is) = ⊥
DefineNothing (global v ∷ is) = ⊥
DefineNothing (declared t name params ∷ is) = DefineNothing is
DefineNothing (defined g ∷ is) = ⊥

-- a function without parameters whose statements are those of the expressions among the module's top-level forms, in order, whose values nobody takes; it gives `BGL_UNSPEC`
pub record TrForms (m : ModuleTree) (g : Fun) : Type 0 where
  pub named : g.name ≡ initializer_name m.name
  pub result : g.result ≡ c_ty.Obj
  pub params : g.params ≡ []
  pub translated : TrAllUnused m [] g.locals m.forms [] g.code (return (expr.Atom atom.Unspec) done)

abbrev pub TrInitializer : ModuleTree → List Item → Type 0
TrInitializer m [] = ⊥
TrInitializer m (external v ∷ is) = ⊥
TrInitializer m (global v ∷ is) = ⊥
TrInitializer m (declared t name params ∷ is) = TrInitializer m is
TrInitializer m (defined g ∷ is) = TrForms m g × DefineNothing is

-- the definitions, in order: the module's functions, its maker, which has nothing to make as long as functions are no values, and its initialisation. The other items are declarations of functions
abbrev pub TrFunctions : ModuleTree → List FunctionTree → List Item → Type 0
TrFunctions m fs [] = ⊥
TrFunctions m fs (external v ∷ is) = ⊥
TrFunctions m fs (global v ∷ is) = ⊥
TrFunctions m fs (declared t name params ∷ is) = TrFunctions m fs is
TrFunctions m (f ∷ fs) (defined g ∷ is) = TrFunction m f g × TrFunctions m fs is
TrFunctions m [] (defined g ∷ is) = IsEmpty (maker_name m.name) g × TrInitializer m is

-- Declarations ------------------------------------------------------------------------------

-- what a unit may call: the functions of the module, and those of other modules that it uses
abbrev pub callees : ModuleTree → List Callee
callees m = map (own_callee m.name) m.functions ++ used_callees m.uses

-- a function of one of these, which takes and gives words
pub record IsDeclared (cs : List Callee) (t : CTy) (name : Name) (params : List CTy) : Type 0 where
  pub callee : Callee
  pub is_one : Contains cs callee
  pub named : name ≡ c_name_of callee
  pub gives : t ≡ c_ty.Obj
  pub takes : params ≡ replicate callee.params c_ty.Obj

abbrev pub AreDeclared : List Callee → List Item → Type 0
AreDeclared cs [] = Unit {0}
AreDeclared cs (external v ∷ is) = ⊥
AreDeclared cs (global v ∷ is) = ⊥
AreDeclared cs (declared t name params ∷ is) = IsDeclared cs t name params × AreDeclared cs is
AreDeclared cs (defined g ∷ is) = AreDeclared cs is

-- the C functions of other modules that a module calls
abbrev pub outside_of : ModuleTree → List Name
outside_of m = map c_name_of (used_callees m.uses)

-- no rule of C is broken, where functions with these names are defined elsewhere
unfoldable pub is_sound_with : List Name → List Item → Bool
is_sound_with names items = are_distinct (defined_names items) && items_fit (names ++ defined_names items) [] items

-- the unit declares what it may call and defines each function of the module, its maker and its initialisation, and taken alone it has a spelling and breaks no rule of C but that what it uses is defined elsewhere
pub record Translated (m : ModuleTree) (items : List Item) : Type 0 where
  pub functions : TrFunctions m m.functions items
  pub declarations : AreDeclared (callees m) items
  pub named : NamedItems items
  pub sound : IsTrue (is_sound_with (outside_of m) items)

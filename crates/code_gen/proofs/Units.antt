-- A unit: declarations of all functions that may be called, and then definitions of those of the module, of its maker and of its initialisation.
use Rattle.std.proofs.Common.{◌≡◌, ℕ, zero, suc, ◌+◌, ◌<◌, true, List, [], ◌∷◌, ◌++◌, length, map, take, get_or, inl, inr, refl, sym, ap, ◌∙◌, subst, arith, append_assoc}
use Rattle.std.specs.Prelude.{◌&&◌, IsTrue}
use Rattle.std.proofs.lemmas.Bool.{and_from}
use Rattle.std.proofs.lemmas.List.{map-append, take_more}
use Rattle.scheme_data.specs.Names.{are_distinct}
use Rattle.core_tree.specs.Tree.{FunctionTree, ModuleTree, Callee, own_callee, row_callee, used_callees}
use Rattle.core_tree.specs.declared.tree.Use.{Use}
use Rattle.core_tree.specs.declared.tree.Use.TheVariants.{From, Need}
use Rattle.core_tree.specs.WellFormed.{IsFunction, AreFunctions, IsWellFormed}
use Rattle.c_tree.specs.declared.function.CFun.{CFun}
use Rattle.c_tree.specs.declared.function.CItem.{CItem}
use Rattle.c_tree.specs.declared.function.CItem.TheVariants.{Defined}
use Rattle.c_tree.specs.Code.{Fun, Item, defined}
use Rattle.c_tree.specs.Functions.{fun_of, item_of, items_of}
use Rattle.c_tree.specs.Names.{function_name, maker_name}
use Rattle.c_tree.specs.Spelling.{NamedItems}
use Rattle.c_meaning.specs.Plain.{Signature, signature_of, Role, Initializer, Function, role_of, head_fits, function_fits, may_call, callable, agrees, items_fit, defined_names}
use Rattle.plan_rules.specs.Translation.{Name, c_name_of, IsEmpty, TrFunctions, callees, AreDeclared, outside_of, is_sound_with, Translated}
use Rattle.code_gen.specs.declared.callees.OwnFunction.{OwnFunction}
use Rattle.code_gen.specs.Callees.{function_of}
use Rattle.code_gen.specs.Emission.{IsFunctionOf, IsInitialization, declaration, own_callees, declarations_of, AreFunctionsOf, AddsFunctions}
use Rattle.code_gen.proofs.Soundness.{signature}
use Rattle.code_gen.proofs.Declared.{Has, Within, has_before, has_turned, contained, own_has, is_function, names_of, callees_named, named_at, callees_distinct, defined_distinct, agree, all_callable}
use Rattle.code_gen.proofs.Straight.{last_items, last_named, last_translated, last_spelled, last_fit}
use Rattle.code_gen.proofs.OwnFunctions.{own_more}
use Rattle.code_gen.proofs.Functions.{Fits, function_fits_module}
use Rattle.plan_rules.proofs.NameKinds.{function_role, last_names}

-- Functions are added -----------------------------------------------------------------------

one_more : (m : ModuleTree) (fs : List FunctionTree) (gs : List Fun) (f : FunctionTree) (g : Fun) → AreFunctionsOf m fs gs → IsFunctionOf m f g → AreFunctionsOf m (fs ++ f ∷ []) (gs ++ g ∷ [])
one_more m [] [] f g all one = (one, tt)
one_more m (h ∷ hs) (k ∷ ks) f g all one = (all.0, one_more m hs ks f g all.1 one)
one_more m [] (k ∷ ks) f g all one = absurd all
one_more m (h ∷ hs) [] f g all one = absurd all

pub adds_one : (m : ModuleTree) (ds : List OwnFunction) (i : ℕ) (d : OwnFunction) (before middle after : List Item) (g : Fun) → i < length ds → d ≡ get_or ds i d
    → AddsFunctions m (map function_of (take i ds)) before middle → IsFunctionOf m (function_of d) g → after ≡ middle ++ defined g ∷ []
    → AddsFunctions m (map function_of (take (i + 1) ds)) before after
adds_one m ds i d before middle after g within d_is so one e =
    record {
      added = so.added ++ g ∷ [];
      is = e ∙ ap (λ is. is ++ defined g ∷ []) so.is ∙ append_assoc before (map defined so.added) (defined g ∷ []) ∙ ap (λ is. before ++ is) (sym (map-append defined so.added (g ∷ [])));
      are = subst (λ hs. AreFunctionsOf m hs (so.added ++ g ∷ [])) (sym (own_more ds i d within d_is)) (one_more m (map function_of (take i ds)) so.added (function_of d) g so.are one);
    }

pub pushed_item : (before after : List CItem) (g : CFun) → after ≡ before ++ Defined g ∷ [] → items_of after ≡ items_of before ++ defined (fun_of g) ∷ []
pushed_item before after g e = ap items_of e ∙ map-append item_of before (Defined g ∷ [])

pub pushed_two : (before middle after : List CItem) (g h : CFun) → middle ≡ before ++ Defined g ∷ [] → after ≡ middle ++ Defined h ∷ []
    → items_of after ≡ items_of before ++ defined (fun_of g) ∷ defined (fun_of h) ∷ []
pushed_two before middle after g h first second =
    pushed_item middle after h second ∙ ap (λ is. is ++ defined (fun_of h) ∷ []) (pushed_item before middle g first) ∙ append_assoc (items_of before) (defined (fun_of g) ∷ []) (defined (fun_of h) ∷ [])

function_got : (m : ModuleTree) (ds : List OwnFunction) (i : ℕ) (d : OwnFunction) → i < length ds → AreFunctions m (map function_of ds) → IsFunction m (function_of (get_or ds i d))
function_got m [] i d within all = absurd (omega arith)
function_got m (e ∷ es) zero d within all = all.0
function_got m (e ∷ es) (suc i) d within all = function_got m es i d (omega arith) all.1

-- a function at a place is one of the module
pub function_at : (m : ModuleTree) (fs : List FunctionTree) (ds : List OwnFunction) (i : ℕ) (d : OwnFunction) → map function_of ds ≡ fs → i < length ds → d ≡ get_or ds i d → AreFunctions m fs → IsFunction m (function_of d)
function_at m fs ds i d are within d_is all = subst (λ (e : OwnFunction). IsFunction m (function_of e)) (sym d_is) (function_got m ds i d within (subst (AreFunctions m) (sym are) all))

-- Uses are declared -------------------------------------------------------------------------

used_append : (us vs : List Use) → used_callees (us ++ vs) ≡ used_callees us ++ used_callees vs
used_append [] vs = refl
used_append (From k r ∷ us) vs = ap (λ cs. row_callee k r ∷ cs) (used_append us vs)
used_append (Need k r ∷ us) vs = used_append us vs

pub declares_one : (us : List Use) (i : ℕ) (u : Use) (before middle after : List Item) → i < length us → u ≡ get_or us i u → middle ≡ before ++ map declaration (used_callees (take i us))
    → after ≡ middle ++ map declaration (used_callees (u ∷ [])) → after ≡ before ++ map declaration (used_callees (take (i + 1) us))
declares_one us i u before middle after within u_is so e =
    let so_far = map declaration (used_callees (take i us)) in
    let one = map declaration (used_callees (u ∷ [])) in
    let used : used_callees (take (i + 1) us) ≡ used_callees (take i us) ++ used_callees (u ∷ []) =
    ap used_callees (take_more us i u within ∙ ap (λ (v : Use). take i us ++ v ∷ []) (sym u_is)) ∙ used_append (take i us) (u ∷ []) in
    e ∙ ap (λ is. is ++ one) so ∙ append_assoc before so_far one
    ∙ ap (λ is. before ++ is) (sym (ap (map declaration) used ∙ map-append declaration (used_callees (take i us)) (used_callees (u ∷ []))))

-- The unit ----------------------------------------------------------------------------------

-- what is declared, the newest first
abbrev stacked : List Callee → List Callee → List Callee
stacked [] ds = ds
stacked (c ∷ cs) ds = stacked cs (c ∷ ds)

stacked_under : (c : Callee) (cs ds : List Callee) → Has c ds → Has c (stacked cs ds)
stacked_under c [] ds h = h
stacked_under c (e ∷ es) ds h = stacked_under c es (e ∷ ds) (inr h)

stacked_has : (c : Callee) (cs ds : List Callee) → Has c cs → Has c (stacked cs ds)
stacked_has c [] ds h = absurd h
stacked_has c (e ∷ es) ds h = elim h [
  | inl q ↦ stacked_under c es (e ∷ ds) (inl q)
  | inr j ↦ stacked_has c es (e ∷ ds) j
]

with_one : (all ds : List Callee) (c : Callee) → Has c all → Within ds all → Within (c ∷ ds) all
with_one all ds c here within = λ h j. elim j [
  | inl e ↦ subst (λ k. Has k all) (sym e) here
  | inr i ↦ within h i
]

stacked_within : (all cs ds : List Callee) → Within cs all → Within ds all → Within (stacked cs ds) all
stacked_within all [] ds some within = within
stacked_within all (c ∷ cs) ds some within = stacked_within all cs (c ∷ ds) (λ h j. some h (inr j)) (with_one all ds c (some c (inl refl)) within)

module _ (m : ModuleTree) (w : IsWellFormed m) (maker initializer : Fun) (made : IsEmpty (maker_name m.name) maker) (initialized : IsInitialization m initializer) where
  abbrev signatures : List Callee → List Signature
  signatures cs = map signature cs

  -- what is defined in the text or elsewhere
  abbrev there : List Callee
  there = used_callees m.uses ++ own_callees m

  abbrev names : List Name
  names = names_of there ++ last_names m.name

  abbrev last : List Item
  last = last_items m w maker initializer made initialized

  own : (f : FunctionTree) → Has f m.functions → Has (own_callee m.name f) (callees m)
  own f h = has_before (own_callee m.name f) (own_callees m) (used_callees m.uses) (own_has m.name m.functions f h)

  all_there : (ds : List Callee) → Within ds (callees m) → Within ds there
  all_there ds within = λ c h. has_turned c (own_callees m) (used_callees m.uses) (within c h)

  callable_here : (r : Role) → may_call r Function ≡ true → (ds : List Callee) → Within ds (callees m) → callable r names (signatures ds) ≡ signatures ds
  callable_here r may ds within = all_callable r may there (last_names m.name) ds (all_there ds within)

  agrees_here : (c : Callee) (ds : List Callee) → Has c (callees m) → Within ds (callees m) → agrees (signatures ds) (signature c) ≡ true
  agrees_here c ds here within = agree (callees m) (callees_distinct m w) c ds here within

  -- declarations fit, and leave their signatures
  declared_fit : (cs ds : List Callee) (rest : List Item) → Within cs (callees m) → Within ds (callees m) → items_fit names (signatures (stacked cs ds)) rest ≡ true
      → items_fit names (signatures ds) (map declaration cs ++ rest) ≡ true
  declared_fit [] ds rest some within end = end
  declared_fit (c ∷ cs) ds rest some within end =
      let here = some c (inl refl) in
      let others = declared_fit cs (c ∷ ds) rest (λ h j. some h (inr j)) (with_one (callees m) ds c here within) end in
      let s = signature c in
      let head = head_fits (role_of s.name) s.result s.params in
      let head_is : head ≡ true = ap (λ r. head_fits r s.result s.params) (function_role c.module_name c.name) in
      let first : (agrees (signatures ds) s && head) ≡ true = and_from (agrees (signatures ds) s) head (agrees_here c ds here within) head_is in
      and_from (agrees (signatures ds) s && head) (items_fit names (s ∷ signatures ds) (map declaration cs ++ rest)) first others

  -- a definition fits where its own function may be called too
  defined_one : (f : FunctionTree) (ds : List Callee) (g : Fun) (rest : List Item) → Has f m.functions → Within ds (callees m) → Fits m (signatures (own_callee m.name f ∷ ds)) f g
      → items_fit names (signatures (own_callee m.name f ∷ ds)) rest ≡ true → items_fit names (signatures ds) (defined g ∷ rest) ≡ true
  defined_one f ds g rest here within one others =
      let c = own_callee m.name f in
      let s = signature_of (defined g) in
      let all = c ∷ ds in
      let calls : callable (role_of g.name) names (s ∷ signatures ds) ≡ signatures all =
      ap (λ r. callable r names (s ∷ signatures ds)) one.role ∙ ap (λ t. callable Function names (t ∷ signatures ds)) one.signature_is
      ∙ callable_here Function refl all (with_one (callees m) ds c (own f here) within) in
      let may : function_fits (callable (role_of g.name) names (s ∷ signatures ds)) g ≡ true = ap (λ sigs. function_fits sigs g) calls ∙ one.fits in
      let same : agrees (signatures ds) s ≡ true = ap (agrees (signatures ds)) one.signature_is ∙ agrees_here c ds (own f here) within in
      let end : items_fit names (s ∷ signatures ds) rest ≡ true = subst (λ t. items_fit names (t ∷ signatures ds) rest ≡ true) (sym one.signature_is) others in
      and_from (agrees (signatures ds) s && function_fits (callable (role_of g.name) names (s ∷ signatures ds)) g) (items_fit names (s ∷ signatures ds) rest)
      (and_from (agrees (signatures ds) s) (function_fits (callable (role_of g.name) names (s ∷ signatures ds)) g) same may) end

  defined_fit : (fs : List FunctionTree) (ds : List Callee) (gs : List Fun) → Within fs m.functions → Within ds (callees m) → Within (callees m) ds → AreFunctionsOf m fs gs
      → items_fit names (signatures ds) (map defined gs ++ last) ≡ true
  defined_fit [] ds [] some within covers all = last_fit m w maker initializer made initialized ds within covers names (callable_here Initializer refl ds within)
  defined_fit [] ds (g ∷ gs) some within covers all = absurd all
  defined_fit (f ∷ fs) ds [] some within covers all = absurd all
  defined_fit (f ∷ fs) ds (g ∷ gs) some within covers all =
      let here = some f (inl refl) in
      let more = own_callee m.name f ∷ ds in
      let more_within = with_one (callees m) ds (own_callee m.name f) (own f here) within in
      let more_covers : Within (callees m) more = λ h j. inr (covers h j) in
      let one = function_fits_module m w more f g more_within more_covers (is_function m m.functions f w.functions here) all.0 in
      defined_one f ds g (map defined gs ++ last) here within one (defined_fit fs more gs (λ h j. some h (inr j)) more_within more_covers all.1)

  declared_names : (cs : List Callee) (rest : List Item) → defined_names (map declaration cs ++ rest) ≡ defined_names rest
  declared_names [] rest = refl
  declared_names (c ∷ cs) rest = declared_names cs rest

  names_are : (fs : List FunctionTree) (gs : List Fun) → AreFunctionsOf m fs gs → defined_names (map defined gs ++ last) ≡ names_of (map (own_callee m.name) fs) ++ last_names m.name
  names_are [] [] all = last_named m w maker initializer made initialized
  names_are [] (g ∷ gs) all = absurd all
  names_are (f ∷ fs) [] all = absurd all
  names_are (f ∷ fs) (g ∷ gs) all = ap (λ x. x ∷ defined_names (map defined gs ++ last)) all.0.name_is ∙ ap (λ xs. function_name m.name f.name ∷ xs) (names_are fs gs all.1)

  everything : Within m.functions m.functions
  everything = λ h j. j

  all_callees : Within (callees m) (callees m)
  all_callees = λ c j. j

  nothing : Within [] (callees m)
  nothing = λ c j. absurd j

  -- what is declared before the definitions
  abbrev before : List Callee
  before = stacked (callees m) []

  before_within : Within before (callees m)
  before_within = stacked_within (callees m) (callees m) [] all_callees nothing

  covered : Within (callees m) before
  covered = λ c j. stacked_has c (callees m) [] j

  sound : (gs : List Fun) → AreFunctionsOf m m.functions gs → IsTrue (is_sound_with (outside_of m) (declarations_of m ++ (map defined gs ++ last)))
  unfolding is_sound_with
  sound gs all =
      let definitions = map defined gs ++ last in
      let items = declarations_of m ++ definitions in
      let are : defined_names items ≡ names_of (own_callees m) ++ last_names m.name = declared_names (callees m) definitions ∙ names_are m.functions gs all in
      let distinct : are_distinct (defined_names items) ≡ true = ap are_distinct are ∙ defined_distinct m w in
      let found : outside_of m ++ defined_names items ≡ names =
      ap (λ ns. outside_of m ++ ns) are ∙ sym (append_assoc (outside_of m) (names_of (own_callees m)) (last_names m.name))
      ∙ ap (λ ns. ns ++ last_names m.name) (sym (map-append c_name_of (used_callees m.uses) (own_callees m))) in
      let fit : items_fit names [] items ≡ true = declared_fit (callees m) [] definitions all_callees nothing (defined_fit m.functions before gs everything before_within covered all) in
      and_from (are_distinct (defined_names items)) (items_fit (outside_of m ++ defined_names items) [] items) distinct (subst (λ ns. items_fit ns [] items ≡ true) (sym found) fit)

  -- each definition
  one_fits : (f : FunctionTree) (g : Fun) → Has f m.functions → IsFunctionOf m f g → Fits m (signatures before) f g
  one_fits f g here is = function_fits_module m w before f g before_within covered (is_function m m.functions f w.functions here) is

  named_definitions : (fs : List FunctionTree) (gs : List Fun) → Within fs m.functions → AreFunctionsOf m fs gs → NamedItems (map defined gs ++ last)
  named_definitions [] [] some all = last_spelled m w maker initializer made initialized before before_within covered
  named_definitions [] (g ∷ gs) some all = absurd all
  named_definitions (f ∷ fs) [] some all = absurd all
  named_definitions (f ∷ fs) (g ∷ gs) some all = ((one_fits f g (some f (inl refl)) all.0).named, named_definitions fs gs (λ h j. some h (inr j)) all.1)

  named_all : (cs : List Callee) (rest : List Item) → Within cs (callees m) → NamedItems rest → NamedItems (map declaration cs ++ rest)
  named_all [] rest some end = end
  named_all (c ∷ cs) rest some end = (named_at (callees m) c (callees_named m w) (some c (inl refl)), named_all cs rest (λ h j. some h (inr j)) end)

  translated_definitions : (fs : List FunctionTree) (gs : List Fun) → Within fs m.functions → AreFunctionsOf m fs gs → TrFunctions m fs (map defined gs ++ last)
  translated_definitions [] [] some all = last_translated m w maker initializer made initialized
  translated_definitions [] (g ∷ gs) some all = absurd all
  translated_definitions (f ∷ fs) [] some all = absurd all
  translated_definitions (f ∷ fs) (g ∷ gs) some all = ((one_fits f g (some f (inl refl)) all.0).translated, translated_definitions fs gs (λ h j. some h (inr j)) all.1)

  translated_all : (fs : List FunctionTree) (cs : List Callee) (rest : List Item) → TrFunctions m fs rest → TrFunctions m fs (map declaration cs ++ rest)
  translated_all fs [] rest end = end
  translated_all [] (c ∷ cs) rest end = translated_all [] cs rest end
  translated_all (f ∷ fs) (c ∷ cs) rest end = translated_all (f ∷ fs) cs rest end

  declared_definitions : (gs : List Fun) → AreDeclared (callees m) (map defined gs ++ last)
  declared_definitions [] = tt
  declared_definitions (g ∷ gs) = declared_definitions gs

  declared_all : (cs : List Callee) (rest : List Item) → Within cs (callees m) → AreDeclared (callees m) rest → AreDeclared (callees m) (map declaration cs ++ rest)
  declared_all [] rest some end = end
  declared_all (c ∷ cs) rest some end =
      (record { callee = c; is_one = contained c (callees m) (some c (inl refl)); named = refl; gives = refl; takes = refl }, declared_all cs rest (λ h j. some h (inr j)) end)

  pub translated_from : (middle items : List Item) → AddsFunctions m m.functions (declarations_of m) middle → items ≡ middle ++ last → Translated m items
  translated_from middle items adds ends =
      let definitions = map defined adds.added ++ last in
      let are : items ≡ declarations_of m ++ definitions = ends ∙ ap (λ is. is ++ last) adds.is ∙ append_assoc (declarations_of m) (map defined adds.added) last in
      subst (Translated m) (sym are) (record {
        functions = translated_all m.functions (callees m) definitions (translated_definitions m.functions adds.added everything adds.are);
        declarations = declared_all (callees m) definitions all_callees (declared_definitions adds.added);
        named = named_all (callees m) definitions all_callees (named_definitions m.functions adds.added everything adds.are);
        sound = sound adds.added adds.are;
      })

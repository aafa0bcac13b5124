-- All of a function's statements, from an emitter that had none.
use Rattle.std.proofs.Common.{◌≡◌, ℕ, ◌≤◌, ◌^◌, List, [], ◌++◌, length, refl, sym, ap, ◌∙◌, subst, arith}
use Rattle.std.proofs.lemmas.List.{append-nil}
use Rattle.core_tree.specs.Tree.{Tree, FunctionTree, ModuleTree}
use Rattle.c_tree.specs.declared.tree.CTy.TheVariants as c_ty
use Rattle.c_tree.specs.declared.tree.CVar.{CVar}
use Rattle.c_tree.specs.declared.pieces.Piece.TheVariants as piece
use Rattle.c_tree.specs.Code.{Code, done, return, loop, Fun}
use Rattle.c_tree.specs.Names.{label_name, function_name, initializer_name}
use Rattle.c_tree.specs.Pieces.{pieces}
use Rattle.plan_rules.specs.declared.rep.Rep.TheVariants.{Obj}
use Rattle.plan_rules.specs.Translation.{Name, back, TrAllUnused}
use Rattle.code_gen.specs.declared.emitter.Emitter.{Emitter}
use Rattle.code_gen.specs.declared.emitter.Target.TheVariants.{Back}
use Rattle.code_gen.specs.Scopes.{words}
use Rattle.code_gen.specs.Settings.{Setting, TrIn, TrAllUnusedIn}
use Rattle.code_gen.specs.Emission.{AreBelow, AreCounted, IsFresh, Puts, Emits, AreUnused, IsBodyOf, setting_of, word_names, variables_with, unspecified, IsLooped, IsStraight, IsFunctionOf, IsInitialization}
use Rattle.code_gen.proofs.Counts.{below_none}
use Rattle.code_gen.proofs.Steps.{Means, then, deliver_emits, Looped, loops}
use Rattle.code_gen.proofs.Functions.{words_below, has_variables}

none_counted : (s : Emitter) (first : ℕ) → s.locals ≡ [] → s.next ≡ first → AreCounted s.locals first s.next
unfolding AreCounted
none_counted s first e f =
    let A : List CVar → ℕ → Type 0 = λ vs n. AreCounted vs first n in
    subst (λ vs. A vs s.next) (sym e) (subst (A []) (sym f) refl)

-- what was emitted from nothing, with nothing behind it
record Whole (w : Setting) (P : Means) (v : Emitter) : Type 0 where
  small : v.next ≤ 2 ^ 32
  counted : AreCounted v.locals (length w.params) v.next
  code : Code
  is : v.pieces ≡ pieces code []
  meant : P (variables_with w.params v.locals) code done

whole : (w : Setting) (P : Means) (s v : Emitter) → IsFresh s (length w.params) → length w.params ≤ 2 ^ 32 → Emits s v P → Whole w P v
whole w P s v fresh few all =
    let first : s.next ≡ length w.params = fresh.next_is in
    let counted : AreCounted v.locals (length w.params) v.next = all.grows.counted (length w.params) (none_counted s (length w.params) fresh.locals first) in
    let small : v.next ≤ 2 ^ 32 = all.grows.small (omega arith) in
    let b = all.code (variables_with w.params v.locals) (has_variables w.params v.locals v.next counted small).locals done in
    record {
      small = small;
      counted = counted;
      code = b.code;
      is = sym (ap (λ ps. ps ++ pieces b.code []) (sym fresh.pieces_are) ∙ b.is [] ∙ append-nil v.pieces);
      meant = b.meant;
    }

pub loop_written : (w : Setting) (n : Tree) (s t u v : Emitter) → IsFresh s (length w.params) → length w.params ≤ 2 ^ 32 → Puts s t (piece.Loop (label_name 0)) → IsBodyOf w t u n → Puts u v piece.End → IsLooped w n v
loop_written w n s t u v fresh few opens all closes =
    let first : s.next ≡ length w.params = fresh.next_is in
    let opened : t.next ≡ s.next = opens.next_is in
    let inside : Means = λ vars code rest. (live : List Name) → AreBelow t.next live → TrIn w vars n Obj live back code rest in
    let every = whole w (λ vars code rest. Looped (label_name 0) (λ body. inside vars body done) code rest) s v fresh few (loops s t u v (label_name 0) inside opens all.emits closes) in
    record {
      small = every.small;
      counted = every.counted;
      code = every.meant.body;
      is = every.is ∙ ap (λ c. pieces c []) every.meant.is;
      translated = every.meant.inside (word_names w.params) (words_below 0 t.next w.params (omega arith));
    }

pub straight_written : (m : ModuleTree) (s t v : Emitter) → IsFresh s 0 → AreUnused (record { in_module = m; params = [] }) s t m.forms → Puts t v (piece.Return unspecified) → IsStraight m v
straight_written m s t v fresh all ends =
    let w : Setting = record { in_module = m; params = [] } in
    let unused : Means = λ vars code rest. (live : List Name) → AreBelow s.next live → TrAllUnusedIn w vars m.forms live code rest in
    let every = whole w (λ vars code rest. unused vars code (return unspecified rest)) s v fresh (omega arith)
    (then s t v unused (λ vars code rest. code ≡ return unspecified rest) (λ vars code rest. unused vars code (return unspecified rest)) all.emits (deliver_emits t v Back unspecified ends)
    (λ vars code middle rest a b live below. subst (TrAllUnusedIn w vars m.forms live code) b (a live below))) in
    record {
      small = every.small;
      counted = every.counted;
      code = every.code;
      is = every.is;
      translated = every.meant [] (below_none s.next);
    }

pub function_written : (m : ModuleTree) (f : FunctionTree) (e : Emitter) (g : Fun) (looped : IsLooped (setting_of m f) f.body e)
    → g.name ≡ function_name m.name f.name → g.result ≡ c_ty.Obj → g.params ≡ words 0 f.params → g.locals ≡ e.locals → g.code ≡ loop (label_name 0) looped.code done → IsFunctionOf m f g
function_written m f e g looped name_is result params locals code_is =
    record {
      name_is = name_is;
      result = result;
      params = params;
      last = e.next;
      small = looped.small;
      counted = subst (λ vs. AreCounted vs (length f.params) e.next) (sym locals) looped.counted;
      code = looped.code;
      looped = code_is;
      translated = subst (λ vs. TrIn (setting_of m f) (variables_with f.params vs) f.body Obj (word_names f.params) back looped.code done) (sym locals) looped.translated;
    }

pub initialization_written : (m : ModuleTree) (e : Emitter) (g : Fun) (straight : IsStraight m e)
    → g.name ≡ initializer_name m.name → g.result ≡ c_ty.Obj → g.params ≡ [] → g.locals ≡ e.locals → g.code ≡ straight.code → IsInitialization m g
initialization_written m e g straight name_is result params locals code_is =
    record {
      forms = record {
        named = name_is;
        result = result;
        params = params;
        translated = subst (λ c. TrAllUnused m [] g.locals m.forms [] c (return unspecified done)) (sym code_is)
            (subst (λ vs. TrAllUnused m [] vs m.forms [] straight.code (return unspecified done)) (sym locals) straight.translated);
      };
      last = e.next;
      small = straight.small;
      counted = subst (λ vs. AreCounted vs 0 e.next) (sym locals) straight.counted;
    }

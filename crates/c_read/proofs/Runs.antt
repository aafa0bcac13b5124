-- What is spelled with right names leaves due what was due behind it.
use Rattle.std.proofs.Common.{◌≡◌, ℕ, List, [], ◌∷◌, ◌++◌, true, Some, codes, refl, sym, ap, ◌∙◌}
use Rattle.c_tree.specs.declared.tree.CTy.{CTy}
use Rattle.c_tree.specs.declared.tree.CArg.{CArg}
use Rattle.c_tree.specs.declared.tree.CArg.TheVariants as arg
use Rattle.c_tree.specs.declared.tree.CExpr.{CExpr}
use Rattle.c_tree.specs.declared.tree.CExpr.TheVariants as expr
use Rattle.c_tree.specs.declared.tree.CVar.{CVar}
use Rattle.c_tree.specs.Lexical.{Token, Word, Mark}
use Rattle.c_tree.specs.Names.{is_function_name}
use Rattle.c_tree.specs.Code.{Code, done, assign, call, return, test, loop, ended, goto, catch, protect, Item, external, global, declared, defined}
use Rattle.c_tree.specs.Spelling.{type_text, atom_text, callee_text, argument_tokens_of, more_arguments, argument_tokens, expr_tokens, code_tokens, more_types, more_params, param_tokens, local_tokens, item_tokens, items_tokens, NamedArgument, NamedArguments, NamedExpr, NamedCode, NamedVars, NamedItem, NamedItems}
use Rattle.c_read.specs.declared.kinds.Kind.{Kind}
use Rattle.c_read.specs.declared.kinds.Kind.TheVariants as kind
use Rattle.c_read.specs.declared.dues.Due.{Due}
use Rattle.c_read.specs.declared.dues.Due.TheVariants as due
use Rattle.c_read.specs.Kinds.{kind_of, token_kind}
use Rattle.c_read.specs.Dues.{next, in_front_of, on_dues, run}
use Rattle.c_read.proofs.TokenKinds.{
  AtomKind,
  a_local,
  a_global,
  a_value,
  VariableKind,
  v_local,
  v_global,
  FunctionKind,
  f_entry,
  f_other,
  CalleeKind,
  c_entry,
  c_other,
  c_operation,
  TargetKind,
  t_label,
  t_end,
  local_kind,
  label_kind,
  end_label_kind,
  global_kind,
  entry_kind,
  variable_kind,
  target_kind,
  function_kind,
  atom_kind,
  callee_kind,
  type_kind,
  void_kind,
  extern_kind,
  return_kind,
  if_kind,
  else_kind,
  for_kind,
  goto_kind,
  catch_kind,
  protect_kind,
}

-- a token that may stand here
over : (d : Due) (dues : List Due) (t : Token) (ts : List Token) (more : List Due)
    → next d (token_kind t) ≡ Some more → run (d ∷ dues) (t ∷ ts) ≡ run (more ++ dues) ts
over d dues t ts more e = ap (λ o. on_dues (in_front_of dues o) (λ m. run m ts)) e

-- a word of this kind
word : (d : Due) (dues : List Due) (w : List ℕ) (ts : List Token) (k : Kind) (more : List Due)
    → kind_of w ≡ k → next d k ≡ Some more → run (d ∷ dues) (Word w ∷ ts) ≡ run (more ++ dues) ts
word d dues w ts k more e f = over d dues (Word w) ts more (ap (next d) e ∙ f)

module _ (dues : List Due) (rest : List Token) where
  by_atom : (d : Due) (more : List Due) (w : List ℕ) → next d kind.Local ≡ Some more → next d kind.Global ≡ Some more → next d kind.Value ≡ Some more
      → AtomKind (kind_of w) → run (d ∷ dues) (Word w ∷ rest) ≡ run (more ++ dues) rest
  by_atom d more w l g v k = over d dues (Word w) rest more (go k)
    where
      go : {k : Kind} → AtomKind k → next d k ≡ Some more
      go a_local = l
      go a_global = g
      go a_value = v

  by_callee : (d : Due) (more : List Due) (w : List ℕ) → next d kind.Function ≡ Some more → next d kind.Entry ≡ Some more → next d kind.Operation ≡ Some more
      → CalleeKind (kind_of w) → run (d ∷ dues) (Word w ∷ rest) ≡ run (more ++ dues) rest
  by_callee d more w f e o k = over d dues (Word w) rest more (go k)
    where
      go : {k : Kind} → CalleeKind k → next d k ≡ Some more
      go c_other = f
      go c_entry = e
      go c_operation = o

  by_variable : (d : Due) (more : List Due) (w : List ℕ) → next d kind.Local ≡ Some more → next d kind.Global ≡ Some more
      → VariableKind (kind_of w) → run (d ∷ dues) (Word w ∷ rest) ≡ run (more ++ dues) rest
  by_variable d more w l g k = over d dues (Word w) rest more (go k)
    where
      go : {k : Kind} → VariableKind k → next d k ≡ Some more
      go v_local = l
      go v_global = g

  by_function : (d : Due) (more : List Due) (w : List ℕ) → next d kind.Function ≡ Some more → next d kind.Entry ≡ Some more
      → FunctionKind (kind_of w) → run (d ∷ dues) (Word w ∷ rest) ≡ run (more ++ dues) rest
  by_function d more w f e k = over d dues (Word w) rest more (go k)
    where
      go : {k : Kind} → FunctionKind k → next d k ≡ Some more
      go f_other = f
      go f_entry = e

  target_runs : (w : List ℕ) → TargetKind (kind_of w) → run (due.Target ∷ dues) (Word w ∷ rest) ≡ run dues rest
  target_runs w k = over due.Target dues (Word w) rest [] (go k)
    where
      go : {k : Kind} → TargetKind k → next due.Target k ≡ Some []
      go t_label = refl
      go t_end = refl

-- Calls -------------------------------------------------------------------------------------

argument_runs : (a : CArg) (dues : List Due) (rest : List Token) → NamedArgument a → run (due.Argument ∷ dues) (argument_tokens_of a rest) ≡ run dues rest
argument_runs (arg.Atom a) dues rest h = by_atom dues rest due.Argument [] (atom_text a) refl refl refl (atom_kind a h)
argument_runs (arg.Str text) dues rest h = refl
argument_runs (arg.Entry name) dues rest h = word (due.Token kind.Entry) dues name rest kind.Entry [] (entry_kind name h) refl

more_arguments_run : (args : List CArg) (dues : List Due) (rest : List Token) → NamedArguments args → run (due.MoreArguments ∷ dues) (more_arguments args (Mark 41 ∷ rest)) ≡ run dues rest
more_arguments_run [] dues rest h = refl
more_arguments_run (a ∷ args) dues rest h = argument_runs a (due.MoreArguments ∷ dues) (more_arguments args (Mark 41 ∷ rest)) h.0 ∙ more_arguments_run args dues rest h.1

first_argument_runs : (a : CArg) (dues : List Due) (rest : List Token) → NamedArgument a → run (due.Arguments ∷ dues) (argument_tokens_of a rest) ≡ run (due.MoreArguments ∷ dues) rest
first_argument_runs (arg.Atom a) dues rest h = by_atom dues rest due.Arguments (due.MoreArguments ∷ []) (atom_text a) refl refl refl (atom_kind a h)
first_argument_runs (arg.Str text) dues rest h = refl
first_argument_runs (arg.Entry name) dues rest h = word (due.Token kind.Entry) (due.MoreArguments ∷ dues) name rest kind.Entry [] (entry_kind name h) refl

arguments_run : (args : List CArg) (dues : List Due) (rest : List Token) → NamedArguments args → run (due.Arguments ∷ dues) (argument_tokens args (Mark 41 ∷ rest)) ≡ run dues rest
arguments_run [] dues rest h = refl
arguments_run (a ∷ args) dues rest h = first_argument_runs a dues (more_arguments args (Mark 41 ∷ rest)) h.0 ∙ more_arguments_run args dues rest h.1

expr_runs : (e : CExpr) (dues : List Due) (rest : List Token) → NamedExpr e → run (due.Expression ∷ dues) (expr_tokens e rest) ≡ run dues rest
expr_runs (expr.Atom a) dues rest h = by_atom dues rest due.Expression [] (atom_text a) refl refl refl (atom_kind a h)
expr_runs (expr.Call c) dues rest h =
    by_callee dues (Mark 40 ∷ argument_tokens c.args (Mark 41 ∷ rest)) due.Expression (due.Token kind.OpenParen ∷ due.Arguments ∷ []) (callee_text c.callee) refl refl refl (callee_kind c.callee h.0)
    ∙ arguments_run c.args dues rest h.1

-- Statements --------------------------------------------------------------------------------

code_runs : (c : Code) (dues : List Due) (rest : List Token) → NamedCode c → run (due.Block ∷ dues) (code_tokens c (Mark 125 ∷ rest)) ≡ run dues rest
code_runs done dues rest h = refl
code_runs (assign x e next) dues rest h =
    let after = code_tokens next (Mark 125 ∷ rest) in
    by_variable dues (Mark 61 ∷ expr_tokens e (Mark 59 ∷ after)) due.Block (due.Token kind.Equals ∷ due.Expression ∷ due.Token kind.Semicolon ∷ due.Block ∷ []) x refl refl (variable_kind x h.0)
    ∙ expr_runs e (due.Token kind.Semicolon ∷ due.Block ∷ dues) (Mark 59 ∷ after) h.1
    ∙ code_runs next dues rest h.2
code_runs (call c next) dues rest h =
    let after = code_tokens next (Mark 125 ∷ rest) in
    by_callee dues (Mark 40 ∷ argument_tokens c.args (Mark 41 ∷ Mark 59 ∷ after)) due.Block (due.Token kind.OpenParen ∷ due.Arguments ∷ due.Token kind.Semicolon ∷ due.Block ∷ []) (callee_text c.callee) refl refl refl (callee_kind c.callee h.0.0)
    ∙ arguments_run c.args (due.Token kind.Semicolon ∷ due.Block ∷ dues) (Mark 59 ∷ after) h.0.1
    ∙ code_runs next dues rest h.1
code_runs (return e next) dues rest h =
    let after = code_tokens next (Mark 125 ∷ rest) in
    word due.Block dues (codes "return") (expr_tokens e (Mark 59 ∷ after)) kind.Return (due.Expression ∷ due.Token kind.Semicolon ∷ due.Block ∷ []) return_kind refl
    ∙ expr_runs e (due.Token kind.Semicolon ∷ due.Block ∷ dues) (Mark 59 ∷ after) h.0
    ∙ code_runs next dues rest h.1
code_runs (test e a b next) dues rest h =
    let after = code_tokens next (Mark 125 ∷ rest) in
    let second = code_tokens b (Mark 125 ∷ after) in
    let first = code_tokens a (Mark 125 ∷ Word (codes "else") ∷ Mark 123 ∷ second) in
    let behind_a = due.Token kind.Else ∷ due.Token kind.OpenBrace ∷ due.Block ∷ due.Block ∷ dues in
    let behind_e = due.Token kind.CloseParen ∷ due.Token kind.OpenBrace ∷ due.Block ∷ behind_a in
    word due.Block dues (codes "if") (Mark 40 ∷ expr_tokens e (Mark 41 ∷ Mark 123 ∷ first)) kind.If
    (due.Token kind.OpenParen ∷ due.Expression ∷ due.Token kind.CloseParen ∷ due.Token kind.OpenBrace ∷ due.Block ∷ due.Token kind.Else ∷ due.Token kind.OpenBrace ∷ due.Block ∷ due.Block ∷ []) if_kind refl
    ∙ expr_runs e behind_e (Mark 41 ∷ Mark 123 ∷ first) h.0
    ∙ code_runs a behind_a (Word (codes "else") ∷ Mark 123 ∷ second) h.1
    ∙ word (due.Token kind.Else) (due.Token kind.OpenBrace ∷ due.Block ∷ due.Block ∷ dues) (codes "else") (Mark 123 ∷ second) kind.Else [] else_kind refl
    ∙ code_runs b (due.Block ∷ dues) after h.2
    ∙ code_runs next dues rest h.3
code_runs (loop l body next) dues rest h =
    let after = code_tokens next (Mark 125 ∷ rest) in
    let inner = code_tokens body (Mark 125 ∷ after) in
    let head = due.Token kind.OpenParen ∷ due.Token kind.Semicolon ∷ due.Token kind.Semicolon ∷ due.Token kind.CloseParen ∷ due.Token kind.OpenBrace ∷ due.Block ∷ due.Block ∷ [] in
    word due.Block dues l (Mark 58 ∷ Word (codes "for") ∷ Mark 40 ∷ Mark 59 ∷ Mark 59 ∷ Mark 41 ∷ Mark 123 ∷ inner) kind.Label (due.Token kind.Colon ∷ due.Token kind.For ∷ head) (label_kind l h.0) refl
    ∙ word (due.Token kind.For) (head ++ dues) (codes "for") (Mark 40 ∷ Mark 59 ∷ Mark 59 ∷ Mark 41 ∷ Mark 123 ∷ inner) kind.For [] for_kind refl
    ∙ code_runs body (due.Block ∷ dues) after h.1
    ∙ code_runs next dues rest h.2
code_runs (ended body l next) dues rest h =
    let after = code_tokens next (Mark 125 ∷ rest) in
    let behind = due.Token kind.Colon ∷ due.Token kind.Semicolon ∷ due.Block ∷ dues in
    code_runs body (due.Token kind.EndLabel ∷ behind) (Word l ∷ Mark 58 ∷ Mark 59 ∷ after) h.0
    ∙ word (due.Token kind.EndLabel) behind l (Mark 58 ∷ Mark 59 ∷ after) kind.EndLabel [] (end_label_kind l h.1) refl
    ∙ code_runs next dues rest h.2
code_runs (goto l next) dues rest h =
    let after = code_tokens next (Mark 125 ∷ rest) in
    word due.Block dues (codes "goto") (Word l ∷ Mark 59 ∷ after) kind.Goto (due.Target ∷ due.Token kind.Semicolon ∷ due.Block ∷ []) goto_kind refl
    ∙ target_runs (due.Token kind.Semicolon ∷ due.Block ∷ dues) (Mark 59 ∷ after) l (target_kind l h.0)
    ∙ code_runs next dues rest h.1
code_runs (catch k r body next) dues rest h =
    let after = code_tokens next (Mark 125 ∷ rest) in
    let inner = code_tokens body (Mark 125 ∷ after) in
    let behind_r = due.Token kind.CloseParen ∷ due.Token kind.OpenBrace ∷ due.Block ∷ due.Block ∷ [] in
    let behind_k = due.Token kind.Comma ∷ due.Token kind.Local ∷ behind_r in
    word due.Block dues (codes "BGL_CATCH") (Mark 40 ∷ Word k ∷ Mark 44 ∷ Word r ∷ Mark 41 ∷ Mark 123 ∷ inner) kind.Catch (due.Token kind.OpenParen ∷ due.Token kind.Local ∷ behind_k) catch_kind refl
    ∙ word (due.Token kind.Local) (behind_k ++ dues) k (Mark 44 ∷ Word r ∷ Mark 41 ∷ Mark 123 ∷ inner) kind.Local [] (local_kind k h.0) refl
    ∙ word (due.Token kind.Local) (behind_r ++ dues) r (Mark 41 ∷ Mark 123 ∷ inner) kind.Local [] (local_kind r h.1) refl
    ∙ code_runs body (due.Block ∷ dues) after h.2
    ∙ code_runs next dues rest h.3
code_runs (protect a b next) dues rest h =
    let after = code_tokens next (Mark 125 ∷ rest) in
    let second = code_tokens b (Mark 125 ∷ after) in
    word due.Block dues (codes "BGL_PROTECT") (Mark 123 ∷ code_tokens a (Mark 125 ∷ Mark 123 ∷ second)) kind.Protect
    (due.Token kind.OpenBrace ∷ due.Block ∷ due.Token kind.OpenBrace ∷ due.Block ∷ due.Block ∷ []) protect_kind refl
    ∙ code_runs a (due.Token kind.OpenBrace ∷ due.Block ∷ due.Block ∷ dues) (Mark 123 ∷ second) h.0
    ∙ code_runs b (due.Block ∷ dues) after h.1
    ∙ code_runs next dues rest h.2

by_word : (dues : List Due) (w : List ℕ) (ts : List Token) (k : Kind) (more : List Due) → kind_of w ≡ k → next due.Body k ≡ Some more → next due.Block k ≡ Some more
    → run (due.Body ∷ dues) (Word w ∷ ts) ≡ run (due.Block ∷ dues) (Word w ∷ ts)
by_word dues w ts k more e f g = word due.Body dues w ts k more e f ∙ sym (word due.Block dues w ts k more e g)

-- a block that may have locals in front
bare_runs : (c : Code) (dues : List Due) (rest : List Token) → NamedCode c
    → run (due.Body ∷ dues) (code_tokens c (Mark 125 ∷ rest)) ≡ run (due.Block ∷ dues) (code_tokens c (Mark 125 ∷ rest))
bare_runs done dues rest h = refl
bare_runs (assign x e next) dues rest h =
    let ts = Mark 61 ∷ expr_tokens e (Mark 59 ∷ code_tokens next (Mark 125 ∷ rest)) in
    let more = due.Token kind.Equals ∷ due.Expression ∷ due.Token kind.Semicolon ∷ due.Block ∷ [] in
    by_variable dues ts due.Body more x refl refl (variable_kind x h.0) ∙ sym (by_variable dues ts due.Block more x refl refl (variable_kind x h.0))
bare_runs (call c next) dues rest h =
    let ts = Mark 40 ∷ argument_tokens c.args (Mark 41 ∷ Mark 59 ∷ code_tokens next (Mark 125 ∷ rest)) in
    let more = due.Token kind.OpenParen ∷ due.Arguments ∷ due.Token kind.Semicolon ∷ due.Block ∷ [] in
    let k = callee_kind c.callee h.0.0 in
    by_callee dues ts due.Body more (callee_text c.callee) refl refl refl k ∙ sym (by_callee dues ts due.Block more (callee_text c.callee) refl refl refl k)
bare_runs (return e next) dues rest h = by_word dues (codes "return") (expr_tokens e (Mark 59 ∷ code_tokens next (Mark 125 ∷ rest))) kind.Return (due.Expression ∷ due.Token kind.Semicolon ∷ due.Block ∷ []) return_kind refl refl
bare_runs (test e a b next) dues rest h = by_word dues (codes "if") (Mark 40 ∷ expr_tokens e (Mark 41 ∷ Mark 123 ∷ code_tokens a (Mark 125 ∷ Word (codes "else") ∷ Mark 123 ∷ code_tokens b (Mark 125 ∷ code_tokens next (Mark 125 ∷ rest))))) kind.If
    (due.Token kind.OpenParen ∷ due.Expression ∷ due.Token kind.CloseParen ∷ due.Token kind.OpenBrace ∷ due.Block ∷ due.Token kind.Else ∷ due.Token kind.OpenBrace ∷ due.Block ∷ due.Block ∷ []) if_kind refl refl
bare_runs (loop l body next) dues rest h = by_word dues l (Mark 58 ∷ Word (codes "for") ∷ Mark 40 ∷ Mark 59 ∷ Mark 59 ∷ Mark 41 ∷ Mark 123 ∷ code_tokens body (Mark 125 ∷ code_tokens next (Mark 125 ∷ rest))) kind.Label
    (due.Token kind.Colon ∷ due.Token kind.For ∷ due.Token kind.OpenParen ∷ due.Token kind.Semicolon ∷ due.Token kind.Semicolon ∷ due.Token kind.CloseParen ∷ due.Token kind.OpenBrace ∷ due.Block ∷ due.Block ∷ []) (label_kind l h.0) refl refl
bare_runs (ended body l next) dues rest h = refl
bare_runs (goto l next) dues rest h = by_word dues (codes "goto") (Word l ∷ Mark 59 ∷ code_tokens next (Mark 125 ∷ rest)) kind.Goto (due.Target ∷ due.Token kind.Semicolon ∷ due.Block ∷ []) goto_kind refl refl
bare_runs (catch k r body next) dues rest h = by_word dues (codes "BGL_CATCH") (Mark 40 ∷ Word k ∷ Mark 44 ∷ Word r ∷ Mark 41 ∷ Mark 123 ∷ code_tokens body (Mark 125 ∷ code_tokens next (Mark 125 ∷ rest))) kind.Catch
    (due.Token kind.OpenParen ∷ due.Token kind.Local ∷ due.Token kind.Comma ∷ due.Token kind.Local ∷ due.Token kind.CloseParen ∷ due.Token kind.OpenBrace ∷ due.Block ∷ due.Block ∷ []) catch_kind refl refl
bare_runs (protect a b next) dues rest h = by_word dues (codes "BGL_PROTECT") (Mark 123 ∷ code_tokens a (Mark 125 ∷ Mark 123 ∷ code_tokens b (Mark 125 ∷ code_tokens next (Mark 125 ∷ rest)))) kind.Protect
    (due.Token kind.OpenBrace ∷ due.Block ∷ due.Token kind.OpenBrace ∷ due.Block ∷ due.Block ∷ []) protect_kind refl refl

body_runs : (vs : List CVar) (c : Code) (dues : List Due) (rest : List Token) → NamedVars vs → NamedCode c
    → run (due.Body ∷ dues) (local_tokens vs (code_tokens c (Mark 125 ∷ rest))) ≡ run dues rest
body_runs [] c dues rest h n = bare_runs c dues rest n ∙ code_runs c dues rest n
body_runs (v ∷ vs) c dues rest h n =
    let after = local_tokens vs (code_tokens c (Mark 125 ∷ rest)) in
    word due.Body dues (type_text v.ty) (Word v.name ∷ Mark 59 ∷ after) kind.Type (due.Token kind.Local ∷ due.Token kind.Semicolon ∷ due.Body ∷ []) (type_kind v.ty) refl
    ∙ word (due.Token kind.Local) (due.Token kind.Semicolon ∷ due.Body ∷ dues) v.name (Mark 59 ∷ after) kind.Local [] (local_kind v.name h.0) refl
    ∙ body_runs vs c dues rest h.1 n

-- Items -------------------------------------------------------------------------------------

more_types_run : (ts : List CTy) (dues : List Due) (rest : List Token) → run (due.MoreTypes ∷ dues) (more_types ts (Mark 41 ∷ rest)) ≡ run dues rest
more_types_run [] dues rest = refl
more_types_run (t ∷ ts) dues rest =
    word (due.Token kind.Type) (due.MoreTypes ∷ dues) (type_text t) (more_types ts (Mark 41 ∷ rest)) kind.Type [] (type_kind t) refl ∙ more_types_run ts dues rest

more_params_run : (vs : List CVar) (dues : List Due) (rest : List Token) → NamedVars vs → run (due.MoreParams ∷ dues) (more_params vs (Mark 41 ∷ rest)) ≡ run dues rest
more_params_run [] dues rest h = refl
more_params_run (v ∷ vs) dues rest h =
    let after = more_params vs (Mark 41 ∷ rest) in
    word (due.Token kind.Type) (due.Token kind.Local ∷ due.MoreParams ∷ dues) (type_text v.ty) (Word v.name ∷ after) kind.Type [] (type_kind v.ty) refl
    ∙ word (due.Token kind.Local) (due.MoreParams ∷ dues) v.name after kind.Local [] (local_kind v.name h.0) refl
    ∙ more_params_run vs dues rest h.1

-- a type and a function's name
head_runs : (t : CTy) (name : List ℕ) (dues : List Due) (rest : List Token) → is_function_name name ≡ true
    → run (due.Items ∷ dues) (Word (type_text t) ∷ Word name ∷ Mark 40 ∷ rest) ≡ run (due.Params ∷ due.Items ∷ dues) rest
head_runs t name dues rest h =
    word due.Items dues (type_text t) (Word name ∷ Mark 40 ∷ rest) kind.Type (due.Named ∷ due.Items ∷ []) (type_kind t) refl
    ∙ by_function (due.Items ∷ dues) (Mark 40 ∷ rest) due.Named (due.Token kind.OpenParen ∷ due.Params ∷ []) name refl refl (function_kind name h)

no_params_run : (dues : List Due) (rest : List Token) → run (due.Params ∷ dues) (Word (codes "void") ∷ Mark 41 ∷ rest) ≡ run (due.NoParams ∷ dues) rest
no_params_run dues rest = word due.Params dues (codes "void") (Mark 41 ∷ rest) kind.Void (due.Token kind.CloseParen ∷ due.NoParams ∷ []) void_kind refl

first_type_runs : (t : CTy) (dues : List Due) (rest : List Token) → run (due.Params ∷ dues) (Word (type_text t) ∷ rest) ≡ run (due.FirstParam ∷ dues) rest
first_type_runs t dues rest = word due.Params dues (type_text t) rest kind.Type (due.FirstParam ∷ []) (type_kind t) refl

other_types_run : (ts : List CTy) (dues : List Due) (rest : List Token) → run (due.FirstParam ∷ dues) (more_types ts (Mark 41 ∷ Mark 59 ∷ rest)) ≡ run dues rest
other_types_run [] dues rest = refl
other_types_run (t ∷ ts) dues rest =
    word (due.Token kind.Type) (due.MoreTypes ∷ due.Token kind.Semicolon ∷ dues) (type_text t) (more_types ts (Mark 41 ∷ Mark 59 ∷ rest)) kind.Type [] (type_kind t) refl
    ∙ more_types_run ts (due.Token kind.Semicolon ∷ dues) (Mark 59 ∷ rest)

params_run : (ps : List CVar) (dues : List Due) (rest : List Token) → NamedVars ps → run (due.Params ∷ dues) (param_tokens ps (Mark 41 ∷ Mark 123 ∷ rest)) ≡ run (due.Body ∷ dues) rest
params_run [] dues rest h = no_params_run dues (Mark 123 ∷ rest)
params_run (v ∷ ps) dues rest h =
    let after = more_params ps (Mark 41 ∷ Mark 123 ∷ rest) in
    first_type_runs v.ty dues (Word v.name ∷ after)
    ∙ word due.FirstParam dues v.name after kind.Local (due.MoreParams ∷ due.Token kind.OpenBrace ∷ due.Body ∷ []) (local_kind v.name h.0) refl
    ∙ more_params_run ps (due.Token kind.OpenBrace ∷ due.Body ∷ dues) (Mark 123 ∷ rest) h.1

item_runs : (i : Item) (dues : List Due) (rest : List Token) → NamedItem i → run (due.Items ∷ dues) (item_tokens i rest) ≡ run (due.Items ∷ dues) rest
item_runs (external v) dues rest h =
    word due.Items dues (codes "extern") (Word (type_text v.ty) ∷ Word v.name ∷ Mark 59 ∷ rest) kind.Extern (due.Token kind.Type ∷ due.Token kind.Global ∷ due.Token kind.Semicolon ∷ due.Items ∷ []) extern_kind refl
    ∙ word (due.Token kind.Type) (due.Token kind.Global ∷ due.Token kind.Semicolon ∷ due.Items ∷ dues) (type_text v.ty) (Word v.name ∷ Mark 59 ∷ rest) kind.Type [] (type_kind v.ty) refl
    ∙ word (due.Token kind.Global) (due.Token kind.Semicolon ∷ due.Items ∷ dues) v.name (Mark 59 ∷ rest) kind.Global [] (global_kind v.name h) refl
item_runs (global v) dues rest h =
    word due.Items dues (type_text v.ty) (Word v.name ∷ Mark 59 ∷ rest) kind.Type (due.Named ∷ due.Items ∷ []) (type_kind v.ty) refl
    ∙ word due.Named (due.Items ∷ dues) v.name (Mark 59 ∷ rest) kind.Global (due.Token kind.Semicolon ∷ []) (global_kind v.name h) refl
item_runs (declared t name []) dues rest h =
    head_runs t name dues (Word (codes "void") ∷ Mark 41 ∷ Mark 59 ∷ rest) h ∙ no_params_run (due.Items ∷ dues) (Mark 59 ∷ rest)
item_runs (declared t name (u ∷ ts)) dues rest h =
    let after = more_types ts (Mark 41 ∷ Mark 59 ∷ rest) in
    head_runs t name dues (Word (type_text u) ∷ after) h ∙ first_type_runs u (due.Items ∷ dues) after ∙ other_types_run ts (due.Items ∷ dues) rest
item_runs (defined f) dues rest h =
    let inner = local_tokens f.locals (code_tokens f.code (Mark 125 ∷ rest)) in
    head_runs f.result f.name dues (param_tokens f.params (Mark 41 ∷ Mark 123 ∷ inner)) h.0
    ∙ params_run f.params (due.Items ∷ dues) inner h.1
    ∙ body_runs f.locals f.code (due.Items ∷ dues) rest h.2 h.3

pub items_run : (is : List Item) → NamedItems is → run (due.Items ∷ []) (items_tokens is []) ≡ Some (due.Items ∷ [])
items_run [] h = refl
items_run (i ∷ is) h = item_runs i [] (items_tokens is []) h.0 ∙ items_run is h.1

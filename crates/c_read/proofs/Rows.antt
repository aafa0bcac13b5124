-- Each row of the grammar, back over its token.
use Rattle.std.proofs.Common.{◌≡◌, List, [], ◌∷◌, ◌++◌, Bool, true, false, if◌then◌else◌, Some, None, codes, refl, sym, ap, subst, ◌∙◌}
use Rattle.c_tree.specs.declared.tree.CTy.{CTy}
use Rattle.c_tree.specs.declared.tree.CArg.TheVariants as arg
use Rattle.c_tree.specs.declared.tree.CVar.{CVar}
use Rattle.c_tree.specs.Lexical.{Token, Word, Mark}
use Rattle.c_tree.specs.Names.{is_function_name, is_variable_name}
use Rattle.c_tree.specs.Code.{done, assign, call, return, test, loop, ended, goto, catch, protect, external, global, declared, defined}
use Rattle.c_tree.specs.Spelling.{type_text, item_tokens}
use Rattle.c_read.specs.declared.kinds.Kind.{Kind}
use Rattle.c_read.specs.declared.kinds.Kind.TheVariants as kind
use Rattle.c_read.specs.declared.dues.Due.{Due}
use Rattle.c_read.specs.declared.dues.Due.TheVariants as due
use Rattle.c_read.specs.Kinds.{same_kind}
use Rattle.c_read.specs.Dues.{Row, rows, block_rows, call_statement, assignment, behind, next}
use Rattle.c_read.proofs.TokenKinds.{same_kind_is, NameToken, AtomToken, TokenOf}
use Rattle.c_read.proofs.Means.{
  IsArgument,
  Parsed,
  Back,
  AllBack,
  label_target,
  end_label_target,
  local_variable,
  global_variable,
  renamed,
  local_atom,
  global_atom,
  CalleeToken,
  function_callee,
  entry_callee,
  operation_callee,
  entry_function,
  expression_rows,
}

target_rows : AllBack due.Target (rows due.Target)
target_rows = (
  (λ t ts dues of p. record { rest = ts; first = record { name = of.name; is = cc (of.is); named = label_target of.name of.named }; others = p }),
  (
    (λ t ts dues of p. record { rest = ts; first = record { name = of.name; is = cc (of.is); named = end_label_target of.name of.named }; others = p }),
    tt,
  ),
)

-- Arguments ---------------------------------------------------------------------------------

-- one argument is first
abbrev OneArgument : Token → List Token → List Token → Type 0
OneArgument t ts rest = IsArgument (t ∷ ts) rest

atom_argument : (t : Token) (ts : List Token) → AtomToken t → OneArgument t ts ts
atom_argument t ts a = record { arg = arg.Atom a.atom; is = cc (a.is); named = a.named }

text_argument : (t : Token) (ts : List Token) → TokenOf kind.Quoted t → OneArgument t ts ts
text_argument t ts x = record { arg = arg.Str x.text; is = cc (x.is); named = tt }

entry_argument : (t : Token) (ts : List Token) (dues : List Due) → TokenOf kind.And t → (p : Parsed (due.Token kind.Entry ∷ dues) ts) → OneArgument t ts p.rest
entry_argument t ts dues a p = record { arg = arg.Entry p.first.of.name; is = cc (a, p.first.is, p.first.of.is); named = p.first.of.named }

argument_back : (t : Token) (ts rest : List Token) (dues : List Due) → OneArgument t ts rest → Parsed dues rest → Parsed (due.Argument ∷ dues) (t ∷ ts)
argument_back t ts rest dues a p = record { rest = rest; first = a; others = p }

argument_rows : AllBack due.Argument (rows due.Argument)
argument_rows = (
  (λ t ts dues of p. argument_back t ts ts dues (atom_argument t ts (local_atom t of)) p),
  (
    (λ t ts dues of p. argument_back t ts ts dues (atom_argument t ts (global_atom t of)) p),
    (
      (λ t ts dues of p. argument_back t ts ts dues (atom_argument t ts of) p),
      (
        (λ t ts dues of p. argument_back t ts ts dues (text_argument t ts of) p),
        (
          (λ t ts dues of p. argument_back t ts p.rest dues (entry_argument t ts dues of p) p.others),
          tt,
        ),
      ),
    ),
  ),
)

arguments_back : (t : Token) (ts rest : List Token) (dues : List Due) → OneArgument t ts rest → Parsed (due.MoreArguments ∷ dues) rest → Parsed (due.Arguments ∷ dues) (t ∷ ts)
arguments_back t ts rest dues a p = record {
  rest = p.rest;
  first = record { args = a.arg ∷ p.first.args; is = cc (a.is, p.first.is); named = (a.named, p.first.named) };
  others = p.others;
}

arguments_rows : AllBack due.Arguments (rows due.Arguments)
arguments_rows = (
  (λ t ts dues of p. record { rest = ts; first = record { args = []; is = cc of; named = tt }; others = p }),
  (
    (λ t ts dues of p. arguments_back t ts ts dues (atom_argument t ts (local_atom t of)) p),
    (
      (λ t ts dues of p. arguments_back t ts ts dues (atom_argument t ts (global_atom t of)) p),
      (
        (λ t ts dues of p. arguments_back t ts ts dues (atom_argument t ts of) p),
        (
          (λ t ts dues of p. arguments_back t ts ts dues (text_argument t ts of) p),
          (
            (λ t ts dues of p. arguments_back t ts p.rest dues (entry_argument t ts (due.MoreArguments ∷ dues) of p) p.others),
            tt,
          ),
        ),
      ),
    ),
  ),
)

more_arguments_rows : AllBack due.MoreArguments (rows due.MoreArguments)
more_arguments_rows = (
  (λ t ts dues of p. record { rest = ts; first = record { args = []; is = cc of; named = tt }; others = p }),
  (
    (λ t ts dues of p.
        let a = p.first in
        let m = p.others.first in
        record { rest = p.others.rest; first = record { args = a.arg ∷ m.args; is = cc (of, a.is, m.is); named = (a.named, m.named) }; others = p.others.others }),
    tt,
  ),
)

-- Statements --------------------------------------------------------------------------------

assign_back : (t : Token) (ts : List Token) (dues : List Due) → NameToken is_variable_name t → Parsed (assignment ++ dues) ts → Parsed (due.Block ∷ dues) (t ∷ ts)
assign_back t ts dues x p =
    let equals = p.first in
    let e = p.others.first in
    let semicolon = p.others.others.first in
    let b = p.others.others.others.first in
    record {
      rest = p.others.others.others.rest;
      first = record { code = assign x.name e.expr b.code; is = cc (x.is, equals.is, equals.of, e.is, semicolon.is, semicolon.of, b.is); named = (x.named, e.named, b.named) };
      others = p.others.others.others.others;
    }

call_statement_back : (t : Token) (ts : List Token) (dues : List Due) → CalleeToken t → Parsed (call_statement ++ dues) ts → Parsed (due.Block ∷ dues) (t ∷ ts)
call_statement_back t ts dues c p =
    let opening = p.first in
    let args = p.others.first in
    let semicolon = p.others.others.first in
    let b = p.others.others.others.first in
    record {
      rest = p.others.others.others.rest;
      first = record {
        code = call (record { callee = c.callee; args = args.args }) b.code;
        is = cc (c.is, opening.is, opening.of, args.is, semicolon.is, semicolon.of, b.is);
        named = ((c.named, args.named), b.named);
      };
      others = p.others.others.others.others;
    }

return_back : Back due.Block kind.Return (due.Expression ∷ due.Token kind.Semicolon ∷ due.Block ∷ [])
return_back t ts dues of p =
    let e = p.first in
    let semicolon = p.others.first in
    let b = p.others.others.first in
    record {
      rest = p.others.others.rest;
      first = record { code = return e.expr b.code; is = cc (of, e.is, semicolon.is, semicolon.of, b.is); named = (e.named, b.named) };
      others = p.others.others.others;
    }

if_back : Back due.Block kind.If (due.Token kind.OpenParen ∷ due.Expression ∷ due.Token kind.CloseParen ∷ due.Token kind.OpenBrace ∷ due.Block ∷ due.Token kind.Else ∷ due.Token kind.OpenBrace ∷ due.Block ∷ due.Block ∷ [])
if_back t ts dues of p =
    let p1 = p.others in
    let p2 = p1.others in
    let p3 = p2.others in
    let p4 = p3.others in
    let p5 = p4.others in
    let p6 = p5.others in
    let p7 = p6.others in
    let p8 = p7.others in
    record {
      rest = p8.rest;
      first = record {
        code = test p1.first.expr p4.first.code p7.first.code p8.first.code;
        is = cc (of, p.first.is, p.first.of, p1.first.is, p2.first.is, p2.first.of, p3.first.is, p3.first.of, p4.first.is, p5.first.is, p5.first.of, p6.first.is, p6.first.of, p7.first.is, p8.first.is);
        named = (p1.first.named, p4.first.named, p7.first.named, p8.first.named);
      };
      others = p8.others;
    }

loop_back : Back due.Block kind.Label (due.Token kind.Colon ∷ due.Token kind.For ∷ due.Token kind.OpenParen ∷ due.Token kind.Semicolon ∷ due.Token kind.Semicolon ∷ due.Token kind.CloseParen ∷ due.Token kind.OpenBrace ∷ due.Block ∷ due.Block ∷ [])
loop_back t ts dues of p =
    let p1 = p.others in
    let p2 = p1.others in
    let p3 = p2.others in
    let p4 = p3.others in
    let p5 = p4.others in
    let p6 = p5.others in
    let p7 = p6.others in
    let p8 = p7.others in
    record {
      rest = p8.rest;
      first = record {
        code = loop of.name p7.first.code p8.first.code;
        is = cc (of.is, p.first.is, p.first.of, p1.first.is, p1.first.of, p2.first.is, p2.first.of, p3.first.is, p3.first.of, p4.first.is, p4.first.of, p5.first.is, p5.first.of, p6.first.is, p6.first.of, p7.first.is, p8.first.is);
        named = (of.named, p7.first.named, p8.first.named);
      };
      others = p8.others;
    }

ended_back : Back due.Block kind.OpenBrace (due.Block ∷ due.Token kind.EndLabel ∷ due.Token kind.Colon ∷ due.Token kind.Semicolon ∷ due.Block ∷ [])
ended_back t ts dues of p =
    let p1 = p.others in
    let p2 = p1.others in
    let p3 = p2.others in
    let p4 = p3.others in
    record {
      rest = p4.rest;
      first = record {
        code = ended p.first.code p1.first.of.name p4.first.code;
        is = cc (of, p.first.is, p1.first.is, p1.first.of.is, p2.first.is, p2.first.of, p3.first.is, p3.first.of, p4.first.is);
        named = (p.first.named, p1.first.of.named, p4.first.named);
      };
      others = p4.others;
    }

goto_back : Back due.Block kind.Goto (due.Target ∷ due.Token kind.Semicolon ∷ due.Block ∷ [])
goto_back t ts dues of p =
    let l = p.first in
    let semicolon = p.others.first in
    let b = p.others.others.first in
    record {
      rest = p.others.others.rest;
      first = record { code = goto l.name b.code; is = cc (of, l.is, semicolon.is, semicolon.of, b.is); named = (l.named, b.named) };
      others = p.others.others.others;
    }

catch_back : Back due.Block kind.Catch (due.Token kind.OpenParen ∷ due.Token kind.Local ∷ due.Token kind.Comma ∷ due.Token kind.Local ∷ due.Token kind.CloseParen ∷ due.Token kind.OpenBrace ∷ due.Block ∷ due.Block ∷ [])
catch_back t ts dues of p =
    let p1 = p.others in
    let p2 = p1.others in
    let p3 = p2.others in
    let p4 = p3.others in
    let p5 = p4.others in
    let p6 = p5.others in
    let p7 = p6.others in
    record {
      rest = p7.rest;
      first = record {
        code = catch p1.first.of.name p3.first.of.name p6.first.code p7.first.code;
        is = cc (of, p.first.is, p.first.of, p1.first.is, p1.first.of.is, p2.first.is, p2.first.of, p3.first.is, p3.first.of.is, p4.first.is, p4.first.of, p5.first.is, p5.first.of, p6.first.is, p7.first.is);
        named = (p1.first.of.named, p3.first.of.named, p6.first.named, p7.first.named);
      };
      others = p7.others;
    }

protect_back : Back due.Block kind.Protect (due.Token kind.OpenBrace ∷ due.Block ∷ due.Token kind.OpenBrace ∷ due.Block ∷ due.Block ∷ [])
protect_back t ts dues of p =
    let p1 = p.others in
    let p2 = p1.others in
    let p3 = p2.others in
    let p4 = p3.others in
    record {
      rest = p4.rest;
      first = record {
        code = protect p1.first.code p3.first.code p4.first.code;
        is = cc (of, p.first.is, p.first.of, p1.first.is, p2.first.is, p2.first.of, p3.first.is, p4.first.is);
        named = (p1.first.named, p3.first.named, p4.first.named);
      };
      others = p4.others;
    }

blocks : AllBack due.Block block_rows
blocks = (
  (λ t ts dues of p. record { rest = ts; first = record { code = done; is = cc of; named = tt }; others = p }),
  (
    (λ t ts dues of p. assign_back t ts dues (renamed t local_variable of) p),
    (
      (λ t ts dues of p. assign_back t ts dues (renamed t global_variable of) p),
      (
        (λ t ts dues of p. call_statement_back t ts dues (function_callee t of) p),
        (
          (λ t ts dues of p. call_statement_back t ts dues (entry_callee t of) p),
          (
            (λ t ts dues of p. call_statement_back t ts dues (operation_callee t of) p),
            (
              return_back,
              (
                if_back,
                (
                  loop_back,
                  (
                    ended_back,
                    (
                      goto_back,
                      (
                        catch_back,
                        (
                          protect_back,
                          tt,
                        ),
                      ),
                    ),
                  ),
                ),
              ),
            ),
          ),
        ),
      ),
    ),
  ),
)

without_locals : (ts : List Token) (dues : List Due) → Parsed (due.Block ∷ dues) ts → Parsed (due.Body ∷ dues) ts
without_locals ts dues p = record { rest = p.rest; first = record { locals = []; code = p.first.code; is = p.first.is; vars = tt; named = p.first.named }; others = p.others }

bodies : (rs : List Row) → AllBack due.Block rs → AllBack due.Body rs
bodies [] all = tt
bodies (r ∷ rs) all = ((λ t ts dues of p. without_locals (t ∷ ts) dues (all.0 t ts dues of p)), bodies rs all.1)

local_back : Back due.Body kind.Type (due.Token kind.Local ∷ due.Token kind.Semicolon ∷ due.Body ∷ [])
local_back t ts dues of p =
    let x = p.first in
    let semicolon = p.others.first in
    let b = p.others.others.first in
    record {
      rest = p.others.others.rest;
      first = record {
        locals = record { ty = of.ty; name = x.of.name } ∷ b.locals;
        code = b.code;
        is = cc (of.is, x.is, x.of.is, semicolon.is, semicolon.of, b.is);
        vars = (x.of.named, b.vars);
        named = b.named;
      };
      others = p.others.others.others;
    }

-- Items -------------------------------------------------------------------------------------

extern_back : Back due.Items kind.Extern (due.Token kind.Type ∷ due.Token kind.Global ∷ due.Token kind.Semicolon ∷ due.Items ∷ [])
extern_back t ts dues of p =
    let p1 = p.others in
    let p2 = p1.others in
    let p3 = p2.others in
    record {
      rest = p3.rest;
      first = record {
        items = external (record { ty = p.first.of.ty; name = p1.first.of.name }) ∷ p3.first.items;
        is = cc (of, p.first.is, p.first.of.is, p1.first.is, p1.first.of.is, p2.first.is, p2.first.of, p3.first.is);
        named = (p1.first.of.named, p3.first.named);
      };
      others = p3.others;
    }

typed_back : Back due.Items kind.Type (due.Named ∷ due.Items ∷ [])
typed_back t ts dues of p =
    let n = p.first in
    let i = p.others.first in
    record {
      rest = p.others.rest;
      first = record {
        items = n.item of.ty ∷ i.items;
        is = ap (λ t. t ∷ ts) of.is ∙ n.is of.ty ∙ ap (item_tokens (n.item of.ty)) i.is;
        named = (n.named of.ty, i.named);
      };
      others = p.others.others;
    }

global_back : Back due.Named kind.Global (due.Token kind.Semicolon ∷ [])
global_back t ts dues of p = record {
  rest = p.rest;
  first = record {
    item = λ ty. global (record { ty = ty; name = of.name });
    is = λ ty. cc (of.is, p.first.is, p.first.of);
    named = λ ty. of.named;
  };
  others = p.others;
}

function_back : (t : Token) (ts : List Token) (dues : List Due) → NameToken is_function_name t → Parsed (due.Token kind.OpenParen ∷ due.Params ∷ dues) ts → Parsed (due.Named ∷ dues) (t ∷ ts)
function_back t ts dues of p =
    let f = p.others.first in
    let head : t ∷ ts ≡ Word of.name ∷ Mark 40 ∷ p.rest = cc (of.is, p.first.is, p.first.of) in
    record {
      rest = p.others.rest;
      first = record {
        item = λ ty. f.item ty of.name;
        is = λ ty. ap (λ ts. Word (type_text ty) ∷ ts) head ∙ f.is ty of.name;
        named = λ ty. f.named ty of.name of.named;
      };
      others = p.others.others;
    }

named_rows : AllBack due.Named (rows due.Named)
named_rows = (
  global_back,
  (
    (λ t ts dues of p. function_back t ts dues of p),
    (
      (λ t ts dues of p. function_back t ts dues (renamed t entry_function of) p),
      tt,
    ),
  ),
)

void_back : Back due.Params kind.Void (due.Token kind.CloseParen ∷ due.NoParams ∷ [])
void_back t ts dues of p =
    let f = p.others.first in
    let head : t ∷ ts ≡ Word (codes "void") ∷ Mark 41 ∷ p.rest = cc (of, p.first.is, p.first.of) in
    record {
      rest = p.others.rest;
      first = record {
        item = f.item;
        is = λ ty name. ap (λ ts. Word (type_text ty) ∷ Word name ∷ Mark 40 ∷ ts) head ∙ f.is ty name;
        named = f.named;
      };
      others = p.others.others;
    }

first_type_back : Back due.Params kind.Type (due.FirstParam ∷ [])
first_type_back t ts dues of p =
    let f = p.first in
    record {
      rest = p.rest;
      first = record {
        item = λ ty name. f.item ty name of.ty;
        is = λ ty name. ap (λ t. Word (type_text ty) ∷ Word name ∷ Mark 40 ∷ t ∷ ts) of.is ∙ f.is ty name of.ty;
        named = λ ty name h. f.named ty name of.ty h;
      };
      others = p.others;
    }

no_params_rows : AllBack due.NoParams (rows due.NoParams)
no_params_rows = (
  (λ t ts dues of p. record {
    rest = ts;
    first = record { item = λ ty name. declared ty name []; is = λ ty name. cc of; named = λ ty name h. h };
    others = p;
  }),
  (
    (λ t ts dues of p.
        let b = p.first in
        record {
          rest = p.rest;
          first = record {
            item = λ ty name. defined (record { result = ty; name = name; params = []; locals = b.locals; code = b.code });
            is = λ ty name. cc (of, b.is);
            named = λ ty name h. (h, tt, b.vars, b.named);
          };
          others = p.others;
        }),
    tt,
  ),
)

one_type_back : Back due.FirstParam kind.CloseParen (due.Token kind.Semicolon ∷ [])
one_type_back t ts dues of p = record {
  rest = p.rest;
  first = record {
    item = λ ty name u. declared ty name (u ∷ []);
    is = λ ty name u. cc (of, p.first.is, p.first.of);
    named = λ ty name u h. h;
  };
  others = p.others;
}

types_back : Back due.FirstParam kind.Comma (due.Token kind.Type ∷ due.MoreTypes ∷ due.Token kind.Semicolon ∷ [])
types_back t ts dues of p =
    let w = p.first in
    let m = p.others.first in
    let semicolon = p.others.others.first in
    record {
      rest = p.others.others.rest;
      first = record {
        item = λ ty name u. declared ty name (u ∷ w.of.ty ∷ m.types);
        is = λ ty name u. cc (of, w.is, w.of.is, m.is, semicolon.is, semicolon.of);
        named = λ ty name u h. h;
      };
      others = p.others.others.others;
    }

params_back : Back due.FirstParam kind.Local (due.MoreParams ∷ due.Token kind.OpenBrace ∷ due.Body ∷ [])
params_back t ts dues of p =
    let m = p.first in
    let opening = p.others.first in
    let b = p.others.others.first in
    let first : CTy → CVar = λ u. record { ty = u; name = of.name } in
    record {
      rest = p.others.others.rest;
      first = record {
        item = λ ty name u. defined (record { result = ty; name = name; params = first u ∷ m.vars; locals = b.locals; code = b.code });
        is = λ ty name u. cc (of.is, m.is, opening.is, opening.of, b.is);
        named = λ ty name u h. (h, (of.named, m.named), b.vars, b.named);
      };
      others = p.others.others.others;
    }

more_types_rows : AllBack due.MoreTypes (rows due.MoreTypes)
more_types_rows = (
  (λ t ts dues of p. record { rest = ts; first = record { types = []; is = cc of }; others = p }),
  (
    (λ t ts dues of p.
        let w = p.first in
        let m = p.others.first in
        record { rest = p.others.rest; first = record { types = w.of.ty ∷ m.types; is = cc (of, w.is, w.of.is, m.is) }; others = p.others.others }),
    tt,
  ),
)

more_params_rows : AllBack due.MoreParams (rows due.MoreParams)
more_params_rows = (
  (λ t ts dues of p. record { rest = ts; first = record { vars = []; is = cc of; named = tt }; others = p }),
  (
    (λ t ts dues of p.
        let w = p.first in
        let x = p.others.first in
        let m = p.others.others.first in
        record {
          rest = p.others.others.rest;
          first = record {
            vars = record { ty = w.of.ty; name = x.of.name } ∷ m.vars;
            is = cc (of, w.is, w.of.is, x.is, x.of.is, m.is);
            named = (x.of.named, m.named);
          };
          others = p.others.others.others;
        }),
    tt,
  ),
)

-- Every row ---------------------------------------------------------------------------------

behind_back : (d : Due) (rs : List Row) → AllBack d rs → (k : Kind) (more : List Due) → behind rs k ≡ Some more → Back d k more
behind_back d [] all k more e = absurd (cc)
behind_back d (r ∷ rs) all k more e = go (same_kind r.kind k) refl e (λ e. behind_back d rs all.1 k more e)
  where
    go : (b : Bool) → same_kind r.kind k ≡ b → (if b then Some r.more else behind rs k) ≡ Some more → (behind rs k ≡ Some more → Back d k more) → Back d k more
    go true s e later =
        let same : r.more ≡ more = cc in
        subst (λ k. Back d k more) (same_kind_is r.kind k s) (subst (λ m. Back d r.kind m) same all.0)
    go false s e later = later e

token_back : (one k : Kind) (more : List Due) → next (due.Token one) k ≡ Some more → Back (due.Token one) k more
token_back one k more e = go (same_kind one k) refl e
  where
    go : (b : Bool) → same_kind one k ≡ b → (if b then Some [] else None) ≡ Some more → Back (due.Token one) k more
    go true s e =
        let same : [] ≡ more = cc in
        subst (λ m. Back (due.Token one) k m) same (λ t ts dues of p.
        record { rest = ts; first = record { token = t; is = refl; of = subst (λ k. TokenOf k t) (sym (same_kind_is one k s)) of }; others = p })
    go false s e = absurd (cc)

pub next_back : (d : Due) (k : Kind) (more : List Due) → next d k ≡ Some more → Back d k more
next_back (due.Token one) k more e = token_back one k more e
next_back due.Target k more e = behind_back due.Target (rows due.Target) target_rows k more e
next_back due.Expression k more e = behind_back due.Expression (rows due.Expression) expression_rows k more e
next_back due.Argument k more e = behind_back due.Argument (rows due.Argument) argument_rows k more e
next_back due.Arguments k more e = behind_back due.Arguments (rows due.Arguments) arguments_rows k more e
next_back due.MoreArguments k more e = behind_back due.MoreArguments (rows due.MoreArguments) more_arguments_rows k more e
next_back due.Block k more e = behind_back due.Block (rows due.Block) blocks k more e
next_back due.Body k more e = behind_back due.Body (rows due.Body) (local_back, bodies block_rows blocks) k more e
next_back due.Items k more e = behind_back due.Items (rows due.Items) (extern_back, (typed_back, tt)) k more e
next_back due.Named k more e = behind_back due.Named (rows due.Named) named_rows k more e
next_back due.Params k more e = behind_back due.Params (rows due.Params) (void_back, (first_type_back, tt)) k more e
next_back due.NoParams k more e = behind_back due.NoParams (rows due.NoParams) no_params_rows k more e
next_back due.FirstParam k more e = behind_back due.FirstParam (rows due.FirstParam) (one_type_back, (types_back, (params_back, tt))) k more e
next_back due.MoreTypes k more e = behind_back due.MoreTypes (rows due.MoreTypes) more_types_rows k more e
next_back due.MoreParams k more e = behind_back due.MoreParams (rows due.MoreParams) more_params_rows k more e

-- What is due in a text: the grammar as rows, each with the kind of a first token and what is due behind it.
use Rattle.std.specs.Prelude.{List, [], ◌∷◌, ◌++◌, if◌then◌else◌, Option, Some, None}
use Rattle.c_tree.specs.Lexical.{Token}
use Rattle.c_read.specs.declared.kinds.Kind.{Kind}
use Rattle.c_read.specs.declared.kinds.Kind.TheVariants as kind
use Rattle.c_read.specs.declared.dues.Due.{Due}
use Rattle.c_read.specs.declared.dues.Due.TheVariants as due
use Rattle.c_read.specs.declared.dues.DueRow.{DueRow}
use Rattle.c_read.specs.Kinds.{same_kind, token_kind}

pub record Row : Type 0 where
  pub kind : Kind
  pub more : List Due

abbrev pub row : Kind → List Due → Row
row k more = record { kind = k; more = more }

abbrev pub row_of : DueRow → Row
row_of r = row r.kind r.more.now

abbrev pub called : List Due
called = due.Token kind.OpenParen ∷ due.Arguments ∷ []

abbrev pub call_statement : List Due
call_statement = due.Token kind.OpenParen ∷ due.Arguments ∷ due.Token kind.Semicolon ∷ due.Block ∷ []

abbrev pub assignment : List Due
assignment = due.Token kind.Equals ∷ due.Expression ∷ due.Token kind.Semicolon ∷ due.Block ∷ []

abbrev pub block_rows : List Row
block_rows =
    row kind.CloseBrace []
    ∷ row kind.Local assignment
    ∷ row kind.Global assignment
    ∷ row kind.Function call_statement
    ∷ row kind.Entry call_statement
    ∷ row kind.Operation call_statement
    ∷ row kind.Return (due.Expression ∷ due.Token kind.Semicolon ∷ due.Block ∷ [])
    ∷ row kind.If (due.Token kind.OpenParen ∷ due.Expression ∷ due.Token kind.CloseParen ∷ due.Token kind.OpenBrace ∷ due.Block ∷ due.Token kind.Else ∷ due.Token kind.OpenBrace ∷ due.Block ∷ due.Block ∷ [])
    ∷ row kind.Label (due.Token kind.Colon ∷ due.Token kind.For ∷ due.Token kind.OpenParen ∷ due.Token kind.Semicolon ∷ due.Token kind.Semicolon ∷ due.Token kind.CloseParen ∷ due.Token kind.OpenBrace ∷ due.Block ∷ due.Block ∷ [])
    ∷ row kind.OpenBrace (due.Block ∷ due.Token kind.EndLabel ∷ due.Token kind.Colon ∷ due.Token kind.Semicolon ∷ due.Block ∷ [])
    ∷ row kind.Goto (due.Target ∷ due.Token kind.Semicolon ∷ due.Block ∷ [])
    ∷ row kind.Catch (due.Token kind.OpenParen ∷ due.Token kind.Local ∷ due.Token kind.Comma ∷ due.Token kind.Local ∷ due.Token kind.CloseParen ∷ due.Token kind.OpenBrace ∷ due.Block ∷ due.Block ∷ [])
    ∷ row kind.Protect (due.Token kind.OpenBrace ∷ due.Block ∷ due.Token kind.OpenBrace ∷ due.Block ∷ due.Block ∷ [])
    ∷ []

abbrev pub rows : Due → List Row
rows (due.Token k) = []
rows due.Target = row kind.Label [] ∷ row kind.EndLabel [] ∷ []
rows due.Expression =
    row kind.Local [] ∷ row kind.Global [] ∷ row kind.Value [] ∷ row kind.Function called ∷ row kind.Entry called ∷ row kind.Operation called ∷ []
rows due.Argument = row kind.Local [] ∷ row kind.Global [] ∷ row kind.Value [] ∷ row kind.Quoted [] ∷ row kind.And (due.Token kind.Entry ∷ []) ∷ []
rows due.Arguments =
    row kind.CloseParen []
    ∷ row kind.Local (due.MoreArguments ∷ [])
    ∷ row kind.Global (due.MoreArguments ∷ [])
    ∷ row kind.Value (due.MoreArguments ∷ [])
    ∷ row kind.Quoted (due.MoreArguments ∷ [])
    ∷ row kind.And (due.Token kind.Entry ∷ due.MoreArguments ∷ [])
    ∷ []
rows due.MoreArguments = row kind.CloseParen [] ∷ row kind.Comma (due.Argument ∷ due.MoreArguments ∷ []) ∷ []
rows due.Block = block_rows
rows due.Body = row kind.Type (due.Token kind.Local ∷ due.Token kind.Semicolon ∷ due.Body ∷ []) ∷ block_rows
rows due.Items = row kind.Extern (due.Token kind.Type ∷ due.Token kind.Global ∷ due.Token kind.Semicolon ∷ due.Items ∷ []) ∷ row kind.Type (due.Named ∷ due.Items ∷ []) ∷ []
rows due.Named =
    row kind.Global (due.Token kind.Semicolon ∷ [])
    ∷ row kind.Function (due.Token kind.OpenParen ∷ due.Params ∷ [])
    ∷ row kind.Entry (due.Token kind.OpenParen ∷ due.Params ∷ [])
    ∷ []
rows due.Params = row kind.Void (due.Token kind.CloseParen ∷ due.NoParams ∷ []) ∷ row kind.Type (due.FirstParam ∷ []) ∷ []
rows due.NoParams = row kind.Semicolon [] ∷ row kind.OpenBrace (due.Body ∷ []) ∷ []
rows due.FirstParam =
    row kind.CloseParen (due.Token kind.Semicolon ∷ [])
    ∷ row kind.Comma (due.Token kind.Type ∷ due.MoreTypes ∷ due.Token kind.Semicolon ∷ [])
    ∷ row kind.Local (due.MoreParams ∷ due.Token kind.OpenBrace ∷ due.Body ∷ [])
    ∷ []
rows due.MoreTypes = row kind.CloseParen [] ∷ row kind.Comma (due.Token kind.Type ∷ due.MoreTypes ∷ []) ∷ []
rows due.MoreParams = row kind.CloseParen [] ∷ row kind.Comma (due.Token kind.Type ∷ due.Token kind.Local ∷ due.MoreParams ∷ []) ∷ []

-- what is due behind a token of a kind
abbrev pub behind : List Row → Kind → Option (List Due)
behind [] k = None
behind (r ∷ rs) k = if same_kind r.kind k then Some r.more else behind rs k

abbrev pub next : Due → Kind → Option (List Due)
next (due.Token one) k = if same_kind one k then Some [] else None
next d k = behind (rows d) k

abbrev pub in_front_of : List Due → Option (List Due) → Option (List Due)
in_front_of dues None = None
in_front_of dues (Some more) = Some (more ++ dues)

-- what is due after a token, where this was due; none where it can't stand here
abbrev pub advance : List Due → Kind → Option (List Due)
advance [] k = None
advance (d ∷ dues) k = in_front_of dues (next d k)

abbrev pub on_dues : Option (List Due) → (List Due → Option (List Due)) → Option (List Due)
on_dues None next = None
on_dues (Some dues) next = next dues

-- what is due after tokens
abbrev pub run : List Due → List Token → Option (List Due)
run dues [] = Some dues
run dues (t ∷ ts) = on_dues (advance dues (token_kind t)) (λ more. run more ts)

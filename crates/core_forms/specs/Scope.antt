-- What the word at the head of a form means.
use Rattle.std.specs.Prelude.{ℕ, Bool, if◌then◌else◌, nat_eq, List, [], ◌∷◌, ◌++◌, map, codes, Option, Some, None}
use Rattle.marked_names.specs.MarkedNames.{has_marked}
use Rattle.scheme_data.specs.Names.{is_same}
use Rattle.scheme_data.specs.declared.datum.Place.{Place}
use Rattle.scheme_data.specs.Forms.{Form, Forms, symbol, listed, dotted, end, next}
use Rattle.syntax_rules.specs.Trees.{Macro}
use Rattle.core_forms.specs.declared.core_form.Binder.{Binder}
use Rattle.core_forms.specs.declared.words.Keyword.{Keyword}
use Rattle.core_forms.specs.declared.words.Keyword.TheVariants as key

pub record Word : Type 0 where
  pub spelling : List ℕ
  pub keyword : Keyword

abbrev pub word : List ℕ → Keyword → Word
word x k = record { spelling = x; keyword = k }

-- the clauses of a `case`, behind the name of its key; no symbol is spelled so
abbrev pub clauses_word : List ℕ
clauses_word = codes "case clauses"

abbrev pub words : List Word
words =
    word (codes "quote") key.Quote ∷ word (codes "lambda") key.Lambda ∷ word (codes "if") key.If ∷ word (codes "set!") key.Set ∷ word (codes "begin") key.Begin
    ∷ word (codes "let") key.Let ∷ word (codes "letrec") key.Letrec ∷ word (codes "bind-exit") key.BindExit ∷ word (codes "unwind-protect") key.UnwindProtect
    ∷ word (codes "let*") key.LetStar ∷ word (codes "cond") key.Cond ∷ word (codes "case") key.Case ∷ word (codes "and") key.And ∷ word (codes "or") key.Or
    ∷ word (codes "when") key.When ∷ word (codes "unless") key.Unless ∷ word (codes "do") key.Do ∷ word clauses_word key.Clauses
    ∷ word (codes "define") key.Define ∷ word (codes "define-inline") key.DefineInline ∷ word (codes "define-syntax") key.DefineSyntax ∷ []

abbrev pub keyword_in : List Word → List ℕ → Option Keyword
keyword_in [] x = None
keyword_in (w ∷ ws) x = if is_same x w.spelling then Some w.keyword else keyword_in ws x

abbrev pub keyword : List ℕ → Option Keyword
keyword x = keyword_in words x

-- names with their marks, as they are bound around a place, the innermost first
abbrev pub Marked : Type 0
Marked = List ℕ × ℕ

abbrev pub marked : Binder → Marked
marked b = (b.name, b.mark)

abbrev pub all_marked : List Binder → List Marked
all_marked xs = map marked xs

-- within them these names, one after another
abbrev pub entered : List Binder → List Marked → List Marked
entered [] s = s
entered (x ∷ xs) s = entered xs (marked x ∷ s)

abbrev pub is_bound : List ℕ → ℕ → List Marked → Bool
is_bound x m s = has_marked s x m

abbrev pub macro_named : List ℕ → List Macro → Option Macro
macro_named x [] = None
macro_named x (k ∷ ks) = if is_same x k.name then Some k else macro_named x ks

-- of macros of one name the first counts: a further one joins no others
abbrev pub unless_named : List Macro → Macro → Option Macro → List Macro
unless_named ks k None = ks ++ k ∷ []
unless_named ks k (Some j) = ks

abbrev pub with_macro : List Macro → Macro → List Macro
with_macro ks k = unless_named ks k (macro_named k.name ks)

pub data Meaning : Type 0 where
  macro : Macro → Meaning
  special : Keyword → Meaning
  plain : Meaning

abbrev pub special_or_plain : Option Keyword → Meaning
special_or_plain None = plain
special_or_plain (Some k) = special k

abbrev pub macro_or : Option Macro → Option Keyword → Meaning
macro_or None k = special_or_plain k
macro_or (Some m) k = macro m

-- The right sides of derived forms mean the core forms, whatever macros and local names there are: their words bear a mark that no other symbol has.
abbrev pub core_mark : ℕ
core_mark = 4294967295

abbrev pub sure : Place → List ℕ → Form
sure at x = symbol at x core_mark

-- a local name; a macro of the module; a special form; a call
abbrev pub meaning : List Macro → List Marked → List ℕ → ℕ → Meaning
meaning ks s x m = if nat_eq m core_mark then special_or_plain (keyword x) else (if is_bound x m s then plain else macro_or (macro_named x ks) (keyword x))

abbrev pub meaning_at : List Macro → List Marked → Form → Meaning
meaning_at ks s (symbol at x m) = meaning ks s x m
meaning_at ks s _ = plain

abbrev pub meaning_first : List Macro → List Marked → Forms → Meaning
meaning_first ks s end = plain
meaning_first ks s (next d ds) = meaning_at ks s d

abbrev pub macro_alone : Meaning → Meaning
macro_alone (macro k) = macro k
macro_alone _ = plain

-- only a symbol at the head of a list can be a macro's or a special form's name; a dotted list is no special form
abbrev pub head_meaning : List Macro → List Marked → Form → Meaning
head_meaning ks s (listed at ds) = meaning_first ks s ds
head_meaning ks s (dotted at ds e) = macro_alone (meaning_first ks s ds)
head_meaning ks s _ = plain

-- the forms behind the head
abbrev pub parts_of : Form → Forms
parts_of (listed at (next d ds)) = ds
parts_of _ = end

-- Sources as texts, for worked rows: a small reader, and core forms as they would be written.
use Rattle.std.proofs.Common.{ℕ, suc, ◌+◌, ◌-◌, ◌*◌, pos, negsuc, Bool, true, false, if◌then◌else◌, ◌&&◌, nat_eq, nat_le, List, [], ◌∷◌, ◌++◌, Option, Some, None}
use Rattle.std.specs.Prelude.{codes}
use Rattle.scheme_data.specs.Decimal.{is_digit, digits_onto}
use Rattle.scheme_data.specs.Names.{is_same}
use Rattle.scheme_data.specs.declared.datum.Place.{Place}
use Rattle.scheme_data.specs.Forms.{Atom, number, character, truth, unspecified, text, Form, Forms, atom, symbol, listed, dotted, vector, end, next}
use Rattle.core_forms.specs.Mid.{Head, constant, quoted, named, eqv, function, branch, assigned, sequence, binding, recursive, exit, protected, call, Tree, made, Trees, leaf, more}
use Rattle.core_forms.specs.Modules.{Sort, usual, inline, TopTree, Syntax, Defines, Evaluates}
use Rattle.core_forms.specs.declared.core_form.Binder.{Binder}
use Rattle.core_forms.specs.declared.error.ExpandErr.{ExpandErr}
use Rattle.core_forms.specs.declared.error.ExpandErr.TheVariants as fault
use Rattle.scheme_data.specs.declared.datum.LimitKind.TheVariants as limit

-- Reading -------------------------------------------------------------------------------

pub data Frame : Type 0 where
  open_list : Place → List Form → Frame
  after_quote : Place → Frame

abbrev pub forms_back : List Form → Forms → Forms
forms_back [] ds = ds
forms_back (d ∷ es) ds = forms_back es (next d ds)

abbrev pub with_datum : Form → List Frame → List Frame
with_datum d [] = []
with_datum d (open_list p ds ∷ fs) = open_list p (d ∷ ds) ∷ fs
with_datum d (after_quote p ∷ fs) = with_datum (listed p (next (symbol p (codes "quote") 0) (next d end))) fs

abbrev pub closed : List Frame → List Frame
closed [] = []
closed (open_list p ds ∷ fs) = with_datum (listed p (forms_back ds end)) fs
closed (after_quote p ∷ fs) = fs

abbrev pub all_digits : List ℕ → Bool
all_digits [] = true
all_digits (b ∷ bs) = is_digit b && all_digits bs

abbrev pub value_of : ℕ → List ℕ → ℕ
value_of n [] = n
value_of n (b ∷ bs) = value_of (n * 10 + (b - 48)) bs

abbrev pub backwards : List ℕ → List ℕ → List ℕ
backwards [] bs = bs
backwards (a ∷ firsts) bs = backwards firsts (a ∷ bs)

abbrev pub word_form : Place → List ℕ → Form
word_form p x =
    if is_same x (codes "#t") then atom p (truth true) else (if is_same x (codes "#f") then atom p (truth false)
    else (if all_digits x then atom p (number (pos (value_of 0 x))) else symbol p x 0))

-- a token, its last byte first
abbrev pub with_token : Place → List ℕ → List Frame → List Frame
with_token p [] fs = fs
with_token p (b ∷ bs) fs = with_datum (word_form p (backwards (b ∷ bs) [])) fs

abbrev pub place : ℕ → ℕ → Place
place line column = record { line = line; column = column }

pub data Sign : Type 0 where
  opens : Sign
  closes : Sign
  quotes : Sign
  blank : Sign
  ends_line : Sign
  letter : Sign

abbrev pub sign_of : ℕ → Sign
sign_of b = if nat_eq b 40 then opens else (if nat_eq b 41 then closes else (if nat_eq b 39 then quotes else (if nat_eq b 32 then blank else (if nat_eq b 10 then ends_line else letter))))

-- where the token begins, and its bytes so far
abbrev pub token_place : ℕ → ℕ → List ℕ → Place → Place
token_place line column [] p = place line column
token_place line column (b ∷ bs) p = p

abbrev pub bottom : List Frame → Forms
bottom [] = end
bottom (open_list p ds ∷ fs) = forms_back ds end
bottom (after_quote p ∷ fs) = bottom fs

pub record Reader : Type 0 where
  pub line : ℕ
  pub column : ℕ
  -- where the token begins, and its bytes so far, the last first
  pub at : Place
  pub token : List ℕ
  pub frames : List Frame

abbrev pub flushed : Reader → List Frame
flushed r = with_token r.at r.token r.frames

abbrev pub on : Reader → List Frame → Reader
on r fs = record { line = r.line; column = r.column + 1; at = r.at; token = []; frames = fs }

abbrev pub after : Reader → ℕ → Sign → Reader
after r b opens = on r (open_list (place r.line r.column) [] ∷ flushed r)
after r b closes = on r (closed (flushed r))
after r b quotes = on r (after_quote (place r.line r.column) ∷ flushed r)
after r b blank = on r (flushed r)
after r b ends_line = record { line = r.line + 1; column = 1; at = r.at; token = []; frames = flushed r }
after r b letter = record { line = r.line; column = r.column + 1; at = token_place r.line r.column r.token r.at; token = b ∷ r.token; frames = r.frames }

abbrev pub reading : List ℕ → Reader → Forms
reading [] r = bottom (flushed r)
reading (b ∷ bs) r = reading bs (after r b (sign_of b))

abbrev pub source : List ℕ → Forms
source bs = reading bs (record { line = 1; column = 1; at = place 1 1; token = []; frames = open_list (place 1 1) [] ∷ [] })

-- Writing -------------------------------------------------------------------------------

abbrev pub spaced : List (List ℕ) → List ℕ
spaced [] = []
spaced (x ∷ []) = x
spaced (x ∷ y ∷ ys) = x ++ 32 ∷ spaced (y ∷ ys)

abbrev pub parens : List (List ℕ) → List ℕ
parens xs = 40 ∷ (spaced xs ++ 41 ∷ [])

-- with digits that compute
abbrev pub decimal : ℕ → List ℕ
decimal n = digits_onto 20 n []

-- a mark stands behind the name: `x~1` from the first expansion, `t^1` for the first new name
abbrev pub name_text : List ℕ → ℕ → List ℕ
name_text x m = if nat_eq m 0 then x else (if nat_le m 20000 then x ++ 126 ∷ decimal m else x ++ 94 ∷ decimal (m - 20000))

abbrev pub atom_text : Atom → List ℕ
atom_text (number (pos n)) = decimal n
atom_text (number (negsuc n)) = 45 ∷ decimal (suc n)
atom_text (character b) = 35 ∷ 92 ∷ b ∷ []
atom_text (truth true) = codes "#t"
atom_text (truth false) = codes "#f"
atom_text unspecified = codes "#unspecified"
atom_text (text s) = 34 ∷ (s ++ 34 ∷ [])

abbrev mutual
  pub form_text : Form → List ℕ
  form_text (atom p a) = atom_text a
  form_text (symbol p x m) = name_text x m
  form_text (listed p ds) = parens (form_texts ds)
  form_text (dotted p ds d) = parens (form_texts ds ++ codes "." ∷ form_text d ∷ [])
  form_text (vector p ds) = 35 ∷ parens (form_texts ds)

  pub form_texts : Forms → List (List ℕ)
  form_texts end = []
  form_texts (next d ds) = form_text d ∷ form_texts ds

abbrev pub typed_text : List ℕ → Option (List ℕ) → List ℕ
typed_text x None = x
typed_text x (Some t) = x ++ codes "::" ++ t

abbrev pub binder_text : Binder → List ℕ
binder_text b = typed_text (name_text b.name b.mark) b.ty

abbrev pub binder_texts : List Binder → List (List ℕ)
binder_texts [] = []
binder_texts (b ∷ bs) = binder_text b ∷ binder_texts bs

abbrev pub pairs : List Binder → List (List ℕ) → List (List ℕ)
pairs (b ∷ bs) (e ∷ es) = parens (binder_text b ∷ e ∷ []) ∷ pairs bs es
pairs _ _ = []

abbrev pub last_text : List (List ℕ) → List ℕ
last_text [] = []
last_text (x ∷ []) = x
last_text (x ∷ y ∷ ys) = last_text (y ∷ ys)

abbrev pub head_text : Head → List (List ℕ) → List ℕ
head_text (constant d) ts = form_text d
head_text (quoted d) ts = 39 ∷ form_text d
head_text (named x m) ts = name_text x m
head_text eqv ts = codes "%eqv?"
head_text (function xs) ts = parens (codes "lambda" ∷ parens (binder_texts xs) ∷ ts)
head_text branch ts = parens (codes "if" ∷ ts)
head_text (assigned x m) ts = parens (codes "set!" ∷ name_text x m ∷ ts)
head_text sequence ts = parens (codes "begin" ∷ ts)
head_text (binding xs) ts = parens (codes "let" ∷ parens (pairs xs ts) ∷ last_text ts ∷ [])
head_text (recursive xs) ts = parens (codes "letrec" ∷ parens (pairs xs ts) ∷ last_text ts ∷ [])
head_text (exit x) ts = parens (codes "bind-exit" ∷ parens (binder_text x ∷ []) ∷ ts)
head_text protected ts = parens (codes "unwind-protect" ∷ ts)
head_text call ts = parens ts

abbrev mutual
  pub tree_text : Tree → List ℕ
  tree_text (made at h ts) = head_text h (tree_texts ts)

  pub tree_texts : Trees → List (List ℕ)
  tree_texts leaf = []
  tree_texts (more t ts) = tree_text t ∷ tree_texts ts

abbrev pub sort_text : Sort → List ℕ
sort_text usual = codes "define"
sort_text inline = codes "define-inline"

abbrev pub top_text : TopTree → List ℕ
top_text (Syntax at x) = parens (codes "define-syntax" ∷ x ∷ [])
top_text (Defines sort x t) = parens (sort_text sort ∷ binder_text x ∷ tree_text t ∷ [])
top_text (Evaluates t) = tree_text t

abbrev pub tops_text : List TopTree → List (List ℕ)
tops_text [] = []
tops_text (t ∷ ts) = top_text t ∷ tops_text ts

abbrev pub place_text : Place → List ℕ
place_text p = decimal p.line ++ 58 ∷ decimal p.column

abbrev pub fault_text : ExpandErr → List ℕ
fault_text (fault.BadRules at) = codes "BadRules " ++ place_text at
fault_text (fault.NoRule at) = codes "NoRule " ++ place_text at
fault_text (fault.Form at) = codes "Form " ++ place_text at
fault_text (fault.Limit limit.Expansions) = codes "Expansions"
fault_text (fault.Limit limit.Filled) = codes "Filled"
fault_text (fault.Limit limit.Depth) = codes "Depth"
fault_text (fault.Limit limit.Bytes) = codes "Bytes"
fault_text fault.Memory = codes "Memory"

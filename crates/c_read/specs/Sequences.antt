-- Readers of tokens as functions: what is read from the front, with the tokens that are left; none where that can't be read.
use Rattle.std.specs.Prelude.{◌≡◌, ℕ, zero, suc, List, [], ◌∷◌, ◌++◌, length, nat_eq, Bool, false, if◌then◌else◌, Option, Some, None, Result, Ok, Err}
use Rattle.std.specs.Borrow.{Bor}
use Rattle.scheme_data.specs.Names.{is_same}
use Rattle.c_tree.specs.Lexical.{Token, Word, Mark, Str, Bad}
use Rattle.c_read.specs.declared.stop.Stop.{Stop}
use Rattle.c_read.specs.declared.stop.Stop.TheVariants.{Wrong, Memory}

abbrev pub front : {X : Type 0} → List X → Option X
front [] = None
front (x ∷ xs) = Some x

-- what is read next, from what is left
abbrev pub after : {X Y : Type 0} → Option (X × List Token) → (X → List Token → Option Y) → Option Y
after None next = None
after (Some r) next = next r.0 r.1

abbrev pub on_rest : {Y : Type 0} → Option (List Token) → (List Token → Option Y) → Option Y
on_rest None next = None
on_rest (Some rest) next = next rest

abbrev pub read_as : {X : Type 0} → Option X → List Token → Option (X × List Token)
read_as None rest = None
read_as (Some x) rest = Some (x, rest)

abbrev pub if_else : {X Y : Type 0} → Option X → (X → Y) → Y → Y
if_else None found other = other
if_else (Some x) found other = found x

abbrev pub is_that_mark : ℕ → Token → Bool
is_that_mark mark (Mark m) = nat_eq m mark
is_that_mark mark (Word w) = false
is_that_mark mark (Str text) = false
is_that_mark mark Bad = false

abbrev pub word_of : Token → Option (List ℕ)
word_of (Word w) = Some w
word_of (Mark m) = None
word_of (Str text) = None
word_of Bad = None

abbrev pub after_mark : ℕ → List Token → Option (List Token)
after_mark mark [] = None
after_mark mark (t ∷ rest) = if is_that_mark mark t then Some rest else None

abbrev pub is_mark_first : ℕ → List Token → Bool
is_mark_first mark [] = false
is_mark_first mark (t ∷ rest) = is_that_mark mark t

abbrev pub word_first : List Token → Option (List ℕ × List Token)
word_first [] = None
word_first (t ∷ rest) = read_as (word_of t) rest

abbrev pub first_word : List Token → Option (List ℕ)
first_word [] = None
first_word (t ∷ rest) = word_of t

-- whether a word is next that a test allows
abbrev pub is_first : (List ℕ → Bool) → List Token → Bool
is_first allowed tokens = if_else (first_word tokens) allowed false

-- this very word
abbrev pub after_text : List ℕ → List Token → Option (List Token)
after_text text tokens = after (word_first tokens) (λ w rest. if is_same w text then Some rest else None)

-- a word that a test allows
abbrev pub named : (List ℕ → Bool) → List Token → Option (List ℕ × List Token)
named allowed tokens = after (word_first tokens) (λ w rest. if allowed w then Some (w, rest) else None)

abbrev pub onto : {X : Type 0} → List X → Option (List X × List Token) → Option (List X × List Token)
onto xs None = None
onto xs (Some r) = Some (xs ++ r.0, r.1)

-- things until the end, at most so many
unfoldable pub many : {X : Type 0} → (List Token → Option (X × List Token)) → (List Token → Option (List Token)) → ℕ → List Token → Option (List X × List Token)
many one end zero tokens = None
many one end (suc most) tokens =
    if_else (end tokens) (λ left. Some ([], left)) (after (one tokens) (λ x rest. onto (x ∷ []) (many one end most rest)))

-- things until the end
unfoldable pub all : {X : Type 0} → (List Token → Option (X × List Token)) → (List Token → Option (List Token)) → List Token → Option (List X × List Token)
all one end tokens = many one end (suc (length tokens)) tokens

-- what code that takes tokens off answers
abbrev pub Took : {X : Type 0} → Option (X × List Token) → Result X Stop → List Token → Type 0
Took read (Ok x) left = read ≡ Some (x, left)
Took read (Err Wrong) left = read ≡ None
Took read (Err Memory) left = Unit {0}

-- the value of what is lent
abbrev pub lent : Bor (List ℕ) → List ℕ
lent bytes = bytes.now

-- what code answers that finds what a word is
abbrev pub Finds : {X : Type 0} → Option X → Result X Stop → Type 0
Finds found (Ok x) = found ≡ Some x
Finds found (Err Wrong) = found ≡ None
Finds found (Err Memory) = Unit {0}

-- the same, where what is read is a view of what is answered
abbrev pub TookAs : {X Y : Type 0} → (Y → X) → Option (X × List Token) → Result Y Stop → List Token → Type 0
TookAs view read (Ok y) left = read ≡ Some (view y, left)
TookAs view read (Err Wrong) left = read ≡ None
TookAs view read (Err Memory) left = Unit {0}

abbrev pub Skipped : {X : Type 0} → Option (List Token) → Result X Stop → List Token → Type 0
Skipped read (Ok x) left = read ≡ Some left
Skipped read (Err Wrong) left = read ≡ None
Skipped read (Err Memory) left = Unit {0}

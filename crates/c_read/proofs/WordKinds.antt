-- What each word of a kind is, and which kind each word is of.
use Rattle.std.proofs.Common.{◌≡◌, ℕ, List, [], ◌∷◌, Bool, true, false, if◌then◌else◌, Option, Some, None, find, cond, codes, refl, sym, ap, subst, ◌∙◌, ℤ}
use Rattle.std.specs.Prelude.{not, nat_eq, ◌||◌}
use Rattle.std.specs.Option.{is_some}
use Rattle.std.proofs.lemmas.Slice.Eq.{bytes_eq-Decides}
use Rattle.scheme_data.specs.Names.{is_same}
use Rattle.scheme_data.specs.Decimal.{number_text}
use Rattle.scheme_data.specs.Fixnum.{IsFixnum}
use Rattle.c_tree.specs.declared.op.Op.{Op}
use Rattle.c_tree.specs.Operations.{op_text, op_named}
use Rattle.c_tree.proofs.OpNames.{every_operation, op_named-is, op_named-op_text}
use Rattle.c_tree.specs.Names.{is_function_name, is_variable_name, is_entry_name, is_global_name, is_symbol_name, is_local_name, is_label_name, is_end_label_name, is_module_function, is_maker_name, is_initializer_name}
use Rattle.c_tree.specs.Spelling.{type_text}
use Rattle.c_words.specs.declared.kind.WordKind.{WordKind}
use Rattle.c_words.specs.declared.kind.WordKind.TheVariants as word
use Rattle.c_words.specs.Words.{number_of}
use Rattle.c_words.specs.Kinds.{Reserved, reserved, is_reserved, by_operation, by_reserved, fixed_kind, by_number, begins_low, word_kind}
use Rattle.c_words.proofs.WordNumbers.{number_is, number_back}
use Rattle.c_read.proofs.Numbers.{low_number}
use Rattle.c_read.proofs.Heads.{low_begins, group_of, label_group, end_label_group, symbol_group, global_group, function_group, entry_group, low_group, no_local, no_label, no_end_label, no_symbol, no_global, no_entry, no_function}

-- Back from a kind --------------------------------------------------------------------------

abbrev pub WordOf : WordKind → List ℕ → Type 0
WordOf (word.Type t) w = w ≡ type_text t
WordOf word.Void w = w ≡ codes "void"
WordOf word.Extern w = w ≡ codes "extern"
WordOf word.Return w = w ≡ codes "return"
WordOf word.If w = w ≡ codes "if"
WordOf word.Else w = w ≡ codes "else"
WordOf word.For w = w ≡ codes "for"
WordOf word.Goto w = w ≡ codes "goto"
WordOf word.Catch w = w ≡ codes "BGL_CATCH"
WordOf word.Protect w = w ≡ codes "BGL_PROTECT"
WordOf word.False w = w ≡ codes "BGL_FALSE"
WordOf word.True w = w ≡ codes "BGL_TRUE"
WordOf word.Nil w = w ≡ codes "BGL_NIL"
WordOf word.Unspec w = w ≡ codes "BGL_UNSPEC"
WordOf word.Eof w = w ≡ codes "BGL_EOF"
WordOf word.Local w = is_local_name w ≡ true
WordOf word.Label w = is_label_name w ≡ true
WordOf word.EndLabel w = is_end_label_name w ≡ true
WordOf word.Symbol w = is_symbol_name w ≡ true
WordOf word.Global w = is_global_name w ≡ true
WordOf word.Entry w = is_entry_name w ≡ true
WordOf word.Function w = is_function_name w ≡ true
WordOf (word.Number n) w = IsFixnum n × (number_text n ≡ w)
WordOf (word.Operation op) w = w ≡ op_text op
WordOf word.Other w = Unit {0}

-- the first that holds
chosen : (w : List ℕ) (b : Bool) (k rest : WordKind) → (b ≡ true → WordOf k w) → WordOf rest w → WordOf (if b then k else rest) w
chosen w true k rest here there = here refl
chosen w false k rest here there = there

-- each reserved word is of its kind
Every : List Reserved → Type 0
Every [] = Unit {0}
Every (r ∷ rs) = WordOf r.kind r.word × Every rs

every_reserved : Every reserved
unfolding Every is_function_name is_module_function is_entry_name is_maker_name is_initializer_name
every_reserved = (refl, (refl, (refl, (refl, (refl, (refl, (refl, (refl, (refl, (refl, (refl, (refl, (refl, (refl, (refl, (refl, (refl, (refl, (refl, tt)))))))))))))))))))

of_reserved : (w : List ℕ) (x : WordKind) (rs : List Reserved) → Every rs → WordOf x w → WordOf (by_reserved (find (is_reserved w) rs) x) w
unfolding Every
of_reserved w x [] each other = other
of_reserved w x (r ∷ rs) each other = go (is_same w r.word) refl (of_reserved w x rs each.1 other)
  where
    go : (b : Bool) → is_same w r.word ≡ b → WordOf (by_reserved (find (is_reserved w) rs) x) w → WordOf (by_reserved (cond b (Some r) (find (is_reserved w) rs)) x) w
    go true e later = subst (WordOf r.kind) (sym ((bytes_eq-Decides w r.word).0 e)) each.0
    go false e later = later

of_operation : (w : List ℕ) → WordOf (by_operation (op_named w)) w
of_operation w = go (op_named w) refl
  where
    go : (o : Option Op) → op_named w ≡ o → WordOf (by_operation o) w
    go None e = tt
    go (Some op) e = op_named-is w op e

of_number : (w : List ℕ) → WordOf (by_number (number_of w)) w
of_number w = go (number_of w) refl
  where
    go : (o : Option ℤ) → number_of w ≡ o → WordOf (by_number o) w
    go None e = tt
    go (Some n) e = let s = number_back w n e in (s.fits, s.text)

of_fixed : (w : List ℕ) → WordOf (fixed_kind w) w
unfolding fixed_kind
of_fixed w = of_reserved w (by_operation (op_named w)) reserved every_reserved (of_operation w)

pub word_of : (w : List ℕ) → WordOf (word_kind w) w
unfolding word_kind
word_of w =
    chosen w (is_local_name w) word.Local _ (λ e. e)
    (chosen w (is_label_name w) word.Label _ (λ e. e)
    (chosen w (is_end_label_name w) word.EndLabel _ (λ e. e)
    (chosen w (is_symbol_name w) word.Symbol _ (λ e. e)
    (chosen w (is_global_name w) word.Global _ (λ e. e)
    (chosen w (is_entry_name w) word.Entry _ (λ e. e)
    (chosen w (is_function_name w) word.Function _ (λ e. e)
    (either_low (begins_low w))))))))
  where
    either_low : (b : Bool) → WordOf (if b then by_number (number_of w) else fixed_kind w) w
    either_low true = of_number w
    either_low false = of_fixed w

-- Forward to a kind -------------------------------------------------------------------------

choose : (b : Bool) (k rest : WordKind) → b ≡ true → (if b then k else rest) ≡ k
choose b k rest e = ap (λ b. if b then k else rest) e

pass : (b : Bool) (k rest goal : WordKind) → b ≡ false → rest ≡ goal → (if b then k else rest) ≡ goal
pass b k rest goal e r = ap (λ b. if b then k else rest) e ∙ r

pub local_word : (w : List ℕ) → is_local_name w ≡ true → word_kind w ≡ word.Local
unfolding word_kind
local_word w e = choose (is_local_name w) word.Local _ e

pub label_word : (w : List ℕ) → is_label_name w ≡ true → word_kind w ≡ word.Label
unfolding word_kind
label_word w e =
    let g = label_group w e in
    pass (is_local_name w) word.Local _ word.Label (no_local w 2 g refl) (choose (is_label_name w) word.Label _ e)

pub end_label_word : (w : List ℕ) → is_end_label_name w ≡ true → word_kind w ≡ word.EndLabel
unfolding word_kind
end_label_word w e =
    let g = end_label_group w e in
    pass (is_local_name w) word.Local _ word.EndLabel (no_local w 3 g refl)
    (pass (is_label_name w) word.Label _ word.EndLabel (no_label w 3 g refl) (choose (is_end_label_name w) word.EndLabel _ e))

-- a word of a later group is none of the first
past_labels : (w : List ℕ) (n : ℕ) (rest goal : WordKind) → group_of w ≡ n → nat_eq n 1 ≡ false → nat_eq n 2 ≡ false → nat_eq n 3 ≡ false → rest ≡ goal
    → (if is_local_name w then word.Local else (if is_label_name w then word.Label else (if is_end_label_name w then word.EndLabel else rest))) ≡ goal
past_labels w n rest goal g a b c r =
    pass (is_local_name w) word.Local _ goal (no_local w n g a)
    (pass (is_label_name w) word.Label _ goal (no_label w n g b) (pass (is_end_label_name w) word.EndLabel rest goal (no_end_label w n g c) r))

pub symbol_word : (w : List ℕ) → is_symbol_name w ≡ true → word_kind w ≡ word.Symbol
unfolding word_kind
symbol_word w e = past_labels w 4 _ word.Symbol (symbol_group w e) refl refl refl (choose (is_symbol_name w) word.Symbol _ e)

pub global_word : (w : List ℕ) → is_global_name w ≡ true → word_kind w ≡ word.Global
unfolding word_kind
global_word w e =
    let g = global_group w e in
    past_labels w 5 _ word.Global g refl refl refl
    (pass (is_symbol_name w) word.Symbol _ word.Global (no_symbol w 5 g refl) (choose (is_global_name w) word.Global _ e))

pub entry_word : (w : List ℕ) → is_entry_name w ≡ true → word_kind w ≡ word.Entry
unfolding word_kind
entry_word w e =
    let g = entry_group w e in
    past_labels w 6 _ word.Entry g refl refl refl
    (pass (is_symbol_name w) word.Symbol _ word.Entry (no_symbol w 6 g refl)
    (pass (is_global_name w) word.Global _ word.Entry (no_global w 6 g refl) (choose (is_entry_name w) word.Entry _ e)))

-- of no entry
pub function_word : (w : List ℕ) → is_function_name w ≡ true → is_entry_name w ≡ false → word_kind w ≡ word.Function
unfolding word_kind
function_word w e n =
    let g = function_group w e in
    past_labels w 6 _ word.Function g refl refl refl
    (pass (is_symbol_name w) word.Symbol _ word.Function (no_symbol w 6 g refl)
    (pass (is_global_name w) word.Global _ word.Function (no_global w 6 g refl)
    (pass (is_entry_name w) word.Entry _ word.Function n (choose (is_function_name w) word.Function _ e))))

-- past all names
past_names : (w : List ℕ) (rest goal : WordKind) → group_of w ≡ 0 → rest ≡ goal
    → (if is_local_name w then word.Local else (if is_label_name w then word.Label else (if is_end_label_name w then word.EndLabel else (if is_symbol_name w then word.Symbol else (if is_global_name w then word.Global
    else (if is_entry_name w then word.Entry else (if is_function_name w then word.Function else rest))))))) ≡ goal
past_names w rest goal g r =
    past_labels w 0 _ goal g refl refl refl
    (pass (is_symbol_name w) word.Symbol _ goal (no_symbol w 0 g refl)
    (pass (is_global_name w) word.Global _ goal (no_global w 0 g refl)
    (pass (is_entry_name w) word.Entry _ goal (no_entry w 0 g refl) (pass (is_function_name w) word.Function rest goal (no_function w 0 g refl) r))))

pub number_word : (n : ℤ) → IsFixnum n → word_kind (number_text n) ≡ word.Number n
unfolding word_kind
number_word n fits =
    let w = number_text n in
    let low = low_number n in
    past_names w _ (word.Number n) (low_group w low)
    (ap (λ b. if b then by_number (number_of w) else fixed_kind w) (low_begins w low) ∙ ap by_number (number_is w n fits refl))

-- no operation's text is a name, a number or a reserved word
is_fixed : List ℕ → Bool
is_fixed w = not (is_local_name w || (is_label_name w || (is_end_label_name w || (is_symbol_name w || (is_global_name w || (is_entry_name w || (is_function_name w || (begins_low w || is_some (find (is_reserved w) reserved)))))))))

operations_fixed : (op : Op) → is_fixed (op_text op) ≡ true
unfolding is_fixed is_local_name is_label_name is_end_label_name is_symbol_name is_global_name is_entry_name is_function_name is_module_function is_maker_name is_initializer_name
operations_fixed op = every_operation (λ o. is_fixed (op_text o)) refl op

fixed_word : (w : List ℕ) → is_fixed w ≡ true → word_kind w ≡ by_operation (op_named w)
unfolding is_fixed word_kind fixed_kind
fixed_word w = go (is_local_name w) (is_label_name w) (is_end_label_name w) (is_symbol_name w) (is_global_name w) (is_entry_name w) (is_function_name w) (begins_low w) (find (is_reserved w) reserved)
  where
    go : (a b c d e f g h : Bool) (o : Option Reserved) → not (a || (b || (c || (d || (e || (f || (g || (h || is_some o)))))))) ≡ true
        → (if a then word.Local else (if b then word.Label else (if c then word.EndLabel else (if d then word.Symbol else (if e then word.Global else (if f then word.Entry else (if g then word.Function
        else (if h then by_number (number_of w) else by_reserved o (by_operation (op_named w)))))))))) ≡ by_operation (op_named w)
    go true b c d e f g h o q = absurd (cc)
    go false true c d e f g h o q = absurd (cc)
    go false false true d e f g h o q = absurd (cc)
    go false false false true e f g h o q = absurd (cc)
    go false false false false true f g h o q = absurd (cc)
    go false false false false false true g h o q = absurd (cc)
    go false false false false false false true h o q = absurd (cc)
    go false false false false false false false true o q = absurd (cc)
    go false false false false false false false false None q = refl
    go false false false false false false false false (Some r) q = absurd (cc)

pub operation_word : (op : Op) → word_kind (op_text op) ≡ word.Operation op
operation_word op = fixed_word (op_text op) (operations_fixed op) ∙ ap by_operation (op_named-op_text op)

-- a variable's name, and a function's

pub data VariableWord : WordKind → Type 0 where
  a_local : VariableWord word.Local
  a_global : VariableWord word.Global

pub variable_word : (w : List ℕ) → is_variable_name w ≡ true → VariableWord (word_kind w)
unfolding is_variable_name
variable_word w e = go (is_local_name w) refl e
  where
    go : (b : Bool) → is_local_name w ≡ b → (b || is_global_name w) ≡ true → VariableWord (word_kind w)
    go true l e = subst VariableWord (sym (local_word w l)) a_local
    go false l e = subst VariableWord (sym (global_word w e)) a_global

pub data FunctionWord : WordKind → Type 0 where
  an_entry : FunctionWord word.Entry
  a_function : FunctionWord word.Function

pub any_function_word : (w : List ℕ) → is_function_name w ≡ true → FunctionWord (word_kind w)
any_function_word w e = go (is_entry_name w) refl
  where
    go : (b : Bool) → is_entry_name w ≡ b → FunctionWord (word_kind w)
    go true n = subst FunctionWord (sym (entry_word w n)) an_entry
    go false n = subst FunctionWord (sym (function_word w e n)) a_function

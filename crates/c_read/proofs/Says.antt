-- Which words say something, by their kinds.
use Rattle.std.proofs.Common.{◌≡◌, ℕ, List, Bool, true, false, codes, refl, sym, ap, ◌∙◌, subst}
use Rattle.std.specs.Prelude.{◌||◌, IsTrue}
use Rattle.std.proofs.lemmas.Slice.Eq.{bytes_eq-Decides}
use Rattle.scheme_data.specs.Names.{is_same}
use Rattle.c_tree.specs.Lexical.{Token, Word}
use Rattle.c_tree.specs.Names.{is_local_name, is_label_name, is_end_label_name, is_global_name, is_entry_name, is_function_name, is_variable_name, is_target_name}
use Rattle.c_read.specs.declared.kinds.Kind.{Kind}
use Rattle.c_read.specs.declared.kinds.Kind.TheVariants as kind
use Rattle.c_read.specs.Kinds.{same_kind, kind_of}
use Rattle.c_read.proofs.Classes.{entry_is_function}
use Rattle.c_read.proofs.TokenKinds.{same_kind_is, kind_is_same, NameToken, TokenOf, means, local_kind, label_kind, end_label_kind, global_kind, entry_kind, FunctionKind, f_entry, f_other, function_kind, void_kind, extern_kind, return_kind, if_kind, else_kind, for_kind, goto_kind, catch_kind, protect_kind}

-- a test that holds exactly of the words of a kind
tells : (f : List ℕ → Bool) (k : Kind) (w : List ℕ) → (f w ≡ true → kind_of w ≡ k) → (kind_of w ≡ k → f w ≡ true) → same_kind (kind_of w) k ≡ f w
tells f k w there back = go (same_kind (kind_of w) k) (f w) refl refl
  where
    go : (a b : Bool) → same_kind (kind_of w) k ≡ a → f w ≡ b → a ≡ b
    go true true p q = refl
    go false false p q = refl
    go true false p q = sym (back (same_kind_is (kind_of w) k p)) ∙ q
    go false true p q = sym p ∙ ap (λ j. same_kind j k) (there q) ∙ kind_is_same k

token : (k : Kind) (w : List ℕ) → kind_of w ≡ k → TokenOf k (Word w)
token k w e = subst (λ j. TokenOf j (Word w)) e (means (Word w))

word_in : Token → List ℕ
word_in (Word w) = w
word_in _ = codes ""

-- Words of the language

reserved : (text : List ℕ) (k : Kind) → kind_of text ≡ k → (TokenOf k ≡ (λ t. t ≡ Word text)) → (w : List ℕ) → same_kind (kind_of w) k ≡ is_same w text
reserved text k is of w =
    tells (λ v. is_same v text) k w
    (λ e. ap kind_of ((bytes_eq-Decides w text).0 e) ∙ is)
    (λ e. let t : Word w ≡ Word text = subst (λ (P : Token → Type 0). P (Word w)) of (token k w e) in (bytes_eq-Decides w text).1 (cc t))

pub says_void : (w : List ℕ) → same_kind (kind_of w) kind.Void ≡ is_same w (codes "void")
says_void w = reserved (codes "void") kind.Void void_kind refl w

pub says_extern : (w : List ℕ) → same_kind (kind_of w) kind.Extern ≡ is_same w (codes "extern")
says_extern w = reserved (codes "extern") kind.Extern extern_kind refl w

pub says_return : (w : List ℕ) → same_kind (kind_of w) kind.Return ≡ is_same w (codes "return")
says_return w = reserved (codes "return") kind.Return return_kind refl w

pub says_if : (w : List ℕ) → same_kind (kind_of w) kind.If ≡ is_same w (codes "if")
says_if w = reserved (codes "if") kind.If if_kind refl w

pub says_else : (w : List ℕ) → same_kind (kind_of w) kind.Else ≡ is_same w (codes "else")
says_else w = reserved (codes "else") kind.Else else_kind refl w

pub says_for : (w : List ℕ) → same_kind (kind_of w) kind.For ≡ is_same w (codes "for")
says_for w = reserved (codes "for") kind.For for_kind refl w

pub says_goto : (w : List ℕ) → same_kind (kind_of w) kind.Goto ≡ is_same w (codes "goto")
says_goto w = reserved (codes "goto") kind.Goto goto_kind refl w

pub says_catch : (w : List ℕ) → same_kind (kind_of w) kind.Catch ≡ is_same w (codes "BGL_CATCH")
says_catch w = reserved (codes "BGL_CATCH") kind.Catch catch_kind refl w

pub says_protect : (w : List ℕ) → same_kind (kind_of w) kind.Protect ≡ is_same w (codes "BGL_PROTECT")
says_protect w = reserved (codes "BGL_PROTECT") kind.Protect protect_kind refl w

-- Names

name : (f : List ℕ → Bool) (w : List ℕ) → NameToken f (Word w) → f w ≡ true
name f w t = let same : t.name ≡ w = cc (sym t.is) in ap f (sym same) ∙ t.named

pub names_local : (w : List ℕ) → same_kind (kind_of w) kind.Local ≡ is_local_name w
names_local w = tells is_local_name kind.Local w (local_kind w) (λ e. name is_local_name w (token kind.Local w e))

pub names_label : (w : List ℕ) → same_kind (kind_of w) kind.Label ≡ is_label_name w
names_label w = tells is_label_name kind.Label w (label_kind w) (λ e. name is_label_name w (token kind.Label w e))

pub names_end_label : (w : List ℕ) → same_kind (kind_of w) kind.EndLabel ≡ is_end_label_name w
names_end_label w = tells is_end_label_name kind.EndLabel w (end_label_kind w) (λ e. name is_end_label_name w (token kind.EndLabel w e))

pub names_global : (w : List ℕ) → same_kind (kind_of w) kind.Global ≡ is_global_name w
names_global w = tells is_global_name kind.Global w (global_kind w) (λ e. name is_global_name w (token kind.Global w e))

pub names_entry : (w : List ℕ) → same_kind (kind_of w) kind.Entry ≡ is_entry_name w
names_entry w = tells is_entry_name kind.Entry w (entry_kind w) (λ e. name is_entry_name w (token kind.Entry w e))

pub names_function : (w : List ℕ) → (same_kind (kind_of w) kind.Entry || same_kind (kind_of w) kind.Function) ≡ is_function_name w
names_function w = go (is_function_name w) refl
  where
    either : (a b : Bool) → (a ≡ true → is_function_name w ≡ true) → (b ≡ true → is_function_name w ≡ true) → is_function_name w ≡ false → (a || b) ≡ false
    either true b one other none = sym (one refl) ∙ none
    either false true one other none = sym (other refl) ∙ none
    either false false one other none = refl

    some : {k : Kind} → FunctionKind k → (same_kind k kind.Entry || same_kind k kind.Function) ≡ true
    some f_entry = refl
    some f_other = refl

    go : (b : Bool) → is_function_name w ≡ b → (same_kind (kind_of w) kind.Entry || same_kind (kind_of w) kind.Function) ≡ b
    go true e = some (function_kind w e)
    go false e =
        either (same_kind (kind_of w) kind.Entry) (same_kind (kind_of w) kind.Function)
        (λ p. entry_is_function w (sym (names_entry w) ∙ p))
        (λ p. name is_function_name w (token kind.Function w (same_kind_is (kind_of w) kind.Function p)))
        e

pub names_variable : (w : List ℕ) → (same_kind (kind_of w) kind.Local || same_kind (kind_of w) kind.Global) ≡ is_variable_name w
unfolding is_variable_name
names_variable w = (λ i. names_local w i || names_global w i)

pub names_target : (w : List ℕ) → (same_kind (kind_of w) kind.Label || same_kind (kind_of w) kind.EndLabel) ≡ is_target_name w
unfolding is_target_name
names_target w = (λ i. names_label w i || names_end_label w i)

-- what code answers that asks the kind
pub told : (f : List ℕ → Bool) (k j : Kind) (w : List ℕ) (r : Bool) → r ≡ same_kind j k → j ≡ kind_of w → same_kind (kind_of w) k ≡ f w → r ≡ f w
told f k j w r e is tells = e ∙ ap (λ i. same_kind i k) is ∙ tells

pub said : (w text : List ℕ) (r : Bool) → r ≡ is_same w text → IsTrue r → w ≡ text
said w text r e holds = (bytes_eq-Decides w text).0 (sym e ∙ holds)

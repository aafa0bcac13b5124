-- The arguments of a call, one after another.
use Rattle.std.proofs.Common.{◌≡◌, ℕ, ◌+◌, ◌≤◌, ◌<◌, Bool, true, false, List, [], ◌∷◌, ◌++◌, length, drop, get_or, slice_get, nat_le, Option, Some, None, is_some, refl, sym, ap, ◌∙◌, arith, inl, inr, ◌⊎◌}
use Rattle.std.proofs.lemmas.Bool.Decides.{nat_tests}
use Rattle.std.proofs.lemmas.List.{drop_all}
use Rattle.std.proofs.lemmas.List.Folds.{find-append}
use Rattle.std.proofs.lemmas.Option.{slice_get_cases}
use Rattle.std.specs.Option.{option_or}
use Rattle.scheme_data.specs.Names.{is_same}
use Rattle.c_tree.specs.declared.op.Wants.{Wants}
use Rattle.c_tree.specs.Operations.{or_more}
use Rattle.c_tree.specs.declared.tree.CArg.{CArg}
use Rattle.c_tree.specs.declared.tree.CTy.{CTy}
use Rattle.c_tree.specs.declared.tree.CVar.{CVar}
use Rattle.c_meaning.specs.declared.breach.BadCause.{BadCause}
use Rattle.c_meaning.specs.declared.breach.BadCause.TheVariants.{Types}
use Rattle.c_meaning.specs.Plain.{variable_named}
use Rattle.c_meaning.specs.Breaches.{Scope, unless, type_of, argument_breaches, arguments_breaches}
use Rattle.c_check.specs.Firsts.{first}
use Rattle.c_check.proofs.Firsts.{first_here, first_behind}
use Rattle.c_check.proofs.Rest.{rest_of}

-- a local, or else a global
pub found_in : (r a b : Option CTy) (vs gs : List CVar) (x : List ℕ) → r ≡ option_or a b → a ≡ type_of (variable_named vs x) → b ≡ type_of (variable_named gs x) → r ≡ type_of (variable_named (vs ++ gs) x)
found_in r a b vs gs x is here there =
    is ∙ (λ i. option_or (here i) (there i)) ∙ either (variable_named vs x) (variable_named gs x) ∙ ap type_of (sym (find-append (λ v. is_same v.name x) vs gs))
  where
    either : (v w : Option CVar) → option_or (type_of v) (type_of w) ≡ type_of (option_or v w)
    either None w = refl
    either (Some v) w = refl

module _ (s : Scope) (ws : List Wants) (more : Bool) (args : List CArg) where
  abbrev pub ArgumentsFrom : ℕ → Type 0
  ArgumentsFrom i = first (arguments_breaches s ws more args) ≡ first (arguments_breaches s (drop i ws) more (drop i args))

  here : (i : ℕ) (a : CArg) → drop i args ≡ a ∷ drop (i + 1) args
      → arguments_breaches s (drop i ws) more (drop i args) ≡ argument_breaches s (or_more more (slice_get ws i)) a ++ arguments_breaches s (drop (i + 1) ws) more (drop (i + 1) args)
  here i a at = ap (arguments_breaches s (drop i ws) more) at ∙ by (slice_get_cases ws i).1
    where
      by : (((w : Wants) × (i < length ws) × (slice_get ws i ≡ Some w) × (get_or ws i w ≡ w)) ⊎ ((length ws ≤ i) × (slice_get ws i ≡ None)))
          → arguments_breaches s (drop i ws) more (a ∷ drop (i + 1) args) ≡ argument_breaches s (or_more more (slice_get ws i)) a ++ arguments_breaches s (drop (i + 1) ws) more (drop (i + 1) args)
      by (inl (w, inside, is, same)) =
          ap (λ l. arguments_breaches s l more (a ∷ drop (i + 1) args)) (rest_of ws i w is)
          ∙ ap (λ o. argument_breaches s (or_more more o) a ++ arguments_breaches s (drop (i + 1) ws) more (drop (i + 1) args)) (sym is)
      by (inr (past, none)) =
          ap (λ l. arguments_breaches s l more (a ∷ drop (i + 1) args)) (drop_all i ws past)
          ∙ (λ j. argument_breaches s (or_more more (sym none j)) a ++ arguments_breaches s (sym (drop_all (i + 1) ws (omega arith)) j) more (drop (i + 1) args))

  module _ (i : ℕ) (so_far : ArgumentsFrom i) (a : CArg) (at : drop i args ≡ a ∷ drop (i + 1) args) (r : Option BadCause) (is : r ≡ first (argument_breaches s (or_more more (slice_get ws i)) a)) where
    pub argument_wrong : is_some r ≡ true → r ≡ first (arguments_breaches s ws more args)
    argument_wrong some =
        first_here (argument_breaches s (or_more more (slice_get ws i)) a) (arguments_breaches s (drop (i + 1) ws) more (drop (i + 1) args)) r is some
        ∙ sym (so_far ∙ ap first (here i a at))

    pub argument_right : is_some r ≡ false → ArgumentsFrom (i + 1)
    argument_right none =
        so_far ∙ ap first (here i a at)
        ∙ first_behind (argument_breaches s (or_more more (slice_get ws i)) a) (arguments_breaches s (drop (i + 1) ws) more (drop (i + 1) args)) r is none

  short : (n : ℕ) → first (arguments_breaches s (drop n ws) more []) ≡ first (unless Types (nat_le (length ws) n))
  short n = by (slice_get_cases ws n).1
    where
      by : (((w : Wants) × (n < length ws) × (slice_get ws n ≡ Some w) × (get_or ws n w ≡ w)) ⊎ ((length ws ≤ n) × (slice_get ws n ≡ None)))
          → first (arguments_breaches s (drop n ws) more []) ≡ first (unless Types (nat_le (length ws) n))
      by (inl (w, inside, is, same)) =
          let few : nat_le (length ws) n ≡ false = grind (arith, nat_tests) in
          ap (λ l. first (arguments_breaches s l more [])) (rest_of ws n w is) ∙ ap (λ b. first (unless Types b)) (sym few)
      by (inr (past, none)) =
          let enough : nat_le (length ws) n ≡ true = grind (arith, nat_tests) in
          ap (λ l. first (arguments_breaches s l more [])) (drop_all n ws past) ∙ ap (λ b. first (unless Types b)) (sym enough)

  pub arguments_end : (i : ℕ) → ArgumentsFrom i → i ≡ length args → first (unless Types (nat_le (length ws) (length args))) ≡ first (arguments_breaches s ws more args)
  arguments_end i so_far end =
      sym (so_far ∙ ap (λ l. first (arguments_breaches s (drop i ws) more l)) (drop_all i args (omega arith)) ∙ short i ∙ ap (λ n. first (unless Types (nat_le (length ws) n))) end)

-- The depths of blocks tell where a `goto` or a `return` may lead.
use Rattle.std.proofs.Common.{◌≡◌, ℕ, ◌+◌, ◌≤◌, Bool, true, false, ◌||◌, nat_eq, nat_lt, List, [], ◌∷◌, length, if◌then◌else◌, refl, ap, ◌∙◌, arith}
use Rattle.std.proofs.lemmas.Bool.Decides.{nat_tests}
use Rattle.std.specs.Map.{lookup}
use Rattle.std.specs.Cmp.Lexicographic.{nat_list_eq_equiv}
use Rattle.scheme_data.specs.Names.{is_same}
use Rattle.c_meaning.specs.Breaches.{may_go, may_return}
use Rattle.c_check.specs.Blocks.{opens_of, depth_of, label_depth, held_depth, AreDepths}
use Rattle.c_check.specs.declared.blocks.Kept.{Kept}
use Rattle.c_check.specs.declared.blocks.Kept.TheVariants as kept

held_most : (ks : List Kept) → held_depth ks ≤ length ks
held_most [] = omega arith
held_most (kept.Branch room ∷ ks) = omega (arith, held_most ks)
held_most (kept.Within l outer room ∷ ks) = omega (arith, held_most ks)
held_most (kept.Held outer room ∷ ks) = omega arith

label_most : (l : List ℕ) (ks : List Kept) → label_depth l ks ≤ length ks
label_most l [] = omega arith
label_most l (kept.Branch room ∷ ks) = omega (arith, label_most l ks)
label_most l (kept.Within m outer room ∷ ks) = by (is_same l m) (label_most l ks)
  where
    by : (b : Bool) → label_depth l ks ≤ length ks → (if b then length ks + 1 else label_depth l ks) ≤ length (kept.Within m outer room ∷ ks)
    by true most = omega arith
    by false most = omega arith
label_most l (kept.Held outer room ∷ ks) = omega (arith, label_most l ks)

over : (h n : ℕ) → h ≤ n → nat_lt h (n + 1) ≡ true
over h n most = grind (arith, nat_tests)

under : (n d : ℕ) → d ≤ n → nat_lt (n + 1) d ≡ false
under n d most = grind (arith, nat_tests)

some-depth : (n : ℕ) → nat_eq (n + 1) 0 ≡ false
some-depth n = grind (arith, nat_tests)

goes : (l : List ℕ) (ks : List Kept) → nat_lt (held_depth ks) (label_depth l ks) ≡ may_go (opens_of ks) l
goes l [] = refl
goes l (kept.Branch room ∷ ks) = goes l ks
goes l (kept.Within m outer room ∷ ks) =
    by (is_same l m) (goes l ks) ∙ ap (λ b. b || may_go (opens_of ks) l) (nat_list_eq_equiv.symm l m)
  where
    by : (b : Bool) → nat_lt (held_depth ks) (label_depth l ks) ≡ may_go (opens_of ks) l → nat_lt (held_depth ks) (if b then length ks + 1 else label_depth l ks) ≡ (b || may_go (opens_of ks) l)
    by true rest = over (held_depth ks) (length ks) (held_most ks)
    by false rest = rest
goes l (kept.Held outer room ∷ ks) = under (length ks) (label_depth l ks) (label_most l ks)

returns-here : (ks : List Kept) → nat_eq (held_depth ks) 0 ≡ may_return (opens_of ks)
returns-here [] = refl
returns-here (kept.Branch room ∷ ks) = returns-here ks
returns-here (kept.Within l outer room ∷ ks) = returns-here ks
returns-here (kept.Held outer room ∷ ks) = some-depth (length ks)

module _ (depths : List (List ℕ × ℕ)) (held : ℕ) (ks : List Kept) (are : AreDepths depths held ks) where
  pub may_go_to : (l : List ℕ) → nat_lt held (depth_of (lookup (is_same l) depths)) ≡ may_go (opens_of ks) l
  may_go_to l = (λ i. nat_lt (are.innermost i) (are.labels l i)) ∙ goes l ks

  pub may_return_from : nat_eq held 0 ≡ may_return (opens_of ks)
  may_return_from = ap (λ h. nat_eq h 0) are.innermost ∙ returns-here ks

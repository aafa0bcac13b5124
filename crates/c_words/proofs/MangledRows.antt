-- Rows that are found by the mangling of their names.
use Rattle.std.proofs.Common.{◌≡◌, ℕ, ◌<◌, List, [], ◌∷◌, ◌++◌, false, Option, Some, None, refl, sym, ap, ◌∙◌}
use Rattle.c_tree.specs.Names.{is_alphanumeric, mangled_byte, onto_name, unmangled}
use Rattle.c_words.specs.Manglings.{begins_well}
use Rattle.c_words.specs.Search.{with_rest}
use Rattle.c_words.specs.Fixed.{with_name, with_mangling}
use Rattle.c_words.proofs.MangledWalks.{byte_read, none_read}

module _ {T : Type 0} (spelled : T → List ℕ) where
  -- over a byte of the name
  pub row_on : (old new : ℕ) (rows fewer : List T) (left rest : List ℕ) (b : ℕ) → b < 256 → left ≡ mangled_byte b ++ rest
      → ((name : List ℕ) → with_rest spelled new name fewer ≡ with_rest spelled old (b ∷ name) rows) → with_mangling spelled new rest fewer ≡ with_mangling spelled old left rows
  unfolding unmangled
  row_on old new rows fewer left rest b small is step =
      sym (ap (λ bs. with_mangling spelled old bs rows) is ∙ ap (λ o. with_name spelled old o rows) (byte_read b rest small (is_alphanumeric b) refl) ∙ sym (by (unmangled rest)))
    where
      by : (o : Option (List ℕ)) → with_name spelled new o fewer ≡ with_name spelled old (onto_name b o) rows
      by None = refl
      by (Some name) = step name

  pub row_at_end : (depth : ℕ) (rows : List T) (left : List ℕ) → left ≡ [] → with_rest spelled depth [] rows ≡ with_mangling spelled depth left rows
  unfolding unmangled
  row_at_end depth rows left is = sym (ap (λ bs. with_mangling spelled depth bs rows) is)

  pub no_row_at_cut : (depth : ℕ) (rows : List T) (left rest : List ℕ) → left ≡ 95 ∷ 95 ∷ rest → None ≡ with_mangling spelled depth left rows
  unfolding unmangled
  no_row_at_cut depth rows left rest is = sym (ap (λ bs. with_mangling spelled depth bs rows) is ∙ by rest)
    where
      by : (rest : List ℕ) → with_mangling spelled depth (95 ∷ 95 ∷ rest) rows ≡ None
      by [] = refl
      by (b ∷ bs) = refl

  pub no_row : (depth : ℕ) (rows : List T) (left : List ℕ) → begins_well left ≡ false → None ≡ with_mangling spelled depth left rows
  unfolding unmangled
  no_row depth rows left wrong = sym (ap (λ o. with_name spelled depth o rows) (none_read left wrong))

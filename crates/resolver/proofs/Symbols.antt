-- Lists of symbols whose names have no type, from the front.
use Rattle.std.proofs.Common.{◌≡◌, ℕ, ◌+◌, ◌<◌, ◌≤◌, true, false, List, length, drop, get_or, Option, Some, None, is_some, is_none, refl, sym, ap, ◌∙◌}
use Rattle.std.specs.Borrow.{Bor}
use Rattle.std.specs.Option.{option_copied}
use Rattle.std.proofs.lemmas.List.{drop_more, drop_all}
use Rattle.scheme_data.specs.Data.{plain, plain_all}
use Rattle.scheme_data.specs.declared.datum.Datum.{Datum}
use Rattle.resolver.specs.BuiltHeads.{onto, name_of, names_of}

abbrev AreNames : List Datum → ℕ → Type 0
AreNames ds i = is_some (names_of (plain_all ds)) ≡ is_some (names_of (plain_all (drop i ds)))

name_next : (ds : List Datum) (i : ℕ) (d : Datum) (o : Option (Bor (List ℕ))) → i < length ds → d ≡ get_or ds i d → AreNames ds i → option_copied o ≡ name_of (plain d)
    → is_some (names_of (plain_all ds)) ≡ is_some (onto (option_copied o) (names_of (plain_all (drop (i + 1) ds))))
name_next ds i d o l e h n =
    let rest = names_of (plain_all (drop (i + 1) ds)) in
    h ∙ ap (λ (ds : List Datum). is_some (names_of (plain_all ds))) (drop_more ds i d l)
    ∙ ap (λ (d : Datum). is_some (onto (name_of (plain d)) rest)) (sym e) ∙ ap (λ n. is_some (onto n rest)) (sym n)

onto_none : (o : Option (Bor (List ℕ))) (rest : Option (List (List ℕ))) → is_none o ≡ true → is_some (onto (option_copied o) rest) ≡ false
onto_none None rest e = refl
onto_none (Some x) rest e = absurd (cc)

onto_some : (o : Option (Bor (List ℕ))) (rest : Option (List (List ℕ))) → is_none o ≡ false → is_some (onto (option_copied o) rest) ≡ is_some rest
onto_some None rest e = absurd (cc)
onto_some (Some x) None e = refl
onto_some (Some x) (Some xs) e = refl

pub name_missing : (ds : List Datum) (i : ℕ) (d : Datum) (o : Option (Bor (List ℕ))) → i < length ds → d ≡ get_or ds i d → AreNames ds i → option_copied o ≡ name_of (plain d)
    → is_none o ≡ true → false ≡ is_some (names_of (plain_all ds))
name_missing ds i d o l e h n t = sym (name_next ds i d o l e h n ∙ onto_none o (names_of (plain_all (drop (i + 1) ds))) t)

pub name_there : (ds : List Datum) (i : ℕ) (d : Datum) (o : Option (Bor (List ℕ))) → i < length ds → d ≡ get_or ds i d → AreNames ds i → option_copied o ≡ name_of (plain d)
    → is_none o ≡ false → AreNames ds (i + 1)
name_there ds i d o l e h n t = name_next ds i d o l e h n ∙ onto_some o (names_of (plain_all (drop (i + 1) ds))) t

pub names_through : (ds : List Datum) (i : ℕ) → length ds ≤ i → AreNames ds i → true ≡ is_some (names_of (plain_all ds))
names_through ds i l h = sym (h ∙ ap (λ (ds : List Datum). is_some (names_of (plain_all ds))) (drop_all i ds l))

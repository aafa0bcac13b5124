-- A word that is taken as a name where a test allows it.
use Rattle.std.proofs.Common.{◌≡◌, ℕ, List, Bool, Some, None, if◌then◌else◌, sym, subst}
use Rattle.std.specs.Prelude.{Result}
use Rattle.c_tree.specs.Lexical.{Token}
use Rattle.c_read.specs.declared.stop.Stop.{Stop}
use Rattle.c_read.specs.Sequences.{after, word_first, named, Took}

pub name_read : (allowed : List ℕ → Bool) (old left : List Token) (w : List ℕ) (r : Result (List ℕ) Stop) (b : Bool) → word_first old ≡ Some (w, left) → b ≡ allowed w
    → ((rest : List Token) → Took (if b then Some (w, rest) else None) r rest) → Took (named allowed old) r left
name_read allowed old left w r b first is took =
    subst (λ o. Took (after o (λ w rest. if allowed w then Some (w, rest) else None)) r left) (sym first)
    (subst (λ t. Took (if t then Some (w, left) else None) r left) is (took left))

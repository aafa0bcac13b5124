-- The body of a function, in the tables' scope.
use Rattle.std.proofs.Common.{◌≡◌, List, [], true, false, Option, is_some, sym, ap, ◌∙◌}
use Rattle.c_tree.specs.declared.pieces.Piece.{Piece}
use Rattle.c_tree.specs.Code.{Fun}
use Rattle.c_tree.specs.Pieces.{pieces}
use Rattle.c_meaning.specs.declared.breach.BadCause.{BadCause}
use Rattle.c_meaning.specs.declared.breach.BadCause.TheVariants.{Shape}
use Rattle.c_meaning.specs.Plain.{Role, role_of}
use Rattle.c_meaning.specs.Breaches.{unless, code_breaches, is_complete}
use Rattle.c_meaning.specs.Checked.{Known}
use Rattle.c_check.specs.Firsts.{first}
use Rattle.c_check.specs.Walks.{start, walk_breaches}
use Rattle.c_check.specs.Knowns.{body_in, body_breaches}
use Rattle.c_check.specs.Pieces.{are_complete}
use Rattle.c_check.proofs.Firsts.{first_here, first_behind}
use Rattle.c_check.proofs.Walked.{walked}
use Rattle.c_check.proofs.Completing.{complete}

module _ (k : Known) (f : Fun) (ps : List Piece) where
  module _ (are : ps ≡ pieces f.code []) (r : Option BadCause) (is : r ≡ first (walk_breaches (start (body_in k f) ps) ps)) where
    found : r ≡ first (code_breaches (body_in k f) f.code)
    found = is ∙ ap (λ p. first (walk_breaches (start (body_in k f) p) p)) are ∙ ap first (walked (body_in k f) f.code)

    pub body_wrong : is_some r ≡ true → r ≡ first (body_breaches k f)
    body_wrong some = first_here (code_breaches (body_in k f) f.code) (unless Shape (is_complete (role_of f.name) f.code)) r found some

    pub body_ends : is_some r ≡ false → (role : Role) → role ≡ role_of f.name → first (unless Shape (are_complete role ps)) ≡ first (body_breaches k f)
    body_ends none role same =
        (λ i. first (unless Shape (are_complete (same i) (are i))))
        ∙ ap (λ b. first (unless Shape b)) (complete (role_of f.name) f.code)
        ∙ sym (first_behind (code_breaches (body_in k f) f.code) (unless Shape (is_complete (role_of f.name) f.code)) r found none)

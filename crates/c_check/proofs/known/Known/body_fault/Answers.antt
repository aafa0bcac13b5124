use Rattle.std.proofs.Common.{◌∙◌, map, ap, sym}
use Rattle.c_tree.specs.Functions.{fun_of}
use Rattle.c_tree.specs.Pieces.{piece_of}
use Rattle.c_meaning.specs.declared.breach.BadCause.TheVariants.{Shape}
use Rattle.c_meaning.specs.Plain.{role_of}
use Rattle.c_meaning.specs.Breaches.{unless}
use Rattle.c_check.specs.Firsts.{first}
use Rattle.c_check.specs.Roles.{role_as}
use Rattle.c_check.specs.Knowns.{known_of}
use Rattle.c_check.proofs.Bodies.{body_wrong, body_ends}
use Rattle.c_check.proofs.known.Known.body_fault.Goals as goal

pub returns-then-is_some : goal.returns-then-is_some
returns-then-is_some c =
    body_wrong (known_of c.args.self.now) (fun_of c.args.f.now) (map piece_of c.as_slice-pieces.result.now)
    (ap (map piece_of) c.as_slice-pieces.ensures ∙ c.in_ok-pieces.ensures)
    c.in_ok-fault.fault c.in_ok-fault.ensures (sym c.is_some.ensures ∙ c.if-is_some.true)

pub returns : goal.returns
returns c =
    c.unless.ensures ∙ ap (λ b. first (unless Shape b)) c.are_complete.ensures
    ∙ body_ends (known_of c.args.self.now) (fun_of c.args.f.now) (map piece_of c.as_slice-pieces.result.now)
    (ap (map piece_of) c.as_slice-pieces.ensures ∙ c.in_ok-pieces.ensures)
    c.in_ok-fault.fault c.in_ok-fault.ensures (sym c.is_some.ensures ∙ c.if-is_some.false) (role_as c.of.result) (c.of.ensures ∙ ap role_of c.as_bytes.ensures)

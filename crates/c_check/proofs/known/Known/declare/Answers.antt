use Rattle.std.proofs.Common.{◌≡◌, ◌∙◌, refl, ap}
use Rattle.c_tree.specs.Code.{declared}
use Rattle.c_meaning.specs.Plain.{Signature, signature_of, signature_named}
use Rattle.c_check.specs.Signatures.{signed, with_signature}
use Rattle.c_check.proofs.Knowing.{with-found}
use Rattle.c_check.proofs.known.Known.declare.Goals as goal

pub returns : goal.returns
returns c =
    let sig : Signature = signature_of (declared c.args.gives c.args.name.now c.args.params.now) in
    let same : signed c.args.name.now c.in_ok-shape.shape ≡ sig = λ i. record { name = c.args.name.now; result = c.in_ok-shape.ensures.gives i; params = c.in_ok-shape.ensures.params i } in
    record {
      functions = λ name.
          ap (λ l. signature_named l name) (c.in_ok-declare.ensures ∙ ap (with_signature c.args.self.now.functions) same)
          ∙ with-found c.args.self.now.functions sig name;
      globals = λ x. refl;
      names = λ name. refl;
    }

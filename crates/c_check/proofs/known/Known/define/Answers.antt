use Rattle.std.proofs.Common.{◌≡◌, ◌∙◌, ◌++◌, ◌∷◌, [], refl, ap}
use Rattle.c_tree.specs.Code.{defined}
use Rattle.c_tree.specs.Functions.{fun_of}
use Rattle.c_meaning.specs.Plain.{Signature, signature_of, signature_named}
use Rattle.c_meaning.specs.Breaches.{has}
use Rattle.c_check.specs.Signatures.{signed, with_signature}
use Rattle.c_check.proofs.Knowing.{with-found}
use Rattle.c_check.proofs.known.Known.define.Goals as goal

pub returns : goal.returns
returns c =
    let sig : Signature = signature_of (defined (fun_of c.args.f.now)) in
    let same : signed c.as_bytes.result.now c.in_ok-shape.shape ≡ sig = ap (λ n. signed n c.in_ok-shape.shape) c.as_bytes.ensures ∙ c.in_ok-shape.ensures in
    record {
      functions = λ name.
          ap (λ l. signature_named l name) (c.in_ok-declare.ensures ∙ ap (with_signature c.args.self.now.functions) same)
          ∙ with-found c.args.self.now.functions sig name;
      globals = λ x. refl;
      names = λ name. c.in_ok-note.ensures.found name ∙ ap (λ n. has (c.args.self.now.names ++ n ∷ []) name) c.as_bytes-2.ensures;
    }

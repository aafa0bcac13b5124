-- What is answered, clause by clause.
use Rattle.std.proofs.Common.{◌≡◌, Result, Ok, Err, IfOk}
use Rattle.module_head.specs.declared.head.Head.{Head}
use Rattle.module_head.specs.declared.error.HeadErr.{HeadErr}
use Rattle.module_head.specs.declared.error.HeadErr.TheVariants.{Header, Duplicate, Memory}
use Rattle.module_head.specs.Heads.{Breach, header, duplicate, Outcome, right, wrong_at_first}
use Rattle.module_head.specs.Answers.{IfHeader, IfDuplicate, GivesHead, Refuses}
use Rattle.module_head.specs.Steps.{Answers}

pub answers_value : (o : Outcome) (r : Result Head HeadErr) → Answers o r → IfOk r (λ h. o ≡ right h)
answers_value o (Ok h) a = a
answers_value o (Err e) a = tt

pub answers_header : (o : Outcome) (r : Result Head HeadErr) → Answers o r → IfHeader r (λ at. o ≡ wrong_at_first (header at))
answers_header o (Ok h) a = tt
answers_header o (Err (Header at)) a = a
answers_header o (Err (Duplicate x)) a = tt
answers_header o (Err Memory) a = tt

pub answers_duplicate : (o : Outcome) (r : Result Head HeadErr) → Answers o r → IfDuplicate r (λ x. o ≡ wrong_at_first (duplicate x))
answers_duplicate o (Ok h) a = tt
answers_duplicate o (Err (Header at)) a = tt
answers_duplicate o (Err (Duplicate x)) a = a
answers_duplicate o (Err Memory) a = tt

pub answers_given : (o : Outcome) (r : Result Head HeadErr) → Answers o r → (h : Head) → o ≡ right h → GivesHead h r
answers_given o (Ok g) a h e = cc
answers_given o (Err (Header at)) a h e = absurd (cc)
answers_given o (Err (Duplicate x)) a h e = absurd (cc)
answers_given o (Err Memory) a h e = tt

pub answers_refused : (o : Outcome) (r : Result Head HeadErr) → Answers o r → (b : Breach) → o ≡ wrong_at_first b → Refuses b r
answers_refused o (Ok h) a b e = absurd (cc)
answers_refused o (Err (Header at)) a b e = cc
answers_refused o (Err (Duplicate x)) a b e = cc
answers_refused o (Err Memory) a b e = tt

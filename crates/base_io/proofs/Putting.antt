-- Bytes that are written piece by piece.
use Rattle.std.proofs.Common.{◌≡◌, ℕ, [], ◌++◌, take, drop, Option, Some, None, Ok, Err, refl, ap, sym, ◌∙◌, subst, append_assoc}
use Rattle.std.proofs.lemmas.List.{append-nil, take-append-drop}
use Rattle.std.specs.Io.KnownBytes.{Appends, Keeps}
use Rattle.base_io.specs.Contents.{Bytes}
use Rattle.base_io.specs.declared.stream.Failed.{Failed}
use Rattle.base_io.specs.Writing.{PutAll}

abbrev pub PutSoFar : Option Bytes → Option Bytes → Bytes → Bytes → Type 0
PutSoFar None new bytes rest = Unit {0}
PutSoFar (Some old) new bytes rest = (done : Bytes) × ((bytes ≡ done ++ rest) × (new ≡ Some (old ++ done)))

pub nothing_put : (o : Option Bytes) (bytes : Bytes) → PutSoFar o o bytes bytes
nothing_put None bytes = tt
nothing_put (Some old) bytes = ([], (refl, ap (λ (l : Bytes). Some l) (sym (append-nil old))))

appended : (xs : Bytes) (new : Option Bytes) (bs : Bytes) → Appends (Some xs) new bs → new ≡ Some (xs ++ bs)
appended xs None bs h = absurd h
appended xs (Some ys) bs h = ap (λ (l : Bytes). Some l) h

kept : (xs : Bytes) (new : Option Bytes) → Keeps (Some xs) new → new ≡ Some xs
kept xs None h = absurd h
kept xs (Some ys) h = ap (λ (l : Bytes). Some l) h

pub put_more : (o mid new : Option Bytes) (bytes rest : Bytes) (n : ℕ) → PutSoFar o mid bytes rest → Appends mid new (take n rest) → PutSoFar o new bytes (drop n rest)
put_more None mid new bytes rest n so_far one = tt
put_more (Some old) mid new bytes rest n so_far one =
    let step : Appends (Some (old ++ so_far.0)) new (take n rest) = subst (λ (m : Option Bytes). Appends m new (take n rest)) so_far.1.1 one in (
      so_far.0 ++ take n rest,
      (
        so_far.1.0 ∙ ap (λ (l : Bytes). so_far.0 ++ l) (sym (take-append-drop n rest)) ∙ sym (append_assoc so_far.0 (take n rest) (drop n rest)),
        appended (old ++ so_far.0) new (take n rest) step ∙ ap (λ (l : Bytes). Some l) (append_assoc old so_far.0 (take n rest)),
      ),
    )

pub put_whole : (o new : Option Bytes) (bytes rest : Bytes) → rest ≡ [] → PutSoFar o new bytes rest → PutAll {E = Failed} o new bytes (Ok tt)
put_whole None new bytes rest none so_far = tt
put_whole (Some old) new bytes rest none so_far =
    so_far.1.1 ∙ ap (λ (l : Bytes). Some (old ++ l)) (sym (so_far.1.0 ∙ ap (λ (l : Bytes). so_far.0 ++ l) none ∙ append-nil so_far.0))

pub put_failed : (o mid new : Option Bytes) (bytes rest : Bytes) (e : Failed) → PutSoFar o mid bytes rest → Keeps mid new → PutAll {E = Failed} o new bytes (Err e)
put_failed None mid new bytes rest e so_far one = tt
put_failed (Some old) mid new bytes rest e so_far one =
    let step : Keeps (Some (old ++ so_far.0)) new = subst (λ (m : Option Bytes). Keeps m new) so_far.1.1 one in
    (so_far.0, (rest, so_far.1.0, kept (old ++ so_far.0) new step))

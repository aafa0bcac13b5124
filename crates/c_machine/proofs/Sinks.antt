-- Bytes that were added piece by piece.
use Rattle.std.proofs.Common.{◌≡◌, ℕ, ◌+◌, ◌-◌, List, [], ◌++◌, length, take, drop, Option, Some, None, sym, ap, ◌∙◌, arith, append_assoc, length-drop}
use Rattle.std.specs.Io.KnownBytes.{Appends, Keeps}
use Rattle.std.proofs.Math.Seq.{take-add}
use Rattle.std.proofs.lemmas.List.{take_all, take-append-drop, append-nil}
use Rattle.c_machine.specs.Added.{Added, AddedPart}

pub added_none : (a : Option (List ℕ)) → Added a a []
added_none a w e = e ∙ ap Some (sym (append-nil w))

pub added_by : (a b : Option (List ℕ)) (bs : List ℕ) → Appends a b bs → Added a b bs
added_by None b bs h w e = absurd (cc)
added_by (Some xs) None bs h w e = absurd h
added_by (Some xs) (Some ys) bs h w e =
    let f : xs ≡ w = cc in
    ap Some (h ∙ ap (λ l. l ++ bs) f)

pub added_kept : (a b : Option (List ℕ)) → Keeps a b → Added a b []
added_kept None b h w e = absurd (cc)
added_kept (Some xs) None h w e = absurd h
added_kept (Some xs) (Some ys) h w e =
    let f : xs ≡ w = cc in
    ap Some (h ∙ f ∙ sym (append-nil w))

pub added_twice : (a b c : Option (List ℕ)) (xs ys : List ℕ) → Added a b xs → Added b c ys → Added a c (xs ++ ys)
added_twice a b c xs ys h k w e = k (w ++ xs) (h w e) ∙ ap Some (append_assoc w xs ys)

pub added_more : (a b c : Option (List ℕ)) (at n : ℕ) (bs : List ℕ) → Added a b (take at bs) → Appends b c (take n (take (length bs - at) (drop at bs))) → Added a c (take (at + n) bs)
added_more a b c at n bs h k w e =
    let all : take (length bs - at) (drop at bs) ≡ drop at bs = take_all (length bs - at) (drop at bs) (omega (arith, length-drop at bs)) in
    let both = added_twice a b c (take at bs) (take n (take (length bs - at) (drop at bs))) h (added_by b c (take n (take (length bs - at) (drop at bs))) k) w e in
    both ∙ ap (λ (x : List ℕ). Some (w ++ (take at bs ++ take n x))) all ∙ ap (λ (x : List ℕ). Some (w ++ x)) (sym (take-add at n bs))

pub added_part : (a b c : Option (List ℕ)) (at : ℕ) (bs : List ℕ) → Added a b (take at bs) → Keeps b c → AddedPart a c bs
added_part a b c at bs h k = record {
  part = take at bs;
  rest = drop at bs;
  is = sym (take-append-drop at bs);
  added = λ w e. added_twice a b c (take at bs) [] h (added_kept b c k) w e ∙ ap (λ (l : List ℕ). Some (w ++ l)) (append-nil (take at bs));
}

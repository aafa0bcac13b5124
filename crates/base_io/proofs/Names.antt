-- What a name has after one name was set.
use Rattle.std.proofs.Common.{◌≡◌, ◌≢◌, true, false, cond, Some, refl, ap, ◌∙◌}
use Rattle.std.specs.Ordering.{nat_cmp, eq_by_cmp, is_eq}
use Rattle.std.specs.declared.cmp.Ordering.TheVariants.{Less, Equal, Greater}
use Rattle.std.specs.Cmp.{tied_itself}
use Rattle.std.specs.Cmp.Lexicographic.{slice_cmp, nat_list_cmp_total}
use Rattle.std.specs.FinMap.{get, insert, get-insert, slice_cmp-IsAntisymmetric, nat_cmp-IsAntisymmetric}
use Rattle.base_io.specs.Contents.{Bytes, Contents}

-- names that differ aren't tied in the order of names
pub apart : (name other : Bytes) → other ≢ name → eq_by_cmp (slice_cmp nat_cmp) other name ≡ false
apart name other differ = elim (slice_cmp nat_cmp other name) as (λ r. slice_cmp nat_cmp other name ≡ r → is_eq r ≡ false) [
  | Less ↦ λ _. refl
  | Equal ↦ λ same. absurd (differ (slice_cmp-IsAntisymmetric nat_cmp-IsAntisymmetric other name same))
  | Greater ↦ λ _. refl
] refl

pub alike : (name : Bytes) → eq_by_cmp (slice_cmp nat_cmp) name name ≡ true
alike name = ap is_eq (tied_itself nat_list_cmp_total name)

-- the name that was set has the bytes
pub get-insert_same : (files : Contents) (name bytes : Bytes) → get (insert files name bytes) name ≡ Some bytes
get-insert_same files name bytes = get-insert nat_list_cmp_total files name bytes name ∙ ap (λ b. cond b (Some bytes) (get files name)) (alike name)

-- and each other has what it had
pub get-insert_other : (files : Contents) (name bytes other : Bytes) → other ≢ name → get (insert files name bytes) other ≡ get files other
get-insert_other files name bytes other differ = get-insert nat_list_cmp_total files name bytes other ∙ ap (λ b. cond b (Some bytes) (get files other)) (apart name other differ)

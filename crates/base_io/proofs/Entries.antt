-- A table's entries, as the map that they stand for.
use Rattle.std.proofs.Common.{◌≡◌, ℕ, List, Some, cond, ap, sym, ◌∙◌}
use Rattle.std.specs.Ordering.{nat_cmp, eq_by_cmp}
use Rattle.std.specs.BTreeMap.{is_at, insert_entry}
use Rattle.std.specs.Map.{lookup}
use Rattle.std.specs.Cmp.Lexicographic.{slice_cmp, nat_list_cmp_total}
use Rattle.std.specs.FinMap.{get, insert, put, from_entries, get-from_entries, get-insert, same_map, slice_cmp-IsAntisymmetric, nat_cmp-IsAntisymmetric}
use Rattle.std.specs.FinMap.Entries.{find-put}
use Rattle.std.specs.Global.{Vec}
use Rattle.base_io.specs.Contents.{Bytes, Contents}
use Rattle.scheme_data.specs.Names.{named}
use Rattle.scheme_data.proofs.NamedEntries.{lookup-named, insert_entry-named}

-- what a look-up gives is what the map has
pub get-named : (name : Bytes) (es : List (Vec ℕ × Bytes)) (files : Contents) → from_entries (named es) ≡ files → lookup (is_at (λ k. slice_cmp nat_cmp name k.items)) es ≡ get files name
get-named name es files is = lookup-named name es ∙ sym (get-from_entries nat_list_cmp_total (named es) name) ∙ ap (λ m. get m name) is

from_entries-put : (name content : Bytes) (es : List (Bytes × Bytes)) → from_entries {R = slice_cmp nat_cmp} (put (slice_cmp nat_cmp) name content es) ≡ insert (from_entries es) name content
from_entries-put name content es = same_map nat_list_cmp_total (slice_cmp-IsAntisymmetric nat_cmp-IsAntisymmetric) _ _ (λ q.
    get-from_entries nat_list_cmp_total _ q ∙ find-put (slice_cmp nat_cmp) nat_list_cmp_total q name content es
    ∙ sym (get-insert nat_list_cmp_total _ name content q ∙ ap (cond (eq_by_cmp (slice_cmp nat_cmp) q name) (Some content)) (get-from_entries nat_list_cmp_total es q)))

-- and an entry that is put in is one that is set in the map
pub insert-named : (key : Vec ℕ) (name content : Bytes) (old new : List (Vec ℕ × Bytes)) (files : Contents) → key.items ≡ name → from_entries (named old) ≡ files → new ≡ insert_entry (λ x y. slice_cmp nat_cmp x.items y.items) old key content → from_entries (named new) ≡ insert files name content
insert-named key name content old new files key_is files_is new_is =
    ap (λ (es : List (Vec ℕ × Bytes)). from_entries (named es)) new_is
    ∙ ap (λ (es : List (Bytes × Bytes)). from_entries es) (insert_entry-named key content old)
    ∙ from_entries-put key.items content (named old)
    ∙ ap (λ (k : Bytes). insert (from_entries (named old)) k content) key_is
    ∙ ap (λ (m : Contents). insert m name content) files_is

use Rattle.std.proofs.Common.{◌≡◌, ◌++◌, ◌∷◌, [], ℕ, not, ◌∙◌, ap, sym, length, false, arith, rules}
use Rattle.std.specs.BTreeMap.{BTreeMap}
use Rattle.std.specs.BTreeMap.Entry.{map_with_value}
use Rattle.std.specs.Global.{Vec}
use Rattle.std.specs.Option.{is_some}
use Rattle.std.specs.declared.collections.btree_map.Entry.TheVariants.{Vacant}
use Rattle.name_table.specs.Names.{has_name, IsIndex}
use Rattle.name_table.proofs.Places.{index-added, index-has}
use Rattle.name_table.proofs.table.NameTable.insert.Goals as goal

pub returns-in_default-clause-added : goal.returns-in_default-clause-added
returns-in_default-clause-added c =
    let found = rw c.in_default.is at c.in_ok-entry.ensures.found in
    let has = index-has _ _ c.args.name.now c.in_ok-key.key c.self.invariant c.in_ok-key.ensures.items in
    ap not (sym found.0 ∙ has) ∙ ap (λ n. not (has_name n c.args.name.now)) c.self.view_is

pub invariant_of-self-2 : goal.invariant_of-self-2
invariant_of-self-2 c =
    let old = c.self.inside.names.items in
    let name = c.args.name.now in
    let found = rw c.in-Vacant.is at c.in_ok-entry.ensures.found in
    let absent : has_name old name ≡ false = sym (index-has _ _ name c.in_ok-key.key c.self.invariant c.in_ok-key.ensures.items) ∙ ap is_some found in
    let names : c.push_reserved.new.self.items ≡ old ++ name ∷ [] =
    c.push_reserved.ensures.items ∙ ap (λ n. n ++ c.in_ok-text.text ∷ []) c.in_ok-reserve.ensures.items ∙ ap (λ n. old ++ n ∷ []) c.in_ok-text.ensures in
    let place : c.insert.result.now ≡ length old = let whole = ap length c.in_ok-reserve.ensures.items in omega (arith, c.insert.ensures.value, c.len.ensures) in
    let put = rw c.in-Vacant.is at c.in_ok-entry.ensures.update.1 in
    let indexed : (m : BTreeMap (Vec ℕ) ℕ) → m ≡ map_with_value (Vacant c.in-Vacant.entry) c.insert.result.now → IsIndex (old ++ name ∷ []) m.entries =
    λ m is. index-added old c.self.inside.places.entries m.entries name c.in_ok-key.key c.insert.result.now c.self.invariant absent c.in_ok-key.ensures.items place
    (ap {A = BTreeMap (Vec ℕ) ℕ} (λ n. n.entries) is ∙ put c.insert.result.now) in
    let same = rw c.in-Vacant.is at c.in_ok-entry.ensures.same_map in
    rw names (search (rules, indexed, same))

pub returns-clause-added : goal.returns-clause-added
returns-clause-added c =
    let found = rw c.in-Vacant.is at c.in_ok-entry.ensures.found in
    let has = index-has _ _ c.args.name.now c.in_ok-key.key c.self.invariant c.in_ok-key.ensures.items in
    ap not (sym (ap is_some found) ∙ has) ∙ ap (λ n. not (has_name n c.args.name.now)) c.self.view_is

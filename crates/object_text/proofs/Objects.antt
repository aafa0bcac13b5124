-- What a header and a unit tell of an object.
use Rattle.std.proofs.Common.{◌≡◌, ℕ, List, [], ◌∷◌, ◌++◌, refl, ap, sym, ◌∙◌, subst, true, false, not, Option}
use Rattle.std.specs.Prelude.{codes}
use Rattle.std.proofs.lemmas.Bool.{and_parts, not-true}
use Rattle.std.proofs.lemmas.List.{append_cancel_left}
use Rattle.name_table.specs.Names.{has_name}
use Rattle.iface_text.specs.declared.interface.Row.{Row}
use Rattle.iface_text.specs.Format.{AreRows}
use Rattle.core_tree.specs.declared.tree.ImportItem.{ImportItem}
use Rattle.core_tree.specs.declared.tree.Use.{Use}
use Rattle.core_tree.specs.WellFormed.{are_ordered}
use Rattle.c_tree.specs.Code.{Item}
use Rattle.c_tree.specs.Spelling.{CText}
use Rattle.object_text.specs.declared.header.Header.{Header}
use Rattle.object_text.specs.Format.{ObjectTree, ObjectText}
use Rattle.object_text.specs.Header.{IsUntypedRow, are_new}
use Rattle.object_text.specs.Headers.{tree_of, AreLines, BeginsWith, OnlyLines, NoLines, OnlyHeader, NoHeader}
use Rattle.object_text.specs.Parts.{AllAre}
use Rattle.object_text.proofs.HeaderParts.{after_main, AreRead, same_lines, lines_found}

-- A header ----------------------------------------------------------------------------------

same_tree : (o : ObjectTree) (m : List ℕ) (is : List ImportItem) (us : List Use) (es : List Row) (f : Option (List ℕ)) → m ≡ o.module_name → is ≡ o.imports → us ≡ o.uses → es ≡ o.exports → f ≡ o.main
    → ◌≡◌ {A = ObjectTree} (record { module_name = m; imports = is; uses = us; exports = es; main = f; items = o.items }) o
same_tree o m is us es f a b d e g = rw (a, b, d, e, g) refl

-- the header holds what was read
pub record Holds (h : Header) (m : List ℕ) (is : List ImportItem) (us : List Use) (es : List Row) (f : Option (List ℕ)) (rest : List ℕ) : Type 0 where
  pub module_name : h.module_name ≡ m
  pub imports : h.imports ≡ is
  pub uses : h.uses ≡ us
  pub exports : h.exports ≡ es
  pub main : h.main ≡ f
  pub rest_is : rest ≡ after_main h.unit.now

pub only_lines : (bytes m rest rest0 : List ℕ) (is : List ImportItem) (rest1 : List ℕ) (us : List Use) (rest2 : List ℕ) (es : List Row) (rest3 : List ℕ) (f : Option (List ℕ)) (rest4 : List ℕ) (h : Header)
    → AreRead bytes m rest rest0 is rest1 us rest2 es rest3 f rest4 → Holds h m is us es f rest4 → OnlyLines bytes h
only_lines bytes m rest rest0 is rest1 us rest2 es rest3 f rest4 h r k o unit l =
    let s = same_lines bytes m rest rest0 is rest1 us rest2 es rest3 f rest4 o unit r l in
    record {
      tree = same_tree o h.module_name h.imports h.uses h.exports h.main (k.module_name ∙ s.module_name) (k.imports ∙ s.imports) (k.uses ∙ s.uses) (k.exports ∙ s.exports) (k.main ∙ s.main);
      unit_is = append_cancel_left (codes "code\n") h.unit.now unit (sym k.rest_is ∙ s.rest_is);
    }

pub some_lines : (bytes m rest rest0 : List ℕ) (is : List ImportItem) (rest1 : List ℕ) (us : List Use) (rest2 : List ℕ) (es : List Row) (rest3 : List ℕ) (f : Option (List ℕ)) (rest4 : List ℕ) (h : Header)
    → AreRead bytes m rest rest0 is rest1 us rest2 es rest3 f rest4 → Holds h m is us es f rest4 → AreLines bytes (tree_of h []) h.unit.now
some_lines bytes m rest rest0 is rest1 us rest2 es rest3 f rest4 h r k =
    lines_found bytes m rest rest0 is rest1 us rest2 es rest3 f rest4 h.unit.now (tree_of h []) r
    (record { module_name = sym k.module_name; imports = sym k.imports; uses = sym k.uses; exports = sym k.exports; main = sym k.main; rest_is = k.rest_is })

pub no_code : (bytes m rest rest0 : List ℕ) (is : List ImportItem) (rest1 : List ℕ) (us : List Use) (rest2 : List ℕ) (es : List Row) (rest3 : List ℕ) (f : Option (List ℕ)) (rest4 : List ℕ)
    → AreRead bytes m rest rest0 is rest1 us rest2 es rest3 f rest4 → ((r : List ℕ) → rest4 ≡ codes "code\n" ++ r → ⊥) → NoLines bytes
no_code bytes m rest rest0 is rest1 us rest2 es rest3 f rest4 r none o unit l =
    let s = same_lines bytes m rest rest0 is rest1 us rest2 es rest3 f rest4 o unit r l in none unit s.rest_is

-- Order and names ---------------------------------------------------------------------------

all_rows : (names : List (List ℕ)) (rs : List Row) → AreRows names rs → AllAre IsUntypedRow rs
all_rows names [] h = tt
all_rows names (r ∷ rs) h = (record { name = h.0.is_name; untyped = h.0.is_untyped }, all_rows (names ++ r.name ∷ []) rs h.1)

new_rows : (names : List (List ℕ)) (rs : List Row) → AreRows names rs → are_new names rs ≡ true
new_rows names [] h = refl
new_rows names (r ∷ rs) h = rw h.0.is_new (new_rows (names ++ r.name ∷ []) rs h.1)

are_rows : (names : List (List ℕ)) (rs : List Row) → AllAre IsUntypedRow rs → are_new names rs ≡ true → AreRows names rs
are_rows names [] h e = tt
are_rows names (r ∷ rs) h e =
    let p = and_parts (not (has_name names r.name)) (are_new (names ++ r.name ∷ []) rs) e in
    (record { is_name = h.0.name; is_new = not-true (has_name names r.name) p.0; is_untyped = h.0.untyped }, are_rows (names ++ r.name ∷ []) rs h.1 p.1)

lines_in : (bytes : List ℕ) (o : ObjectTree) (unit : List ℕ) → BeginsWith bytes o unit → AreLines bytes o unit
lines_in bytes o unit b = record {
  are = b.are;
  module_name = b.header.module_name;
  imports = b.header.imports;
  uses = b.header.uses;
  exports = all_rows [] o.exports b.header.exports;
  main = b.header.main;
}

pub begins : (bytes : List ℕ) (o : ObjectTree) (unit : List ℕ) → AreLines bytes o unit → are_ordered o.uses ≡ true → are_new [] o.exports ≡ true → BeginsWith bytes o unit
begins bytes o unit l ordered new = record {
  are = l.are;
  header = record {
    module_name = l.module_name;
    imports = l.imports;
    uses = l.uses;
    ordered = ordered;
    exports = are_rows [] o.exports l.exports new;
    main = l.main;
  };
}

pub only_header : (bytes : List ℕ) (h : Header) → OnlyLines bytes h → OnlyHeader bytes h
only_header bytes h only o unit b = only o unit (lines_in bytes o unit b)

pub no_header : (bytes : List ℕ) → NoLines bytes → NoHeader bytes
no_header bytes none o unit b = none o unit (lines_in bytes o unit b)

pub not_ordered : (bytes : List ℕ) (h : Header) → OnlyLines bytes h → are_ordered h.uses ≡ false → NoHeader bytes
not_ordered bytes h only e o unit b =
    let t = only o unit (lines_in bytes o unit b) in
    let q : are_ordered h.uses ≡ true = ap (λ (x : ObjectTree). are_ordered x.uses) t.tree ∙ b.header.ordered in
    absurd (cc)

pub not_distinct : (bytes : List ℕ) (h : Header) → OnlyLines bytes h → are_new [] h.exports ≡ false → NoHeader bytes
not_distinct bytes h only e o unit b =
    let t = only o unit (lines_in bytes o unit b) in
    let q : are_new [] h.exports ≡ true = ap (λ (x : ObjectTree). are_new [] x.exports) t.tree ∙ new_rows [] o.exports b.header.exports in
    absurd (cc)

-- An object ---------------------------------------------------------------------------------

begins_object : (bytes : List ℕ) (o : ObjectTree) (t : ObjectText bytes o) → BeginsWith bytes o t.unit
begins_object bytes o t = record { are = t.are; header = t.header }

pub not_object : (bytes : List ℕ) → NoHeader bytes → (o : ObjectTree) → ObjectText bytes o → ⊥
not_object bytes none o t = none o t.unit (begins_object bytes o t)

-- the unit's text is that of the object's items
pub unit_text : (bytes : List ℕ) (h : Header) → OnlyHeader bytes h → (o : ObjectTree) → ObjectText bytes o → CText h.unit.now o.items
unit_text bytes h only o t = subst (λ (u : List ℕ). CText u o.items) (sym (only o t.unit (begins_object bytes o t)).unit_is) t.text

pub same_object : (bytes : List ℕ) (h : Header) (items : List Item) → OnlyHeader bytes h → (o : ObjectTree) → ObjectText bytes o → items ≡ o.items → tree_of h items ≡ o
same_object bytes h items only o t e = ap (tree_of h) e ∙ (only o t.unit (begins_object bytes o t)).tree

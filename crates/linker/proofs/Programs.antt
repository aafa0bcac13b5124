-- The joined program has right names where the units have.
use Rattle.std.proofs.Common.{◌≡◌, ℕ, zero, suc, List, [], ◌∷◌, ◌++◌, map, slice_get, IsTrue, Option, Some, None, refl, ap, ap₂, sym, ◌∙◌, subst}
use Rattle.std.proofs.lemmas.List.{map-append, append_assoc}
use Rattle.std.specs.List.{flat_map}
use Rattle.c_tree.specs.declared.function.CItem.{CItem}
use Rattle.c_tree.specs.declared.pieces.Piece.{Piece}
use Rattle.c_tree.specs.declared.pieces.Piece.TheVariants as piece
use Rattle.c_tree.proofs.CNames.{named_maker, named_initializer}
use Rattle.c_tree.specs.Code.{Code, done, Item}
use Rattle.c_tree.specs.Functions.{item_of, items_of}
use Rattle.c_tree.specs.Names.{is_module_function, is_entry_name, is_maker_name, is_initializer_name, is_function_name, is_local_name, is_variable_name, maker_name, initializer_name}
use Rattle.c_tree.specs.Pieces.{pieces}
use Rattle.c_tree.specs.Spelling.{NamedItem, NamedItems, NamedCode}
use Rattle.std.specs.List.{cons_option}
use Rattle.meaning.specs.Order.{chosen}
use Rattle.object_text.specs.Format.{ObjectTree, CanBeWritten}
use Rattle.object_text.specs.Parts.{AllAre}
use Rattle.plan_rules.specs.Joined.{Part, call_alone, calls_alone, call_main, main_code, main_function, joined_with}
use Rattle.linker.specs.declared.joining.NamedUnit.{NamedUnit}
use Rattle.linker.specs.Links.{part_of}
use Rattle.linker.specs.Modules.{unit_part, unit_names, NamedPart}

-- Names -------------------------------------------------------------------------------------

named_append : (a b : List Item) → NamedItems a → NamedItems b → NamedItems (a ++ b)
named_append [] b h k = k
named_append (i ∷ is) b h k = (h.0, named_append is b h.1 k)

named_parts : (ps : List Part) → AllAre NamedPart ps → NamedItems (flat_map (λ p. p.items) ps)
named_parts [] are = tt
named_parts (p ∷ ps) are = named_append p.items (flat_map (λ q. q.items) ps) are.0.items (named_parts ps are.1)

abbrev pub NamedFunction : List ℕ → Type 0
NamedFunction name = IsTrue (is_function_name name)

named_calls : (names : List (List ℕ)) (rest : Code) → AllAre NamedFunction names → NamedCode rest → NamedCode (calls_alone names rest)
named_calls [] rest are h = h
named_calls (name ∷ names) rest are h = ((are.0, tt), named_calls names rest are.1 h)

named_run : (f : List ℕ) → IsTrue (is_function_name f) → NamedCode (call_main f)
unfolding is_local_name is_variable_name
named_run f h = (refl, (tt, tt), (refl, (h, (refl, tt)), ((tt, (refl, tt)), tt)))

named_makers : (ps : List Part) → AllAre NamedPart ps → AllAre NamedFunction (map maker_name (map (λ p. p.module_name) ps))
named_makers [] are = tt
named_makers (p ∷ ps) are = (named_maker p.module_name are.0.module_name, named_makers ps are.1)

named_initializers : (ps : List Part) → AllAre NamedPart ps → AllAre NamedFunction (map initializer_name (map (λ p. p.module_name) ps))
named_initializers [] are = tt
named_initializers (p ∷ ps) are = (named_initializer p.module_name are.0.module_name, named_initializers ps are.1)

main_named : (ms : List (List ℕ)) (f : List ℕ) → NamedCode (main_code ms f) → NamedItem (main_function ms f)
unfolding is_module_function is_entry_name is_maker_name is_initializer_name is_function_name is_local_name
main_named ms f h = (refl, tt, (refl, (refl, tt)), h)

pub joined_named : (ps : List Part) (f : List ℕ) → AllAre NamedPart ps → IsTrue (is_function_name f) → NamedItems (joined_with ps f)
joined_named ps f are h =
    let ms = map (λ p. p.module_name) ps in
    let code = named_calls (map maker_name ms) (calls_alone (map initializer_name ms) (call_main f)) (named_makers ps are) (named_calls (map initializer_name ms) (call_main f) (named_initializers ps are) (named_run f h)) in
    named_append (flat_map (λ p. p.items) ps) (main_function ms f ∷ []) (named_parts ps are) (main_named ms f code, tt)

-- Parts -------------------------------------------------------------------------------------

writable_at : (xs : List ObjectTree) (k : ℕ) (o : ObjectTree) → AllAre CanBeWritten xs → slice_get xs k ≡ Some o → CanBeWritten o
writable_at [] k o all e = absurd (cc)
writable_at (x ∷ xs) zero o all e = let same : x ≡ o = cc in subst CanBeWritten same all.0
writable_at (x ∷ xs) (suc k) o all e = writable_at xs k o all.1 e

pub parts_named : (os : List ObjectTree) (ns : List ℕ) → AllAre CanBeWritten os → AllAre NamedPart (map part_of (chosen os ns))
parts_named os [] are = tt
parts_named os (n ∷ ns) are = go (slice_get os n) (λ o e. writable_at os n o are e) (parts_named os ns are)
  where
    go : (found : Option ObjectTree) → ((o : ObjectTree) → found ≡ Some o → CanBeWritten o) → AllAre NamedPart (map part_of (chosen os ns)) → AllAre NamedPart (map part_of (cons_option found (chosen os ns)))
    go None all rest = rest
    go (Some o) all rest = let w = all o refl in (record { module_name = w.header.module_name; items = w.named }, rest)

-- Items -------------------------------------------------------------------------------------

names_of_parts : (units : List NamedUnit) → map (λ p. p.module_name) (map unit_part units) ≡ unit_names units
names_of_parts [] = refl
names_of_parts (u ∷ us) = ap (λ (ms : List (List ℕ)). u.module_name ∷ ms) (names_of_parts us)

items_of_units : (units : List NamedUnit) → items_of (flat_map (λ u. u.items) units) ≡ flat_map (λ p. p.items) (map unit_part units)
items_of_units [] = refl
items_of_units (u ∷ us) = map-append item_of u.items (flat_map (λ v. v.items) us) ∙ ap (λ (is : List Item). items_of u.items ++ is) (items_of_units us)

joined_is : (units : List NamedUnit) (f : List ℕ) (main : CItem) (items : List CItem) → items ≡ flat_map (λ u. u.items) units ++ main ∷ [] → item_of main ≡ main_function (unit_names units) f → items_of items ≡ joined_with (map unit_part units) f
joined_is units f main items e k =
    ap items_of e
    ∙ (map-append item_of (flat_map (λ u. u.items) units) (main ∷ [])
    ∙ ap₂ (λ (is : List Item) (i : Item). is ++ i ∷ []) (items_of_units units) (k ∙ ap (λ (ms : List (List ℕ)). main_function ms f) (sym (names_of_parts units))))

pub program_is : (units slice : List NamedUnit) (f : List ℕ) (main : CItem) (start one all items : List CItem) → slice ≡ units → item_of main ≡ main_function (unit_names slice) f → start ≡ [] → one ≡ main ∷ start → all ≡ flat_map (λ u. u.items) units ++ one → items ≡ all
    → items_of items ≡ joined_with (map unit_part units) f
program_is units slice f main start one all items same is none first joined given =
    joined_is units f main items (given ∙ (joined ∙ ap (λ (is : List CItem). flat_map (λ u. u.items) units ++ is) (first ∙ ap (λ (is : List CItem). main ∷ is) none))) (is ∙ ap (λ (us : List NamedUnit). main_function (unit_names us) f) same)

-- Pieces ------------------------------------------------------------------------------------

pieces_of_calls : (names : List (List ℕ)) (rest : Code) → pieces (calls_alone names rest) [] ≡ pieces (calls_alone names done) [] ++ pieces rest []
pieces_of_calls [] rest = refl
pieces_of_calls (name ∷ names) rest = ap (λ (ps : List Piece). piece.Call (call_alone name) ∷ ps) (pieces_of_calls names rest)

pub main_pieces_are : (ms : List (List ℕ)) (f : List ℕ) (start a b c : List Piece) → start ≡ [] → a ≡ start ++ pieces (calls_alone (map maker_name ms) done) [] → b ≡ a ++ pieces (calls_alone (map initializer_name ms) done) [] → c ≡ b ++ pieces (call_main f) [] → c ≡ pieces (main_code ms f) []
main_pieces_are ms f start a b c none x y z =
    z ∙ (ap (λ (ps : List Piece). ps ++ pieces (call_main f) []) (y ∙ ap (λ (ps : List Piece). ps ++ pieces (calls_alone (map initializer_name ms) done) []) (x ∙ ap (λ (ps : List Piece). ps ++ pieces (calls_alone (map maker_name ms) done) []) none))
    ∙ (append_assoc (pieces (calls_alone (map maker_name ms) done) []) (pieces (calls_alone (map initializer_name ms) done) []) (pieces (call_main f) [])
    ∙ (ap (λ (ps : List Piece). pieces (calls_alone (map maker_name ms) done) [] ++ ps) (sym (pieces_of_calls (map initializer_name ms) (call_main f)))
    ∙ sym (pieces_of_calls (map maker_name ms) (calls_alone (map initializer_name ms) (call_main f))))))

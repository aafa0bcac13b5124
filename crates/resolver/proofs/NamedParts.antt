-- What a name stands for: a primitive, the main function, a use.
use Rattle.std.proofs.Common.{◌≡◌, ◌≢◌, ℕ, List, length, Bool, true, false, Option, Some, None, sym, ap, ◌∙◌, nat_eq, if◌then◌else◌, arith}
use Rattle.std.proofs.lemmas.Bool.Decides.{nat_tests}
use Rattle.built_table.specs.declared.primitives.Primitive.{Primitive as Builtin}
use Rattle.built_table.specs.Table.{params_of}
use Rattle.iface_text.specs.declared.interface.Row.{Row}
use Rattle.core_tree.specs.declared.tree.Use.TheVariants.{From, Need}
use Rattle.resolver.specs.BuiltHeads.{is_word, says}
use Rattle.resolver.specs.Drafts.{taking}
use Rattle.resolver.specs.declared.uses.Taken.{Taken}
use Rattle.resolver.specs.TakenRows.{use_of}

-- A primitive ---------------------------------------------------------------------------------

pub takes_none : (args : ℕ) (o : Option Builtin) → None ≡ o → None ≡ taking args o
takes_none args o e = ap (taking args) e

taken_where : (args many : ℕ) (p : Builtin) (t : Bool) → many ≡ length (params_of p) → nat_eq args many ≡ t → (if t then Some p else None) ≡ taking args (Some p)
taken_where args many p t m e = ap (λ (t : Bool). if t then Some p else None) (sym e) ∙ ap (λ (n : ℕ). if nat_eq args n then Some p else None) m

pub takes_so_many : (args many : ℕ) (p : Builtin) (o : Option Builtin) → Some p ≡ o → many ≡ length (params_of p) → args ≡ many → Some p ≡ taking args o
takes_so_many args many p o e m same =
    let here : nat_eq args many ≡ true = grind (arith, nat_tests) in
    taken_where args many p true m here ∙ ap (taking args) e

pub takes_other : (args many : ℕ) (p : Builtin) (o : Option Builtin) → Some p ≡ o → many ≡ length (params_of p) → args ≢ many → None ≡ taking args o
takes_other args many p o e m other =
    let here : nat_eq args many ≡ false = grind (arith, nat_tests) in
    taken_where args many p false m here ∙ ap (taking args) e

-- The main function ---------------------------------------------------------------------------

pub no_main : (o : Option (List ℕ)) (name : List ℕ) → o ≡ None → false ≡ says o name
no_main o name e = ap (λ o. says o name) (sym e)

pub main_says : (o : Option (List ℕ)) (main bytes name : List ℕ) (r : Bool) → o ≡ Some main → bytes ≡ main → r ≡ is_word bytes name → r ≡ says o name
main_says o main bytes name r e b h = h ∙ ap (λ bytes. is_word bytes name) b ∙ ap (λ o. says o name) (sym e)

-- A use ---------------------------------------------------------------------------------------

use_where : (t : Taken) (called : Bool) → t.is_called ≡ called → (if called then From t.module_name.now t.row.now else Need t.module_name.now t.row.now) ≡ use_of t
use_where t called e = ap (λ (called : Bool). if called then From t.module_name.now t.row.now else Need t.module_name.now t.row.now) (sym e)

pub called_use : (t : Taken) (name : List ℕ) (row : Row) → t.is_called ≡ true → name ≡ t.module_name.now → row ≡ t.row.now → From name row ≡ use_of t
called_use t name row c n r = ap (λ n. From n row) n ∙ ap (From t.module_name.now) r ∙ use_where t true c

pub needed_use : (t : Taken) (name : List ℕ) (row : Row) → t.is_called ≡ false → name ≡ t.module_name.now → row ≡ t.row.now → Need name row ≡ use_of t
needed_use t name row c n r = ap (λ n. Need n row) n ∙ ap (Need t.module_name.now) r ∙ use_where t false c

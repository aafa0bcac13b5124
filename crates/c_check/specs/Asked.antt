-- What is asked of the arguments of a call.
use Rattle.std.specs.Prelude.{List, [], map, Bool, false}
use Rattle.c_tree.specs.declared.tree.Callee.{Callee}
use Rattle.c_tree.specs.declared.tree.Callee.TheVariants as callee
use Rattle.c_meaning.specs.Plain.{signature_named}
use Rattle.c_meaning.specs.Breaches.{Scope, params_asked}
use Rattle.c_tree.specs.declared.op.Wants.{Wants}
use Rattle.c_tree.specs.declared.op.Wants.TheVariants.{AType}
use Rattle.c_tree.specs.Operations.{wants_of, takes_more}
use Rattle.c_check.specs.declared.asked.Asked.{Asked}
use Rattle.c_check.specs.declared.asked.Asked.TheVariants as asked

abbrev pub wants_in : Asked → List Wants
wants_in asked.Nothing = []
wants_in (asked.Types types) = map AType types.now
wants_in (asked.Of op) = wants_of op

-- whether any number of further objects may follow
abbrev pub asks_more : Asked → Bool
asks_more asked.Nothing = false
asks_more (asked.Types types) = false
asks_more (asked.Of op) = takes_more op

-- by what is called
abbrev pub wants_by : Scope → Callee → List Wants
wants_by s (callee.Fun name) = params_asked (signature_named s.functions name)
wants_by s (callee.Op op) = wants_of op

abbrev pub takes_more_by : Callee → Bool
takes_more_by (callee.Fun name) = false
takes_more_by (callee.Op op) = takes_more op

use Rattle.c_tree.specs.Functions.{items_of}
use Rattle.object_text.proofs.Objects.{not_object, unit_text, same_object}
use Rattle.object_text.proofs.object.read_object.Goals as goal

pub returns-in_default-clause-answer : goal.returns-in_default-clause-answer
returns-in_default-clause-answer c = not_object c.args.b.now (rw c.in_default.is at c.in_ok-header.ensures.none)

pub returns-in_default-clause-given : goal.returns-in_default-clause-given
returns-in_default-clause-given c = not_object c.args.b.now (rw c.in_default.is at c.in_ok-header.ensures.none)

pub returns-in-Ok-clause-given : goal.returns-in-Ok-clause-given
returns-in-Ok-clause-given c o t =
    let header = c.in-Some.header in
    let only = rw c.in-Some.is at c.in_ok-header.ensures.only in
    same_object c.args.b.now header (items_of c.in-Ok.unit.items) only o t (c.in-Ok.ensures.given o.items (unit_text c.args.b.now header only o t))

pub returns-in-Err-NotC-clause-answer : goal.returns-in-Err-NotC-clause-answer
returns-in-Err-NotC-clause-answer c o t =
    let only = rw c.in-Some.is at c.in_ok-header.ensures.only in
    let none = rw c.in-Err-NotC.field-0-is at c.in-Err-NotC.ensures.answer in
    none.no_tree o.items (unit_text c.args.b.now c.in-Some.header only o t)

pub returns-in-Err-NotC-clause-given : goal.returns-in-Err-NotC-clause-given
returns-in-Err-NotC-clause-given c o t =
    let only = rw c.in-Some.is at c.in_ok-header.ensures.only in
    let none = rw c.in-Err-NotC.field-0-is at c.in-Err-NotC.ensures.answer in
    none.no_tree o.items (unit_text c.args.b.now c.in-Some.header only o t)

use Rattle.c_tree.specs.Functions.{fun_of}
use Rattle.c_meaning.specs.Plain.{variables_of}
use Rattle.c_check.specs.Knowns.{known_of}
use Rattle.c_check.proofs.Knowing.{bad_head, good_head}
use Rattle.c_check.proofs.known.Known.admit_definition.Goals as goal

pub returns-in-Bad-clause-fault : goal.returns-in-Bad-clause-fault
returns-in-Bad-clause-fault c =
    bad_head (known_of c.args.self.now) (fun_of c.args.f.now) (variables_of (fun_of c.args.f.now)) c.in_ok-cause.field-0 c.in-Bad.cause c.in_ok-cause.ensures c.in-Bad.is

pub returns-in_ok-fault-in-Good-clause-fault : goal.returns-in_ok-fault-in-Good-clause-fault
returns-in_ok-fault-in-Good-clause-fault c =
    good_head (known_of c.args.self.now) (known_of c.define.new.self) (fun_of c.args.f.now) (variables_of (fun_of c.args.f.now)) c.in_ok-cause.field-0 c.in-Good.variables
    c.in_ok-fault-in-Good.fault c.in_ok-cause.ensures c.in-Good.is c.in_ok-define-in-Good.ensures c.in_ok-fault-in-Good.ensures

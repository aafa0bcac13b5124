-- What becomes of a line, or of a script, whose step isn't done.
use Rattle.base_io.specs.declared.end.RunErr.{RunErr}
use Rattle.base_io.specs.declared.end.RunErr.TheVariants as run
use Rattle.session.specs.declared.errors.ReadErr.{ReadErr}
use Rattle.session.specs.declared.errors.ReadErr.TheVariants as read
use Rattle.session.specs.declared.errors.WriteErr.{WriteErr}
use Rattle.session.specs.declared.errors.WriteErr.TheVariants as write
use Rattle.session.specs.declared.errors.MakeErr.{MakeErr}
use Rattle.session.specs.declared.errors.MakeErr.TheVariants as make
use Rattle.session.specs.declared.errors.WorkErr.{WorkErr}
use Rattle.session.specs.declared.errors.WorkErr.TheVariants as work
use Rattle.session.specs.declared.errors.Halt.{Halt}
use Rattle.session.specs.declared.errors.Halt.TheVariants as halt
use Rattle.session.specs.declared.errors.Stop.{Stop}
use Rattle.session.specs.declared.errors.Stop.TheVariants as stop

abbrev pub work_of_make : MakeErr → WorkErr
work_of_make (make.Refused refusal) = work.Refused refusal
work_of_make make.Memory = work.Memory

abbrev pub work_of_run : RunErr → WorkErr
work_of_run run.WriteFault = work.WriteFault
work_of_run run.Memory = work.Memory

abbrev pub halt_of_read : ReadErr → Halt
halt_of_read (read.NoFile name) = halt.NoFile name
halt_of_read (read.FileFault name) = halt.FileFault name
halt_of_read read.Memory = halt.Memory

abbrev pub halt_of_work : WorkErr → Halt
halt_of_work (work.Refused refusal) = halt.Refused refusal
halt_of_work work.WriteFault = halt.WriteFault
halt_of_work work.Memory = halt.Memory

abbrev pub halt_of_write : WriteErr → Halt
halt_of_write (write.FileFault name) = halt.FileFault name
halt_of_write write.Memory = halt.Memory

-- a script that was not read is its own line 0
abbrev pub stop_of_read : ReadErr → Stop
stop_of_read e = stop.Halted 0 (halt_of_read e)

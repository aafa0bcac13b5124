use Rattle.std.proofs.Common.{◌≡◌, drop}
use Rattle.core_forms.specs.Modules.{scan_all}
use Rattle.expander.specs.Answers.{module_of}
use Rattle.expander.specs.Tops.{found_in}
use Rattle.expander.proofs.scanning.+scanning.Given as goal

abbrev pub invariant-scan_forms-loop-datum : goal.invariant-scan_forms-loop-datum
invariant-scan_forms-loop-datum l =
    scan_all l.splices (module_of l.forms) (found_in l.initial.found) ≡ scan_all l.splices (module_of (drop l.datum-index l.forms)) (found_in l.found)

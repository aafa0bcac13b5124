use Rattle.std.proofs.Common.{◌≡◌, drop, map}
use Rattle.scheme_data.specs.Forms.{form}
use Rattle.module_head.specs.Steps.{take_all, item_part}
use Rattle.module_head.proofs.reading.Reading.add_items.Given as goal

abbrev pub invariant-loop-d : goal.invariant-loop-d
invariant-loop-d l =
    take_all (map (λ d. item_part l.kind (form d)) l.ds) l.fn.self ≡ take_all (map (λ d. item_part l.kind (form d)) (drop l.d-index l.ds)) l.self

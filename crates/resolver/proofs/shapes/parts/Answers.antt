use Rattle.resolver.proofs.HeadLayers.{list_parts}
use Rattle.resolver.proofs.shapes.parts.Goals as goal

pub returns-in-List : goal.returns-in-List
returns-in-List c = rw c.in-List.is (list_parts c.in-List.field-0 c.in-List.ds _ c.as_slice.ensures)

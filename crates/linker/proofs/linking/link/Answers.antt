use Rattle.std.proofs.Common.{ℕ, List, subst}
use Rattle.linker.specs.Links.{LinksTo}
use Rattle.linker.specs.Modules.{trees}
use Rattle.linker.proofs.Texts.{writable, links}
use Rattle.linker.proofs.linking.link.Goals as goal

pub link_objects-requires : goal.link_objects-requires
link_objects-requires c = writable c.as_slice.result.now (trees c.in-Some.objects.items) (rw c.in-Some.is at c.in_ok-objects.ensures.some)

pub returns-in-Some : goal.returns-in-Some
returns-in-Some c =
    subst (λ (texts : List (List ℕ)). LinksTo texts c.link_objects.result) c.as_slice.ensures
    (links c.as_slice.result.now (trees c.in-Some.objects.items) c.link_objects.result (rw c.in-Some.is at c.in_ok-objects.ensures.some) c.link_objects.ensures)

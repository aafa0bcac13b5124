-- The linked program of translated modules is plain, has its names, and does what they do.
use Rattle.std.proofs.Common.{◌≡◌, List, [], true}
use Rattle.std.specs.Prelude.{◌&&◌}
use Rattle.std.specs.List.{list_any}
use Rattle.std.proofs.lemmas.Bool.{and_parts}
use Rattle.scheme_data.specs.Names.{are_distinct}
use Rattle.c_tree.specs.Code.{Item}
use Rattle.c_tree.specs.Names.{is_main}
use Rattle.c_meaning.specs.Plain.{items_fit, defined_names, calls_each_once, is_sound, is_plain}
use Rattle.plan_rules.specs.Joined.{joined}
use Rattle.simulation.specs.Law.{KeepsMeaning}
use Rattle.simulation.proofs.Checked.{joined_plain, joined_named}
use Rattle.simulation.proofs.Main.{does_the_same}

-- no name is defined twice in a plain program
distinct_in : (items : List Item) → is_plain items ≡ true → are_distinct (defined_names items) ≡ true
unfolding is_plain is_sound
distinct_in items plain =
    let sound = and_parts (is_sound items) (list_any is_main (defined_names items) && calls_each_once items) plain in
    (and_parts (are_distinct (defined_names items)) (items_fit (defined_names items) [] items) sound.0).0

pub keeps_meaning : KeepsMeaning
unfolding KeepsMeaning
keeps_meaning program parts is are =
    let plain = joined_plain program parts is are in
    record { named = joined_named program parts is are; plain = plain; same = does_the_same program parts is are (distinct_in (joined parts is.main) plain) }

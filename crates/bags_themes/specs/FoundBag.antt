-- Bags that were found, as contracts within the crate see them: by their content, not their address.
use Rattle.std.specs.Prelude.{List, map, Result, Ok, Err}
use Rattle.reference_resolver.specs.res_value.MapRows.{map_rows_of}
use Rattle.bags_themes.specs.declared.bag_fault.BagFault.{BagFault}
use Rattle.bags_themes.specs.declared.found_bag.FoundBag.{FoundBag}
use Rattle.bag_rows.specs.Merge.{rows_in}
use Rattle.bags_themes.specs.Bag.{FoundBagOf}

abbrev pub found_bag_of : FoundBag → FoundBagOf
found_bag_of bag = record { parent = bag.parent.0; rows = rows_in bag.layer (map_rows_of bag.rows) }

abbrev pub found_bags_of : List FoundBag → List FoundBagOf
found_bags_of bags = map found_bag_of bags

abbrev pub seen_bag : Result FoundBag BagFault → Result FoundBagOf BagFault
seen_bag (Ok bag) = Ok (found_bag_of bag)
seen_bag (Err fault) = Err fault

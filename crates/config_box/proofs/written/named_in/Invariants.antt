use Rattle.std.proofs.Common.{◌≡◌, map, drop}
use Rattle.json_input.specs.Shape.{is_among}
use Rattle.box_answers.specs.config_record.Coord.{name_of}
use Rattle.config_box.proofs.written.named_in.Given as goal

abbrev pub invariant-loop-coord : goal.invariant-loop-coord
invariant-loop-coord l = is_among (map name_of (drop l.coord-index l.coords)) l.name ≡ is_among (map name_of l.coords) l.name

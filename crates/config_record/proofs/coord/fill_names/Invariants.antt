use Rattle.std.proofs.Common.{◌≡◌, take, map}
use Rattle.config_record.specs.Coord.{name_of}
use Rattle.config_record.proofs.coord.fill_names.Given as goal

-- the names of the coordinates so far
abbrev pub invariant-loop-place : goal.invariant-loop-place
invariant-loop-place l = map (λ name. name.now) (take l.place l.names) ≡ map name_of (take l.place l.coords)

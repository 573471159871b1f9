use Rattle.std.proofs.Common.{◌≡◌, ℕ, ◌+◌, ◌<◌, List, length, get_or, drop, Option, ap, sym, ◌∙◌, eq-eqb}
use Rattle.std.proofs.lemmas.Bool.{cond-true}
use Rattle.std.proofs.lemmas.List.{drop_more}
use Rattle.config_record.specs.declared.coord.Coord.{Coord}
use Rattle.config_record.specs.ComparedNumber.{device_number}
use Rattle.config_record.specs.DeviceSeen.{device_numbers}
use Rattle.notation.specs.Line.{first_unlike}
use Rattle.notation.proofs.line.first_unlike.Goals as goal

-- one coordinate more does not differ
next-alike : (coords : List Coord) (read device : List ℕ) (i : ℕ) (d : Coord) (all : Option Coord) → first_unlike (drop i coords) read device ≡ all → i < length coords
    → device_number read (get_or coords i d) ≡ device_number device (get_or coords i d) → first_unlike (drop (i + 1) coords) read device ≡ all
unfolding first_unlike
next-alike coords read device i d all before on same =
    sym (cond-true _ _ _ (eq-eqb _ _ same)) ∙ ap (λ (left : List Coord). first_unlike left read device) (sym (drop_more coords i d on)) ∙ before

pub coords-preserved : goal.coords-preserved
coords-preserved c =
    next-alike c.args.coords.now (device_numbers c.args.read.now) (device_numbers c.args.device.now) c.coords.coord-index _ _ c.coords.invariant c.coords-test.true
    (sym c.compared_number.ensures.value ∙ c.if-compared_number.false ∙ c.compared_number-in-coords.ensures.value)

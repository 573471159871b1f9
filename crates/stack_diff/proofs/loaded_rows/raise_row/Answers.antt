use Rattle.std.proofs.Common.{sym, ◌∙◌}
use Rattle.stack_diff.specs.LayersSeen.{loads_of}
use Rattle.stack_diff.specs.Raising.{level_of, cells_of}
use Rattle.reference_resolver.specs.config_record.DeviceSeen.{device_numbers}
use Rattle.stack_diff.proofs.LoadedSteps.{leaf-raised, leaf-passed}
use Rattle.stack_diff.proofs.loaded_rows.raise_row.Goals as goal

pub returns-in-Some : goal.returns-in-Some
returns-in-Some c = λ boxes.
    let corner = device_numbers c.corner.result in
    leaf-raised (cells_of c.args.uses.now) (cells_of c.raise.new.self) (loads_of c.args.look_up.now) (level_of c.args.to) boxes c.args.members.now corner c.in-Some.row (λ d m. c.requires d corner m (λ k. (c.corner.ensures k).is_in)) (λ k. (c.corner.ensures k).is_in)
    (sym c.loaded_row.ensures ∙ c.in-Some.is) c.raise.ensures

pub returns-in-None : goal.returns-in-None
returns-in-None c = λ boxes.
    let corner = device_numbers c.corner.result in
    leaf-passed (cells_of c.args.uses.now) (loads_of c.args.look_up.now) (level_of c.args.to) boxes c.args.members.now corner (λ d m. c.requires d corner m (λ k. (c.corner.ensures k).is_in)) (sym c.loaded_row.ensures ∙ c.in-None.is)

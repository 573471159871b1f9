use Rattle.std.proofs.Common.{refl}
use Rattle.std.proofs.lemmas.Option.{slice_get-map, slice_get_past, slice_get_read}
use Rattle.command_base.specs.StackBytesSeen.{layer_bytes}
use Rattle.resource_tool.proofs.survey.refused.differs_where_refused.Goals as goal

pub returns-in-None : goal.returns-in-None
returns-in-None c =
    let there = slice_get_past c.args.layers.now c.in-LayerTable.place c.in-None.ensures.lookup.3 in
    rw (c.in-LayerTable.is, slice_get-map layer_bytes c.args.layers.now c.in-LayerTable.place, there) refl

pub returns-in-Some : goal.returns-in-Some
returns-in-Some c =
    let lookup = c.in-Some.ensures.lookup in
    let there = slice_get_read c.args.layers.now _ c.in-LayerTable.place c.in-Some.layer.now refl lookup.3.0 lookup.1 in
    rw (c.in-LayerTable.is, slice_get-map layer_bytes c.args.layers.now c.in-LayerTable.place, there) c.chunks_differ.ensures

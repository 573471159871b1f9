use Rattle.std.proofs.Common.{List, map, ap}
use Rattle.std.specs.Borrow.{Bor}
use Rattle.std.proofs.lemmas.Result.{IfOk-weaker}
use Rattle.command_base.specs.names.Names.{name_of}
use Rattle.command_base.specs.NamedTarget.{named_seen}
use Rattle.command_base.specs.answer_text.overlay_map.declared.table.Table.{Table}
use Rattle.command_base.proofs.NamedSteps.{pairs_in-found, found-count}
use Rattle.command_base.proofs.pairs.pairs_in.Goals as goal

pub returns : goal.returns
returns c =
    IfOk-weaker c.found_pairs.result _ _
    (λ pairs is. pairs_in-found c.args.target.now c.args.overlay.now c.args.package_id c.in_ok-targets.targets.items c.deref.result.now c.deref-3.result.now
    c.in_ok-found.found.items c.deref-4.result.now c.in_ok-names.names.items c.deref-2.result.now (map (λ table. table.now) c.from_ref.result.now) _
    c.in_ok-targets.ensures c.deref.ensures.value c.in_ok-names.ensures c.deref-2.ensures.value (ap (λ (tables : List (Bor Table)). map (λ table. table.now) tables) c.from_ref.ensures.value)
    c.in_ok-found.ensures c.deref-3.ensures.value c.deref-4.ensures.value is)
    c.found_pairs.ensures

pub found_pairs-requires : goal.found_pairs-requires
found_pairs-requires c =
    found-count c.in_ok-targets.targets.items c.deref.result.now c.deref-3.result.now c.in_ok-found.found.items c.deref-4.result.now c.in_ok-names.names.items c.deref-2.result.now
    (λ named. (named_seen named).name) name_of _ c.deref.ensures.value c.in_ok-names.ensures c.deref-2.ensures.value c.in_ok-found.ensures c.deref-3.ensures.value c.deref-4.ensures.value

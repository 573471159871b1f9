use Rattle.std.proofs.Common.{List, subst, ap, ◌∙◌}
use Rattle.std.specs.List.{All}
use Rattle.command_base.specs.MapText.{map_text}
use Rattle.command_base.specs.overlay_map.IdMap.{IdPair, pairs_of}
use Rattle.command_base.specs.PairSeen.{IdsReadBack}
use Rattle.command_base.proofs.MapReadSteps.{made-reads_back}
use Rattle.command_base.proofs.made_map.MadeMap.with_lines.Goals as goal

pub returns : goal.returns
returns c =
    let json = c.in_ok-json.ensures.text
    ∙ ap (λ (pairs : List IdPair). map_text (pairs_of pairs)) c.deref.ensures.value
    ∙ ap map_text c.in_ok-pairs.ensures in
    let left = rw (c.deref-3.ensures.value, c.deref-4.ensures.value, c.in_ok-left.ensures.0, c.in_ok-left.ensures.1, c.deref-2.ensures.value, c.in_ok-first.ensures, c.in_ok-pairs.ensures) at c.in_ok-lines.ensures in
    let whole = rw (c.deref-2.ensures.value, c.in_ok-first.ensures, c.in_ok-pairs.ensures) at c.in_ok-left.ensures.2 in
    let reads_back = made-reads_back c.args.target.now c.args.overlay.now c.in_ok-pairs.pairs.items c.in_ok-pairs.ensures
    (subst (λ (pairs : List IdPair). All IdsReadBack pairs) c.deref.ensures.value c.in_ok-json.ensures.reads_back) in
    (json, left, whole, reads_back)

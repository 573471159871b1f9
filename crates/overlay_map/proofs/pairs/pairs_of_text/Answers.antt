use Rattle.std.proofs.Common.{◌≡◌, List, Result, Ok, Err, Some, Vec, Global, sym, ap, ◌∙◌}
use Rattle.contract_words.specs.Exact.{GivesOr}
use Rattle.json_tokens.specs.json.Json.{parse_map}
use Rattle.json_tokens.specs.Standing.{value_at}
use Rattle.json_tokens.proofs.Whole.{text-means}
use Rattle.overlay_map.specs.IdMap.{IdPair, pairs_in}
use Rattle.overlay_map.specs.PairsRead.{pairs_kept}
use Rattle.overlay_map.specs.declared.map_fault.MapFault.{MapFault}
use Rattle.overlay_map.specs.declared.map_fault.MapFault.TheVariants.{Syntax, OutOfMemory}
use Rattle.overlay_map.proofs.pairs.pairs_of_text.Goals as goal

-- what was kept is given up
gives : (kept : Result (Vec IdPair Global) MapFault) (meant : Result (List IdPair) MapFault) → meant ≡ pairs_kept kept → GivesOr OutOfMemory (λ (pairs : Vec IdPair Global). pairs.items) kept meant
gives (Ok pairs) meant e = e
gives (Err fault) meant e = λ _. e

pub returns : goal.returns
returns c =
    let text = c.in_ok-tokens.ensures in
    let kept = c.in_ok-pairs.pairs in
    let read = ap (λ ts. parse_map pairs_in (value_at 127 ts)) (sym text.1) ∙ c.in_ok-pairs.ensures ∙ ap (λ ts. Some (pairs_kept kept, ts)) c.in_ok-end.ensures in
    gives kept _ (text-means pairs_in Syntax c.args.json.now (pairs_kept kept) text.0 read)

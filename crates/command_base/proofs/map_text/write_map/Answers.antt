use Rattle.std.proofs.Common.{ℕ, List, [], ◌∷◌, ◌++◌, codes, flat_map, sym, subst, append_assoc, rules}
use Rattle.std.proofs.KnownBytes.{Appends-trans}
use Rattle.std.proofs.lemmas.Result.{on_ok_weaker}
use Rattle.std.specs.Io.KnownBytes.{Appends}
use Rattle.command_base.specs.overlay_map.IdMap.{IdPair, pairs_of}
use Rattle.command_base.specs.MapText.{map_text, next_pair_text, pair_text}
use Rattle.command_base.specs.PairSeen.{pair_seen}
use Rattle.command_base.proofs.map_text.write_map.Goals as goal

pub returns : goal.returns
unfolding map_text
returns g c =
    let old = g.W.Write.contents c.args.out.now in
    let new = g.W.Write.contents c.write_all-2.new.self in
    let written : List ℕ = codes "[" ++ pair_text (pair_seen c.in-Some.first.now) ++ flat_map next_pair_text (pairs_of c.in-Some.others.now) in
    let to_others = Appends-trans _ _ _ _ _ c.in_ok-write_pair.ensures.0 c.in_ok-write_others.ensures.0 in (
      on_ok_weaker c.write_all-2.result
          (λ last.
          subst (λ (pairs : List IdPair). Appends old new (map_text (pairs_of pairs))) (sym c.in-Some.ensures.cases.0)
          (subst (λ (text : List ℕ). Appends old new text) (sym (append_assoc written (codes "]") (10 ∷ []))) (Appends-trans _ _ _ _ _ to_others last)))
          c.write_all-2.ensures.bytes,
      search rules,
    )

use Rattle.std.proofs.Common.{◌≡◌, List, [], ◌∷◌, ◌++◌, ℕ, map, refl, sym, ap, ◌∙◌, append_assoc}
use Rattle.std.proofs.lemmas.List.{map-append}
use Rattle.std.specs.Map.{keys_of}
use Rattle.type_chunks.specs.res_value.declared.res_id.ResId.{ResId}
use Rattle.overlay_map.specs.IdMap.{IdPair, pairs_of, targets_in}
use Rattle.overlay_map.proofs.id_map.IdMap.targets.Goals as goal

of_keys : (entries : List IdPair) → map (λ (target : ResId). target.0) (keys_of entries) ≡ targets_in (pairs_of entries)
of_keys [] = refl
of_keys (pair ∷ pairs) = ap (λ (targets : List ℕ). pair.0.0 ∷ targets) (of_keys pairs)

pub loop-target-init : goal.loop-target-init
loop-target-init c = record {
  can = tt;
  ends = tt;
  left =
      ap (λ (done : List ResId). map (λ (target : ResId). target.0) done ++ map (λ (target : ResId). target.0) c.into_iter-target-iterator.result) c.new-targets.ensures.items
      ∙ ap (map (λ (target : ResId). target.0)) (c.into_iter-target-iterator.ensures.into_iter_gives ∙ c.keys-target-items.ensures.rest)
      ∙ of_keys c.self.inside.pairs.entries
      ∙ ap targets_in c.self.view_is;
}

pub loop-target-preserved : goal.loop-target-preserved
loop-target-preserved c =
    let number : ResId → ℕ = λ target. target.0 in
    let before : List ResId = c.loop-target.targets.items in
    let left : List ResId = c.next.new.self in
    let target : ResId = c.in-Some.target.now in
    let pushed : c.push.new.self.items ≡ before ++ target ∷ [] = c.in_ok-push.ensures.items in record {
      can = tt;
      ends = tt;
      left =
          ap (λ (done : List ResId). map number done ++ map number left) pushed
          ∙ ap (λ (done : List ℕ). done ++ map number left) (map-append number before (target ∷ []))
          ∙ append_assoc (map number before) (number target ∷ []) (map number left)
          ∙ ap (λ (rest : List ResId). map number before ++ map number rest) (sym c.in-Some.ensures.steps)
          ∙ c.loop-target.invariant.left;
    }

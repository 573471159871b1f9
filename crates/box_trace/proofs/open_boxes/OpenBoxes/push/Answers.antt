use Rattle.std.proofs.Common.{List, [], ◌∷◌, ◌++◌, Option, Some, IsSome, refl, ap, ◌∙◌}
use Rattle.std.proofs.lemmas.Grind.{flat_map-append}
use Rattle.std.proofs.lemmas.List.Elements.{All-same, All-push}
use Rattle.std.specs.List.{flat_map}
use Rattle.std.specs.Option.{option_to_list}
use Rattle.box_trace.specs.declared.open_box.OpenBox.{OpenBox}
use Rattle.box_trace.proofs.open_boxes.OpenBoxes.push.Goals as goal

pub returns : goal.returns
returns c = record {
  items =
      ap (λ (places : List (Option OpenBox)). flat_map option_to_list places) c.in_ok-push.ensures.ok
      ∙ flat_map-append option_to_list c.self.inside.places.items (Some c.args.part ∷ [])
      ∙ ap (λ (parts : List OpenBox). parts ++ c.args.part ∷ []) c.self.view_is;
  err = tt;
}

pub invariant_of-self-2 : goal.invariant_of-self-2
invariant_of-self-2 c = All-same IsSome _ _ c.in_ok-push.ensures.ok (All-push IsSome _ _ c.self.invariant refl)

use Rattle.std.proofs.Common.{◌≡◌, List, [], ◌∷◌, ◌++◌, Option, arith, sym, ap, ◌∙◌}
use Rattle.std.specs.Option.{option_to_list}
use Rattle.std.proofs.lemmas.List.{append-nil, nil_from_length}
use Rattle.config_box.specs.box_answers.NumberSet.{SetOf}
use Rattle.config_box.specs.Joined.{IsJoined, CannotJoin, HasJoinedSets}
use Rattle.config_box.proofs.AddSteps.{added-first, added-joined, added-behind}
use Rattle.config_box.proofs.joined_boxes.add.Goals as goal

pub returns-in_default : goal.returns-in_default
returns-in_default c =
    let front : List (List SetOf) = c.pop.new.self.items in
    let whole : c.args.boxes.now.items ≡ front = c.pop.ensures.items ∙ ap (λ (r : Option (List SetOf)). front ++ option_to_list r) c.in_default.is ∙ append-nil front in
    let is : c.push.new.self.items ≡ c.args.boxes.now.items ++ c.args.next ∷ [] = c.in_ok-push.ensures.items ∙ ap (λ (l : List (List SetOf)). l ++ c.args.next ∷ []) (sym whole) in
    added-first c.args.boxes.now.items c.push.new.self.items c.args.next (nil_from_length c.args.boxes.now.items (omega (arith, c.in_default.ensures.cases))) is

pub returns-in-Some-2 : goal.returns-in-Some-2
returns-in-Some-2 c =
    let front : List (List SetOf) = c.pop.new.self.items in
    let whole : c.args.boxes.now.items ≡ front ++ c.in-Some.last ∷ [] = c.pop.ensures.items ∙ ap (λ (r : Option (List SetOf)). front ++ option_to_list r) c.in-Some.is in
    let joined : IsJoined c.in-Some.last c.args.next c.in-Some-2.both = rw c.in-Some-2.is at c.in_ok-both.ensures.members in
    let has : HasJoinedSets c.in-Some.last c.args.next c.in-Some-2.both = rw c.in-Some-2.is at c.in_ok-both.ensures.sets in
    added-joined c.args.boxes.now.items front c.push-in-Some-2.new.self.items c.in-Some.last c.args.next c.in-Some-2.both whole c.in_ok-push-2.ensures.items joined has

pub returns : goal.returns
returns c =
    let front : List (List SetOf) = c.pop.new.self.items in
    let whole : c.args.boxes.now.items ≡ front ++ c.in-Some.last ∷ [] = c.pop.ensures.items ∙ ap (λ (r : Option (List SetOf)). front ++ option_to_list r) c.in-Some.is in
    let cannot : CannotJoin c.in-Some.last c.args.next = rw c.in_default-2.is at c.in_ok-both.ensures.sets in
    added-behind c.args.boxes.now.items front c.push-3.new.self.items c.in-Some.last c.args.next whole
    (c.in_ok-push-4.ensures.items ∙ ap (λ (l : List (List SetOf)). l ++ c.args.next ∷ []) c.in_ok-push-3.ensures.items) cannot

-- A stack beside nothing: its changes tell all that a resource says.
use Rattle.std.proofs.Common.{◌≡◌, ℕ, List, [], ◌∷◌, ◌++◌, map, Option, Some, None, refl, sym, ap, subst}
use Rattle.std.specs.List.{All, flat_map}
use Rattle.std.proofs.lemmas.List.Elements.{All-head, All-tail, All-map, All-weaker}
use Rattle.cert_maker.specs.box_answers.NumberSet.{SetOf}
use Rattle.cert_maker.specs.box_answers.Members.{IsMember}
use Rattle.config_box.specs.Devices.{HasOnce}
use Rattle.answer_text.specs.Content.{ContentOf, BagOf}
use Rattle.stack_diff.specs.Changes.{ChangeOf, IsSo, IsReal, boxes_in}
use Rattle.stack_diff.specs.Difference.{DifferenceOf, RowsDiffer, ContentsDiffer, FromNothing}
use Rattle.stack_diff.specs.Fewest.{AreShort, AreToldShort}
use Rattle.stack_diff.specs.Values.{SaidOf, IsSaid, change_of_said, AreValues}

-- what is said after
abbrev content_after : DifferenceOf → ContentOf
content_after (RowsDiffer rows) = BagOf []
content_after (ContentsDiffer before after) = after
content_after (FromNothing content) = content

abbrev content_told : Option DifferenceOf → ContentOf
content_told None = BagOf []
content_told (Some difference) = content_after difference

abbrev said_of : ChangeOf → SaidOf
said_of change = record { content = content_after change.difference; boxes = change.boxes }

same-boxes : (changes : List ChangeOf) → flat_map (λ said. said.boxes) (map said_of changes) ≡ boxes_in changes
same-boxes [] = refl
same-boxes (change ∷ changes) = ap (λ (boxes : List (List SetOf)). change.boxes ++ boxes) (same-boxes changes)

module _ (says : List ℕ → ContentOf) (sets : List SetOf) where
  abbrev from_nothing : List ℕ → Option DifferenceOf
  from_nothing d = Some (FromNothing (says d))

  abbrev SoOn : DifferenceOf → List SetOf → Type 0
  SoOn difference part = (d : List ℕ) → IsMember part d → IsSo from_nothing sets difference d

  -- each change is one from nothing, since it is so on some device
  is-from-nothing : (change : ChangeOf) → IsReal from_nothing sets change → FromNothing (content_after change.difference) ≡ change.difference
  is-from-nothing change real =
      let some = real.devices 0 [] real.somewhere in
      let here : Some (FromNothing (says some.0)) ≡ Some change.difference = (real.so 0 [] real.somewhere some.0 some.1).so in
      let it : FromNothing (says some.0) ≡ change.difference = cc in
      subst (λ (one : DifferenceOf). FromNothing (content_after one) ≡ one) it refl

  all-from-nothing : (changes : List ChangeOf) → All (IsReal from_nothing sets) changes → map change_of_said (map said_of changes) ≡ changes
  all-from-nothing [] real = refl
  all-from-nothing (change ∷ changes) real =
      let here = is-from-nothing change (All-head (IsReal from_nothing sets) change changes real) in
      let others = all-from-nothing changes (All-tail (IsReal from_nothing sets) change changes real) in
      λ i. record { difference = here i; boxes = change.boxes } ∷ others i

  is-said : (change : ChangeOf) → IsReal from_nothing sets change → IsSaid says sets (said_of change)
  is-said change real = record {
    somewhere = real.somewhere;
    devices = real.devices;
    so = All-weaker (SoOn change.difference) (λ part. (d : List ℕ) → IsMember part d → IsMember sets d × (says d ≡ content_after change.difference))
        (λ part so d member. let it = so d member in (it.member, ap content_told it.so)) change.boxes real.so;
  }

  pub are-values : (changes : List ChangeOf) → AreToldShort from_nothing sets changes → (values : List SaidOf) × (map change_of_said values ≡ changes) × AreValues says sets values
  are-values changes told =
      let same = all-from-nothing changes told.0.real in (
        map said_of changes,
        same,
        record {
          said = All-map (IsSaid says sets) said_of changes (All-weaker (IsReal from_nothing sets) (λ change. IsSaid says sets (said_of change)) is-said changes told.0.real);
          once = λ d member. subst (HasOnce d) (sym (same-boxes changes)) (told.0.once d member (λ e. cc));
          short = subst (AreShort from_nothing sets) (sym same) told.1;
        },
      )

-- How a loop finds the layers of a word, one base with its overlays after the other.
use Rattle.std.proofs.Common.{◌≡◌, ℕ, ◌+◌, ◌<◌, ◌≤◌, List, [], ◌∷◌, ◌++◌, map, drop, length, get_or, refl, sym, ap, ◌∙◌}
use Rattle.std.specs.Borrow.{Bor}
use Rattle.std.specs.List.{slice_split}
use Rattle.std.proofs.lemmas.List.{drop_more, drop_all, length-map}
use Rattle.command_base.specs.declared.list_word.ListedLayer as lent
use Rattle.command_base.specs.ListWord.{ListedLayer, is_plus, with_groups, with_overlays}
use Rattle.command_base.specs.ListWordSeen.{listed_of}

abbrev pub group_of : Bor (List ℕ) → List ℕ
group_of group = group.now

-- those that are left stand behind the layers so far
abbrev pub GroupsLeft : List lent.ListedLayer → ℕ → List (Bor (List ℕ)) → Type 0
GroupsLeft layers place groups = with_groups (map listed_of layers) (map group_of (drop place groups)) ≡ with_groups [] (map group_of groups)

first-group : (before : List ListedLayer) (group : List ℕ) (groups : List (List ℕ)) → with_groups before (group ∷ groups) ≡ with_groups (before ++ with_overlays (length before) (slice_split is_plus group)) groups
unfolding with_groups
first-group before group groups = refl

pub GroupsLeft-next : (layers more : List lent.ListedLayer) (place : ℕ) (groups : List (Bor (List ℕ))) (d : Bor (List ℕ)) → GroupsLeft layers place groups → place < length groups
    → map listed_of more ≡ map listed_of layers ++ with_overlays (length layers) (slice_split is_plus (get_or groups place d).now) → GroupsLeft more (place + 1) groups
GroupsLeft-next layers more place groups d before on pushed =
    let left = map group_of (drop (place + 1) groups) in
    let parts = slice_split is_plus (get_or groups place d).now in
    let here = map listed_of layers in
    ap (λ (listed : List ListedLayer). with_groups listed left) pushed
    ∙ ap (λ (n : ℕ). with_groups (here ++ with_overlays n parts) left) (sym (length-map layers listed_of))
    ∙ sym (first-group here (get_or groups place d).now left)
    ∙ ap (λ (others : List (Bor (List ℕ))). with_groups here (map group_of others)) (sym (drop_more groups place d on))
    ∙ before

pub GroupsLeft-end : (layers : List lent.ListedLayer) (place : ℕ) (groups : List (Bor (List ℕ))) → GroupsLeft layers place groups → length groups ≤ place
    → map listed_of layers ≡ with_groups [] (map group_of groups)
unfolding with_groups
GroupsLeft-end layers place groups before past =
    sym (ap (λ (others : List (Bor (List ℕ))). with_groups (map listed_of layers) (map group_of others)) (drop_all place groups past)) ∙ before

-- How a loop finds whether one of some items passes a test, and writes the text of each.
use Rattle.std.proofs.Common.{◌≡◌, ℕ, ◌+◌, ◌<◌, ◌≤◌, Bool, false, List, [], ◌∷◌, Option, refl, sym, ap, ◌∙◌, length, drop, get_or, map}
use Rattle.std.specs.Prelude.{◌||◌}
use Rattle.std.specs.List.{list_any, enumerate_from}
use Rattle.std.specs.Borrow.{Bor}
use Rattle.std.proofs.Math.Bool.{or-false, or_assoc}
use Rattle.std.proofs.lemmas.List.{drop_more, drop_all}
use Rattle.std.specs.Io.KnownBytes.{Appends}
use Rattle.contract_words.proofs.TextSteps.{PutsAllBut, PutsAllBut-none, PutsAllBut-next, PutsAllBut-done}
use Rattle.command_base.specs.StackBytes.{LayerBytes}
use Rattle.command_base.specs.StackBytesSeen.{layer_bytes}

-- with what was found, one of those that are left passes where one of all does
pub record FindsAllBut {A : Type 0} (test : A → Bool) (found : Bool) (all left : List A) : Type 0 where
  pub others : (found || list_any test left) ≡ list_any test all

pub FindsAllBut-none : {A : Type 0} (test : A → Bool) (all : List A) → FindsAllBut test false all all
FindsAllBut-none test all = record { others = refl }

pub FindsAllBut-next : {A : Type 0} (test : A → Bool) (found new passes : Bool) (all left others : List A) (x : A) → FindsAllBut test found all left
    → left ≡ x ∷ others → passes ≡ test x → new ≡ (found || passes) → FindsAllBut test new all others
FindsAllBut-next {A} test found new passes all left others x before split tells after = record {
  others =
      ap (λ (b : Bool). b || list_any test others) (after ∙ ap (λ (b : Bool). found || b) tells)
      ∙ or_assoc found (test x) (list_any test others)
      ∙ ap (λ (xs : List A). found || list_any test xs) (sym split)
      ∙ before.others;
}

pub FindsAllBut-end : {A : Type 0} (test : A → Bool) (found : Bool) (all left : List A) → FindsAllBut test found all left → left ≡ [] → found ≡ list_any test all
FindsAllBut-end {A} test found all left before nothing =
    sym (or-false found) ∙ ap (λ (xs : List A). found || list_any test xs) (sym nothing) ∙ before.others

pub FindsAllBut-next_at : {A : Type 0} (test : A → Bool) (found new passes : Bool) (xs : List A) (place : ℕ) (d : A) → FindsAllBut test found xs (drop place xs)
    → place < length xs → passes ≡ test (get_or xs place d) → new ≡ (found || passes) → FindsAllBut test new xs (drop (place + 1) xs)
FindsAllBut-next_at test found new passes xs place d before on tells after =
    FindsAllBut-next test found new passes xs (drop place xs) (drop (place + 1) xs) (get_or xs place d) before (drop_more xs place d on) tells after

-- the text of the item at a place of a slice was written
pub line-next_at : {A : Type 0} (line : A → List ℕ) (old mid new : Option (List ℕ)) (xs : List A) (place : ℕ) (d : A) → PutsAllBut line old mid xs (drop place xs)
    → place < length xs → Appends mid new (line (get_or xs place d)) → PutsAllBut line old new xs (drop (place + 1) xs)
line-next_at line old mid new xs place d before on put =
    PutsAllBut-next line old mid new xs (drop place xs) (drop (place + 1) xs) (get_or xs place d) before (drop_more xs place d on) put

-- ---- layers, as their bytes are lent, with their places

abbrev pub Lent : Type 0
Lent = Bor (List ℕ) × Option (Bor (List ℕ))

-- the layers from a place on
abbrev pub layers_from : ℕ → List Lent → List (ℕ × LayerBytes)
layers_from place layers = enumerate_from place (map layer_bytes (drop place layers))

pub layers_from-next : (place : ℕ) (layers : List Lent) (d : Lent) → place < length layers
    → layers_from place layers ≡ (place, layer_bytes (get_or layers place d)) ∷ layers_from (place + 1) layers
layers_from-next place layers d on = ap (λ (left : List Lent). enumerate_from place (map layer_bytes left)) (drop_more layers place d on)

pub layers_from-end : (place : ℕ) (layers : List Lent) → length layers ≤ place → layers_from place layers ≡ []
layers_from-end place layers past = ap (λ (left : List Lent). enumerate_from place (map layer_bytes left)) (drop_all place layers past)

pub ruleset finds = (PutsAllBut-none, PutsAllBut-done, FindsAllBut-none, FindsAllBut-end, drop_all, layers_from-end)

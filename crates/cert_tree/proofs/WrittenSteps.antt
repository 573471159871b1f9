-- How a loop writes a value for each item of a list.
use Rattle.std.proofs.Common.{◌≡◌, ℕ, ◌+◌, ◌<◌, ◌≤◌, List, [], ◌∷◌, ◌++◌, map, length, take, get_or, refl, sym, ap, subst, ◌∙◌}
use Rattle.std.specs.List.{All}
use Rattle.std.proofs.lemmas.List.{take_all, take_more, map-append}
use Rattle.std.proofs.lemmas.List.Elements.{All-nil, All-more, All-map}
use Rattle.std.proofs.lemmas.Simd.{map-map}
use Rattle.serde_json.specs.Data.{Data}
use Rattle.serde_json.specs.View.{view}
use Rattle.serde_json.specs.declared.value.Value.{Value}

-- the values are those of the items before a place, and P holds of these
pub record WrittenUpTo {X : Type 0} (data_of : X → Data) (P : X → Type 0) (values : List Value) (place : ℕ) (items : List X) : Type 0 where
  pub same : map view values ≡ map data_of (take place items)
  pub each : All P (take place items)

pub WrittenUpTo-none : {X : Type 0} (data_of : X → Data) (P : X → Type 0) (items : List X) → WrittenUpTo data_of P [] 0 items
WrittenUpTo-none data_of P items = record { same = refl; each = All-nil P }

pub WrittenUpTo-next : {X : Type 0} (data_of : X → Data) (P : X → Type 0) (values : List Value) (place : ℕ) (items : List X) (d : X) (value : Value)
    → WrittenUpTo data_of P values place items → place < length items → view value ≡ data_of (get_or items place d) → P (get_or items place d)
    → WrittenUpTo data_of P (values ++ value ∷ []) (place + 1) items
WrittenUpTo-next {X} data_of P values place items d value before on is holds = record {
  same =
      map-append view values (value ∷ [])
      ∙ ap (λ (t : List Data). t ++ view value ∷ []) before.same
      ∙ ap (λ (t : Data). map data_of (take place items) ++ t ∷ []) is
      ∙ sym (map-append data_of (take place items) (get_or items place d ∷ []))
      ∙ ap (map data_of) (sym (take_more items place d on));
  each = All-more P items place d on before.each holds;
}

pub WrittenUpTo-same : {X : Type 0} (data_of : X → Data) (P : X → Type 0) (values : List Value) (place : ℕ) (items : List X)
    → WrittenUpTo data_of P values place items → length items ≤ place → map view values ≡ map data_of items
WrittenUpTo-same data_of P values place items before past = before.same ∙ ap (map data_of) (take_all place items past)

pub WrittenUpTo-each : {X : Type 0} (data_of : X → Data) (P : X → Type 0) (values : List Value) (place : ℕ) (items : List X)
    → WrittenUpTo data_of P values place items → length items ≤ place → All P items
WrittenUpTo-each {X} data_of P values place items before past = subst (λ (t : List X). All P t) (take_all place items past) before.each

-- ---- where the items are seen by a view

pub WrittenUpTo-same_seen : {X Y : Type 0} (data_of : Y → Data) (view_of : X → Y) (P : Y → Type 0) (values : List Value) (place : ℕ) (items : List X)
    → WrittenUpTo (λ x. data_of (view_of x)) (λ x. P (view_of x)) values place items → length items ≤ place → map view values ≡ map data_of (map view_of items)
WrittenUpTo-same_seen data_of view_of P values place items before past =
    WrittenUpTo-same (λ x. data_of (view_of x)) (λ x. P (view_of x)) values place items before past ∙ sym (map-map data_of view_of items)

pub WrittenUpTo-each_seen : {X Y : Type 0} (data_of : Y → Data) (view_of : X → Y) (P : Y → Type 0) (values : List Value) (place : ℕ) (items : List X)
    → WrittenUpTo (λ x. data_of (view_of x)) (λ x. P (view_of x)) values place items → length items ≤ place → All P (map view_of items)
WrittenUpTo-each_seen data_of view_of P values place items before past =
    All-map P view_of items (WrittenUpTo-each (λ x. data_of (view_of x)) (λ x. P (view_of x)) values place items before past)

-- a value is pushed for the item at the place
pub WrittenUpTo-pushed : {X : Type 0} (data_of : X → Data) (P : X → Type 0) (values new : List Value) (place : ℕ) (items : List X) (here d : X) (value : Value)
    → WrittenUpTo data_of P values place items → place < length items → new ≡ values ++ value ∷ [] → here ≡ get_or items place d → view value ≡ data_of here → P here
    → WrittenUpTo data_of P new (place + 1) items
WrittenUpTo-pushed {X} data_of P values new place items here d value before on pushed at is holds =
    subst (λ (vs : List Value). WrittenUpTo data_of P vs (place + 1) items) (sym pushed)
    (WrittenUpTo-next data_of P values place items d value before on (is ∙ ap data_of at) (subst P at holds))

pub ruleset written_steps = (WrittenUpTo-none, WrittenUpTo-next, WrittenUpTo-same, WrittenUpTo-each)

-- What was noted of rows. Contracts within the crate alone speak of this.
use Rattle.std.specs.Prelude.{◌≡◌, ℕ, Bool, ◌||◌, true, List, [], ◌∷◌, Option, Some, None, if◌then◌else◌}
use Rattle.std.specs.BTreeMap.{BTreeMap, get_by}
use Rattle.std.specs.BTreeSet.{BTreeSet, contains}
use Rattle.std.specs.List.{flat_map, list_any}
use Rattle.std.specs.Option.{option_or}
use Rattle.std.specs.Ordering.{is_eq, nat_cmp}
use Rattle.overlay_map.specs.Layer.{LayerOf}
use Rattle.overlay_map.specs.Table.{TableOf}
use Rattle.overlay_map.specs.type_chunks.Row.{RowOf}
use Rattle.overlay_map.specs.res_value.declared.res_id.ResId.{ResId}
use Rattle.names.specs.declared.label.Label.{Label}
use Rattle.names.specs.declared.noted.Noted.{Noted}
use Rattle.names.specs.declared.passed.Passed.{Passed}
use Rattle.names.specs.Label.{LabelOf, label_of, label_cmp}
use Rattle.names.specs.Passed.{was_passed}
use Rattle.names.specs.Shared.{if_shared}
use Rattle.names.specs.IdsOfType.{id_of_number}
use Rattle.names.specs.StackLabels.{Labelled, by_id, first_with, is_id, labelled, name_of_row, named}

-- the id that a label stands for
abbrev pub id_at : BTreeMap Label ResId → LabelOf → Option ResId
id_at labels label = get_by (λ key. label_cmp label (label_of key)) labels

-- of these the first that has a label gives it its id, where it had none
abbrev pub AddsLabels : List Labelled → BTreeMap Label ResId → BTreeMap Label ResId → Type 0
AddsLabels all old new = (label : LabelOf) → id_at new label ≡ option_or (id_at old label) (first_with all label)

abbrev pub by_number : ℕ → Labelled
by_number number = by_id (id_of_number number)

-- all labels of a stack were added
abbrev pub HasLabels : List LayerOf → BTreeMap Label ResId → Type 0
HasLabels layers labels = (label : LabelOf) → id_at labels label ≡ first_with (labelled layers) label

abbrev pub is_in : List ℕ → ℕ → Bool
is_in numbers number = list_any (λ other. is_eq (nat_cmp number other)) numbers

-- numbers were put into a set
abbrev pub Puts : List ℕ → BTreeSet ℕ → BTreeSet ℕ → Type 0
Puts numbers old new = (number : ℕ) → contains nat_cmp new number ≡ (contains nat_cmp old number || is_in numbers number)

abbrev pub number_of : Option ResId → List ℕ
number_of None = []
number_of (Some id) = id.0 ∷ []

-- the id for which a name stands
abbrev pub if_named : (LabelOf → Option ResId) → Labelled → List ℕ
if_named stands one = number_of (stands one.label)

-- an id with a name, where the name stands for another one
abbrev pub shared_number : ResId → Option ResId → List ℕ
shared_number id found = if is_id id found then [] else id.0 ∷ []

-- nothing was noted
pub record IsNothing (noted : Noted) : Type 0 where
  pub labels : noted.labels.entries ≡ []
  pub ids : noted.ids.keys ≡ []
  pub named : noted.named.keys ≡ []
  pub shared : noted.shared.keys ≡ []

-- rows of these ids were noted, and of those that have names these
pub record Notes (numbers : List ℕ) (all : List Labelled) (old new : Noted) : Type 0 where
  pub labels : AddsLabels all old.labels new.labels
  pub ids : Puts numbers old.ids new.ids
  pub named : Puts (flat_map (if_named (id_at new.labels)) all) old.named new.named
  pub shared : Puts (flat_map (if_shared (id_at new.labels)) all) old.shared new.shared

-- to note a row that was passed changes nothing
abbrev pub AreNoted : TableOf → Passed → Noted → Type 0
AreNoted table passed noted = (row : RowOf) → was_passed passed row ≡ true → Notes (row.id ∷ []) (named row (name_of_row table row)) noted noted

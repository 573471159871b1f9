-- What a resource is called: by its package and the names of its type and its entry, or by its id.
use Rattle.std.specs.Prelude.{ℕ, Bool, List}
use Rattle.std.specs.Cmp.Lexicographic.{slice_cmp}
use Rattle.std.specs.Cow.{cow_str_bytes}
use Rattle.std.specs.Ordering.{is_eq, nat_cmp, ordering_then}
use Rattle.std.specs.declared.cmp.Ordering.{Ordering}
use Rattle.std.specs.declared.cmp.Ordering.TheVariants.{Less, Greater}
use Rattle.overlay_map.specs.res_value.declared.res_id.ResId.{ResId}
use Rattle.names.specs.declared.label.Label.{Label}
use Rattle.names.specs.declared.label.Label.TheVariants.{Name, Id}

-- The name of a resource.
pub record FullNameOf : Type 0 where
  -- the number of its package
  pub package_id : ℕ
  -- the name of its type
  pub type_name : List ℕ
  -- the name of its entry
  pub entry_name : List ℕ

-- A label, by its content, not its address.
pub data LabelOf : Type 0 where
  ByName : FullNameOf → LabelOf
  ById : ResId → LabelOf

abbrev pub label_of : Label → LabelOf
label_of (Name package_id type_name entry_name) = ByName (record { package_id = package_id; type_name = cow_str_bytes type_name; entry_name = cow_str_bytes entry_name })
label_of (Id id) = ById id

-- by package, then by type and then by entry, these byte by byte
abbrev pub name_cmp : FullNameOf → FullNameOf → Ordering
name_cmp a b =
    ordering_then (nat_cmp a.package_id b.package_id)
    (ordering_then (slice_cmp nat_cmp a.type_name b.type_name) (slice_cmp nat_cmp a.entry_name b.entry_name))

-- names stand before ids
abbrev pub label_cmp : LabelOf → LabelOf → Ordering
label_cmp (ByName a) (ByName b) = name_cmp a b
label_cmp (ByName a) (ById id) = Less
label_cmp (ById id) (ByName b) = Greater
label_cmp (ById id) (ById other) = nat_cmp id.0 other.0

abbrev pub is_same : LabelOf → LabelOf → Bool
is_same a b = is_eq (label_cmp a b)

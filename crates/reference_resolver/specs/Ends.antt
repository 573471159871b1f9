-- Where a chain of references ends (AOSP: ResTable::resolveReference). An id is looked up by selection; what it
-- selects is a reference to the next id, or the end.
use Rattle.std.specs.Prelude.{ℕ, zero, suc, ◌≡◌, ◌≤◌, ◌⊎◌, ◌==◌, Bool, true, false, ◌&&◌, not, List, [], ◌∷◌, length, Option, Some, None, if◌then◌else◌}
use Rattle.overlay_map.specs.res_value.declared.res_id.ResId.{ResId}
use Rattle.overlay_map.specs.res_value.declared.value.Value.{Value}
use Rattle.overlay_map.specs.res_value.Cell.{CellOf, PlainOf, BagOf}
use Rattle.overlay_map.specs.res_value.Kind.{reference_kind}
use Rattle.overlay_map.specs.Layer.{LayerOf}
use Rattle.overlay_map.specs.Candidates.{CandOf}
use Rattle.reference_resolver.specs.declared.end.End.{End}
use Rattle.reference_resolver.specs.declared.end.End.TheVariants as ends
use Rattle.reference_resolver.specs.declared.next.Next.{Next}
use Rattle.reference_resolver.specs.declared.next.Next.TheVariants.{LookUp, EndsAt}
use Rattle.reference_resolver.specs.Selection.{selected}

-- how many references are followed, at most
abbrev pub references_followed : ℕ
references_followed = 20

-- ---- one look-up

-- a reference to some id; id 0 is none
abbrev pub is_reference : Value → Bool
is_reference value = value.kind == reference_kind && not (value.word == 0)

-- a reference leads to the id that its word is; any other value, and a bag, is an end
abbrev next_of_cell : ℕ → ℕ → CellOf → Next
next_of_cell id layer (PlainOf value) =
    if is_reference value then LookUp (record { 0 = value.word }) else EndsAt (ends.Value layer value)
next_of_cell id layer (BagOf parent rows) = EndsAt (ends.Bag (record { 0 = id }))

-- where an id leads of which this is selected
abbrev pub next_of : ℕ → Option CandOf → Next
next_of id None = EndsAt (ends.Absent (record { 0 = id }))
next_of id (Some candidate) = next_of_cell id candidate.layer candidate.row.cell

-- a reference beyond those that may still be followed leads no further
abbrev pub cut_off : ℕ → Next → Next
cut_off zero (LookUp target) = EndsAt (ends.TooLong target)
cut_off zero (EndsAt end) = EndsAt end
cut_off (suc left) next = next

-- where the look-up of an id leads, where at most so many references may still be followed
abbrev pub next_within : List LayerOf → ℕ → ℕ → List ℕ → Next
next_within stack left id d = cut_off left (next_of id (selected stack id d))

-- ---- the end, look-up by look-up

-- a value or a bag
abbrev pub is_value : End → Bool
is_value (ends.Value layer value) = true
is_value (ends.Bag id) = true
is_value (ends.Absent id) = false
is_value (ends.TooLong id) = false

abbrev end_by : (ResId → End) → Next → End
end_by follow (LookUp target) = follow target
end_by follow (EndsAt end) = end

-- where at most so many references are followed
abbrev pub end_of : List LayerOf → ℕ → ℕ → List ℕ → End
end_of stack zero id d = end_by (λ target. ends.TooLong target) (next_of id (selected stack id d))
end_of stack (suc most) id d = end_by (λ target. end_of stack most target.0 d) (next_of id (selected stack id d))

-- ---- the end of a chain

-- an id selects a reference to another
abbrev pub RefersTo : List LayerOf → List ℕ → ℕ → ℕ → Type 0
RefersTo stack d id target = next_of id (selected stack id d) ≡ LookUp (record { 0 = target })

-- an id selects nothing, a bag, or a value that is no reference, and this is the end
abbrev pub EndsHere : List LayerOf → List ℕ → ℕ → End → Type 0
EndsHere stack d id end = next_of id (selected stack id d) ≡ EndsAt end

-- each id selects a reference to the next one: the first to the first of these, and so on to the last
abbrev pub IsChain : List LayerOf → List ℕ → ℕ → List ℕ → ℕ → Type 0
IsChain stack d first [] last = first ≡ last
IsChain stack d first (next ∷ ids) last = RefersTo stack d first next × IsChain stack d next ids last

-- There is a chain of at most so many references whose last id ends here, or one of just as many whose last id
-- selects one reference more.
abbrev pub Ends : List LayerOf → ℕ → List ℕ → ℕ → End → Type 0
Ends stack id d most end =
    (ids : List ℕ) × (last : ℕ) × (length ids ≤ most) × IsChain stack d id ids last
    × (EndsHere stack d last end
    ⊎ ((target : ℕ) × (length ids ≡ most) × RefersTo stack d last target × (end ≡ ends.TooLong (record { 0 = target }))))

-- there is one such end, and it is this
pub record IsTheEnd (stack : List LayerOf) (id : ℕ) (d : List ℕ) (most : ℕ) (end : End) : Type 0 where
  pub ends : Ends stack id d most end
  pub only : (other : End) → Ends stack id d most other → other ≡ end

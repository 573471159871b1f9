-- The layer of a value at which an id ends is one of the stack.
use Rattle.std.proofs.Common.{◌≡◌, ℕ, zero, suc, ◌+◌, ◌<◌, ◌≤◌, arith, Bool, true, false, List, [], ◌∷◌, length, is_some, Option, Some, None, refl}
use Rattle.std.specs.Prelude.{if◌then◌else◌}
use Rattle.std.specs.List.{All}
use Rattle.std.proofs.lemmas.List.Elements.{All-nil, All-cons, All-head, All-tail, All-append}
use Rattle.reference_resolver.specs.res_value.declared.res_id.ResId.{ResId}
use Rattle.reference_resolver.specs.res_value.Cell.{CellOf, PlainOf, BagOf}
use Rattle.reference_resolver.specs.type_chunks.Row.{RowOf}
use Rattle.reference_resolver.specs.overlay_map.Layer.{LayerOf, rows_for}
use Rattle.reference_resolver.specs.overlay_map.Candidates.{CandOf, candidates_at, candidates_from, candidates_of}
use Rattle.reference_resolver.specs.declared.end.End.{End}
use Rattle.reference_resolver.specs.declared.end.End.TheVariants as ends
use Rattle.reference_resolver.specs.declared.next.Next.{Next}
use Rattle.reference_resolver.specs.declared.next.Next.TheVariants.{LookUp, EndsAt}
use Rattle.reference_resolver.specs.declared.step.Step.{Step}
use Rattle.reference_resolver.specs.declared.step.Step.TheVariants.{NoMatch, KeptOut, TookOver}
use Rattle.reference_resolver.specs.Selection.{step_of, best_after, best_of, selected}
use Rattle.reference_resolver.specs.Ends.{is_reference, next_of, end_of}

-- the layer of a candidate, or of the value at an end, is one of so many
abbrev IsBelow : ℕ → CandOf → Type 0
IsBelow count candidate = candidate.layer < count

abbrev pub BestBelow : ℕ → Option CandOf → Type 0
BestBelow count None = Unit {0}
BestBelow count (Some candidate) = IsBelow count candidate

abbrev pub EndBelow : ℕ → End → Type 0
EndBelow count (ends.Value layer value) = layer < count
EndBelow count (ends.Bag id) = Unit {0}
EndBelow count (ends.Absent id) = Unit {0}
EndBelow count (ends.TooLong id) = Unit {0}

abbrev NextBelow : ℕ → Next → Type 0
NextBelow count (LookUp target) = Unit {0}
NextBelow count (EndsAt end) = EndBelow count end

-- ---- the candidates

rows-below : (count index : ℕ) (overlay : Bool) (rows : List RowOf) → index < count → All (IsBelow count) (candidates_at index overlay rows)
rows-below count index overlay [] h = All-nil (IsBelow count)
rows-below count index overlay (row ∷ rows) h =
    All-cons (IsBelow count) (record { layer = index; overlay = overlay; row = row }) (candidates_at index overlay rows) h (rows-below count index overlay rows h)

layers-below : (count index : ℕ) (layers : List LayerOf) (id : ℕ) → index + length layers ≤ count → All (IsBelow count) (candidates_from index layers id)
layers-below count index [] id h = All-nil (IsBelow count)
layers-below count index (layer ∷ layers) id h =
    All-append (IsBelow count) (candidates_at index (is_some layer.map) (rows_for layer id)) (candidates_from (index + 1) layers id)
    (rows-below count index (is_some layer.map) (rows_for layer id) (omega arith)) (layers-below count (index + 1) layers id (omega arith))

-- ---- the one that is selected

after-below : (count : ℕ) (step : Step) (best : Option CandOf) (candidate : CandOf) → BestBelow count best → IsBelow count candidate → BestBelow count (best_after step best candidate)
after-below count NoMatch best candidate b h = b
after-below count KeptOut best candidate b h = b
after-below count TookOver best candidate b h = h

best-below : (count : ℕ) (best : Option CandOf) (candidates : List CandOf) (d : List ℕ) → BestBelow count best → All (IsBelow count) candidates → BestBelow count (best_of best candidates d)
best-below count best [] d b all = b
best-below count best (candidate ∷ candidates) d b all =
    best-below count (best_after (step_of best candidate d) best candidate) candidates d
    (after-below count (step_of best candidate d) best candidate b (All-head (IsBelow count) candidate candidates all)) (All-tail (IsBelow count) candidate candidates all)

pub selected-below : (count : ℕ) (stack : List LayerOf) (id : ℕ) (d : List ℕ) → length stack ≤ count → BestBelow count (selected stack id d)
unfolding selected candidates_of
selected-below count stack id d few = best-below count None (candidates_from 0 stack id) d tt (layers-below count 0 stack id (omega arith))

-- ---- the end

value-below : (reference : Bool) (count : ℕ) (target : Next) (end : End) → NextBelow count target → EndBelow count end → NextBelow count (if reference then target else EndsAt end)
value-below true count target end t h = t
value-below false count target end t h = h

cell-below : (count id : ℕ) (candidate : CandOf) (cell : CellOf) → candidate.row.cell ≡ cell → candidate.layer < count → NextBelow count (next_of id (Some candidate))
cell-below count id candidate (PlainOf value) e h =
    rw e (value-below (is_reference value) count (LookUp (record { 0 = value.word })) (ends.Value candidate.layer value) tt h)
cell-below count id candidate (BagOf parent rows) e h = rw e tt

next-below : (count id : ℕ) (best : Option CandOf) → BestBelow count best → NextBelow count (next_of id best)
next-below count id None b = tt
next-below count id (Some candidate) b = cell-below count id candidate candidate.row.cell refl b

last-below : (count : ℕ) (stack : List LayerOf) (id : ℕ) (d : List ℕ) (next : Next) → next_of id (selected stack id d) ≡ next → NextBelow count next → EndBelow count (end_of stack zero id d)
last-below count stack id d (LookUp target) e h = rw e tt
last-below count stack id d (EndsAt end) e h = rw e h

more-below : (count : ℕ) (stack : List LayerOf) (most id : ℕ) (d : List ℕ) (next : Next) → ((target : ResId) → EndBelow count (end_of stack most target.0 d)) → next_of id (selected stack id d) ≡ next → NextBelow count next
    → EndBelow count (end_of stack (suc most) id d)
more-below count stack most id d (LookUp target) f e h = rw e (f target)
more-below count stack most id d (EndsAt end) f e h = rw e h

pub end-below : (count : ℕ) (stack : List LayerOf) (most id : ℕ) (d : List ℕ) → length stack ≤ count → EndBelow count (end_of stack most id d)
end-below count stack zero id d few = last-below count stack id d (next_of id (selected stack id d)) refl (next-below count id (selected stack id d) (selected-below count stack id d few))
end-below count stack (suc most) id d few =
    more-below count stack most id d (next_of id (selected stack id d)) (λ target. end-below count stack most target.0 d few) refl (next-below count id (selected stack id d) (selected-below count stack id d few))

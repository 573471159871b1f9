-- The layer of a value at which an attribute ends under styles is one of the stack.
use Rattle.std.proofs.Common.{◌≡◌, ℕ, zero, suc, ◌<◌, ◌≤◌, ◌==◌, length, Bool, true, false, List, [], ◌∷◌, Option, Some, None, Result, Ok, Err, refl}
use Rattle.std.specs.Prelude.{if◌then◌else◌, nat_lt, filter, map}
use Rattle.std.specs.List.{All, last_or}
use Rattle.std.specs.Result.{result_ok}
use Rattle.std.proofs.lemmas.List.Elements.{All-nil, All-cons, All-head, All-tail, All-filter}
use Rattle.reference_resolver.specs.res_value.declared.res_id.ResId.{ResId}
use Rattle.reference_resolver.specs.res_value.declared.value.Value.{Value}
use Rattle.reference_resolver.specs.res_value.Kind.{attribute_kind}
use Rattle.reference_resolver.specs.res_value.Cell.{CellOf, PlainOf, BagOf}
use Rattle.reference_resolver.specs.overlay_map.Layer.{LayerOf}
use Rattle.reference_resolver.specs.overlay_map.Candidates.{CandOf}
use Rattle.reference_resolver.specs.declared.end.End.TheVariants as ends
use Rattle.reference_resolver.specs.Selection.{selected}
use Rattle.reference_resolver.specs.Ends.{is_reference}
use Rattle.reference_resolver.specs.Trace.{Trace}
use Rattle.bag_rows.specs.declared.bag_row.BagRow.{BagRow}
use Rattle.bags_themes.specs.declared.bag_fault.BagFault.{BagFault}
use Rattle.bags_themes.specs.declared.bag_fault.BagFault.TheVariants as faults
use Rattle.bags_themes.specs.declared.slot.Slot.{Slot}
use Rattle.bags_themes.specs.declared.slot.Slot.TheVariants.{Refers, Ends}
use Rattle.bags_themes.specs.declared.slot.AttributeStep.{AttributeStep}
use Rattle.bags_themes.specs.declared.slot.AttributeStep.TheVariants.{Follows, Reaches}
use Rattle.bag_rows.specs.declared.theme_value.ThemeValue.{ThemeValue}
use Rattle.bag_rows.specs.Merge.{merge, rows_in}
use Rattle.bag_rows.specs.Undefined.{is_undefined_value}
use Rattle.bags_themes.specs.Bag.{FoundBagOf, bag_in_cell, bag_in, most_parents, parent_of, chain_of, merged, bag_of}
use Rattle.bags_themes.specs.Theme.{AttributeValues, unset, values_after}
use Rattle.bags_themes.specs.Attribute.{attributes_followed, references_after_slot, step_of, slot_of}
use Rattle.bags_themes.specs.AttributeTrace.{slot_trace, style_end, style_by, styles_trace, attribute_trace}
use Rattle.contract_words.specs.Faults.{◌>>=◌}
use Rattle.contract_words.specs.Sequences.{with_front}
use Rattle.bags_themes.proofs.EndLayers.{BestBelow, EndBelow, selected-below, end-below}

-- ---- the rows of a bag

abbrev RowBelow : ℕ → BagRow → Type 0
RowBelow count row = row.layer < count

abbrev BagBelow : ℕ → FoundBagOf → Type 0
BagBelow count bag = All (RowBelow count) bag.rows

abbrev FoundBelow : ℕ → Result FoundBagOf BagFault → Type 0
FoundBelow count (Ok bag) = BagBelow count bag
FoundBelow count (Err fault) = Unit {0}

rows-in-below : (count layer : ℕ) (rows : List (ResId × Value)) → layer < count → All (RowBelow count) (rows_in layer rows)
rows-in-below count layer [] h = All-nil (RowBelow count)
rows-in-below count layer (row ∷ rows) h = All-cons (RowBelow count) (record { name = row.0; layer = layer; value = row.1 }) (rows_in layer rows) h (rows-in-below count layer rows h)

cell-below : (count layer : ℕ) (cell : CellOf) → layer < count → FoundBelow count (bag_in_cell layer cell)
cell-below count layer (PlainOf value) h = tt
cell-below count layer (BagOf parent rows) h = rows-in-below count layer rows h

found-below : (count : ℕ) (best : Option CandOf) → BestBelow count best → FoundBelow count (bag_in best)
found-below count None b = tt
found-below count (Some candidate) b = cell-below count candidate.layer candidate.row.cell b

-- ---- a chain of bags

abbrev ParentBelow : ℕ → Option FoundBagOf → Type 0
ParentBelow count None = Unit {0}
ParentBelow count (Some bag) = BagBelow count bag

abbrev ChainBelow : ℕ → Result (List FoundBagOf) BagFault → Type 0
ChainBelow count (Ok bags) = All (BagBelow count) bags
ChainBelow count (Err fault) = Unit {0}

ok-below : (count : ℕ) (found : Result FoundBagOf BagFault) → FoundBelow count found → ParentBelow count (result_ok found)
ok-below count (Ok bag) h = h
ok-below count (Err fault) h = tt

if-parent : (none : Bool) (count : ℕ) (parent : Option FoundBagOf) → ParentBelow count parent → ParentBelow count (if none then None else parent)
if-parent true count parent h = tt
if-parent false count parent h = h

parent-below : (count : ℕ) (stack : List LayerOf) (bag : FoundBagOf) (d : List ℕ) → length stack ≤ count → ParentBelow count (parent_of stack bag d)
parent-below count stack bag d few =
    if-parent (bag.parent == 0) count (result_ok (bag_in (selected stack bag.parent d)))
    (ok-below count (bag_in (selected stack bag.parent d)) (found-below count (selected stack bag.parent d) (selected-below count stack bag.parent d few)))

one-below : (count : ℕ) (bag : FoundBagOf) → BagBelow count bag → All (BagBelow count) (bag ∷ [])
one-below count bag b = All-cons (BagBelow count) bag [] b (All-nil (BagBelow count))

front-below : (count : ℕ) (bag : FoundBagOf) (chain : Result (List FoundBagOf) BagFault) → BagBelow count bag → ChainBelow count chain → ChainBelow count (with_front (bag ∷ []) chain)
front-below count bag (Ok bags) b h = All-cons (BagBelow count) bag bags b h
front-below count bag (Err fault) b h = tt

last-chain : (count : ℕ) (stack : List LayerOf) (bag : FoundBagOf) (d : List ℕ) (parent : Option FoundBagOf) → parent_of stack bag d ≡ parent → BagBelow count bag → ChainBelow count (chain_of stack zero bag d)
unfolding chain_of
last-chain count stack bag d None e b = rw e (one-below count bag b)
last-chain count stack bag d (Some parent) e b = rw e tt

more-chain : (count : ℕ) (stack : List LayerOf) (most : ℕ) (bag : FoundBagOf) (d : List ℕ) (parent : Option FoundBagOf) → ((above : FoundBagOf) → BagBelow count above → ChainBelow count (chain_of stack most above d))
    → parent_of stack bag d ≡ parent → ParentBelow count parent → BagBelow count bag → ChainBelow count (chain_of stack (suc most) bag d)
unfolding chain_of
more-chain count stack most bag d None f e p b = rw e (one-below count bag b)
more-chain count stack most bag d (Some parent) f e p b = rw e (front-below count bag (chain_of stack most parent d) b (f parent p))

chain-below : (count : ℕ) (stack : List LayerOf) (most : ℕ) (bag : FoundBagOf) (d : List ℕ) → length stack ≤ count → BagBelow count bag → ChainBelow count (chain_of stack most bag d)
chain-below count stack zero bag d few b = last-chain count stack bag d (parent_of stack bag d) refl b
chain-below count stack (suc most) bag d few b =
    more-chain count stack most bag d (parent_of stack bag d) (λ above h. chain-below count stack most above d few h) refl (parent-below count stack bag d few) b

-- ---- merged rows

if-rows : (count : ℕ) (first : Bool) (xs ys : List BagRow) → All (RowBelow count) xs → All (RowBelow count) ys → All (RowBelow count) (if first then xs else ys)
if-rows count true xs ys a b = a
if-rows count false xs ys a b = b

merge-below : (count : ℕ) (inherited own : List BagRow) → All (RowBelow count) inherited → All (RowBelow count) own → All (RowBelow count) (merge inherited own)
merge-below count [] own a b = b
merge-below count (first ∷ inherited) [] a b = a
merge-below count (first ∷ inherited) (row ∷ own) a b =
    let P = RowBelow count in
    let first_is = All-head P first inherited a in
    let row_is = All-head P row own b in
    let inherited_are = All-tail P first inherited a in
    let own_are = All-tail P row own b in
    if-rows count (nat_lt first.name.0 row.name.0) (first ∷ merge inherited (row ∷ own)) (if first.name.0 == row.name.0 then row ∷ merge inherited own else row ∷ merge (first ∷ inherited) own)
    (All-cons P first (merge inherited (row ∷ own)) first_is (merge-below count inherited (row ∷ own) inherited_are b))
    (if-rows count (first.name.0 == row.name.0) (row ∷ merge inherited own) (row ∷ merge (first ∷ inherited) own)
    (All-cons P row (merge inherited own) row_is (merge-below count inherited own inherited_are own_are))
    (All-cons P row (merge (first ∷ inherited) own) row_is (merge-below count (first ∷ inherited) own a own_are)))

merged-below : (count : ℕ) (bags : List FoundBagOf) → All (BagBelow count) bags → All (RowBelow count) (merged bags)
merged-below count [] h = All-nil (RowBelow count)
merged-below count (bag ∷ parents) h =
    merge-below count (merged parents) bag.rows (merged-below count parents (All-tail (BagBelow count) bag parents h)) (All-head (BagBelow count) bag parents h)

abbrev RowsBelow : ℕ → Result (List BagRow) BagFault → Type 0
RowsBelow count (Ok rows) = All (RowBelow count) rows
RowsBelow count (Err fault) = Unit {0}

chain-rows : (count : ℕ) (chain : Result (List FoundBagOf) BagFault) → ChainBelow count chain → RowsBelow count (chain >>= (λ bags. Ok (merged bags)))
chain-rows count (Ok bags) h = merged-below count bags h
chain-rows count (Err fault) h = tt

found-rows : (count : ℕ) (stack : List LayerOf) (found : Result FoundBagOf BagFault) (d : List ℕ) → length stack ≤ count → FoundBelow count found
    → RowsBelow count (found >>= (λ bag. chain_of stack most_parents bag d >>= (λ bags. Ok (merged bags))))
found-rows count stack (Ok bag) d few h = chain-rows count (chain_of stack most_parents bag d) (chain-below count stack most_parents bag d few h)
found-rows count stack (Err fault) d few h = tt

bag-below : (count : ℕ) (stack : List LayerOf) (id : ℕ) (d : List ℕ) → length stack ≤ count → RowsBelow count (bag_of stack id d)
unfolding bag_of
bag-below count stack id d few = found-rows count stack (bag_in (selected stack id d)) d few (found-below count (selected stack id d) (selected-below count stack id d few))

-- ---- what is set

abbrev SetBelow : ℕ → Option ThemeValue → Type 0
SetBelow count None = Unit {0}
SetBelow count (Some set) = set.layer < count

abbrev ValuesBelow : ℕ → AttributeValues → Type 0
ValuesBelow count values = (attr : ℕ) → SetBelow count (values attr)

last-below : (count : ℕ) (old : Option ThemeValue) (rows : List BagRow) → SetBelow count old → All (RowBelow count) rows
    → SetBelow count (last_or old (map (λ (row : BagRow). record { layer = row.layer; value = row.value }) rows))
last-below count old [] b h = b
last-below count old (row ∷ rows) b h =
    last-below count (Some (record { layer = row.layer; value = row.value })) rows (All-head (RowBelow count) row rows h) (All-tail (RowBelow count) row rows h)

after-below : (count : ℕ) (rows : List BagRow) (values : AttributeValues) → All (RowBelow count) rows → ValuesBelow count values → ValuesBelow count (values_after true rows values)
after-below count rows values all before attr =
    last-below count (values attr) (filter (λ (row : BagRow). row.name.0 == attr) rows) (before attr) (All-filter (λ (row : BagRow). row.name.0 == attr) (RowBelow count) rows all)

-- ---- the slot

abbrev SlotBelow : ℕ → Slot → Type 0
SlotBelow count (Refers target) = Unit {0}
SlotBelow count (Ends end) = EndBelow count end

abbrev StepBelow : ℕ → AttributeStep → Type 0
StepBelow count (Follows target) = Unit {0}
StepBelow count (Reaches slot) = SlotBelow count slot

if-step : (count : ℕ) (first : Bool) (s t : AttributeStep) → StepBelow count s → StepBelow count t → StepBelow count (if first then s else t)
if-step count true s t a b = a
if-step count false s t a b = b

step-below : (count attr : ℕ) (set : Option ThemeValue) → SetBelow count set → StepBelow count (step_of attr set)
step-below count attr None h = tt
step-below count attr (Some set) h =
    let value : AttributeStep = Reaches (Ends (ends.Value set.layer set.value)) in
    let reference : AttributeStep = if is_reference set.value then Reaches (Refers (record { 0 = set.value.word })) else value in
    let other : AttributeStep = if set.value.kind == attribute_kind then Follows (record { 0 = set.value.word }) else reference in
    if-step count (is_undefined_value set) (Reaches (Ends (ends.Absent (record { 0 = attr })))) other tt
    (if-step count (set.value.kind == attribute_kind) (Follows (record { 0 = set.value.word })) reference tt
    (if-step count (is_reference set.value) (Reaches (Refers (record { 0 = set.value.word }))) value tt h))

last-slot : (count : ℕ) (values : AttributeValues) (attr : ℕ) (step : AttributeStep) → step_of attr (values attr) ≡ step → StepBelow count step → SlotBelow count (slot_of values zero attr)
unfolding slot_of
last-slot count values attr (Follows target) e h = rw e tt
last-slot count values attr (Reaches slot) e h = rw e h

more-slot : (count : ℕ) (values : AttributeValues) (most attr : ℕ) (step : AttributeStep) → ((target : ResId) → SlotBelow count (slot_of values most target.0)) → step_of attr (values attr) ≡ step → StepBelow count step
    → SlotBelow count (slot_of values (suc most) attr)
unfolding slot_of
more-slot count values most attr (Follows target) f e h = rw e (f target)
more-slot count values most attr (Reaches slot) f e h = rw e h

slot-below : (count : ℕ) (values : AttributeValues) (most attr : ℕ) → ValuesBelow count values → SlotBelow count (slot_of values most attr)
slot-below count values zero attr all = last-slot count values attr (step_of attr (values attr)) refl (step-below count attr (values attr) (all attr))
slot-below count values (suc most) attr all =
    more-slot count values most attr (step_of attr (values attr)) (λ target. slot-below count values most target.0 all) refl (step-below count attr (values attr) (all attr))

-- ---- the end

slot-end : (count : ℕ) (stack : List LayerOf) (slot : Slot) (d : List ℕ) → length stack ≤ count → SlotBelow count slot → EndBelow count (slot_trace stack slot d).end
slot-end count stack (Refers target) d few h = end-below count stack references_after_slot target.0 d few
slot-end count stack (Ends end) d few h = h

style-end : (count : ℕ) (style : ResId) (fault : BagFault) → EndBelow count (style_end style fault)
style-end count style faults.Absent = tt
style-end count style faults.Plain = tt
style-end count style faults.BagDepth = tt
style-end count style faults.OutOfMemory = tt

by-rows : (count : ℕ) (others : List BagRow → Trace) (style : ResId) (bag : Result (List BagRow) BagFault) → RowsBelow count bag → ((rows : List BagRow) → All (RowBelow count) rows → EndBelow count (others rows).end)
    → EndBelow count (style_by others style bag).end
by-rows count others style (Ok rows) h f = f rows h
by-rows count others style (Err fault) h f = style-end count style fault

styles-below : (count : ℕ) (stack : List LayerOf) (attr : ℕ) (values : AttributeValues) (styles : List ResId) (d : List ℕ) → length stack ≤ count → ValuesBelow count values → EndBelow count (styles_trace stack attr values styles d).end
unfolding styles_trace
styles-below count stack attr values [] d few all = slot-end count stack (slot_of values attributes_followed attr) d few (slot-below count values attributes_followed attr all)
styles-below count stack attr values (style ∷ styles) d few all =
    by-rows count (λ rows. styles_trace stack attr (values_after true rows values) styles d) style (bag_of stack style.0 d) (bag-below count stack style.0 d few)
    (λ rows h. styles-below count stack attr (values_after true rows values) styles d few (after-below count rows values h all))

pub attribute-below : (count : ℕ) (stack : List LayerOf) (attr : ℕ) (styles : List ResId) (d : List ℕ) → length stack ≤ count → EndBelow count (attribute_trace stack attr styles d).end
attribute-below count stack attr styles d few = styles-below count stack attr unset styles d few (λ a. tt)

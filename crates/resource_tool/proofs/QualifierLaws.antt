-- What the qualifiers of a stack say.
use Rattle.std.proofs.Common.{◌≡◌, ◌≢◌, ℕ, ◌+◌, ◌-◌, ◌^◌, ◌<◌, ◌≤◌, Bool, true, false, cond, List, [], ◌∷◌, ◌++◌, length, map, refl, sym, ap, ◌∙◌, arith, get_or, set, get_or-set_other}
use Rattle.std.specs.Prelude.{◌==◌, not, filter, min, max}
use Rattle.std.specs.List.{flat_map}
use Rattle.std.proofs.lemmas.Bool.{eqb-true, eq-eqb}
use Rattle.std.proofs.lemmas.Bool.Decides.{nat_tests}
use Rattle.std.proofs.lemmas.Grind.{get_or-set_at}
use Rattle.std.proofs.lemmas.List.{get_or-replicate, length-set}
use Rattle.command_base.specs.cert_tree.config_box.config_record.declared.coord.Coord.{Coord}
use Rattle.command_base.specs.cert_tree.config_box.config_record.declared.coord.Coord.TheVariants as coords
use Rattle.command_base.specs.cert_tree.config_box.config_record.Coord.{all_coords, place_of}
use Rattle.resource_tool.specs.NumberSaid.{number_said}
use Rattle.command_base.specs.overlay_map.type_chunks.Row.{RowOf}
use Rattle.command_base.specs.overlay_map.Table.{rows_of}
use Rattle.command_base.specs.overlay_map.Layer.{LayerOf}
use Rattle.resource_tool.specs.declared.survey.qualifiers.Qualifiers.{Qualifiers}
use Rattle.resource_tool.specs.declared.survey.qualifiers.Spread.{Spread}
use Rattle.resource_tool.specs.Qualifiers.{rows_in_stack, numbers_at, least_of, greatest_of, no_spread, spread_of}
use Rattle.resource_tool.specs.Counting.{and_number, spread_in, no_qualifiers, Said, with_number, counted, said_by, said_by_layer}

-- ---- numbers of one coordinate

abbrev says : ℕ → Bool
says n = not (n == 0)

-- a spread with numbers more
abbrev with_numbers : Spread → List ℕ → Spread
with_numbers spread [] = spread
with_numbers spread (n ∷ ns) = with_numbers (and_number spread n) ns

-- what numbers come to behind others
abbrev behind : ℕ → ℕ → ℕ → List ℕ → Spread
behind count least greatest ns = record { count = min (count + length ns) (2 ^ 32 - 1); least = least_of least ns; greatest = greatest_of greatest ns }

abbrev so_far : ℕ → ℕ → ℕ → Spread
so_far count least greatest = record { count = count; least = least; greatest = greatest }

-- of these numbers only those count that say something
abbrev CountsSaid : List ℕ → Type 0
CountsSaid ns = (count least greatest : ℕ) → 0 < count → count ≤ 2 ^ 32 - 1 → with_numbers (so_far count least greatest) ns ≡ behind count least greatest (filter says ns)

counts-next : (n : ℕ) (ns : List ℕ) (b : Bool) → (n == 0) ≡ b → CountsSaid ns → CountsSaid (n ∷ ns)
counts-next n ns true is others count least greatest some few = rw is (others count least greatest some few)
counts-next n ns false is others count least greatest some few =
    let kept : (count == 0) ≡ false = grind (arith, nat_tests) in
    let m = min (count + 1) (2 ^ 32 - 1) in
    let total : min (m + length (filter says ns)) (2 ^ 32 - 1) ≡ min (count + length (n ∷ filter says ns)) (2 ^ 32 - 1) = omega (arith, few) in
    rw (is, kept)
    (others m (min least n) (max greatest n) (omega (arith, some)) (omega arith)
    ∙ ap (λ (k : ℕ). so_far k (least_of (min least n) (filter says ns)) (greatest_of (max greatest n) (filter says ns))) total)

counts-said : (ns : List ℕ) → CountsSaid ns
counts-said [] count least greatest some few =
    let same : count ≡ min (count + length {A = ℕ} []) (2 ^ 32 - 1) = omega (arith, few) in
    ap (λ (n : ℕ). so_far n least greatest) same
counts-said (n ∷ ns) count least greatest some few = counts-next n ns (n == 0) refl (counts-said ns) count least greatest some few

-- before the first that says something
spread-next : (n : ℕ) (ns : List ℕ) (b : Bool) → (n == 0) ≡ b → with_numbers no_spread ns ≡ spread_of (filter says ns) → with_numbers no_spread (n ∷ ns) ≡ spread_of (filter says (n ∷ ns))
unfolding spread_of
spread-next n ns true is others = rw is others
spread-next n ns false is others =
    let total : min (1 + length (filter says ns)) (2 ^ 32 - 1) ≡ min (length (n ∷ filter says ns)) (2 ^ 32 - 1) = omega arith in
    rw is
    (counts-said ns 1 n n (omega arith) (omega arith)
    ∙ ap (λ (k : ℕ). so_far k (least_of n (filter says ns)) (greatest_of n (filter says ns))) total)

spread-of_numbers : (ns : List ℕ) → with_numbers no_spread ns ≡ spread_of (filter says ns)
unfolding spread_of
spread-of_numbers [] = refl
spread-of_numbers (n ∷ ns) = spread-next n ns (n == 0) refl (spread-of_numbers ns)

-- ---- numbers of all coordinates

-- those of one
abbrev numbers_with : Coord → List Said → List ℕ
numbers_with c [] = []
numbers_with c (said ∷ others) = cond (place_of said.coord == place_of c) (said.number ∷ numbers_with c others) (numbers_with c others)

place_of-small : (c : Coord) → place_of c < 25
unfolding place_of
place_of-small coords.Mcc = omega arith
place_of-small coords.Mnc = omega arith
place_of-small coords.Locale = omega arith
place_of-small coords.LayoutDirection = omega arith
place_of-small coords.SmallestWidthDp = omega arith
place_of-small coords.WidthDp = omega arith
place_of-small coords.HeightDp = omega arith
place_of-small coords.ScreenSize = omega arith
place_of-small coords.Long = omega arith
place_of-small coords.Round = omega arith
place_of-small coords.WideColor = omega arith
place_of-small coords.Hdr = omega arith
place_of-small coords.Orientation = omega arith
place_of-small coords.UiType = omega arith
place_of-small coords.Night = omega arith
place_of-small coords.Density = omega arith
place_of-small coords.Touchscreen = omega arith
place_of-small coords.KeysHidden = omega arith
place_of-small coords.NavHidden = omega arith
place_of-small coords.Keyboard = omega arith
place_of-small coords.Navigation = omega arith
place_of-small coords.Width = omega arith
place_of-small coords.Height = omega arith
place_of-small coords.Sdk = omega arith
place_of-small coords.Minor = omega arith

-- one number more counts for its coordinate alone
step : (spreads : List Spread) (i j n : ℕ) (b : Bool) → i < length spreads → (i == j) ≡ b
    → get_or (set spreads i (and_number (get_or spreads i no_spread) n)) j no_spread ≡ cond b (and_number (get_or spreads j no_spread) n) (get_or spreads j no_spread)
step spreads i j n true below same =
    let e : j ≡ i = sym (eqb-true i j same) in
    get_or-set_at spreads i j (and_number (get_or spreads i no_spread) n) no_spread e below
    ∙ ap (λ (k : ℕ). and_number (get_or spreads k no_spread) n) (sym e)
step spreads i j n false below same =
    let other : j ≢ i = λ e. absurd (let t : (i == j) ≡ true = eq-eqb i j (sym e) in cc) in
    get_or-set_other spreads i j (and_number (get_or spreads i no_spread) n) no_spread other

front : (spread : Spread) (n : ℕ) (ns : List ℕ) (b : Bool) → with_numbers (cond b (and_number spread n) spread) ns ≡ with_numbers spread (cond b (n ∷ ns) ns)
front spread n ns true = refl
front spread n ns false = refl

counted-spread : (qualifiers : Qualifiers) (saids : List Said) (c : Coord) → length qualifiers.spreads ≡ 25
    → spread_in (counted qualifiers saids) c ≡ with_numbers (spread_in qualifiers c) (numbers_with c saids)
unfolding counted with_number
counted-spread qualifiers [] c whole = refl
counted-spread qualifiers (said ∷ saids) c whole =
    let i = place_of said.coord in
    let j = place_of c in
    let below : i < length qualifiers.spreads = omega (arith, place_of-small said.coord, whole) in
    let more : Qualifiers = record { spreads = set qualifiers.spreads i (and_number (get_or qualifiers.spreads i no_spread) said.number) } in
    let still : length more.spreads ≡ 25 = length-set qualifiers.spreads i (and_number (get_or qualifiers.spreads i no_spread) said.number) ∙ whole in
    counted-spread more saids c still
    ∙ ap (λ (s : Spread). with_numbers s (numbers_with c saids)) (step qualifiers.spreads i j said.number (i == j) below refl)
    ∙ front (spread_in qualifiers c) said.number (numbers_with c saids) (i == j)

-- ---- rows

chosen : (c : Coord) (said : Said) (first others : List Said) (b : Bool) → numbers_with c (first ++ others) ≡ numbers_with c first ++ numbers_with c others
    → cond b (said.number ∷ numbers_with c (first ++ others)) (numbers_with c (first ++ others)) ≡ cond b (said.number ∷ numbers_with c first) (numbers_with c first) ++ numbers_with c others
chosen c said first others true same = ap (λ (ns : List ℕ). said.number ∷ ns) same
chosen c said first others false same = same

numbers_with-append : (c : Coord) (first others : List Said) → numbers_with c (first ++ others) ≡ numbers_with c first ++ numbers_with c others
numbers_with-append c [] others = refl
numbers_with-append c (said ∷ first) others = chosen c said first others (place_of said.coord == place_of c) (numbers_with-append c first others)

-- a row says one number of a coordinate
one_number : (c : Coord) (row : RowOf) → numbers_with c (said_by row) ≡ number_said row.config c ∷ []
unfolding said_by all_coords place_of
one_number coords.Mcc row = refl
one_number coords.Mnc row = refl
one_number coords.Locale row = refl
one_number coords.LayoutDirection row = refl
one_number coords.SmallestWidthDp row = refl
one_number coords.WidthDp row = refl
one_number coords.HeightDp row = refl
one_number coords.ScreenSize row = refl
one_number coords.Long row = refl
one_number coords.Round row = refl
one_number coords.WideColor row = refl
one_number coords.Hdr row = refl
one_number coords.Orientation row = refl
one_number coords.UiType row = refl
one_number coords.Night row = refl
one_number coords.Density row = refl
one_number coords.Touchscreen row = refl
one_number coords.KeysHidden row = refl
one_number coords.NavHidden row = refl
one_number coords.Keyboard row = refl
one_number coords.Navigation row = refl
one_number coords.Width row = refl
one_number coords.Height row = refl
one_number coords.Sdk row = refl
one_number coords.Minor row = refl

abbrev of_row : Coord → RowOf → ℕ
of_row c row = number_said row.config c

numbers-of_rows : (c : Coord) (rows : List RowOf) → numbers_with c (flat_map said_by rows) ≡ map (of_row c) rows
numbers-of_rows c [] = refl
numbers-of_rows c (row ∷ rows) =
    numbers_with-append c (said_by row) (flat_map said_by rows)
    ∙ ap (λ (ns : List ℕ). ns ++ numbers_with c (flat_map said_by rows)) (one_number c row)
    ∙ ap (λ (ns : List ℕ). of_row c row ∷ ns) (numbers-of_rows c rows)

map-append : (f : RowOf → ℕ) (first others : List RowOf) → map f (first ++ others) ≡ map f first ++ map f others
map-append f [] others = refl
map-append f (row ∷ first) others = ap (λ (ns : List ℕ). f row ∷ ns) (map-append f first others)

numbers-of_stack : (c : Coord) (stack : List LayerOf) → numbers_with c (flat_map said_by_layer stack) ≡ map (of_row c) (rows_in_stack stack)
unfolding rows_in_stack
numbers-of_stack c [] = refl
numbers-of_stack c (layer ∷ stack) =
    numbers_with-append c (said_by_layer layer) (flat_map said_by_layer stack)
    ∙ ap (λ (ns : List ℕ). ns ++ numbers_with c (flat_map said_by_layer stack)) (numbers-of_rows c (rows_of layer.table))
    ∙ ap (λ (ns : List ℕ). map (of_row c) (rows_of layer.table) ++ ns) (numbers-of_stack c stack)
    ∙ sym (map-append (of_row c) (rows_of layer.table) (rows_in_stack stack))

nothing-spread : (c : Coord) → spread_in no_qualifiers c ≡ no_spread
nothing-spread c = get_or-replicate 25 (place_of c) no_spread no_spread (place_of-small c)

-- What is counted of the rows of a stack is the spread of their numbers.
pub spread-of_stack : (stack : List LayerOf) (c : Coord) → spread_in (counted no_qualifiers (flat_map said_by_layer stack)) c ≡ spread_of (numbers_at c (rows_in_stack stack))
unfolding numbers_at
spread-of_stack stack c =
    counted-spread no_qualifiers (flat_map said_by_layer stack) c refl
    ∙ ap (λ (s : Spread). with_numbers s (numbers_with c (flat_map said_by_layer stack))) (nothing-spread c)
    ∙ ap (λ (ns : List ℕ). with_numbers no_spread ns) (numbers-of_stack c stack)
    ∙ spread-of_numbers (map (of_row c) (rows_in_stack stack))

-- the lines of spreads are those of what they are
pub lines-of_spreads : (line : Coord → Spread → List ℕ) (qualifiers : Qualifiers) (spreads : Coord → Spread) (cs : List Coord) → ((c : Coord) → spread_in qualifiers c ≡ spreads c)
    → flat_map (λ c. line c (spread_in qualifiers c)) cs ≡ flat_map (λ c. line c (spreads c)) cs
lines-of_spreads line qualifiers spreads [] same = refl
lines-of_spreads line qualifiers spreads (c ∷ cs) same =
    ap (λ (s : Spread). line c s ++ flat_map (λ k. line k (spread_in qualifiers k)) cs) (same c)
    ∙ ap (λ (text : List ℕ). line c (spreads c) ++ text) (lines-of_spreads line qualifiers spreads cs same)

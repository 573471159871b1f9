-- A list of places that all hold something.
use Rattle.std.proofs.Common.{◌≡◌, suc, List, [], ◌∷◌, ◌++◌, length, Option, None, Some, IsSome, IfNone, sym, ◌∙◌, ap, refl}
use Rattle.std.specs.List.{All, flat_map}
use Rattle.std.specs.Option.{option_to_list}
use Rattle.std.proofs.lemmas.Grind.{flat_map-append}
use Rattle.std.proofs.lemmas.List.Elements.{All-head, All-tail, All-pop}
use Rattle.std.proofs.lemmas.List.Concat.{flat_map-cons}

-- they hold as many things as there are places
pub all_held : {X : Type 0} (places : List (Option X)) → All IsSome places → length (flat_map option_to_list places) ≡ length places
all_held [] all = refl
all_held (None ∷ places) all = let some = All-head IsSome None places all in absurd (cc)
all_held (Some x ∷ places) all = ap length (flat_map-cons option_to_list (Some x) places) ∙ ap suc (all_held places (All-tail IsSome (Some x) places all))

-- the last of them is the last of the things
pub last_held : {X : Type 0} (before after : List (Option X)) (last : Option X) (held : List X) → All IsSome before → flat_map option_to_list before ≡ held → before ≡ after ++ last ∷ []
    → (held ≡ flat_map option_to_list after ++ option_to_list last) × IfNone last (held ≡ [])
last_held before after None held all view is = let some = (All-pop IsSome before after (Some None) is all).1 in absurd (cc)
last_held before after (Some x) held all view is = (sym view ∙ ap (flat_map option_to_list) is ∙ flat_map-append option_to_list after (Some x ∷ []), tt)

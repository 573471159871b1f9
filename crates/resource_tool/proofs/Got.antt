-- An item that is got of a slice.
use Rattle.std.proofs.Common.{◌≡◌, ℕ, ◌<◌, ◌≤◌, List, length, get_or, Option, Some, None, IfSome, refl, sym, Bor}
use Rattle.std.proofs.lemmas.Option.{slice_get_past, slice_get_read}
use Rattle.std.specs.List.{slice_get}
use Rattle.std.specs.Option.{MatchOption, option_copied}

-- it is the one at its place
pub got : {A : Type 0} (P : Bor A → Type 0) (found : Option (Bor A)) (items : List A) (n : ℕ) → IfSome found (λ item. item.now ≡ get_or items n item.now)
    → MatchOption found (length items ≤ n) (λ item. (n < length items) × P item) → option_copied found ≡ slice_get items n
got P None items n here within = sym (slice_get_past items n within)
got P (Some item) items n here within = sym (slice_get_read items (length items) n item.now refl within.0 here)

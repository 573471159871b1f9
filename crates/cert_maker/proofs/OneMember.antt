-- Each box has a member.
use Rattle.std.proofs.Common.{◌≡◌, ℕ, inl, arith, [], ◌∷◌, map, sym, ◌∙◌, refl, subst}
use Rattle.std.proofs.lemmas.List.{get_or-map, length-map}
use Rattle.cert_checker.specs.config_record.declared.coord.Coord.{Coord}
use Rattle.cert_checker.specs.config_record.Coord.{place_of}
use Rattle.cert_checker.specs.config_record.ComparedNumber.{device_number}
use Rattle.cert_checker.proofs.config_record.DeviceLemmas.{place_of-within}
use Rattle.cert_checker.specs.box_answers.NumberSet.{SetOf, RangeOf, NumbersOf, LocalesOf, IsIn, IsProper}
use Rattle.cert_checker.specs.box_answers.Members.{set_at}
use Rattle.cert_checker.proofs.box_answers.Coords.{all_coords-count}
use Rattle.cert_maker.specs.LeastTree.{HasMember}
use Rattle.cert_checker.proofs.config_box.Filters.{contained}

first : SetOf → ℕ
first (RangeOf low high) = low
first (NumbersOf []) = 0
first (NumbersOf (n ∷ numbers)) = n
first (LocalesOf []) = 0
first (LocalesOf (n ∷ numbers)) = n

first-in : (set : SetOf) → IsProper set → IsIn set (first set)
unfolding first
first-in (RangeOf low high) proper = let rises = proper.rises in (omega arith, rises)
first-in (NumbersOf []) proper = absurd (let some = proper.nonempty in omega arith)
first-in (NumbersOf (n ∷ numbers)) proper = contained n (n ∷ numbers) (inl refl)
first-in (LocalesOf []) proper = absurd (let some = proper.nonempty in omega arith)
first-in (LocalesOf (n ∷ numbers)) proper = contained n (n ∷ numbers) (inl refl)

pub has-member : HasMember
has-member sets c box others =
    let count = length-map sets first in
    let total = box.count in
    let same : (k : Coord) → device_number (map first sets) k ≡ first (set_at sets k) = λ k.
    let within = place_of-within k in
    let all = all_coords-count in
    get_or-map first sets (place_of k) (RangeOf 0 0) 0 (omega (arith, within, all, total)) in (
      map first sets,
      record {
        count = count ∙ total;
        member = λ k. subst (IsIn (set_at sets k)) (sym (same k)) (first-in (set_at sets k) (box.each k).proper);
        others = others;
      },
    )

-- Where the order of the candidates does not matter.
use Rattle.std.specs.Prelude.{ℕ, ◌≡◌, ◌≢◌, not, List, Option, Some, All, Any, AllPairs, IsPermutation, IsTrue, IsFalse, slice_get}
use Rattle.config_precedence.specs.config_match.Matching.{is_match}
use Rattle.config_precedence.specs.Precedence.{is_better}
use Rattle.config_precedence.specs.Laws.{IsComparedPlainly}
use Rattle.overlay_map.specs.Candidates.{CandOf}
use Rattle.reference_resolver.specs.Takers.{IsTheSelected}

-- Where both match, exactly one is better than the other. It is not so, for example, of two with equal records,
-- or where densities of 0 and 160 tie.
abbrev pub ExactlyOneIsBetter : List ℕ → CandOf → CandOf → Type 0
ExactlyOneIsBetter d a b =
    IsTrue (is_match a.row.config d) → IsTrue (is_match b.row.config d)
    → is_better a.row.config b.row.config d ≡ not (is_better b.row.config a.row.config d)

-- it stands at a place, matches, and is better than each other one that matches
pub record IsBetterThanAllOthers (candidates : List CandOf) (d : List ℕ) (best : CandOf) : Type 0 where
  pub place : ℕ
  pub stands : slice_get candidates place ≡ Some best
  pub matches : IsTrue (is_match best.row.config d)
  pub better : (other : ℕ) (candidate : CandOf) → other ≢ place → slice_get candidates other ≡ Some candidate
      → IsTrue (is_match candidate.row.config d) → IsTrue (is_better best.row.config candidate.row.config d)

-- Take a device that is compared by language and region, and candidates of bases alone, of which some match, and of any two of these exactly one is better than the
-- other. Then the one that is selected is better than all others that match, and it is what selection gives of
-- these candidates in any order. It rests on 'better' being transitive among records that match a device: were
-- the first better than the second, the second than the third and the third than the first, none would be better
-- than both others.
abbrev pub OrderDoesNotMatter : List CandOf → List ℕ → Option CandOf → Type 0
OrderDoesNotMatter candidates d chosen =
    IsComparedPlainly d
    → All (λ candidate. IsFalse candidate.overlay) candidates
    → Any (λ candidate. IsTrue (is_match candidate.row.config d)) candidates
    → AllPairs (ExactlyOneIsBetter d) candidates
    → (best : CandOf) × (chosen ≡ Some best) × IsBetterThanAllOthers candidates d best
    × ((reordered : List CandOf) → IsPermutation candidates reordered → IsTheSelected reordered d (Some best))

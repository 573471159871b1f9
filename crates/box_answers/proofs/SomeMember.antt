-- A box has a member.
use Rattle.std.proofs.Common.{◌≡◌, ℕ, arith, Bool, List, map, get_or, sym, subst}
use Rattle.std.proofs.lemmas.List.{get_or-map}
use Rattle.config_precedence.specs.config_record.Coord.{place_of}
use Rattle.config_precedence.specs.config_record.ComparedNumber.{device_number}
use Rattle.box_answers.specs.NumberSet.{SetOf, RangeOf, named_numbers, IsLeastIn}
use Rattle.box_answers.specs.Members.{set_at, IsMember, SomeMember, IsBox, IsCorner}
use Rattle.box_answers.specs.MemberAnswers.{AllAnswer, SomeAnswers}
use Rattle.box_answers.proofs.Coords.{place_of-below}
use Rattle.box_answers.proofs.Sets.{least-of}

least : SetOf → ℕ
least set = get_or (named_numbers set) 0 0

corner-of : (sets : List SetOf) → IsBox sets → IsCorner sets (map least sets)
unfolding least
corner-of sets b c =
    let at : device_number (map least sets) c ≡ least (set_at sets c) = get_or-map least sets (place_of c) (RangeOf 0 0) 0 (omega (arith, place_of-below c, b.count)) in
    subst (λ (n : ℕ). IsLeastIn (set_at sets c) n) (sym at) (least-of (set_at sets c) (b.each c).proper)

pub some_member : (sets : List SetOf) → IsBox sets → SomeMember sets
some_member sets b = (map least sets, λ c. (corner-of sets b c).is_in)

-- so what all of them answer, one of them does
pub some-of-all : (sets : List SetOf) (asks : List ℕ → Bool) (answer : Bool) → IsBox sets → AllAnswer (IsMember sets) asks answer → SomeAnswers (IsMember sets) asks answer
some-of-all sets asks answer b all =
    let m = some_member sets b in (m.0, record { member = m.1; answers = all m.0 m.1 })

-- Loops that take the items of a list, or the members of an object, one after the other.
use Rattle.std.proofs.Common.{◌≡◌, ℕ, List, [], ◌∷◌, ◌++◌, Option, Some, None, refl, sym, ap, ◌∙◌}
use Rattle.std.proofs.lemmas.List.{append-nil, append_assoc}
use Rattle.json.specs.Token.{Token}
use Rattle.json.specs.Json.{parse_map, after_end_array, read_key}
use Rattle.json.proofs.Grammar.{left, left_some}
use Rattle.serde_json.specs.Data.{Data, Members, no_members, put}
use Rattle.json_tokens.specs.Standing.{value_at, items_at, members_at}
use Rattle.json_tokens.proofs.Standing.{at-items-end, at-item, at-no_item, at-members-end, at-member, at-no_member, at-no_name}

-- these items were taken, and the others are to come
pub record Walked (depth : ℕ) (start : List Token) (before : List Data) (now : List Token) : Type 0 where
  pub others : items_at depth start ≡ parse_map (λ items. before ++ items) (items_at depth now)

same : (o : Option (List Data × List Token)) → o ≡ parse_map (λ items. items) o
same None = refl
same (Some p) = refl

pub Walked-none : (depth : ℕ) (start : List Token) → Walked depth start [] start
Walked-none depth start = record { others = same (items_at depth start) }

then_one : (before : List Data) (d : Data) (o : Option (List Data × List Token)) → parse_map (λ items. before ++ items) (parse_map (λ items. d ∷ items) o) ≡ parse_map (λ items. (before ++ d ∷ []) ++ items) o
then_one before d None = refl
then_one before d (Some p) = ap (λ items. Some (items, p.1)) (sym (append_assoc before (d ∷ []) p.0))

pub Walked-next : (depth : ℕ) (start now r : List Token) (before : List Data) (d : Data) → Walked depth start before now → after_end_array now ≡ None → value_at depth now ≡ Some (d, r)
    → Walked depth start (before ++ d ∷ []) r
Walked-next depth start now r before d walked going e = record {
  others = walked.others ∙ ap (parse_map (λ items. before ++ items)) (at-item depth now r d going e) ∙ then_one before d (items_at depth r);
}

pub Walked-end : (depth : ℕ) (start now r : List Token) (before : List Data) → Walked depth start before now → after_end_array now ≡ Some r → items_at depth start ≡ Some (before, r)
Walked-end depth start now r before walked e =
    walked.others ∙ ap (parse_map (λ items. before ++ items)) (at-items-end depth now r e) ∙ ap (λ items. Some (items, r)) (append-nil before)

pub Walked-malformed : (depth : ℕ) (start now : List Token) (before : List Data) → Walked depth start before now → after_end_array now ≡ None → value_at depth now ≡ None → items_at depth start ≡ None
Walked-malformed depth start now before walked going e = walked.others ∙ ap (parse_map (λ items. before ++ items)) (at-no_item depth now going e)

-- the items that are left are passed
pub Walked-passed : (depth : ℕ) (start now r : List Token) (before : List Data) → Walked depth start before now → left (items_at depth now) ≡ Some r
    → (items : List Data) × (items_at depth start ≡ Some (before ++ items, r))
Walked-passed depth start now r before walked e =
    let items = left_some (items_at depth now) r e in (items.0, walked.others ∙ ap (parse_map (λ items. before ++ items)) items.1)

pub Walked-not_passed : (depth : ℕ) (start now : List Token) (before : List Data) → Walked depth start before now → items_at depth now ≡ None → items_at depth start ≡ None
Walked-not_passed depth start now before walked e = walked.others ∙ ap (parse_map (λ items. before ++ items)) e

-- ---- the members of an object

-- these members were taken, and the others are to come
pub record WalkedMembers (depth : ℕ) (start : List Token) (found : Members) (now : List Token) : Type 0 where
  pub others : members_at depth no_members start ≡ members_at depth found now

pub WalkedMembers-none : (depth : ℕ) (start : List Token) → WalkedMembers depth start no_members start
WalkedMembers-none depth start = record { others = refl }

pub WalkedMembers-next : (depth : ℕ) (start now s r : List Token) (found : Members) (name : List ℕ) (d : Data) → WalkedMembers depth start found now → read_key now ≡ Some (Some name, s)
    → value_at depth s ≡ Some (d, r) → WalkedMembers depth start (put name d found) r
WalkedMembers-next depth start now s r found name d walked named e = record { others = walked.others ∙ at-member depth found name now s r d named e }

pub WalkedMembers-end : (depth : ℕ) (start now r : List Token) (found : Members) → WalkedMembers depth start found now → read_key now ≡ Some (None, r) → members_at depth no_members start ≡ Some (found, r)
WalkedMembers-end depth start now r found walked e = walked.others ∙ at-members-end depth found now r e

pub WalkedMembers-malformed : (depth : ℕ) (start now s : List Token) (found : Members) (name : List ℕ) → WalkedMembers depth start found now → read_key now ≡ Some (Some name, s) → value_at depth s ≡ None
    → members_at depth no_members start ≡ None
WalkedMembers-malformed depth start now s found name walked named e = walked.others ∙ at-no_member depth found name now s named e

pub WalkedMembers-no_name : (depth : ℕ) (start now : List Token) (found : Members) → WalkedMembers depth start found now → read_key now ≡ None → members_at depth no_members start ≡ None
WalkedMembers-no_name depth start now found walked e = walked.others ∙ at-no_name depth found now e

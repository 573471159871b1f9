-- How pairs are checked one after the other, and put into a map.
use Rattle.std.proofs.Common.{◌≡◌, ℕ, ◌+◌, ◌<◌, ◌≤◌, Bool, true, false, cond, ◌||◌, ◌==◌, List, [], ◌∷◌, ◌++◌, length, take, drop, get_or, Option, Some, None, is_some, if◌then◌else◌, Result, Ok, Err, refl, sym, ap, subst, ◌∙◌, arith}
use Rattle.std.proofs.lemmas.List.{drop_all, drop_more, take_more, take_all}
use Rattle.std.proofs.lemmas.List.Folds.{list_any-append}
use Rattle.std.specs.List.{list_any}
use Rattle.std.specs.Map.{lookup}
use Rattle.std.specs.Option.{option_map}
use Rattle.contract_words.specs.Sequences.{with_front, joined_each, with_before}
use Rattle.contract_words.proofs.SequenceSteps.{with_front_nil, ReadsKnowing, ReadsKnowing-none, ReadsKnowing-next, ReadsKnowing-stops, ReadsKnowing-end}
use Rattle.type_chunks.specs.res_value.declared.res_id.ResId.{ResId}
use Rattle.overlay_map.specs.declared.map_fault.MapFault.{MapFault}
use Rattle.overlay_map.specs.IdMap.{IdPair, pairs_of, look_of, check_target, checked_pair}

-- ---- a map that has some pairs

-- what it has for a target is what the pairs have
pub look_of-entries : (target : ℕ) (pairs : List IdPair) → option_map (λ (own : ResId). own.0) (lookup (λ (key : ResId). target == key.0) pairs) ≡ look_of (pairs_of pairs) target
unfolding look_of
look_of-entries target [] = refl
look_of-entries target (pair ∷ pairs) =
    by (target == pair.0.0) (look_of-entries target pairs)
    ∙ ap (λ (same : Bool). if same then Some pair.1.0 else look_of (pairs_of pairs) target) (same_number target pair.0.0)
  where
    same_number : (a b : ℕ) → (a == b) ≡ (b == a)
    same_number a b = grind arith

    by : (same : Bool) → option_map (λ (own : ResId). own.0) (lookup (λ (key : ResId). target == key.0) pairs) ≡ look_of (pairs_of pairs) target
        → option_map (λ (own : ResId). own.0) (cond same (Some pair.1) (lookup (λ (key : ResId). target == key.0) pairs))
        ≡ (if same then Some pair.1.0 else look_of (pairs_of pairs) target)
    by true others = refl
    by false others = others

-- it has a target exactly where one of the pairs does
pub has_target : (target : ℕ) (pairs : List IdPair) → is_some (lookup (λ (key : ResId). target == key.0) pairs) ≡ list_any (λ pair. target == pair.0.0) pairs
has_target target [] = refl
has_target target (pair ∷ pairs) = by (target == pair.0.0) (has_target target pairs)
  where
    by : (same : Bool) → is_some (lookup (λ (key : ResId). target == key.0) pairs) ≡ list_any (λ other. target == other.0.0) pairs
        → is_some (cond same (Some pair.1) (lookup (λ (key : ResId). target == key.0) pairs)) ≡ (same || list_any (λ other. target == other.0.0) pairs)
    by true others = refl
    by false others = others

-- it has nothing where it has not something
pub none_where : {X : Type 0} (found : Option X) → is_some found ≡ false → found ≡ None
none_where None nothing = refl
none_where (Some x) nothing = absurd cc

pub same_number_as : {a b : ℕ} → a ≡ b → (a == b) ≡ true
same_number_as {a} {b} same = grind (arith, same)

pub other_number : {a b : ℕ} → (a ≡ b → ⊥) → (a == b) ≡ false
other_number {a} {b} other = grind (arith, other)

-- ---- the loop over pairs

-- this target is among these pairs
abbrev pub is_target : ℕ → List IdPair → Bool
is_target target pairs = list_any (λ pair. target == pair.0.0) pairs

-- some pairs have the targets of others, and no more
abbrev pub HasTargets : List IdPair → List IdPair → Type 0
HasTargets pairs before = (target : ℕ) → is_target target pairs ≡ is_target target before

same_check : (first_package : ℕ) (known before : List IdPair) (target : ResId) → HasTargets known before → check_target first_package known target ≡ check_target first_package before target
unfolding check_target
same_check first_package known before target same = rw (same target.0) refl

turned : (b c : Bool) → (b || (c || false)) ≡ (c || b)
turned true true = refl
turned true false = refl
turned false true = refl
turned false false = refl

one_more : (known before : List IdPair) (pair : IdPair) → HasTargets known before → HasTargets (known ++ pair ∷ []) (pair ∷ before)
one_more known before pair same target =
    list_any-append (λ other. target == other.0.0) known (pair ∷ [])
    ∙ turned (is_target target known) (target == pair.0.0)
    ∙ ap (λ (b : Bool). (target == pair.0.0) || b) (same target)

-- a map has the pairs before a place, and those from there on are left to check
pub record PutsAllBut (first_package : ℕ) (entries pairs : List IdPair) (i : ℕ) (total : Result (List IdPair) MapFault) : Type 0 where
  pub put : entries ≡ take i pairs
  pub left : ReadsKnowing HasTargets (checked_pair first_package) entries entries pairs (drop i pairs) total

pub PutsAllBut-none : (first_package : ℕ) (entries pairs : List IdPair) → entries ≡ [] → PutsAllBut first_package entries pairs 0 (joined_each (checked_pair first_package) (with_before [] pairs))
PutsAllBut-none first_package entries pairs empty = rw empty (record {
  put = refl;
  left =
      subst (λ (total : Result (List IdPair) MapFault). ReadsKnowing HasTargets (checked_pair first_package) [] [] pairs pairs total) (with_front_nil _)
      (ReadsKnowing-none HasTargets (checked_pair first_package) [] [] pairs (λ target. refl));
})

-- a pair has no fault, and was put behind them
pub PutsAllBut-next : (first_package : ℕ) (old new pairs : List IdPair) (i : ℕ) (d : IdPair) (total : Result (List IdPair) MapFault)
    → PutsAllBut first_package old pairs i total → i < length pairs → check_target first_package old (get_or pairs i d).0 ≡ Ok tt → new ≡ old ++ get_or pairs i d ∷ []
    → PutsAllBut first_package new pairs (i + 1) total
unfolding checked_pair
PutsAllBut-next first_package old new pairs i d total so_far on checked pushed =
    let pair = get_or pairs i d in
    let before = so_far.left.before in
    let read : with_front old (checked_pair first_package (before, pair)) ≡ Ok (old ++ pair ∷ []) =
    rw (sym (same_check first_package old before pair.0 so_far.left.known) ∙ checked) refl in
    rw pushed (record {
      put = ap (λ (entries : List IdPair). entries ++ pair ∷ []) so_far.put ∙ sym (take_more pairs i d on);
      left =
          ReadsKnowing-next HasTargets (checked_pair first_package) old (old ++ pair ∷ []) old (old ++ pair ∷ []) pairs (drop i pairs) (drop (i + 1) pairs) pair total
          so_far.left (drop_more pairs i d on) (one_more old before pair so_far.left.known) read;
    })

pub PutsAllBut-stops : (first_package : ℕ) (entries pairs : List IdPair) (i : ℕ) (d : IdPair) (fault : MapFault) (total : Result (List IdPair) MapFault)
    → PutsAllBut first_package entries pairs i total → i < length pairs → check_target first_package entries (get_or pairs i d).0 ≡ Err fault
    → total ≡ Err fault
unfolding checked_pair
PutsAllBut-stops first_package entries pairs i d fault total so_far on checked =
    let pair = get_or pairs i d in
    let before = so_far.left.before in
    let read : with_front entries (checked_pair first_package (before, pair)) ≡ Err fault =
    rw (sym (same_check first_package entries before pair.0 so_far.left.known) ∙ checked) refl in
    ReadsKnowing-stops HasTargets (checked_pair first_package) entries entries pairs (drop i pairs) (drop (i + 1) pairs) pair fault total so_far.left (drop_more pairs i d on) read

pub PutsAllBut-end : (first_package : ℕ) (entries pairs : List IdPair) (i : ℕ) (total : Result (List IdPair) MapFault)
    → PutsAllBut first_package entries pairs i total → length pairs ≤ i → (entries ≡ pairs) × (total ≡ Ok pairs)
PutsAllBut-end first_package entries pairs i total so_far behind =
    let all : entries ≡ pairs = so_far.put ∙ take_all i pairs behind in (
      all,
      ReadsKnowing-end HasTargets (checked_pair first_package) entries entries pairs (drop i pairs) total so_far.left (drop_all i pairs behind)
          ∙ ap (λ (entries : List IdPair). Ok entries) all,
    )

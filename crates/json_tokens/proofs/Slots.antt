-- How a loop over names fills their slots.
use Rattle.std.proofs.Common.{◌≡◌, ℕ, zero, suc, ◌+◌, ◌<◌, ◌≤◌, List, [], ◌∷◌, ◌++◌, length, take, drop, replicate, get_or, slice_set, Bool, true, false, ◌||◌, bytes_eq, Option, Some, None, option_map, if◌then◌else◌, refl, sym, ap, ap₂, ◌∙◌, arith}
use Rattle.std.proofs.lemmas.List.{append-nil, append_assoc, take_all, drop_all, take_more, take_more_set, drop_more, drop-set-lt}
use Rattle.json_tokens.specs.json_input.Shape.{is_among}
use Rattle.json_tokens.specs.Kind.{kind_seen}
use Rattle.json_tokens.specs.Fields.{with_field, slots_seen}
use Rattle.json_tokens.specs.declared.kind.Kind.{Kind}

chosen : (b : Bool) (kind : Kind) (slot : Option Kind) → option_map kind_seen (if b then Some kind else slot) ≡ (if b then Some (kind_seen kind) else option_map kind_seen slot)
chosen true kind slot = refl
chosen false kind slot = refl

pub with_field-seen : (names : List (List ℕ)) (name : List ℕ) (kind : Kind) (slots : List (Option Kind)) → slots_seen (with_field names name kind slots) ≡ with_field names name (kind_seen kind) (slots_seen slots)
unfolding with_field
with_field-seen [] name kind slots = refl
with_field-seen (known ∷ names) name kind [] = refl
with_field-seen (known ∷ names) name kind (slot ∷ slots) = ap₂ (λ s ss. s ∷ ss) (chosen (bytes_eq known name) kind slot) (with_field-seen names name kind slots)

pub seen-none : (n : ℕ) → slots_seen (replicate n None) ≡ replicate n None
seen-none zero = refl
seen-none (suc n) = ap (λ slots. None ∷ slots) (seen-none n)

module _ {K : Type 0} (names : List (List ℕ)) (name : List ℕ) (kind : K) (old : List (Option K)) where
  -- the slots before a place are filled, and those from it on are still to be
  pub record FillsAllBut (now : List (Option K)) (place : ℕ) : Type 0 where
    pub others : take place now ++ with_field (drop place names) name kind (drop place now) ≡ with_field names name kind old

pub FillsAllBut-none : {K : Type 0} (names : List (List ℕ)) (name : List ℕ) (kind : K) (old : List (Option K)) → FillsAllBut names name kind old old 0
FillsAllBut-none names name kind old = record { others = refl }

first : {K : Type 0} (names : List (List ℕ)) (name : List ℕ) (kind : K) (now : List (Option K)) (place : ℕ) (known : List ℕ) (b : Bool)
    → place < length names → place < length now → bytes_eq (get_or names place known) name ≡ b
    → with_field (drop place names) name kind (drop place now) ≡ (if b then Some kind else get_or now place None) ∷ with_field (drop (place + 1) names) name kind (drop (place + 1) now)
unfolding with_field
first names name kind now place known b on has is =
    ap₂ (λ ns ss. with_field ns name kind ss) (drop_more names place known on) (drop_more now place None has)
    ∙ ap (λ b. (if b then Some kind else get_or now place None) ∷ with_field (drop (place + 1) names) name kind (drop (place + 1) now)) is

pub FillsAllBut-same : {K : Type 0} (names : List (List ℕ)) (name : List ℕ) (kind : K) (old now : List (Option K)) (place : ℕ) (known : List ℕ)
    → FillsAllBut names name kind old now place → place < length names → place < length now → bytes_eq (get_or names place known) name ≡ true
    → FillsAllBut names name kind old (slice_set now place (Some kind)) (place + 1)
FillsAllBut-same names name kind old now place known before on has is =
    let less : place < place + 1 = omega arith in
    record {
      others =
          ap₂ (λ a b. a ++ with_field (drop (place + 1) names) name kind b) (take_more_set now place (Some kind) has) (drop-set-lt (place + 1) now place (Some kind) less)
          ∙ append_assoc (take place now) (Some kind ∷ []) (with_field (drop (place + 1) names) name kind (drop (place + 1) now))
          ∙ ap (λ b. take place now ++ b) (sym (first names name kind now place known true on has is))
          ∙ before.others;
    }

pub FillsAllBut-other : {K : Type 0} (names : List (List ℕ)) (name : List ℕ) (kind : K) (old now : List (Option K)) (place : ℕ) (known : List ℕ)
    → FillsAllBut names name kind old now place → place < length names → place < length now → bytes_eq (get_or names place known) name ≡ false
    → FillsAllBut names name kind old now (place + 1)
FillsAllBut-other names name kind old now place known before on has is = record {
  others =
      ap (λ a. a ++ with_field (drop (place + 1) names) name kind (drop (place + 1) now)) (take_more now place None has)
      ∙ append_assoc (take place now) (get_or now place None ∷ []) (with_field (drop (place + 1) names) name kind (drop (place + 1) now))
      ∙ ap (λ b. take place now ++ b) (sym (first names name kind now place known false on has is))
      ∙ before.others;
}

pub FillsAllBut-end : {K : Type 0} (names : List (List ℕ)) (name : List ℕ) (kind : K) (old now : List (Option K)) (place : ℕ)
    → FillsAllBut names name kind old now place → length names ≤ place → length now ≤ place → now ≡ with_field names name kind old
unfolding with_field
FillsAllBut-end names name kind old now place before past full =
    sym (append-nil now)
    ∙ ap₂ (λ a b. a ++ b) (sym (take_all place now full)) (sym (drop_all place now full))
    ∙ ap (λ ns. take place now ++ with_field ns name kind (drop place now)) (sym (drop_all place names past))
    ∙ before.others

-- ---- whether the name is one of those that were passed

pub among-same : (names : List (List ℕ)) (name known : List ℕ) (place : ℕ) (so_far all : Bool) → place < length names → bytes_eq (get_or names place known) name ≡ true
    → (so_far || is_among (drop place names) name) ≡ all → (true || is_among (drop (place + 1) names) name) ≡ all
unfolding is_among
among-same names name known place so_far all on is before = yes so_far _ (ap (λ ns. is_among ns name) (drop_more names place known on) ∙ ap (λ b. b || is_among (drop (place + 1) names) name) is) ∙ before
  where
    yes : (so_far b : Bool) → b ≡ true → true ≡ (so_far || b)
    yes true b is = refl
    yes false b is = sym is

pub among-other : (names : List (List ℕ)) (name known : List ℕ) (place : ℕ) (so_far all : Bool) → place < length names → bytes_eq (get_or names place known) name ≡ false
    → (so_far || is_among (drop place names) name) ≡ all → (so_far || is_among (drop (place + 1) names) name) ≡ all
unfolding is_among
among-other names name known place so_far all on is before =
    ap (λ b. so_far || b) (sym (ap (λ ns. is_among ns name) (drop_more names place known on) ∙ ap (λ b. b || is_among (drop (place + 1) names) name) is)) ∙ before

pub among-end : (names : List (List ℕ)) (name : List ℕ) (place : ℕ) (so_far all : Bool) → length names ≤ place → (so_far || is_among (drop place names) name) ≡ all → so_far ≡ all
unfolding is_among
among-end names name place so_far all past before = or_false so_far ∙ ap (λ ns. so_far || is_among ns name) (sym (drop_all place names past)) ∙ before
  where
    or_false : (b : Bool) → b ≡ (b || false)
    or_false true = refl
    or_false false = refl

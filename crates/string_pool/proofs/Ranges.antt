-- What is lent is a range of what it is lent from.
use Rattle.std.proofs.Common.{◌≡◌, ℕ, List, [], ◌++◌, take, drop, Result, Ok, Err, IfOk, inl, inr, not, ◌==◌, ◌-◌, ◌*◌, ◌^◌, nat_lt, ◌&&◌, length, subst, sym, ap, ◌∙◌, append_assoc, take-append-drop}
use Rattle.std.proofs.lemmas.Bool.{cases_Bool}
use Rattle.std.proofs.lemmas.List.{append-nil}
use Rattle.std.proofs.lemmas.Result.{IfOk-weaker}
use Rattle.contract_words.specs.Faults.{◌>>=◌}
use Rattle.string_pool.specs.declared.fault.PoolFault.{PoolFault}
use Rattle.string_bytes.specs.declared.fault.StringFault.{StringFault}
use Rattle.string_pool.specs.Lent.{IsRangeOf}
use Rattle.string_pool.specs.Pool.{part_in, before_styles}
use Rattle.string_bytes.specs.Bytes.{FrontOf, front_in, length_in, closed_in, utf8_bytes_in, utf16_bytes_in}

range-take : (n : ℕ) (bytes : List ℕ) → IsRangeOf bytes (take n bytes)
range-take n bytes = record { before = []; behind = drop n bytes; same = sym (take-append-drop n bytes) }

range-drop : (n : ℕ) (bytes : List ℕ) → IsRangeOf bytes (drop n bytes)
range-drop n bytes = record {
  before = take n bytes;
  behind = [];
  same = sym (take-append-drop n bytes) ∙ sym (append-nil (take n bytes ++ drop n bytes));
}

pub range-range : (bytes mid part : List ℕ) → IsRangeOf bytes mid → IsRangeOf mid part → IsRangeOf bytes part
range-range bytes mid part outer inner = record {
  before = outer.before ++ inner.before;
  behind = inner.behind ++ outer.behind;
  same = outer.same ∙ ap (λ (t : List ℕ). outer.before ++ t ++ outer.behind) inner.same ∙ regrouped outer.before inner.before part inner.behind outer.behind;
}
  where
    regrouped : (a b c d e : List ℕ) → a ++ (b ++ c ++ d) ++ e ≡ (a ++ b) ++ c ++ (d ++ e)
    regrouped a b c d e = simp append_assoc

-- ---- what holds of each value that a reading gives

ok-bind : {X Y E : Type 0} (r : Result X E) (next : X → Result Y E) (Known : X → Type 0) (Wanted : Y → Type 0) → IfOk r Known → ((x : X) → Known x → IfOk (next x) Wanted)
    → IfOk (r >>= next) Wanted
ok-bind (Ok x) next Known Wanted known step = step x known
ok-bind (Err fault) next Known Wanted known step = tt

-- ---- texts

front_in-range : (size : ℕ) (left : List ℕ) → IfOk (front_in size left) (λ front. IsRangeOf left front.behind)
unfolding front_in
front_in-range size left =
    elim (cases_Bool (nat_lt (length left) size)) [
      | inl short ↦ rw short tt
      | inr long ↦ rw long (range-drop size left)
    ]

length_in-range : (unit : ℕ) (left : List ℕ) → IfOk (length_in unit left) (λ count. IsRangeOf left count.behind)
unfolding length_in
length_in-range unit left = ok-bind (front_in unit left) _ (λ first. IsRangeOf left first.behind) _ (front_in-range unit left) (λ first known.
    elim (cases_Bool (nat_lt first.number (2 ^ (8 * unit - 1)))) [
      | inl short ↦ rw short known
      | inr long ↦ rw long
          (ok-bind (front_in unit first.behind) _ (λ second. IsRangeOf first.behind second.behind) _ (front_in-range unit first.behind)
          (λ second more. range-range left first.behind second.behind known more))
    ])

closed_in-range : (unit : ℕ) (count : FrontOf) → IfOk (closed_in unit count) (λ part. IsRangeOf count.behind part)
unfolding closed_in
closed_in-range unit count =
    let size = unit * count.number in
    elim (cases_Bool (nat_lt (length count.behind) size)) [
      | inl short ↦ rw short tt
      | inr long ↦ rw long
          (ok-bind (front_in unit (drop size count.behind)) _ (λ closing. IsRangeOf (drop size count.behind) closing.behind) _ (front_in-range unit (drop size count.behind))
          (λ closing known. elim (cases_Bool (not (closing.number == 0))) [
            | inl open_end ↦ rw open_end tt
            | inr ended ↦ rw ended (range-take size count.behind)
          ]))
    ]

utf8_bytes-range : (left : List ℕ) → IfOk (utf8_bytes_in left) (λ part. IsRangeOf left part)
unfolding utf8_bytes_in
utf8_bytes-range left =
    ok-bind (length_in 1 left) _ (λ units. IsRangeOf left units.behind) _ (length_in-range 1 left)
    (λ units first. ok-bind (length_in 1 units.behind) _ (λ count. IsRangeOf units.behind count.behind) _ (length_in-range 1 units.behind)
    (λ count second. IfOk-weaker (closed_in 1 count) _ _ (λ part third. range-range left units.behind part first (range-range units.behind count.behind part second third)) (closed_in-range 1 count)))

utf16_bytes-range : (left : List ℕ) → IfOk (utf16_bytes_in left) (λ part. IsRangeOf left part)
unfolding utf16_bytes_in
utf16_bytes-range left =
    ok-bind (length_in 2 left) _ (λ count. IsRangeOf left count.behind) _ (length_in-range 2 left)
    (λ count first. IfOk-weaker (closed_in 2 count) _ _ (λ part second. range-range left count.behind part first second) (closed_in-range 2 count))

lent_bytes : (strings left part : List ℕ) (place : ℕ) (r : Result (List ℕ) StringFault) → left ≡ drop place strings → Ok part ≡ r → IfOk r (λ part. IsRangeOf left part) → IsRangeOf strings part
lent_bytes strings left part place r split found known =
    let here : IsRangeOf left part = subst (λ (r : Result (List ℕ) StringFault). IfOk r (λ part. IsRangeOf left part)) (sym found) known in
    range-range strings left part (subst (λ (t : List ℕ). IsRangeOf strings t) (sym split) (range-drop place strings)) here

pub lent_utf8 : (strings left part : List ℕ) (place : ℕ) → left ≡ drop place strings → Ok part ≡ utf8_bytes_in left → IsRangeOf strings part
lent_utf8 strings left part place split found = lent_bytes strings left part place (utf8_bytes_in left) split found (utf8_bytes-range left)

pub lent_utf16 : (strings left part : List ℕ) (place : ℕ) → left ≡ drop place strings → Ok part ≡ utf16_bytes_in left → IsRangeOf strings part
lent_utf16 strings left part place split found = lent_bytes strings left part place (utf16_bytes_in left) split found (utf16_bytes-range left)

-- ---- the bytes in which the strings of a pool stand

range-before_styles : (bytes : List ℕ) (count start : ℕ) → IsRangeOf bytes (before_styles bytes count start)
range-before_styles bytes count start =
    elim (cases_Bool (count == 0)) [
      | inl none ↦ rw none (range-drop 0 bytes)
      | inr some ↦ rw some (range-take start bytes)
    ]

part_in-range : (bytes : List ℕ) (count start : ℕ) → IfOk (part_in bytes count start) (λ part. IsRangeOf bytes part)
part_in-range bytes count start =
    elim (cases_Bool (not (count == 0) && nat_lt (length bytes) start)) [
      | inl behind ↦ rw behind tt
      | inr within ↦ rw within (range-drop start bytes)
    ]

pub lent_strings : (whole bytes strings : List ℕ) (count start style_count styles_start : ℕ) → bytes ≡ before_styles whole style_count styles_start
    → Ok strings ≡ part_in bytes count start → IsRangeOf whole strings
lent_strings whole bytes strings count start style_count styles_start before found =
    let part : IsRangeOf bytes strings = subst (λ (r : Result (List ℕ) PoolFault). IfOk r (λ part. IsRangeOf bytes part)) (sym found) (part_in-range bytes count start) in
    range-range whole bytes strings (subst (λ (t : List ℕ). IsRangeOf whole t) (sym before) (range-before_styles whole style_count styles_start)) part

pub ruleset lent_parts = (lent_strings)

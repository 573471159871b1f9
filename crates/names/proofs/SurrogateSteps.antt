-- How bytes with pairs of surrogates go on.
use Rattle.std.proofs.Common.{◌≡◌, ℕ, zero, suc, ◌<◌, ◌≤◌, List, [], ◌∷◌, ◌++◌, length, drop, Option, Some, None, refl, sym, ap, ◌∙◌, arith, append_assoc}
use Rattle.std.proofs.lemmas.List.{append-nil}
use Rattle.std.specs.Char.{encode_utf8}
use Rattle.names.specs.Surrogates.{pair_at, front_paired, bytes_behind, paired_after, with_pairs}

after-drop : (n : ℕ) (bytes : List ℕ) → paired_after n bytes ≡ with_pairs (drop n bytes)
unfolding paired_after
after-drop zero bytes = refl
after-drop (suc n) [] = refl
after-drop (suc n) (_ ∷ bytes) = after-drop n bytes

at-front : (byte : ℕ) (others : List ℕ) → with_pairs (byte ∷ others) ≡ front_paired byte (pair_at (byte ∷ others)) ++ with_pairs (drop (bytes_behind (pair_at (byte ∷ others))) others)
unfolding paired_after
at-front byte others = ap (λ (t : List ℕ). front_paired byte (pair_at (byte ∷ others)) ++ t) (after-drop (bytes_behind (pair_at (byte ∷ others))) others)

pair-first : (left : List ℕ) (c : ℕ) → pair_at left ≡ Some c → 0 < length left → with_pairs left ≡ encode_utf8 c ++ with_pairs (drop 6 left)
pair-first [] c is some = absurd (omega arith)
pair-first (byte ∷ others) c is some = at-front byte others ∙ ap (λ (o : Option ℕ). front_paired byte o ++ with_pairs (drop (bytes_behind o) others)) is

byte-first : (left others : List ℕ) (byte : ℕ) → left ≡ byte ∷ others → None ≡ pair_at left → with_pairs left ≡ byte ∷ with_pairs others
byte-first [] others byte split none = absurd cc
byte-first (b ∷ bytes) others byte split none =
    let same : b ≡ byte = cc in
    let behind : bytes ≡ others = cc in
    at-front b bytes ∙ ap (λ (o : Option ℕ). front_paired b o ++ with_pairs (drop (bytes_behind o) bytes)) (sym none) ∙ ap (λ (n : ℕ). n ∷ with_pairs bytes) same
    ∙ ap (λ (t : List ℕ). byte ∷ with_pairs t) behind

-- ---- a loop

pub pair-next : (out new left behind all spelled : List ℕ) (c : ℕ) → out ++ with_pairs left ≡ all → Some c ≡ pair_at left → 6 ≤ length left → behind ≡ drop 6 left
    → new ≡ out ++ spelled → spelled ≡ encode_utf8 c → new ++ with_pairs behind ≡ all
pair-next out new left behind all spelled c before is some split put spells =
    ap (λ (t : List ℕ). t ++ with_pairs behind) (put ∙ ap (λ (t : List ℕ). out ++ t) spells)
    ∙ append_assoc out (encode_utf8 c) (with_pairs behind)
    ∙ ap (λ (t : List ℕ). out ++ t) (ap (λ (t : List ℕ). encode_utf8 c ++ with_pairs t) split ∙ sym (pair-first left c (sym is) (omega arith))) ∙ before

pub byte-next : (out new left others all : List ℕ) (byte : ℕ) → out ++ with_pairs left ≡ all → left ≡ byte ∷ others → None ≡ pair_at left
    → new ≡ out ++ byte ∷ [] → new ++ with_pairs others ≡ all
byte-next out new left others all byte before split none put =
    ap (λ (t : List ℕ). t ++ with_pairs others) put ∙ append_assoc out (byte ∷ []) (with_pairs others)
    ∙ ap (λ (t : List ℕ). out ++ t) (sym (byte-first left others byte split none)) ∙ before

pub pairs-end : (out left all : List ℕ) → out ++ with_pairs left ≡ all → left ≡ [] → out ≡ all
unfolding paired_after
pairs-end out left all before nothing = sym (append-nil out) ∙ ap (λ (t : List ℕ). out ++ with_pairs t) (sym nothing) ∙ before

pub ruleset pair_steps = (pair-next, byte-next, pairs-end)

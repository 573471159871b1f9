-- How the text of bytes that are read as UTF-8 goes on.
use Rattle.std.proofs.Common.{◌≡◌, ℕ, zero, suc, ◌+◌, ◌-◌, ◌<◌, ◌≤◌, Bool, true, false, ◌||◌, slice_index, inl, inr, List, [], ◌∷◌, ◌++◌, length, take, drop, Some, None, refl, sym, ap, ◌∙◌, arith, subst, append_assoc, length-drop, drop-drop}
use Rattle.std.specs.Prelude.{◌&&◌, not, MatchOption}
use Rattle.std.proofs.lemmas.Bool.{cases_lt, cases_Bool}
use Rattle.std.proofs.lemmas.Bool.Decides.{nat_tests}
use Rattle.std.proofs.lemmas.List.{nil_from_length}
use Rattle.std.proofs.lemmas.Str.{encode_ascii, byte_from_char}
use Rattle.std.proofs.Math.Seq.{take-append_seam, take-add}
use Rattle.std.specs.Bool.{then_some}
use Rattle.std.specs.Char.{encode_utf8, is_ascii}
use Rattle.std.specs.List.{slice_get}
use Rattle.bstr.specs.Utf8.{Decoded, good, decoded}
use Rattle.bstr.proofs.lemmas.PieceLemmas.{piece-bounds, value-1}
use Rattle.bstr.proofs.lemmas.SoundLemmas.{SpellsChar-decoded}
use Rattle.string_pool.specs.Shown.{takes_backslash, is_control, byte_escape, character_text, front_text, bytes_behind, bytes_text_after, bytes_text}
use Rattle.string_pool.specs.Escapes.{escape_text, is_plain_byte, IsPlain, BeginsPlain, BeginsEscape}

bytes_text_after-drop : (n : ℕ) (bytes : List ℕ) → bytes_text_after n bytes ≡ bytes_text (drop n bytes)
unfolding bytes_text_after
bytes_text_after-drop zero bytes = refl
bytes_text_after-drop (suc n) [] = refl
bytes_text_after-drop (suc n) (_ ∷ bytes) = bytes_text_after-drop n bytes

pub bytes_text-nil : bytes_text [] ≡ []
unfolding bytes_text_after
bytes_text-nil = refl

-- a byte at which no character can be decoded
bytes_text-none : (byte : ℕ) (others : List ℕ) → (decoded (byte ∷ others)).char ≡ None → bytes_text (byte ∷ others) ≡ byte_escape byte ++ bytes_text others
unfolding bytes_text_after
bytes_text-none byte others none = rw none refl

-- a character
drop_behind : (n byte : ℕ) (others : List ℕ) → 0 < n → drop (n - 1) others ≡ drop n (byte ∷ others)
drop_behind zero byte others some = absurd (omega arith)
drop_behind (suc n) byte others some = let e : suc n - 1 ≡ n = omega arith in ap (λ (k : ℕ). drop k others) e

at_front : (byte c : ℕ) (others : List ℕ) (front : Decoded) → front.char ≡ Some c → 0 < front.size
    → front_text byte front.char ++ bytes_text_after (bytes_behind front) others ≡ character_text c ++ bytes_text (drop front.size (byte ∷ others))
at_front byte c others front found some =
    rw found (ap (λ (text : List ℕ). character_text c ++ text)
    (bytes_text_after-drop (front.size - 1) others ∙ ap (λ (bytes : List ℕ). bytes_text bytes) (drop_behind front.size byte others some)))

pub bytes_text-some : (left : List ℕ) (c : ℕ) → (decoded left).char ≡ Some c → 0 < length left → bytes_text left ≡ character_text c ++ bytes_text (drop (decoded left).size left)
unfolding bytes_text_after
bytes_text-some [] c found some = absurd (omega arith)
bytes_text-some (byte ∷ others) c found some = at_front byte c others (decoded (byte ∷ others)) found (piece-bounds (byte ∷ others) some).0

pub bytes_text-ascii : (byte : ℕ) (others : List ℕ) → byte < 128 → bytes_text (byte ∷ others) ≡ character_text byte ++ bytes_text others
unfolding bytes_text_after
bytes_text-ascii byte others low =
    let bytes = byte ∷ others in
    let front : decoded bytes ≡ good byte 1 =
    value-1 (length bytes) byte (slice_index bytes 1) (slice_index bytes 2) (slice_index bytes 3) (omega arith, low) in
    rw front refl

-- ---- what stands for itself, and what does not

escaped_character : (c : ℕ) → (takes_backslash c || is_control c) ≡ true → character_text c ≡ escape_text c
escaped_character c escaped =
    elim (cases_Bool (takes_backslash c)) [
      | inl taken ↦ rw taken refl
      | inr other ↦ let control : is_control c ≡ true = rw other at escaped in rw (other, control) refl
    ]

pub plain_character : (c : ℕ) → (takes_backslash c || is_control c) ≡ false → character_text c ≡ encode_utf8 c
plain_character c plain =
    elim (cases_Bool (takes_backslash c)) [
      | inl taken ↦ let b : true ≡ false = rw taken at plain in absurd cc
      | inr other ↦ let e : is_control c ≡ false = rw other at plain in rw (other, e) refl
    ]

-- a character past ASCII stands for itself
pub wide_character : (c : ℕ) → 128 ≤ c → (takes_backslash c || is_control c) ≡ false
wide_character c high = grind (arith, nat_tests)

byte_without_backslash : (byte : ℕ) → 128 ≤ byte → escape_text byte ≡ byte_escape byte
byte_without_backslash byte high = let e : takes_backslash byte ≡ false = grind (arith, nat_tests) in rw e refl

begins : (byte : ℕ) (others : List ℕ) → bytes_text (byte ∷ others) ≡ escape_text byte ++ bytes_text others → BeginsEscape (byte ∷ others)
begins byte others text = record {
  text = λ b bytes same.
      let first : byte ≡ b = cc in
      let behind : others ≡ bytes = cc in
      text ∙ ap (λ (n : ℕ). escape_text n ++ bytes_text others) first ∙ ap (λ (t : List ℕ). escape_text b ++ bytes_text t) behind;
}

-- the first byte is ASCII, or it is not
pub is_low : (byte : ℕ) → is_ascii byte ≡ true → byte < 128
is_low byte ascii = grind (arith, nat_tests)

is_high : (byte : ℕ) → is_ascii byte ≡ false → 128 ≤ byte
is_high byte wide = grind (arith, nat_tests)

pub BeginsEscape-ascii : (left : List ℕ) (byte : ℕ) → Some byte ≡ slice_get left 0 → is_ascii byte ≡ true → true ≡ (takes_backslash byte || is_control byte) → BeginsEscape left
BeginsEscape-ascii [] byte first ascii escaped = absurd cc
BeginsEscape-ascii (b ∷ others) byte first ascii escaped =
    let same : byte ≡ b = cc in
    begins b others (bytes_text-ascii b others (is_low b (rw same at ascii)) ∙ ap (λ (t : List ℕ). t ++ bytes_text others) (escaped_character b (sym (rw same at escaped))))

pub BeginsEscape-none : (left : List ℕ) (byte : ℕ) → Some byte ≡ slice_get left 0 → is_ascii byte ≡ false → (decoded left).char ≡ None → BeginsEscape left
BeginsEscape-none [] byte first wide none = absurd cc
BeginsEscape-none (b ∷ others) byte first wide none =
    let same : byte ≡ b = cc in
    begins b others (bytes_text-none b others none ∙ ap (λ (t : List ℕ). t ++ bytes_text others) (sym (byte_without_backslash b (is_high b (rw same at wide)))))

pub IsPlain-ascii : (left : List ℕ) (byte : ℕ) → Some byte ≡ slice_get left 0 → is_ascii byte ≡ true → false ≡ (takes_backslash byte || is_control byte) → IsPlain left 1
IsPlain-ascii [] byte first ascii plain = absurd cc
IsPlain-ascii (b ∷ others) byte first ascii plain =
    let same : byte ≡ b = cc in
    let low : b < 128 = is_low b (rw same at ascii) in
    record {
      within = omega arith;
      text = bytes_text-ascii b others low ∙ ap (λ (t : List ℕ). t ++ bytes_text others) (plain_character b (sym (rw same at plain)) ∙ encode_ascii b low);
    }

-- a plain byte is a character of ASCII, and stands for itself
plain-parts : (ascii escaped : Bool) → (ascii && not escaped) ≡ true → (ascii ≡ true) × (false ≡ escaped)
plain-parts true true is = absurd cc
plain-parts true false is = (refl, refl)
plain-parts false escaped is = absurd cc

pub IsPlain-byte : (left : List ℕ) (byte : ℕ) → Some byte ≡ slice_get left 0 → is_plain_byte byte ≡ true → IsPlain left 1
IsPlain-byte left byte first plain =
    let parts = plain-parts (is_ascii byte) (takes_backslash byte || is_control byte) plain in
    IsPlain-ascii left byte first parts.0 parts.1

-- a text that begins with a byte past ASCII begins with a character past ASCII
not_low : (left behind : List ℕ) (c : ℕ) → left ≡ encode_utf8 c ++ behind → 128 ≤ slice_index left 0 → 128 ≤ c
not_low left behind c spelled high =
    elim (cases_lt c 128) [
      | inl lt ↦ let same = byte_from_char left behind c spelled lt in omega arith
      | inr le ↦ le
    ]

front_of : (left front behind : List ℕ) (size : ℕ) → left ≡ front ++ behind → length front ≡ size → take size left ≡ front
front_of left front behind size split width =
    ap (λ (bytes : List ℕ). take size bytes) split ∙ ap (λ (n : ℕ). take n (front ++ behind)) (sym width) ∙ take-append_seam front behind

pub IsPlain-some : (left : List ℕ) (byte c width : ℕ) → Some byte ≡ slice_get left 0 → is_ascii byte ≡ false → (decoded left).char ≡ Some c → width ≡ (decoded left).size
    → IsPlain left width × (0 < width)
IsPlain-some [] byte c width first wide found e = absurd cc
IsPlain-some (b ∷ others) byte c width first wide found e =
    let left = b ∷ others in
    let same : byte ≡ b = cc in
    let high : 128 ≤ b = is_high b (rw same at wide) in
    let size = (decoded left).size in
    let some : 0 < length left = omega arith in
    let spelled = SpellsChar-decoded left c found in
    let past : 128 ≤ c = not_low left (drop size left) c spelled.bytes high in
    let front : take size left ≡ encode_utf8 c = front_of left (encode_utf8 c) (drop size left) size spelled.bytes spelled.width in
    let bounds = piece-bounds left some in
    let plain : IsPlain left size = record {
      within = bounds.2;
      text = bytes_text-some left c found some ∙ ap (λ (t : List ℕ). t ++ bytes_text (drop size left)) (plain_character c (wide_character c past) ∙ sym front);
    } in
    (subst (λ (n : ℕ). IsPlain left n) (sym e) plain, subst (λ (n : ℕ). 0 < n) (sym e) bounds.0)

-- nothing stands at the front
pub BeginsEscape-nothing : (left : List ℕ) → None ≡ slice_get left 0 → BeginsEscape left
BeginsEscape-nothing [] nothing = record { text = λ b bytes same. absurd cc }
BeginsEscape-nothing (b ∷ others) nothing = absurd cc

-- characters of ASCII, unless the first takes an escape
pub ascii-first : (left : List ℕ) (byte width : ℕ) (escaped : Bool) → Some byte ≡ slice_get left 0 → is_ascii byte ≡ true → escaped ≡ (takes_backslash byte || is_control byte)
    → IsPlain left width → (BeginsPlain left → 0 < width) → MatchOption (then_some (not escaped) width) (BeginsEscape left) (λ n. IsPlain left n × (0 < n))
ascii-first left byte width true first ascii escaped plain some = BeginsEscape-ascii left byte first ascii escaped
ascii-first left byte width false first ascii escaped plain some = (plain, some (byte, sym first, rw (ascii, ← escaped) refl))

pub ruleset plain_steps = (BeginsEscape-ascii, BeginsEscape-none, IsPlain-ascii)

-- ---- a loop over characters that stand for themselves

pub IsPlain-none : (left : List ℕ) → IsPlain left 0
IsPlain-none left = record { within = omega arith; text = refl }

pub IsPlain-more : (left behind : List ℕ) (n width : ℕ) → IsPlain left n → behind ≡ drop n left → IsPlain behind width → IsPlain left (n + width)
IsPlain-more left behind n width before e next =
    let after : IsPlain (drop n left) width = subst (λ (bytes : List ℕ). IsPlain bytes width) e next in
    let place : drop width (drop n left) ≡ drop (n + width) left = drop-drop width n left ∙ ap (λ (k : ℕ). drop k left) (omega arith) in
    record {
      within = omega (arith, before.within, after.within, length-drop n left);
      text =
          before.text ∙ ap (λ (t : List ℕ). take n left ++ t) after.text
          ∙ sym (append_assoc (take n left) (take width (drop n left)) (bytes_text (drop width (drop n left))))
          ∙ ap (λ (t : List ℕ). t ++ bytes_text (drop width (drop n left))) (sym (take-add n width left))
          ∙ ap (λ (bytes : List ℕ). take (n + width) left ++ bytes_text bytes) place;
    }

pub bytes_text-plain : (left front behind : List ℕ) (n : ℕ) → IsPlain left n → front ≡ take n left → behind ≡ drop n left → bytes_text left ≡ front ++ bytes_text behind
bytes_text-plain left front behind n plain first others =
    plain.text ∙ ap (λ (t : List ℕ). t ++ bytes_text (drop n left)) (sym first) ∙ ap (λ (t : List ℕ). front ++ bytes_text t) (sym others)

pub bytes_text-end : (behind : List ℕ) → length behind ≡ 0 → bytes_text behind ≡ []
bytes_text-end behind nothing = ap (λ (t : List ℕ). bytes_text t) (nil_from_length behind nothing) ∙ bytes_text-nil

pub ruleset run_steps = (IsPlain-none, bytes_text-plain)

-- A line feed behind a JSON text changes nothing.
use Rattle.std.proofs.Common.{◌≡◌, ℕ, suc, ◌+◌, ◌-◌, ◌≤◌, Bool, true, false, cond, ◌&&◌, ◌||◌, ◌==◌, nat_eq, nat_lt, List, [], ◌∷◌, ◌++◌, length, take, drop, Option, Some, None, option_map, option_and_then, if◌then◌else◌, refl, ap, ap₂, ◌∙◌, arith, length-append}
use Rattle.std.proofs.lemmas.List.{take-append-le, drop-append-le}
use Rattle.std.proofs.lemmas.Str.{IsUtf8-append, IsUtf8-from_is_utf8, IsUtf8-from_ascii}
use Rattle.std.proofs.lemmas.Str.Ascii.{IsAscii-nil, IsAscii-cons}
use Rattle.std.specs.Char.{is_digit, encode_utf8, is_ascii_digit}
use Rattle.std.specs.List.{prefix_len, starts_with}
use Rattle.std.specs.Str.{is_utf8}
use Rattle.json.specs.Ascii as ascii
use Rattle.json.specs.Token.{Token, boolean, null, bad, number}
use Rattle.json.specs.Text.{Within, plain, after_backslash, after_u, after_high, content, code_unit, short_escape, prepend, is_high_surrogate, is_low_surrogate, surrogate_pair}
use Rattle.json.specs.Word.{ends_word, after_digits, after_minus, after_sign, after_whole, after_fraction, after_exponent, after_number, number_before, literal, word}
use Rattle.json.specs.Lex.{Lexeme, token, string_token, operator_lexeme, Class, quote, backslash, operator, space, other, class, Mode, between, in_word, in_string, in_escape, lex_byte, lex, fresh, punctuate}
use Rattle.json.specs.Json as json
use Rattle.serde_json.specs.Data.{Data}
use Rattle.serde_json.specs.Read.{read, of_json, max_depth}
use Rattle.json_input.specs.Json.{value_of}
use Rattle.json_input.proofs.ValueLemmas.{value_of-read}

-- a text as a line
abbrev line : List ℕ → List ℕ
line text = text ++ 10 ∷ []

-- ---- strings

last_fails : (a b c d : Bool) (n : ℕ) → d ≡ false → cond (a && b && c && d) (Some n) None ≡ None
last_fails true true true d n e = rw e
last_fails true true false d n e = refl
last_fails true false c d n e = refl
last_fails false b c d n e = refl

not_four_digits : (a b c : ℕ) → code_unit a b c 10 ≡ None
unfolding code_unit
not_four_digits a b c = last_fails (is_digit a 16) (is_digit b 16) (is_digit c 16) (is_digit 10 16) _ refl

cond_none : {X : Type 0} (b : Bool) (o : Option X) → o ≡ None → cond b o None ≡ None
cond_none true o e = e
cond_none false o e = refl

content-line : (w : Within) (xs : List ℕ) → content w (line xs) ≡ content w xs
unfolding content short_escape
content-line plain [] = refl
content-line plain (x ∷ xs) = λ i.
    cond (x == ascii.quote) (Some []) (cond (x == ascii.backslash) (content-line after_backslash xs i) (cond (nat_lt x ascii.space) None (prepend (x ∷ []) (content-line plain xs i))))
content-line after_backslash [] = refl
content-line after_backslash (x ∷ xs) = λ i.
    cond (x == ascii.lower_u) (content-line after_u xs i) (option_and_then (λ c. prepend (c ∷ []) (content-line plain xs i)) (short_escape x))
content-line after_u [] = refl
content-line after_u (a ∷ []) = refl
content-line after_u (a ∷ b ∷ []) = refl
content-line after_u (a ∷ b ∷ c ∷ []) = ap (option_and_then _) (not_four_digits a b c)
content-line after_u (a ∷ b ∷ c ∷ d ∷ xs) = λ i.
    option_and_then (λ u. cond (is_high_surrogate u) (content-line (after_high u) xs i) (cond (is_low_surrogate u) None (prepend (encode_utf8 u) (content-line plain xs i)))) (code_unit a b c d)
content-line (after_high h) [] = refl
content-line (after_high h) (s ∷ []) = refl
content-line (after_high h) (s ∷ u ∷ []) = refl
content-line (after_high h) (s ∷ u ∷ a ∷ []) = refl
content-line (after_high h) (s ∷ u ∷ a ∷ b ∷ []) = refl
content-line (after_high h) (s ∷ u ∷ a ∷ b ∷ c ∷ []) = cond_none ((s == ascii.backslash) && (u == ascii.lower_u)) _ (ap (option_and_then _) (not_four_digits a b c))
content-line (after_high h) (s ∷ u ∷ a ∷ b ∷ c ∷ d ∷ xs) = λ i.
    cond ((s == ascii.backslash) && (u == ascii.lower_u)) (option_and_then (λ l. cond (is_low_surrogate l) (prepend (encode_utf8 (surrogate_pair h l)) (content-line plain xs i)) None) (code_unit a b c d)) None

-- ---- numbers and literals

-- a part of the grammar leaves the line of what it leaves without a line feed
abbrev PassesLine : (List ℕ → Option (List ℕ)) → Type 0
PassesLine part = (t : List ℕ) → part (line t) ≡ option_map line (part t)

digits_len-line : (t : List ℕ) → prefix_len is_ascii_digit (line t) ≡ prefix_len is_ascii_digit t
digits_len-line [] = refl
digits_len-line (x ∷ t) = ap (λ n. cond (is_ascii_digit x) (1 + n) 0) (digits_len-line t)

digits_len-within : (t : List ℕ) → prefix_len is_ascii_digit t ≤ length t
digits_len-within [] = omega arith
digits_len-within (x ∷ t) = one_more (is_ascii_digit x) (prefix_len is_ascii_digit t) (length t) (digits_len-within t)
  where
    one_more : (b : Bool) (n m : ℕ) → n ≤ m → cond b (1 + n) 0 ≤ suc m
    one_more true n m h = omega arith
    one_more false n m h = omega arith

cond-parts : (b : Bool) (o p o' p' : Option (List ℕ)) → o' ≡ option_map line o → p' ≡ option_map line p → cond b o' p' ≡ option_map line (cond b o p)
cond-parts true o p o' p' e f = e
cond-parts false o p o' p' e f = f

after_digits-line : PassesLine after_digits
after_digits-line t =
    let n = prefix_len is_ascii_digit t in
    ap (λ k. cond (k == 0) None (Some (drop k (line t)))) (digits_len-line t)
    ∙ cond-parts (n == 0) None (Some (drop n t)) None (Some (drop n (line t))) refl (ap (λ rest. Some rest) (drop-append-le n t (10 ∷ []) (digits_len-within t)))

cond-line : (b : Bool) (s t : List ℕ) → cond b (line s) (line t) ≡ line (cond b s t)
cond-line true s t = refl
cond-line false s t = refl

after_minus-line : (t : List ℕ) → after_minus (line t) ≡ line (after_minus t)
after_minus-line [] = refl
after_minus-line (x ∷ t) = cond-line (x == ascii.minus) t (x ∷ t)

after_sign-line : (t : List ℕ) → after_sign (line t) ≡ line (after_sign t)
after_sign-line [] = refl
after_sign-line (x ∷ t) = cond-line ((x == ascii.minus) || (x == ascii.plus)) t (x ∷ t)

after_whole-line : PassesLine after_whole
after_whole-line [] = refl
after_whole-line (x ∷ t) = cond-parts (x == ascii.zero) (Some t) (after_digits (x ∷ t)) _ _ refl (after_digits-line (x ∷ t))

after_fraction-line : PassesLine after_fraction
after_fraction-line [] = refl
after_fraction-line (x ∷ t) = cond-parts (x == ascii.dot) (after_digits t) (Some (x ∷ t)) _ _ (after_digits-line t) refl

after_exponent-line : PassesLine after_exponent
after_exponent-line [] = refl
after_exponent-line (x ∷ t) =
    cond-parts ((x == ascii.lower_e) || (x == ascii.upper_e)) (after_digits (after_sign t)) (Some (x ∷ t)) _ _ (ap after_digits (after_sign-line t) ∙ after_digits-line (after_sign t)) refl

then-line : (part : List ℕ → Option (List ℕ)) → PassesLine part → (o : Option (List ℕ)) → option_and_then part (option_map line o) ≡ option_map line (option_and_then part o)
then-line part passes None = refl
then-line part passes (Some t) = passes t

after_number-line : PassesLine after_number
unfolding after_number
after_number-line t =
    ap (λ r. option_and_then after_exponent (option_and_then after_fraction (after_whole r))) (after_minus-line t)
    ∙ ap (λ o. option_and_then after_exponent (option_and_then after_fraction o)) (after_whole-line (after_minus t))
    ∙ ap (option_and_then after_exponent) (then-line after_fraction after_fraction-line (after_whole (after_minus t)))
    ∙ then-line after_exponent after_exponent-line (option_and_then after_fraction (after_whole (after_minus t)))

ends_word-line : (t : List ℕ) → ends_word (line t) ≡ ends_word t
ends_word-line [] = refl
ends_word-line (x ∷ t) = refl

number_before-line : (t : List ℕ) (o : Option (List ℕ)) → number_before (line t) (option_map line o) ≡ number_before t o
number_before-line t None = refl
number_before-line t (Some rest) =
    let taken : length (line t) - length (line rest) ≡ length t - length rest = omega (arith, length-append t (10 ∷ []), length-append rest (10 ∷ [])) in
    ap₂ (λ b n. cond b (number (take n (line t))) bad) (ends_word-line rest) taken
    ∙ ap (λ s. cond (ends_word rest) (number s) bad) (take-append-le (length t - length rest) t (10 ∷ []) (omega arith))

-- the text begins with this name, and then a word ends
abbrev begins_word : List ℕ → List ℕ → Bool
begins_word name t = starts_with nat_eq t name && ends_word (drop (length name) t)

abbrev has_line_feed : List ℕ → Bool
has_line_feed [] = false
has_line_feed (n ∷ name) = cond (n == 10) true (has_line_feed name)

begins_word-line : (name t : List ℕ) → has_line_feed name ≡ false → begins_word name (line t) ≡ begins_word name t
begins_word-line [] t h = ends_word-line t
begins_word-line (n ∷ name) [] h = other_first (n == 10) _ _ (has_line_feed name) h
  where
    other_first : (b c d e : Bool) → cond b true e ≡ false → ((b && c) && d) ≡ false
    other_first true c d e h = absurd cc
    other_first false c d e h = refl
begins_word-line (n ∷ name) (x ∷ t) h = same_first (n == x) _ _ _ _ (begins_word-line name t (others (n == 10) (has_line_feed name) h))
  where
    same_first : (b c d c' d' : Bool) → (c' && d') ≡ (c && d) → ((b && c') && d') ≡ ((b && c) && d)
    same_first true c d c' d' e = e
    same_first false c d c' d' e = refl

    others : (b e : Bool) → cond b true e ≡ false → e ≡ false
    others true e h = absurd cc
    others false e h = h

literal-line : (name t : List ℕ) (meant : Token) → has_line_feed name ≡ false → literal name meant (line t) ≡ literal name meant t
literal-line name t meant h = ap (λ b. cond b meant bad) (begins_word-line name t h)

word-line : (x : ℕ) (t : List ℕ) → word (x ∷ line t) ≡ word (x ∷ t)
unfolding word
word-line x t = λ i.
    cond (x == ascii.lower_t) (literal-line ascii.true_text (x ∷ t) (boolean true) refl i)
    (cond (x == ascii.lower_f) (literal-line ascii.false_text (x ∷ t) (boolean false) refl i)
    (cond (x == ascii.lower_n) (literal-line ascii.null_text (x ∷ t) null refl i) ((ap (number_before (line (x ∷ t))) (after_number-line (x ∷ t)) ∙ number_before-line (x ∷ t) (after_number (x ∷ t))) i)))

-- ---- all of a text

lex_byte-line : (m : Mode) (c : Class) (x : ℕ) (xs : List ℕ) (k k' : Mode → List Lexeme) → ((next : Mode) → k' next ≡ k next) → lex_byte m c x (line xs) k' ≡ lex_byte m c x xs k
lex_byte-line between quote x xs k k' same = λ i. token (string_token (content-line plain xs i)) ∷ same in_string i
lex_byte-line between backslash x xs k k' same = λ i. token bad ∷ same in_word i
lex_byte-line between operator x xs k k' same = λ i. operator_lexeme x ∷ same between i
lex_byte-line between space x xs k k' same = same between
lex_byte-line between other x xs k k' same = λ i. token (word-line x xs i) ∷ same in_word i
lex_byte-line in_word quote x xs k k' same = same in_word
lex_byte-line in_word backslash x xs k k' same = same in_word
lex_byte-line in_word operator x xs k k' same = λ i. operator_lexeme x ∷ same between i
lex_byte-line in_word space x xs k k' same = same between
lex_byte-line in_word other x xs k k' same = same in_word
lex_byte-line in_string quote x xs k k' same = same between
lex_byte-line in_string backslash x xs k k' same = same in_escape
lex_byte-line in_string operator x xs k k' same = same in_string
lex_byte-line in_string space x xs k k' same = same in_string
lex_byte-line in_string other x xs k k' same = same in_string
lex_byte-line in_escape c x xs k k' same = same in_string

lex-line : (m : Mode) (xs : List ℕ) → lex m (line xs) ≡ lex m xs
unfolding lex
lex-line between [] = refl
lex-line in_word [] = refl
lex-line in_string [] = refl
lex-line in_escape [] = refl
lex-line m (x ∷ xs) = lex_byte-line m (class x) x xs (λ next. lex next xs) (λ next. lex next (line xs)) (λ next. lex-line next xs)

read-line : (text : List ℕ) → read (text ++ 10 ∷ []) ≡ read text
read-line text = ap (λ lexemes. option_and_then of_json (option_and_then (λ p. json.if_last p.0 p.1) (json.value max_depth (punctuate fresh lexemes)))) (lex-line between text)

pub line-means : (text : List ℕ) (value : Data) → value_of text ≡ Some value → value_of (text ++ 10 ∷ []) ≡ Some value
unfolding value_of
line-means text value e = where_utf8 (is_utf8 text) refl e
  where
    where_utf8 : (b : Bool) → is_utf8 text ≡ b → (if b then read text else None) ≡ Some value → value_of (line text) ≡ Some value
    where_utf8 true utf8 e =
        value_of-read (line text) value (IsUtf8-append text (10 ∷ []) (IsUtf8-from_is_utf8 text utf8) (IsUtf8-from_ascii (10 ∷ []) (IsAscii-cons 10 [] (omega arith) IsAscii-nil))) (read-line text ∙ e)
    where_utf8 false utf8 e = absurd cc

-- How the words of a file are found, line by line.
use Rattle.std.proofs.Common.{◌≡◌, ◌≢◌, ℕ, ◌+◌, ◌<◌, ◌≤◌, Bool, true, false, List, [], ◌∷◌, ◌++◌, map, length, drop, get_or, Option, Some, None, refl, sym, ap, ◌∙◌, append_assoc, arith, cond}
use Rattle.std.specs.Prelude.{MatchOption, ◌==◌, nat_eq}
use Rattle.std.specs.Borrow.{Bor}
use Rattle.std.specs.Char.{encode_utf8}
use Rattle.std.specs.List.{filter, slice_split, starts_with}
use Rattle.std.specs.Option.{option_map, unwrap_or}
use Rattle.std.specs.Str.{trim}
use Rattle.std.specs.Str.Pattern.{FindsCharPrefix, StripsPrefix}
use Rattle.std.proofs.lemmas.Bool.Decides.{Decides-eqb}
use Rattle.std.proofs.lemmas.List.{append-nil, drop_more, drop_all, get_or-map, length-map}
use Rattle.std.proofs.lemmas.Slice.Eq.{starts_is}
use Rattle.names.specs.Named.{behind_sign}
use Rattle.names.specs.WordFile.{byte_order_mark, is_line_feed, is_word, without_mark, words_in_text}

-- ---- behind the sign

pub text_behind : (word : List ℕ) (text : Option (Bor (List ℕ))) → MatchOption text ((rest : List ℕ) → word ≢ 64 ∷ rest) (λ text. word ≡ 64 ∷ text.now)
    → option_map (λ text. text.now) text ≡ behind_sign word
text_behind [] None none = refl
text_behind (byte ∷ rest) None none = other byte rest (byte == 64) refl none
  where
    other : (byte : ℕ) (rest : List ℕ) (is : Bool) → (byte == 64) ≡ is → ((others : List ℕ) → byte ∷ rest ≢ 64 ∷ others) → None ≡ behind_sign (byte ∷ rest)
    other byte rest true is none = absurd (none rest (grind (arith, is)))
    other byte rest false is none = rw is refl
text_behind word (Some text) found = rw found refl

-- ---- the byte order mark

encoded : encode_utf8 65279 ≡ byte_order_mark
unfolding encode_utf8
encoded = refl

pub without_mark_seen : (text : Bor (List ℕ)) (rest : Option (Bor (List ℕ))) → MatchOption rest (FindsCharPrefix 65279 text.now None) (λ rest. StripsPrefix (FindsCharPrefix 65279) text.now rest.now)
    → (unwrap_or rest text).now ≡ without_mark text.now
unfolding without_mark
without_mark_seen text None none = go (starts_with nat_eq text.now byte_order_mark) refl
  where
    go : (has : Bool) → starts_with nat_eq text.now byte_order_mark ≡ has → text.now ≡ without_mark text.now
    go true has = absurd (none _ ((starts_is Decides-eqb text.now byte_order_mark _ refl).0 has ∙ ap (λ mark. mark ++ drop 3 text.now) (sym encoded)))
    go false has = rw has refl
without_mark_seen text (Some rest) found =
    let has : starts_with nat_eq text.now byte_order_mark ≡ true =
    (starts_is Decides-eqb text.now byte_order_mark _ refl).1 (drop found.0 text.now) (found.1.split ∙ ap (λ mark. mark ++ drop found.0 text.now) encoded) in
    rw has (found.2 ∙ ap (λ n. drop n text.now) found.1.ends)

-- ---- the words

abbrev pub line_of : Bor (List ℕ) → List ℕ
line_of line = line.now

abbrev pub words_of : List (List ℕ) → List (List ℕ)
words_of lines = filter is_word (map trim lines)

-- the words that were found, and those of the lines from a place on, are those of all lines
pub record WordsAllBut (found : List (List ℕ)) (place : ℕ) (lines : List (List ℕ)) : Type 0 where
  pub others : found ++ words_of (drop place lines) ≡ words_of lines

pub WordsAllBut-none : (lines : List (List ℕ)) → WordsAllBut [] 0 lines
WordsAllBut-none lines = record { others = refl }

kept : (line : List ℕ) (rest : List (List ℕ)) → is_word (trim line) ≡ true → words_of (line ∷ rest) ≡ trim line ∷ words_of rest
kept line rest is = ap (λ (b : Bool). cond b (trim line ∷ words_of rest) (words_of rest)) is

passed : (line : List ℕ) (rest : List (List ℕ)) → is_word (trim line) ≡ false → words_of (line ∷ rest) ≡ words_of rest
passed line rest is = ap (λ (b : Bool). cond b (trim line ∷ words_of rest) (words_of rest)) is

pub WordsAllBut-word : (found : List (List ℕ)) (place : ℕ) (items : List (Bor (List ℕ))) (d : Bor (List ℕ)) → WordsAllBut found place (map line_of items) → place < length items
    → is_word (trim (get_or items place d).now) ≡ true → WordsAllBut (found ++ trim (get_or items place d).now ∷ []) (place + 1) (map line_of items)
WordsAllBut-word found place items d before on is =
    let line = (get_or items place d).now in
    let rest = drop (place + 1) (map line_of items) in record {
      others =
          append_assoc found (trim line ∷ []) (words_of rest)
          ∙ ap (λ (t : List (List ℕ)). found ++ t) (sym (kept line rest is))
          ∙ ap (λ (l : List ℕ). found ++ words_of (l ∷ rest)) (sym (get_or-map line_of items place d d.now on))
          ∙ ap (λ (t : List (List ℕ)). found ++ words_of t) (sym (drop_more (map line_of items) place d.now (simp length-map on)))
          ∙ before.others;
    }

pub WordsAllBut-pass : (found : List (List ℕ)) (place : ℕ) (items : List (Bor (List ℕ))) (d : Bor (List ℕ)) → WordsAllBut found place (map line_of items) → place < length items
    → is_word (trim (get_or items place d).now) ≡ false → WordsAllBut found (place + 1) (map line_of items)
WordsAllBut-pass found place items d before on is =
    let line = (get_or items place d).now in
    let rest = drop (place + 1) (map line_of items) in record {
      others =
          ap (λ (t : List (List ℕ)). found ++ t) (sym (passed line rest is))
          ∙ ap (λ (l : List ℕ). found ++ words_of (l ∷ rest)) (sym (get_or-map line_of items place d d.now on))
          ∙ ap (λ (t : List (List ℕ)). found ++ words_of t) (sym (drop_more (map line_of items) place d.now (simp length-map on)))
          ∙ before.others;
    }

pub WordsAllBut-end : (found : List (List ℕ)) (place : ℕ) (items : List (Bor (List ℕ))) (text : List ℕ) → WordsAllBut found place (map line_of items)
    → length items ≤ place → map line_of items ≡ slice_split is_line_feed (without_mark text) → found ≡ words_in_text text
unfolding words_in_text
WordsAllBut-end found place items text before past lines =
    sym (append-nil found)
    ∙ ap (λ (t : List (List ℕ)). found ++ words_of t) (sym (drop_all place (map line_of items) (simp length-map past)))
    ∙ before.others
    ∙ ap words_of lines

-- Some members in JSON: their text reads as the value that they make.
use Rattle.std.proofs.Common.{◌≡◌, ℕ, ◌^◌, ◌<◌, ◌≤◌, Bool, true, false, List, [], ◌∷◌, ◌++◌, codes, Option, Some, None, option_map, option_and_then, IsUtf8, refl, sym, ap, ◌∙◌, append_assoc, arith}
use Rattle.std.specs.Fmt.{decimal}
use Rattle.std.specs.List.{flat_map, join_with_byte}
use Rattle.std.proofs.lemmas.Fmt.{IsAscii-decimal}
use Rattle.std.proofs.lemmas.List.{append-nil}
use Rattle.std.proofs.lemmas.Str.{IsUtf8-append, IsUtf8-from_ascii}
use Rattle.json.specs.Json as json
use Rattle.json.specs.Print.{escape, escape_byte, separator, print, print_from}
use Rattle.json.specs.Token.{Token}
use Rattle.json.specs.Tree.{json_tokens, members_tokens, members_depth, MembersHaveNumbers}
use Rattle.json.proofs.Printed.Decimals.{IsNumber-decimal}
use Rattle.json.proofs.Printed.Tokens.{tokens-print}
use Rattle.json.proofs.Printed.Trees.{ArePrintable-json_tokens, value-json_tokens}
use Rattle.json.proofs.Printed.Utf8.{IsUtf8-are_ascii, IsUtf8-quoted, IsUtf8-key, IsUtf8-separator}
use Rattle.serde_json.specs.Data.{Data, number, unsigned, string, object, Members, no_members, put}
use Rattle.serde_json.specs.Read.{of_json, of_members, max_depth, read}
use Rattle.serde_json.proofs.Numbers.{number_of-decimal}
use Rattle.json_input.specs.Json.{value_of}
use Rattle.json_input.proofs.LineFeed.{line-means}
use Rattle.json_input.proofs.ValueLemmas.{value_of-read}
use Rattle.config_record.specs.declared.coord.Coord.{Coord}
use Rattle.config_record.specs.declared.coord.Coord.TheVariants as coords
use Rattle.config_record.specs.Coord.{name_of}
use Rattle.config_record.specs.Separator.{continued}
use Rattle.config_record.proofs.SeparatorSteps.{continued-append}
use Rattle.notation.specs.LineLocale.{comma}
use Rattle.notation.specs.JsonText.{member}
use Rattle.notation.proofs.PlainText.{ArePlain, plain-escape, plain-utf8}

-- ---- what may stand at a coordinate

pub data Entry : Type 0 where
  numeral : ℕ → Entry
  text : List ℕ → Entry

abbrev pub entry_text : Entry → List ℕ
entry_text (numeral n) = decimal n
entry_text (text t) = codes "\"" ++ t ++ codes "\""

abbrev pub entry_json : Entry → json.Json
entry_json (numeral n) = json.number (decimal n)
entry_json (text t) = json.string t

abbrev pub entry_data : Entry → Data
entry_data (numeral n) = number (unsigned n)
entry_data (text t) = string t

-- a number of 64 bits, or a text that stands there as it is
abbrev pub Fits : Option Entry → Type 0
Fits None = Unit {0}
Fits (Some (numeral n)) = n < 2 ^ 64
Fits (Some (text t)) = ArePlain t

-- ---- the members of some coordinates: their texts, in the grammar, and as they are put into a value one after the other

abbrev pub member_of : Coord → Option Entry → List (List ℕ)
member_of c None = []
member_of c (Some entry) = member c (entry_text entry) ∷ []

abbrev with_json : Coord → Option Entry → json.Members → json.Members
with_json c None ms = ms
with_json c (Some entry) ms = json.member (name_of c) (entry_json entry) ms

abbrev members_of : (Coord → Option Entry) → List Coord → json.Members
members_of entries [] = json.no_members
members_of entries (c ∷ cs) = with_json c (entries c) (members_of entries cs)

abbrev pub with_data : Coord → Option Entry → Members → Members
with_data c None ms = ms
with_data c (Some entry) ms = put (name_of c) (entry_data entry) ms

abbrev pub puts : (Coord → Option Entry) → List Coord → Members → Members
puts entries [] ms = ms
puts entries (c ∷ cs) ms = puts entries cs (with_data c (entries c) ms)

-- ---- names stand there as they are

escape-name : (c : Coord) → escape (name_of c) ≡ name_of c
unfolding name_of escape_byte
escape-name coords.Mcc = refl
escape-name c = refl

utf8-name : (c : Coord) → IsUtf8 (name_of c)
unfolding name_of
utf8-name coords.Mcc = IsUtf8-are_ascii _ refl
utf8-name c = IsUtf8-are_ascii _ refl

-- ---- the text is what is printed of the tokens

entry-printed : (entry : Entry) → Fits (Some entry) → (others : List Token) → print_from false (json_tokens (entry_json entry) ++ others) ≡ entry_text entry ++ print_from true others
unfolding print_from
entry-printed (numeral n) fits others = refl
entry-printed (text t) fits others = rw (plain-escape t fits) refl

-- the text of members; where one stands there, a comma is due before the next
abbrev members_text : Bool → List (List ℕ) → List ℕ
members_text due members = continued (record { byte = comma; due = due }) members

-- a member, and others behind it
regrouped : (name value others end : List ℕ) → ((34 ∷ (name ++ 34 ∷ [])) ++ 58 ∷ []) ++ (value ++ (others ++ end)) ≡ ((((34 ∷ name) ++ 34 ∷ 58 ∷ []) ++ value) ++ others) ++ end
regrouped name value others end = simp append_assoc

one-printed : (c : Coord) (o : Option Entry) (due : Bool) (ms : json.Members) (texts : List (List ℕ)) → Fits o
    → ((b : Bool) → print_from b (members_tokens ms) ≡ members_text b texts ++ 125 ∷ [])
    → print_from due (members_tokens (with_json c o ms)) ≡ members_text due (member_of c o ++ texts) ++ 125 ∷ []
unfolding print_from continued
one-printed c None due ms texts fits others = others due
one-printed c (Some entry) true ms texts fits others =
    rw (escape-name c, entry-printed entry fits (members_tokens ms), others true)
    (ap (λ (t : List ℕ). 44 ∷ t) (regrouped (name_of c) (entry_text entry) (members_text true texts) (125 ∷ [])))
one-printed c (Some entry) false ms texts fits others =
    rw (escape-name c, entry-printed entry fits (members_tokens ms), others true)
    (regrouped (name_of c) (entry_text entry) (members_text true texts) (125 ∷ [])
    ∙ ap (λ (t : List ℕ). t ++ 125 ∷ []) (sym (continued-append (record { byte = 44; due = false }) (member c (entry_text entry) ∷ []) texts)))

printed : (entries : Coord → Option Entry) → ((c : Coord) → Fits (entries c)) → (cs : List Coord) (due : Bool)
    → print_from due (members_tokens (members_of entries cs)) ≡ members_text due (flat_map (λ c. member_of c (entries c)) cs) ++ 125 ∷ []
unfolding print_from continued
printed entries fits [] true = refl
printed entries fits [] false = refl
printed entries fits (c ∷ cs) due = one-printed c (entries c) due (members_of entries cs) (flat_map (λ c. member_of c (entries c)) cs) (fits c) (printed entries fits cs)

-- ---- it is UTF-8

entry-utf8 : (entry : Entry) → Fits (Some entry) → (others : List Token) → IsUtf8 (print_from true others) → IsUtf8 (print_from false (json_tokens (entry_json entry) ++ others))
unfolding print_from
entry-utf8 (numeral n) fits others rest = IsUtf8-append (decimal n) _ (IsUtf8-from_ascii (decimal n) (IsAscii-decimal n fits)) rest
entry-utf8 (text t) fits others rest = IsUtf8-append _ _ (IsUtf8-quoted t (plain-utf8 t fits)) rest

one-utf8 : (c : Coord) (o : Option Entry) (due : Bool) (ms : json.Members) → Fits o → ((b : Bool) → IsUtf8 (print_from b (members_tokens ms))) → IsUtf8 (print_from due (members_tokens (with_json c o ms)))
unfolding print_from
one-utf8 c None due ms fits others = others due
one-utf8 c (Some entry) due ms fits others =
    IsUtf8-append (separator due (Token.key (name_of c))) _ (IsUtf8-separator due (Token.key (name_of c)))
    (IsUtf8-append _ _ (IsUtf8-key (name_of c) (utf8-name c)) (entry-utf8 entry fits (members_tokens ms) (others true)))

utf8 : (entries : Coord → Option Entry) → ((c : Coord) → Fits (entries c)) → (cs : List Coord) (due : Bool) → IsUtf8 (print_from due (members_tokens (members_of entries cs)))
unfolding print_from
utf8 entries fits [] true = IsUtf8-are_ascii (125 ∷ []) refl
utf8 entries fits [] false = IsUtf8-are_ascii (125 ∷ []) refl
utf8 entries fits (c ∷ cs) due = one-utf8 c (entries c) due (members_of entries cs) (fits c) (utf8 entries fits cs)

-- ---- it reads as the value

one-numbers : (c : Coord) (o : Option Entry) (ms : json.Members) → Fits o → MembersHaveNumbers ms → MembersHaveNumbers (with_json c o ms)
one-numbers c None ms fits others = others
one-numbers c (Some (numeral n)) ms fits others = (IsNumber-decimal n fits, others)
one-numbers c (Some (text t)) ms fits others = (tt, others)

numbers : (entries : Coord → Option Entry) → ((c : Coord) → Fits (entries c)) → (cs : List Coord) → MembersHaveNumbers (members_of entries cs)
numbers entries fits [] = tt
numbers entries fits (c ∷ cs) = one-numbers c (entries c) (members_of entries cs) (fits c) (numbers entries fits cs)

one-shallow : (c : Coord) (o : Option Entry) (ms : json.Members) → members_depth ms ≤ 0 → members_depth (with_json c o ms) ≤ 0
one-shallow c None ms others = others
one-shallow c (Some (numeral n)) ms others = omega arith
one-shallow c (Some (text t)) ms others = omega arith

shallow : (entries : Coord → Option Entry) (cs : List Coord) → members_depth (members_of entries cs) ≤ 0
shallow entries [] = omega arith
shallow entries (c ∷ cs) = one-shallow c (entries c) (members_of entries cs) (shallow entries cs)

one-put : (c : Coord) (o : Option Entry) (ms : json.Members) (found : Members) → Fits o → of_members (with_json c o ms) found ≡ of_members ms (with_data c o found)
one-put c None ms found fits = refl
one-put c (Some (numeral n)) ms found fits = rw (number_of-decimal n fits) refl
one-put c (Some (text t)) ms found fits = refl

all-put : (entries : Coord → Option Entry) → ((c : Coord) → Fits (entries c)) → (cs : List Coord) (found : Members) → of_members (members_of entries cs) found ≡ Some (puts entries cs found)
all-put entries fits [] found = refl
all-put entries fits (c ∷ cs) found = one-put c (entries c) (members_of entries cs) found (fits c) ∙ all-put entries fits cs (with_data c (entries c) found)

-- the text without its line feed
abbrev pub line_of : (Coord → Option Entry) → List Coord → List ℕ
line_of entries cs = codes "{" ++ join_with_byte 44 (flat_map (λ c. member_of c (entries c)) cs) ++ codes "}"

line-printed : (entries : Coord → Option Entry) → ((c : Coord) → Fits (entries c)) → (cs : List Coord) → print (json_tokens (json.object (members_of entries cs))) ≡ line_of entries cs
unfolding print_from continued
line-printed entries fits cs = ap (λ (t : List ℕ). 123 ∷ t) (printed entries fits cs false)

line-utf8 : (entries : Coord → Option Entry) → ((c : Coord) → Fits (entries c)) → (cs : List Coord) → IsUtf8 (print (json_tokens (json.object (members_of entries cs))))
unfolding print_from
line-utf8 entries fits cs = IsUtf8-append (123 ∷ []) _ (IsUtf8-are_ascii (123 ∷ []) refl) (utf8 entries fits cs false)

line-read : (entries : Coord → Option Entry) → ((c : Coord) → Fits (entries c)) → (cs : List Coord) → read (print (json_tokens (json.object (members_of entries cs)))) ≡ Some (object (puts entries cs no_members))
line-read entries fits cs =
    let whole = json.object (members_of entries cs) in
    let parsed = tokens-print (json_tokens whole) (ArePrintable-json_tokens whole (numbers entries fits cs)) ∙ sym (append-nil (json_tokens whole)) in
    ap (λ o. option_and_then of_json (option_and_then (λ p. json.if_last p.0 p.1) o)) (ap (json.value max_depth) parsed ∙ value-json_tokens whole max_depth [] (omega (arith, shallow entries cs)))
    ∙ ap (option_map object) (all-put entries fits cs no_members)

pub line-value : (entries : Coord → Option Entry) → ((c : Coord) → Fits (entries c)) → (cs : List Coord) → value_of (line_of entries cs ++ 10 ∷ []) ≡ Some (object (puts entries cs no_members))
line-value entries fits cs =
    let value = object (puts entries cs no_members) in
    let here = line-printed entries fits cs in
    line-means (line_of entries cs) value (ap value_of (sym here) ∙ value_of-read _ value (line-utf8 entries fits cs) (line-read entries fits cs))

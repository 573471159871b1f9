-- The pieces of sizes and of versions, which tell two numbers.
use Rattle.std.proofs.Common.{◌≡◌, ℕ, ◌^◌, ◌<◌, ◌==◌, ◌&&◌, Bool, true, false, if◌then◌else◌, List, [], ◌∷◌, ◌++◌, codes, refl, sym, ap, ◌∙◌, inl, inr, append_assoc}
use Rattle.std.specs.List.{list_any, list_all, flat_map}
use Rattle.std.specs.Option.{option_to_list}
use Rattle.std.specs.Fmt.{decimal}
use Rattle.std.proofs.lemmas.Bool.{cases_Bool, and_parts, eqb-true}
use Rattle.std.proofs.lemmas.Fmt.{decimal_injective}
use Rattle.std.proofs.lemmas.List.{append-nil}
use Rattle.std.proofs.lemmas.List.Elements.{filter-append}
use Rattle.std.proofs.lemmas.List.Folds.{list_any-append}
use Rattle.config_record.specs.locales.Locale.{dash, is_digit}
use Rattle.config_record.specs.locales.Text.{is_dash}
use Rattle.config_record.specs.Coord.{place_of}
use Rattle.notation.specs.Words.{words}
use Rattle.notation.specs.Forms.{forms}
use Rattle.notation.specs.LineParts.{size_part, version_part, minor_text}
use Rattle.notation.proofs.Digits.{is_no_digit, letters_of, letters_of-decimal, has_digit, unmarked}
use Rattle.notation.proofs.Pieces.{pieces_of, pieces_of-whole, split_at, split_at-append, split_at-whole}
use Rattle.notation.proofs.PieceKinds.{is_equals, is_bracket, kind_said, kind_of, kind_of-number, number_rows, word_rows}
use Rattle.notation.proofs.NumberPieces.{is_of, is_of-kind}

-- ---- sizes

abbrev size_text : ℕ → ℕ → List ℕ
size_text width height = decimal width ++ codes "x" ++ decimal height

unfoldable pub size_pieces : ℕ → ℕ → List (List ℕ)
size_pieces width height = flat_map pieces_of (option_to_list (size_part width height))

-- what two numbers have not, and nothing between them
between : (p : ℕ → Bool) (xs ys mid : List ℕ) → list_any p xs ≡ false → list_any p ys ≡ false → list_any p mid ≡ false → list_any p (xs ++ mid ++ ys) ≡ false
between p xs ys mid first second middle = simp (list_any-append, first, second, middle)

digit_in_first : (xs ys : List ℕ) → list_any is_digit xs ≡ true → list_any is_digit (xs ++ ys) ≡ true
digit_in_first xs ys first = list_any-append is_digit xs ys ∙ rw first refl

kind_x : kind_said (codes "x") true ≡ 21
unfolding kind_said number_rows word_rows words forms place_of
kind_x = refl

size_kind : (w h : ℕ) → w < 2 ^ 64 → h < 2 ^ 64 → kind_of (size_text w h) ≡ 21
size_kind w h p q =
    let letters : letters_of (size_text w h) ≡ codes "x" = simp (filter-append, letters_of-decimal w p, letters_of-decimal h q) in
    kind_of-number (size_text w h)
    (between is_equals (decimal w) (decimal h) (codes "x") (unmarked 61 w refl p) (unmarked 61 h refl q) refl)
    (between is_bracket (decimal w) (decimal h) (codes "x") (unmarked 40 w refl p) (unmarked 40 h refl q) refl)
    (digit_in_first (decimal w ++ codes "x") (decimal h) (digit_in_first (decimal w) (codes "x") (has_digit w p)))
    ∙ ap (λ (l : List ℕ). kind_said l true) letters
    ∙ kind_x

size_whole : (w h : ℕ) → w < 2 ^ 64 → h < 2 ^ 64 → pieces_of (size_text w h) ≡ size_text w h ∷ []
size_whole w h p q = pieces_of-whole (size_text w h) (between is_dash (decimal w) (decimal h) (codes "x") (unmarked dash w refl p) (unmarked dash h refl q) refl)

size_cut : (w h : ℕ) → w < 2 ^ 64 → h < 2 ^ 64 → split_at 120 (size_text w h) ≡ decimal w ∷ decimal h ∷ []
size_cut w h p q =
    ap (split_at 120) (append_assoc (decimal w) (codes "x") (decimal h))
    ∙ split_at-append 120 (decimal w) (decimal h)
    ∙ rw (split_at-whole 120 (decimal w) (unmarked 120 w refl p), split_at-whole 120 (decimal h) (unmarked 120 h refl q)) refl

size_same : (w h v g : ℕ) → w < 2 ^ 64 → h < 2 ^ 64 → v < 2 ^ 64 → g < 2 ^ 64 → size_text w h ≡ size_text v g → (w ≡ v) × (h ≡ g)
size_same w h v g p q r s e =
    let cut = sym (size_cut w h p q) ∙ ap (split_at 120) e ∙ size_cut v g r s in
    let first : decimal w ≡ decimal v = cc in
    let second : decimal h ≡ decimal g = cc in
    (decimal_injective w v p r first, decimal_injective h g q s second)

abbrev both_zero : ℕ → ℕ → Bool
both_zero w h = w == 0 && h == 0

no_size : (w h : ℕ) → both_zero w h ≡ true → size_pieces w h ≡ []
unfolding size_part size_pieces
no_size w h none = rw none refl

one_size : (w h : ℕ) → w < 2 ^ 64 → h < 2 ^ 64 → both_zero w h ≡ false → size_pieces w h ≡ size_text w h ∷ []
unfolding size_part size_pieces
one_size w h p q some = rw some (append-nil (pieces_of (size_text w h)) ∙ size_whole w h p q)

pub size-all : (w h : ℕ) → w < 2 ^ 64 → h < 2 ^ 64 → list_all (is_of 21) (size_pieces w h) ≡ true
size-all w h p q = elim (cases_Bool (both_zero w h)) [
  | inl none ↦ rw (no_size w h none) refl
  | inr some ↦ rw (one_size w h p q some, is_of-kind 21 (size_text w h) refl (size_kind w h p q)) refl
]

zeros : (w h v g : ℕ) → both_zero w h ≡ true → both_zero v g ≡ true → (w ≡ v) × (h ≡ g)
zeros w h v g one other =
    let a = and_parts (w == 0) (h == 0) one in
    let b = and_parts (v == 0) (g == 0) other in
    (eqb-true w 0 a.0 ∙ sym (eqb-true v 0 b.0), eqb-true h 0 a.1 ∙ sym (eqb-true g 0 b.1))

pub size-same : (w h v g : ℕ) → w < 2 ^ 64 → h < 2 ^ 64 → v < 2 ^ 64 → g < 2 ^ 64 → size_pieces w h ≡ size_pieces v g → (w ≡ v) × (h ≡ g)
size-same w h v g p q r s e = elim (cases_Bool (both_zero w h)) [
  | inl none ↦ elim (cases_Bool (both_zero v g)) [
    | inl also ↦ zeros w h v g none also
    | inr some ↦ absurd (let other = sym (no_size w h none) ∙ e ∙ one_size v g r s some in cc)
  ]
  | inr some ↦ elim (cases_Bool (both_zero v g)) [
    | inl none ↦ absurd (let other = sym (no_size v g none) ∙ sym e ∙ one_size w h p q some in cc)
    | inr also ↦
        let same = sym (one_size w h p q some) ∙ e ∙ one_size v g r s also in
        let texts : size_text w h ≡ size_text v g = cc in
        size_same w h v g p q r s texts
  ]
]

-- ---- versions

abbrev version_text : ℕ → ℕ → List ℕ
version_text sdk minor = codes "v" ++ decimal sdk ++ minor_text minor

unfoldable pub version_pieces : ℕ → ℕ → List (List ℕ)
version_pieces sdk minor = flat_map pieces_of (option_to_list (version_part sdk minor))

-- what a minor version has not
minor_none : (mark m : ℕ) → is_digit mark ≡ false → (46 == mark) ≡ false → m < 2 ^ 64 → list_any (λ x. x == mark) (minor_text m) ≡ false
minor_none mark m other no_dot fits = elim (cases_Bool (m == 0)) [
  | inl none ↦ rw none refl
  | inr some ↦ rw (some, no_dot) (unmarked mark m other fits)
]

version_none : (mark s m : ℕ) → is_digit mark ≡ false → (46 == mark) ≡ false → (118 == mark) ≡ false → s < 2 ^ 64 → m < 2 ^ 64 → list_any (λ x. x == mark) (version_text s m) ≡ false
version_none mark s m other no_dot no_v p q =
    between (λ x. x == mark) (codes "v") (minor_text m) (decimal s) (rw no_v refl) (minor_none mark m other no_dot q) (unmarked mark s other p)

kind_v : kind_said (codes "v") true ≡ 23
unfolding kind_said number_rows word_rows words forms place_of
kind_v = refl

kind_v_dot : kind_said (codes "v.") true ≡ 23
unfolding kind_said number_rows word_rows words forms place_of
kind_v_dot = refl

front_letters : (s : ℕ) → s < 2 ^ 64 → letters_of (codes "v" ++ decimal s) ≡ codes "v"
front_letters s p = filter-append is_no_digit (codes "v") (decimal s) ∙ rw (letters_of-decimal s p) refl

dot_if : ℕ → List ℕ
dot_if m = if m == 0 then [] else codes "."

minor_letters : (m : ℕ) → m < 2 ^ 64 → letters_of (minor_text m) ≡ dot_if m
unfolding dot_if
minor_letters m q = elim (cases_Bool (m == 0)) [
  | inl none ↦ rw none refl
  | inr some ↦ rw some (filter-append is_no_digit (codes ".") (decimal m) ∙ rw (letters_of-decimal m q) refl)
]

kind_version : (m : ℕ) → kind_said (codes "v" ++ dot_if m) true ≡ 23
unfolding dot_if
kind_version m = elim (cases_Bool (m == 0)) [
  | inl none ↦ rw none kind_v
  | inr some ↦ rw some kind_v_dot
]

version_letters : (s m : ℕ) → s < 2 ^ 64 → m < 2 ^ 64 → letters_of (version_text s m) ≡ codes "v" ++ dot_if m
version_letters s m p q = filter-append is_no_digit (codes "v" ++ decimal s) (minor_text m)
    ∙ ap (λ (l : List ℕ). l ++ letters_of (minor_text m)) (front_letters s p)
    ∙ ap (λ (l : List ℕ). codes "v" ++ l) (minor_letters m q)

version_kind : (s m : ℕ) → s < 2 ^ 64 → m < 2 ^ 64 → kind_of (version_text s m) ≡ 23
version_kind s m p q =
    kind_of-number (version_text s m) (version_none 61 s m refl refl refl p q) (version_none 40 s m refl refl refl p q)
    (digit_in_first (codes "v" ++ decimal s) (minor_text m) (list_any-append is_digit (codes "v") (decimal s) ∙ rw (has_digit s p) refl))
    ∙ ap (λ (l : List ℕ). kind_said l true) (version_letters s m p q)
    ∙ kind_version m

version_whole : (s m : ℕ) → s < 2 ^ 64 → m < 2 ^ 64 → pieces_of (version_text s m) ≡ version_text s m ∷ []
version_whole s m p q = pieces_of-whole (version_text s m) (version_none dash s m refl refl refl p q)

-- what stands behind the dot
behind_dot : ℕ → List (List ℕ)
behind_dot m = if m == 0 then [] else decimal m ∷ []

front_whole : (s : ℕ) → s < 2 ^ 64 → split_at 46 (codes "v" ++ decimal s) ≡ (codes "v" ++ decimal s) ∷ []
front_whole s p = split_at-whole 46 (codes "v" ++ decimal s) (unmarked 46 s refl p)

version_cut : (s m : ℕ) → s < 2 ^ 64 → m < 2 ^ 64 → split_at 46 (version_text s m) ≡ (codes "v" ++ decimal s) ∷ behind_dot m
unfolding behind_dot
version_cut s m p q = elim (cases_Bool (m == 0)) [
  | inl none ↦ rw none (ap (split_at 46) (append-nil (codes "v" ++ decimal s)) ∙ front_whole s p)
  | inr some ↦
      rw some (split_at-append 46 (codes "v" ++ decimal s) (decimal m) ∙ rw (front_whole s p, split_at-whole 46 (decimal m) (unmarked 46 m refl q)) refl)
]

behind_dot-same : (m n : ℕ) → m < 2 ^ 64 → n < 2 ^ 64 → behind_dot m ≡ behind_dot n → m ≡ n
unfolding behind_dot
behind_dot-same m n p q e = elim (cases_Bool (m == 0)) [
  | inl none ↦ elim (cases_Bool (n == 0)) [
    | inl also ↦ eqb-true m 0 none ∙ sym (eqb-true n 0 also)
    | inr some ↦ absurd (let other = rw (none, some) at e in cc)
  ]
  | inr some ↦ elim (cases_Bool (n == 0)) [
    | inl none ↦ absurd (let other = rw (some, none) at e in cc)
    | inr also ↦ (let same = rw (some, also) at e in let texts : decimal m ≡ decimal n = cc in decimal_injective m n p q texts)
  ]
]

version_same : (s m t n : ℕ) → s < 2 ^ 64 → m < 2 ^ 64 → t < 2 ^ 64 → n < 2 ^ 64 → version_text s m ≡ version_text t n → (s ≡ t) × (m ≡ n)
version_same s m t n p q r u e =
    let cut = sym (version_cut s m p q) ∙ ap (split_at 46) e ∙ version_cut t n r u in
    let first : decimal s ≡ decimal t = cc in
    let second : behind_dot m ≡ behind_dot n = cc in
    (decimal_injective s t p r first, behind_dot-same m n q u second)

no_version : (s m : ℕ) → both_zero s m ≡ true → version_pieces s m ≡ []
unfolding version_part version_pieces
no_version s m none = rw none refl

one_version : (s m : ℕ) → s < 2 ^ 64 → m < 2 ^ 64 → both_zero s m ≡ false → version_pieces s m ≡ version_text s m ∷ []
unfolding version_part version_pieces
one_version s m p q some = rw some (append-nil (pieces_of (version_text s m)) ∙ version_whole s m p q)

pub version-all : (s m : ℕ) → s < 2 ^ 64 → m < 2 ^ 64 → list_all (is_of 23) (version_pieces s m) ≡ true
version-all s m p q = elim (cases_Bool (both_zero s m)) [
  | inl none ↦ rw (no_version s m none) refl
  | inr some ↦ rw (one_version s m p q some, is_of-kind 23 (version_text s m) refl (version_kind s m p q)) refl
]

pub version-same : (s m t n : ℕ) → s < 2 ^ 64 → m < 2 ^ 64 → t < 2 ^ 64 → n < 2 ^ 64 → version_pieces s m ≡ version_pieces t n → (s ≡ t) × (m ≡ n)
version-same s m t n p q r u e = elim (cases_Bool (both_zero s m)) [
  | inl none ↦ elim (cases_Bool (both_zero t n)) [
    | inl also ↦ zeros s m t n none also
    | inr some ↦ absurd (let other = sym (no_version s m none) ∙ e ∙ one_version t n r u some in cc)
  ]
  | inr some ↦ elim (cases_Bool (both_zero t n)) [
    | inl none ↦ absurd (let other = sym (no_version t n none) ∙ sym e ∙ one_version s m p q some in cc)
    | inr also ↦
        let same = sym (one_version s m p q some) ∙ e ∙ one_version t n r u also in
        let texts : version_text s m ≡ version_text t n = cc in
        version_same s m t n p q r u texts
  ]
]

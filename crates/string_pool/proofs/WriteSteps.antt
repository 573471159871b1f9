-- How a loop writes a text piece by piece.
use Rattle.std.proofs.Common.{◌≡◌, ℕ, List, [], ◌++◌, Option, Result, Ok, Err, refl, sym, ap, subst, ◌∙◌, append_assoc}
use Rattle.std.specs.Prelude.{OnOk}
use Rattle.std.specs.Io.KnownBytes.{Appends}
use Rattle.std.proofs.lemmas.List.{append-nil}
use Rattle.std.proofs.KnownBytes.{Appends-nil, Appends-trans}

-- of a text all was written but for what is left
pub record WroteAllBut (old new : Option (List ℕ)) (left text : List ℕ) : Type 0 where
  pub so_far : List ℕ
  pub written : Appends old new so_far
  pub others : so_far ++ left ≡ text

-- nothing was written yet
pub WroteAllBut-none : (old : Option (List ℕ)) (text : List ℕ) → WroteAllBut old old text text
WroteAllBut-none old text = record { so_far = []; written = Appends-nil old; others = refl }

-- the next piece
pub WroteAllBut-next : (old mid new : Option (List ℕ)) (left front behind text : List ℕ) → WroteAllBut old mid left text → left ≡ front ++ behind → Appends mid new front
    → WroteAllBut old new behind text
WroteAllBut-next old mid new left front behind text before split put = record {
  so_far = before.so_far ++ front;
  written = Appends-trans old mid new before.so_far front before.written put;
  others = append_assoc before.so_far front behind ∙ ap (λ (t : List ℕ). before.so_far ++ t) (sym split) ∙ before.others;
}

-- nothing is left
pub WroteAllBut-done : (old new : Option (List ℕ)) (left text : List ℕ) → WroteAllBut old new left text → left ≡ [] → Appends old new text
WroteAllBut-done old new left text before nothing =
    let whole : before.so_far ≡ text = sym (append-nil before.so_far) ∙ ap (λ (t : List ℕ). before.so_far ++ t) (sym nothing) ∙ before.others in
    subst (λ (t : List ℕ). Appends old new t) whole before.written

-- two pieces, one behind the other
pub WroteAllBut-two : (old mid next new : Option (List ℕ)) (left front behind second others text : List ℕ) → WroteAllBut old mid left text → left ≡ front ++ behind → Appends mid next front
    → behind ≡ second ++ others → Appends next new second → WroteAllBut old new others text
WroteAllBut-two old mid next new left front behind second others text before split put then put_then =
    WroteAllBut-next old next new behind second others text (WroteAllBut-next old mid next left front behind text before split put) then put_then

-- the last piece
pub WroteAllBut-last : (old mid new : Option (List ℕ)) (left front behind text : List ℕ) → WroteAllBut old mid left text → left ≡ front ++ behind → Appends mid new front → behind ≡ []
    → Appends old new text
WroteAllBut-last old mid new left front behind text before split put nothing =
    WroteAllBut-done old new behind text (WroteAllBut-next old mid new left front behind text before split put) nothing

-- ---- a text between two others

pub three_pieces : {X E : Type 0} (old mid next new : Option (List ℕ)) (result : Result X E) (front text behind whole : List ℕ) → Appends old mid front → Appends mid next text
    → OnOk result (Appends next new behind) → whole ≡ front ++ (text ++ behind) → OnOk result (Appends old new whole)
three_pieces old mid next new (Ok x) front text behind whole first then last is =
    subst (λ (t : List ℕ). Appends old new t) (append_assoc front text behind ∙ sym is)
    (Appends-trans old next new (front ++ text) behind (Appends-trans old mid next front text first then) last)
three_pieces old mid next new (Err e) front text behind whole first then last is = tt

pub ruleset writes = (WroteAllBut-none, WroteAllBut-next, WroteAllBut-done)

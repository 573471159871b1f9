-- How parts are written one after the other, with a byte between any two.
use Rattle.std.proofs.Common.{◌≡◌, ℕ, Bool, true, false, ◌||◌, if◌then◌else◌, List, [], ◌∷◌, ◌++◌, Option, refl, sym, ap, subst, ◌∙◌, append_assoc, ◌+◌, ◌<◌, length, drop, get_or}
use Rattle.std.specs.List.{flat_map, join_with_byte}
use Rattle.std.specs.Io.KnownBytes.{Appends}
use Rattle.std.proofs.KnownBytes.{Appends-nil, Appends-trans}
use Rattle.std.proofs.lemmas.List.{append-nil, drop_more}
use Rattle.std.proofs.lemmas.List.Concat.{flat_map-append}
use Rattle.config_record.specs.declared.separator.Separator.{Separator}
use Rattle.config_record.specs.Separator.{is_some_part, continued, after_parts, Continues}

-- the parts, a byte before each
abbrev each_after : ℕ → List (List ℕ) → List ℕ
each_after byte parts = flat_map (λ part. byte ∷ part) parts

join_with_byte-cons : (byte : ℕ) (part : List ℕ) (parts : List (List ℕ)) → join_with_byte byte (part ∷ parts) ≡ part ++ each_after byte parts
join_with_byte-cons byte part [] = sym (append-nil part)
join_with_byte-cons byte part (next ∷ parts) = ap (λ (t : List ℕ). part ++ (byte ∷ t)) (join_with_byte-cons byte next parts)

abbrev continued_if : Bool → ℕ → List (List ℕ) → List ℕ
continued_if due byte parts = if due then each_after byte parts else join_with_byte byte parts

continued_if-append : (due : Bool) (byte : ℕ) (ps qs : List (List ℕ)) → continued_if due byte (ps ++ qs) ≡ continued_if due byte ps ++ continued_if (due || is_some_part ps) byte qs
continued_if-append true byte ps qs = flat_map-append (λ part. byte ∷ part) ps qs
continued_if-append false byte [] qs = refl
continued_if-append false byte (p ∷ ps) qs =
    join_with_byte-cons byte p (ps ++ qs)
    ∙ ap (λ (t : List ℕ). p ++ t) (flat_map-append (λ part. byte ∷ part) ps qs)
    ∙ sym (append_assoc p (each_after byte ps) (each_after byte qs))
    ∙ ap (λ (t : List ℕ). t ++ each_after byte qs) (sym (join_with_byte-cons byte p ps))

pub continued-append : (s : Separator) (ps qs : List (List ℕ)) → continued s (ps ++ qs) ≡ continued s ps ++ continued (after_parts s ps) qs
unfolding continued
continued-append s ps qs = continued_if-append s.due s.byte ps qs

is_due-append : (due : Bool) (ps qs : List (List ℕ)) → (due || is_some_part (ps ++ qs)) ≡ ((due || is_some_part ps) || is_some_part qs)
is_due-append true ps qs = refl
is_due-append false [] qs = refl
is_due-append false (p ∷ ps) qs = refl

pub after_parts-append : (s : Separator) (ps qs : List (List ℕ)) → after_parts s (ps ++ qs) ≡ after_parts (after_parts s ps) qs
after_parts-append s ps qs = let made : Bool → Separator = λ due. record { byte = s.byte; due = due } in ap made (is_due-append s.due ps qs)

pub Continues-trans : (start mid now : Separator) (old halfway new : Option (List ℕ)) (ps qs : List (List ℕ))
    → Continues start mid old halfway ps → Continues mid now halfway new qs → Continues start now old new (ps ++ qs)
Continues-trans start mid now old halfway new ps qs first second =
    let here : Appends halfway new (continued (after_parts start ps) qs) = subst (λ (s : Separator). Appends halfway new (continued s qs)) first.separator second.text in
    record {
      text = subst (λ (t : List ℕ). Appends old new t) (sym (continued-append start ps qs)) (Appends-trans old halfway new (continued start ps) (continued (after_parts start ps) qs) first.text here);
      separator = second.separator ∙ ap (λ (s : Separator). after_parts s qs) first.separator ∙ sym (after_parts-append start ps qs);
    }

-- where nothing stood before, the parts are joined
pub Continues-joined : (byte : ℕ) (now : Separator) (old new : Option (List ℕ)) (parts : List (List ℕ))
    → Continues (record { byte = byte; due = false }) now old new parts → Appends old new (join_with_byte byte parts)
unfolding continued
Continues-joined byte now old new parts put = put.text

-- ---- a loop that writes the parts of each item

-- the parts of all items were written, but for those of what is left
pub record ContinuesAllBut {A : Type 0} (parts : A → List (List ℕ)) (start now : Separator) (old new : Option (List ℕ)) (all left : List A) : Type 0 where
  pub so_far : List (List ℕ)
  pub written : Continues start now old new so_far
  pub others : so_far ++ flat_map parts left ≡ flat_map parts all

Continues-nil : (start : Separator) (old : Option (List ℕ)) → Continues start start old old []
unfolding continued
Continues-nil start old = record {
  text = rw (continued_if-nil start.due start.byte) (Appends-nil old);
  separator = let made : Bool → Separator = λ due. record { byte = start.byte; due = due } in ap made (due-nil start.due);
}
  where
    continued_if-nil : (due : Bool) (byte : ℕ) → continued_if due byte [] ≡ []
    continued_if-nil true byte = refl
    continued_if-nil false byte = refl

    due-nil : (due : Bool) → due ≡ (due || false)
    due-nil true = refl
    due-nil false = refl

pub ContinuesAllBut-none : {A : Type 0} (parts : A → List (List ℕ)) (start : Separator) (old : Option (List ℕ)) (all : List A) → ContinuesAllBut parts start start old old all all
ContinuesAllBut-none parts start old all = record { so_far = []; written = Continues-nil start old; others = refl }

pub ContinuesAllBut-next : {A : Type 0} (parts : A → List (List ℕ)) (start mid now : Separator) (old halfway new : Option (List ℕ)) (all : List A) (i : ℕ) (d : A)
    → ContinuesAllBut parts start mid old halfway all (drop i all) → i < length all → Continues mid now halfway new (parts (get_or all i d))
    → ContinuesAllBut parts start now old new all (drop (i + 1) all)
ContinuesAllBut-next {A} parts start mid now old halfway new all i d before on put =
    let x = get_or all i d in
    let others = drop (i + 1) all in
    record {
      so_far = before.so_far ++ parts x;
      written = Continues-trans start mid now old halfway new before.so_far (parts x) before.written put;
      others = append_assoc before.so_far (parts x) (flat_map parts others) ∙ ap (λ (xs : List A). before.so_far ++ flat_map parts xs) (sym (drop_more all i d on)) ∙ before.others;
    }

pub ContinuesAllBut-end : {A : Type 0} (parts : A → List (List ℕ)) (start now : Separator) (old new : Option (List ℕ)) (all left : List A)
    → ContinuesAllBut parts start now old new all left → left ≡ [] → Continues start now old new (flat_map parts all)
ContinuesAllBut-end {A} parts start now old new all left before nothing =
    let whole : before.so_far ≡ flat_map parts all = sym (append-nil before.so_far) ∙ ap (λ (xs : List A). before.so_far ++ flat_map parts xs) (sym nothing) ∙ before.others in
    subst (λ (ps : List (List ℕ)). Continues start now old new ps) whole before.written

pub ruleset continues = (ContinuesAllBut-none, ContinuesAllBut-next, ContinuesAllBut-end)

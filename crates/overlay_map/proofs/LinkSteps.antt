-- How links go on.
use Rattle.std.proofs.Common.{◌≡◌, ℕ, suc, ◌+◌, ◌<◌, ◌≤◌, true, false, List, [], ◌∷◌, ◌++◌, length, length-append, append_assoc, take, drop, reverse, Some, slice_get, refl, sym, ap, ◌∙◌, arith}
use Rattle.std.specs.Prelude.{◌==◌}
use Rattle.std.proofs.lemmas.Bool.Decides.{nat_tests}
use Rattle.std.proofs.lemmas.List.{reverse-append, length-reverse, take-append-drop, drop_more, length-take}
use Rattle.std.proofs.lemmas.Option.{slice_get_within, get_or_from_slice_get}
use Rattle.overlay_map.specs.declared.link.Link.{Link}
use Rattle.overlay_map.specs.Links.{numbers_back, numbers_from}

-- later links do not matter to those that stand up to an earlier one
later : (newer older : List Link) (next : ℕ) → next ≤ length older → numbers_back (newer ++ older) next ≡ numbers_back older next
unfolding numbers_back
later [] older next within = refl
later (link ∷ newer) older next within =
    let past : (next == suc (length (newer ++ older))) ≡ false = grind (arith, nat_tests, length-append newer older) in
    rw past (later newer older next within)

-- the link that stands behind so many earlier ones
first : (link : Link) (older : List Link) (next : ℕ) → next ≡ length older + 1 → numbers_back (link ∷ older) next ≡ link.type_number ∷ numbers_back older link.next
unfolding numbers_back
first link older next is =
    let here : (next == suc (length older)) ≡ true = grind (arith, nat_tests) in
    rw here refl

back-none : (back : List Link) → numbers_back back 0 ≡ []
unfolding numbers_back
back-none [] = refl
back-none (link ∷ back) =
    let past : (0 == suc (length back)) ≡ false = grind (arith, nat_tests) in
    rw past (back-none back)

back-past : (back : List Link) (next : ℕ) → length back < next → numbers_back back next ≡ []
unfolding numbers_back
back-past [] next past = refl
back-past (link ∷ back) next past =
    let behind : (next == suc (length back)) ≡ false = grind (arith, nat_tests) in
    rw behind (back-past back next (omega arith))

pub numbers_from-none : (links : List Link) → numbers_from links 0 ≡ []
unfolding numbers_from
numbers_from-none links = back-none (reverse links)

pub numbers_from-past : (links : List Link) (index : ℕ) → length links ≤ index → numbers_from links (index + 1) ≡ []
unfolding numbers_from
numbers_from-past links index past = back-past (reverse links) (index + 1) (omega (arith, length-reverse links))

reverse-parts : (earlier others : List Link) (link : Link) → reverse (earlier ++ link ∷ others) ≡ reverse others ++ link ∷ reverse earlier
reverse-parts earlier others link =
    reverse-append earlier (link ∷ others)
    ∙ ap (λ (t : List Link). t ++ reverse earlier) (reverse-append (link ∷ []) others)
    ∙ append_assoc (reverse others) (link ∷ []) (reverse earlier)

parts-next : (earlier others : List Link) (link : Link) → numbers_from (earlier ++ link ∷ others) (length earlier + 1) ≡ link.type_number ∷ numbers_from earlier link.next
unfolding numbers_from
parts-next earlier others link =
    ap (λ (t : List Link). numbers_back t (length earlier + 1)) (reverse-parts earlier others link)
    ∙ later (reverse others) (link ∷ reverse earlier) (length earlier + 1) (omega (arith, length-reverse earlier))
    ∙ first link (reverse earlier) (length earlier + 1) (omega (arith, length-reverse earlier))

-- the next link, and the links before it
pub numbers_from-next : (links : List Link) (index : ℕ) (link : Link) → slice_get links index ≡ Some link
    → numbers_from links (index + 1) ≡ link.type_number ∷ numbers_from (take index links) link.next
numbers_from-next links index link found =
    let within = slice_get_within links index link found in
    let split : take index links ++ link ∷ drop (index + 1) links ≡ links =
    ap (λ (x : Link). take index links ++ x ∷ drop (index + 1) links) (sym (get_or_from_slice_get links index link link found))
    ∙ ap (λ (t : List Link). take index links ++ t) (sym (drop_more links index link within))
    ∙ take-append-drop index links in
    let long : length (take index links) ≡ index = omega (arith, length-take index links) in
    ap (λ (t : List Link). numbers_from t (index + 1)) (sym split)
    ∙ ap (λ (n : ℕ). numbers_from (take index links ++ link ∷ drop (index + 1) links) (n + 1)) (sym long)
    ∙ parts-next (take index links) (drop (index + 1) links) link

-- a link more behind the others
pub numbers_from-kept : (links : List Link) (link : Link) (next : ℕ) → next ≤ length links → numbers_from (links ++ link ∷ []) next ≡ numbers_from links next
unfolding numbers_from
numbers_from-kept links link next within =
    ap (λ (t : List Link). numbers_back t next) (reverse-append links (link ∷ [])) ∙ later (link ∷ []) (reverse links) next (omega (arith, length-reverse links))

pub numbers_from-push : (links : List Link) (link : Link) → numbers_from (links ++ link ∷ []) (length links + 1) ≡ link.type_number ∷ numbers_from links link.next
numbers_from-push links link = parts-next links [] link

pub ruleset link_steps = (numbers_from-none)

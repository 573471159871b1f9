use Rattle.std.proofs.Common.{◌≡◌, [], ◌∷◌, ◌+◌, ◌-◌, length, take, slice_get, Some, refl, sym, ap, subst, ◌∙◌, arith, List, ℕ}
use Rattle.std.proofs.lemmas.Grind.{common_steps}
use Rattle.std.proofs.lemmas.Option.{slice_get_read}
use Rattle.std.specs.Iterator.{YieldsFirstBy}
use Rattle.type_chunks.specs.type_entries.declared.checked_type.CheckedType.{CheckedType}
use Rattle.type_chunks.specs.Row.{row_of}
use Rattle.overlay_map.specs.declared.link.Link.{Link}
use Rattle.overlay_map.specs.Links.{numbers_from}
use Rattle.overlay_map.specs.Places.{row_in, rows_in, StandIn}
use Rattle.overlay_map.proofs.LinkSteps.{numbers_from-none, numbers_from-past, numbers_from-next}
use Rattle.overlay_map.proofs.StandSteps.{GivesAll-tail, GivesAll-yields}
use Rattle.overlay_map.proofs.indexed_rows.IndexedRowsIterator.next.Goals as goal

pub returns-then-self-eq0-clause-steps : goal.returns-then-self-eq0-clause-steps
returns-then-self-eq0-clause-steps c =
    let nothing : numbers_from c.self.inside.links.now c.self.inside.next ≡ [] = rw c.if-self-eq0.true (numbers_from-none c.self.inside.links.now) in
    let none = sym c.self.view_is ∙ ap (λ (numbers : List ℕ). rows_in c.self.inside.types.now c.self.inside.entry numbers) nothing in
    (none, none)

pub returns-in_default-clause-steps : goal.returns-in_default-clause-steps
returns-in_default-clause-steps c =
    let links = c.self.inside.links.now in
    let last : c.self.inside.next ≡ c.self.inside.next - 1 + 1 = omega (arith, c.if-self-eq0.false) in
    let past = ap (λ (n : ℕ). numbers_from links n) last ∙ numbers_from-past links (c.self.inside.next - 1) c.in_default.ensures.lookup.3 in
    let none = sym c.self.view_is ∙ ap (λ (numbers : List ℕ). rows_in c.self.inside.types.now c.self.inside.entry numbers) past in
    (none, none)

-- where the next link is found, the numbers begin with that of its type, and in each type of them the entry is a row
next-stands : (types : List CheckedType) (entry next : ℕ) (links : List Link) (link : Link) → next ≡ next - 1 + 1 → slice_get links (next - 1) ≡ Some link
    → StandIn types entry (numbers_from links next) (rows_in types entry (numbers_from links next))
    → (numbers_from links next ≡ link.type_number ∷ numbers_from (take (next - 1) links) link.next)
    × StandIn types entry (link.type_number ∷ numbers_from (take (next - 1) links) link.next) (rows_in types entry (link.type_number ∷ numbers_from (take (next - 1) links) link.next))
next-stands types entry next links link last found stand =
    let numbers = ap (λ (n : ℕ). numbers_from links n) last ∙ numbers_from-next links (next - 1) link found in
    (numbers, subst (λ (l : List ℕ). StandIn types entry l (rows_in types entry l)) numbers stand)

-- in each type of the links that are left the entry is a row
pub invariant_of-self-inside : goal.invariant_of-self-inside
invariant_of-self-inside c =
    let inside = c.self.inside in
    let link = c.in-Some.link.now in
    let lookup = c.in-Some.ensures.lookup in
    let found = slice_get_read inside.links.now (length inside.links.now) (inside.next - 1) link refl lookup.3.0 lookup.1 in
    let those = next-stands inside.types.now inside.entry inside.next inside.links.now link (omega (arith, c.if-self-eq0.false)) found inside.found in
    rw c.split_at.ensures.front (GivesAll-tail (row_in inside.types.now inside.entry) link.type_number (numbers_from (take (inside.next - 1) inside.links.now) link.next) those.1, tt)

-- the row of the next link, and those that are left
yields : (c : goal.After-find_row)
    → YieldsFirstBy row_of (λ s. s) c.args.self.now c.find_row.result (rows_in c.self.inside.types.now c.self.inside.entry (numbers_from c.split_at.result.0.now c.in-Some.link.now.next))
yields c =
    let inside = c.self.inside in
    let link = c.in-Some.link.now in
    let lookup = c.in-Some.ensures.lookup in
    let found = slice_get_read inside.links.now (length inside.links.now) (inside.next - 1) link refl lookup.3.0 lookup.1 in
    let those = next-stands inside.types.now inside.entry inside.next inside.links.now link (omega (arith, c.if-self-eq0.false)) found inside.found in
    let numbers = those.0 in
    let first = GivesAll-yields (row_in inside.types.now inside.entry) row_of link.type_number (numbers_from (take (inside.next - 1) inside.links.now) link.next) c.find_row.result those.1 c.find_row.ensures in
    rw (sym c.self.view_is, numbers, c.split_at.ensures.front) first

pub returns-clause-steps : goal.returns-clause-steps
returns-clause-steps c = yields c

pub returns-clause-goes : goal.returns-clause-goes
returns-clause-goes c = let steps = yields c in grind (arith, common_steps, steps)

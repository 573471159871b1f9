-- How the first row of each id is found.
use Rattle.std.proofs.Common.{◌≡◌, ℕ, ◌==◌, Bool, true, false, cond, List, [], ◌∷◌, map, get_or, Option, Some, None, is_some, Result, Ok, Err, IfOk, refl, sym, ap, ◌∙◌}
use Rattle.std.specs.Prelude.{Vec}
use Rattle.std.proofs.lemmas.Cmp.{nat_cmp_total}
use Rattle.std.proofs.lemmas.List.Elements.{All-head, All-tail}
use Rattle.std.proofs.lemmas.Map.Keys.{sorted_head, sorted_tail}
use Rattle.std.proofs.lemmas.Map.Views.{All-found}
use Rattle.std.specs.BTreeMap.{BTreeMap, get, insert_entry, is_at, IsOrdered, keys, values}
use Rattle.std.specs.BTreeSet.{insert_key}
use Rattle.std.specs.List.{All, AllByRecursion, filter_map, fold}
use Rattle.std.specs.List.Sorted.{IsStrictlySortedBy}
use Rattle.std.specs.Map.{keys_of, lookup, values_of}
use Rattle.std.specs.Option.{option_map, option_or}
use Rattle.std.specs.Ordering.{is_eq, match_ordering, nat_cmp}
use Rattle.std.specs.declared.alloc.Global.{Global}
use Rattle.std.specs.declared.cmp.Ordering.{Ordering}
use Rattle.std.specs.declared.cmp.Ordering.TheVariants.{Less, Equal, Greater}
use Rattle.command_base.specs.answer_text.type_chunks.Row.{RowOf, row_of}
use Rattle.command_base.specs.answer_text.type_chunks.type_entries.declared.row.Row.{Row}
use Rattle.command_base.specs.FirstRows.{rising, first_row, first_rows}
use Rattle.command_base.specs.FirstRowsSeen.{AreFirstOf, AreIdsOf, row_at, row_for}

pub keys-insert_entry : {X : Type 0} (es : List (ℕ × X)) (k : ℕ) (v : X) → keys_of (insert_entry nat_cmp es k v) ≡ insert_key nat_cmp (keys_of es) k
keys-insert_entry [] k v = refl
keys-insert_entry {X} (e ∷ es) k v = by (nat_cmp k e.0) (keys-insert_entry es k v)
  where
    by : (r : Ordering) → keys_of (insert_entry nat_cmp es k v) ≡ insert_key nat_cmp (keys_of es) k
        → keys_of (match_ordering r ((k, v) ∷ e ∷ es) ((e.0, v) ∷ es) (e ∷ insert_entry nat_cmp es k v))
        ≡ match_ordering r (k ∷ e.0 ∷ keys_of es) (e.0 ∷ keys_of es) (e.0 ∷ insert_key nat_cmp (keys_of es) k)
    by Less h = refl
    by Equal h = refl
    by Greater h = ap (λ (ks : List ℕ). e.0 ∷ ks) h

-- ---- one row more

option_or-none : {X : Type 0} (o : Option X) → option_or o None ≡ o
option_or-none (Some x) = refl
option_or-none None = refl

option_or-twice : {X : Type 0} (a b c : Option X) → option_or (option_or a b) c ≡ option_or a (option_or b c)
option_or-twice (Some x) b c = refl
option_or-twice None b c = refl

found_first : (row : RowOf) (others : List RowOf) (id : ℕ) → option_or (row_for row id) (first_row others id) ≡ first_row (row ∷ others) id
found_first row others id = by (row.id == id)
  where
    found : RowOf → Option RowOf
    found r = Some r

    by : (b : Bool) → option_or (cond b (found row) None) (first_row others id) ≡ cond b (found row) (first_row others id)
    by true = refl
    by false = refl

-- of all rows the first of each id are kept, but for those of what is left
pub record FindsAllBut (all left : List RowOf) (kept : BTreeMap ℕ Row) : Type 0 where
  pub ordered : IsOrdered nat_cmp kept
  pub ids : fold (insert_key nat_cmp) (keys kept) (map (λ row. row.id) left) ≡ rising (map (λ row. row.id) all)
  pub first : (id : ℕ) → option_or (row_at kept id) (first_row left id) ≡ first_row all id

pub FindsAllBut-none : (all : List RowOf) (kept : BTreeMap ℕ Row) → kept.entries ≡ [] → IsOrdered nat_cmp kept → FindsAllBut all all kept
FindsAllBut-none all kept empty ordered = record { ordered = ordered; ids = rw empty refl; first = λ id. rw empty refl }

pub FindsAllBut-next : (all left others : List RowOf) (old new : BTreeMap ℕ Row) (row : RowOf) → FindsAllBut all left old → left ≡ row ∷ others
    → keys new ≡ insert_key nat_cmp (keys old) row.id → ((id : ℕ) → row_at new id ≡ option_or (row_at old id) (row_for row id))
    → IsOrdered nat_cmp new → FindsAllBut all others new
FindsAllBut-next all left others old new row before split put kept ordered = record {
  ordered = ordered;
  ids =
      ap (λ (ks : List ℕ). fold (insert_key nat_cmp) ks (map (λ (r : RowOf). r.id) others)) put
      ∙ ap (λ (t : List RowOf). fold (insert_key nat_cmp) (keys old) (map (λ (r : RowOf). r.id) t)) (sym split)
      ∙ before.ids;
  first = λ id.
      ap (λ (o : Option RowOf). option_or o (first_row others id)) (kept id)
      ∙ option_or-twice (row_at old id) (row_for row id) (first_row others id)
      ∙ ap (λ (o : Option RowOf). option_or (row_at old id) o) (found_first row others id)
      ∙ ap (λ (t : List RowOf). option_or (row_at old id) (first_row t id)) (sym split)
      ∙ before.first id;
}

pub FindsAllBut-ids : (all left : List RowOf) (kept : BTreeMap ℕ Row) → FindsAllBut all left kept → left ≡ [] → keys kept ≡ rising (map (λ row. row.id) all)
FindsAllBut-ids all left kept before nothing =
    ap (λ (t : List RowOf). fold (insert_key nat_cmp) (keys kept) (map (λ (r : RowOf). r.id) t)) (sym nothing) ∙ before.ids

pub FindsAllBut-first : (all left : List RowOf) (kept : BTreeMap ℕ Row) → FindsAllBut all left kept → left ≡ [] → (id : ℕ) → row_at kept id ≡ first_row all id
FindsAllBut-first all left kept before nothing id =
    sym (option_or-none (row_at kept id)) ∙ ap (λ (t : List RowOf). option_or (row_at kept id) (first_row t id)) (sym nothing) ∙ before.first id

-- ---- a row of an id that has one

-- a number below some keys is none of them
none-below : (es : List (ℕ × Row)) (k low : ℕ) → nat_cmp k low ≡ Less → AllByRecursion (λ y. nat_cmp low y ≡ Less) (keys_of es) → lookup (is_at (nat_cmp k)) es ≡ None
none-below [] k low less above = refl
none-below (e ∷ es) k low less above =
    ap (λ (r : Ordering). cond (is_eq r) (Some e.1) (lookup (is_at (nat_cmp k)) es)) (nat_cmp_total.trans k low e.0 less above.0) ∙ none-below es k low less above.1

insert_key-there : (es : List (ℕ × Row)) (k : ℕ) → IsStrictlySortedBy nat_cmp (keys_of es) → is_some (lookup (is_at (nat_cmp k)) es) ≡ true
    → keys_of es ≡ insert_key nat_cmp (keys_of es) k
insert_key-there [] k sorted there = absurd cc
insert_key-there (e ∷ es) k sorted there =
    by (nat_cmp k e.0) refl there (insert_key-there es k (sorted_tail nat_cmp e.0 (keys_of es) sorted)) (sorted_head nat_cmp e.0 (keys_of es) sorted)
  where
    by : (r : Ordering) → nat_cmp k e.0 ≡ r → is_some (cond (is_eq r) (Some e.1) (lookup (is_at (nat_cmp k)) es)) ≡ true
        → (is_some (lookup (is_at (nat_cmp k)) es) ≡ true → keys_of es ≡ insert_key nat_cmp (keys_of es) k) → AllByRecursion (λ y. nat_cmp e.0 y ≡ Less) (keys_of es)
        → e.0 ∷ keys_of es ≡ match_ordering r (k ∷ e.0 ∷ keys_of es) (e.0 ∷ keys_of es) (e.0 ∷ insert_key nat_cmp (keys_of es) k)
    by Less is found others above = let none = none-below es k e.0 is above in absurd cc
    by Equal is found others above = refl
    by Greater is found others above = ap (λ (ks : List ℕ). e.0 ∷ ks) (others found)

pub keys-there : (kept : BTreeMap ℕ Row) (id : ℕ) → IsOrdered nat_cmp kept → is_some (get nat_cmp kept id) ≡ true → keys kept ≡ insert_key nat_cmp (keys kept) id
keys-there kept id ordered there = insert_key-there kept.entries id ordered there

-- ---- all rows, in the order of their ids

each_first : (all : List RowOf) (es : List (ℕ × Row)) → All (λ e. first_row all e.0 ≡ Some (row_of e.1)) es
    → map row_of (values_of es) ≡ filter_map (first_row all) (keys_of es)
each_first all [] first = refl
each_first all (e ∷ es) first =
    let IsFirst : (ℕ × Row) → Type 0 = λ entry. first_row all entry.0 ≡ Some (row_of entry.1) in
    rw (All-head IsFirst e es first) (ap (λ (rows : List RowOf). row_of e.1 ∷ rows) (each_first all es (All-tail IsFirst e es first)))

pub first_rows-of_values : (all : List RowOf) (kept : BTreeMap ℕ Row) → IsOrdered nat_cmp kept → AreIdsOf all kept → AreFirstOf all kept → map row_of (values kept) ≡ first_rows all
first_rows-of_values all kept ordered ids first =
    let found : All (λ e. get nat_cmp kept e.0 ≡ Some e.1) kept.entries = All-found nat_cmp_total kept ordered in
    each_first all kept.entries (λ i d within. sym (first (get_or kept.entries i d).0) ∙ ap (λ (o : Option Row). option_map row_of o) (found i d within))
    ∙ ap (filter_map (first_row all)) ids

pub first_rows-collected : {E : Type 0} (all : List RowOf) (kept : BTreeMap ℕ Row) (collected : Result (Vec Row Global) E) → IsOrdered nat_cmp kept → AreIdsOf all kept → AreFirstOf all kept
    → IfOk collected (λ rows. rows.items ≡ values kept) → IfOk collected (λ rows. map row_of rows.items ≡ first_rows all)
first_rows-collected all kept (Ok rows) ordered ids first are = ap (λ (t : List Row). map row_of t) are ∙ first_rows-of_values all kept ordered ids first
first_rows-collected all kept (Err error) ordered ids first are = tt

pub ruleset first_steps = (FindsAllBut-none, FindsAllBut-next, FindsAllBut-ids, FindsAllBut-first)

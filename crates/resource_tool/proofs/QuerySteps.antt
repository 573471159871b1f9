-- How a loop writes the line of one id after the other, and finds the status.
use Rattle.std.proofs.Common.{◌≡◌, ℕ, ◌+◌, ◌<◌, ◌≤◌, Bool, true, false, List, ◌∷◌, refl, sym, ap, ◌∙◌, arith, length, drop, get_or, if◌then◌else◌}
use Rattle.std.proofs.lemmas.List.{drop_more, drop_all}
use Rattle.std.specs.List.{list_any}
use Rattle.contract_words.proofs.TextSteps.{PutsAllBut-none, PutsAllBut-end}
use Rattle.command_base.specs.answer_text.res_value.declared.res_id.ResId.{ResId}
use Rattle.command_base.specs.overlay_map.Layer.{LayerOf}
use Rattle.command_base.specs.answer_text.reference_resolver.declared.end.End.{End}
use Rattle.command_base.specs.declared.status.Status.{Status}
use Rattle.command_base.specs.declared.status.Status.TheVariants.{Done, Negative}
use Rattle.resource_tool.specs.EndStatus.{is_unresolved}
use Rattle.resource_tool.specs.QueryOutput.{end_for, is_unresolved_for}

-- ---- status

-- this is the status so far, and with the ids from a place on it is that of all
pub record StatusAllBut (stack : List LayerOf) (device : List ℕ) (status : Status) (place : ℕ) (ids : List ResId) : Type 0 where
  pub others : (if list_any (is_unresolved_for stack device) (drop place ids) then Negative else status) ≡ (if list_any (is_unresolved_for stack device) ids then Negative else Done)

pub StatusAllBut-none : (stack : List LayerOf) (device : List ℕ) (ids : List ResId) → StatusAllBut stack device Done 0 ids
StatusAllBut-none stack device ids = record { others = refl }

-- the status behind an id
abbrev pub status_after : Bool → Status → Status
status_after missing status = if missing then Negative else status

first-id : (test : ResId → Bool) (id : ResId) (ids : List ResId) (status : Status) (missing : Bool) → test id ≡ missing
    → (if list_any test ids then Negative else status_after missing status) ≡ (if list_any test (id ∷ ids) then Negative else status)
first-id test id ids status true given = grind (arith, given)
first-id test id ids status false given = grind (arith, given)

pub status-next : (stack : List LayerOf) (device : List ℕ) (status new : Status) (i : ℕ) (ids : List ResId) (d : ResId) (end : End) (missing : Bool)
    → StatusAllBut stack device status i ids → i < length ids → end ≡ end_for stack device (get_or ids i d) → missing ≡ is_unresolved end
    → new ≡ status_after missing status → StatusAllBut stack device new (i + 1) ids
status-next stack device status new i ids d end missing before on is told after =
    let given : is_unresolved_for stack device (get_or ids i d) ≡ missing = ap is_unresolved (sym is) ∙ sym told in
    record {
      others =
          ap (λ (s : Status). if list_any (is_unresolved_for stack device) (drop (i + 1) ids) then Negative else s) after
          ∙ first-id (is_unresolved_for stack device) (get_or ids i d) (drop (i + 1) ids) status missing given
          ∙ ap (λ (left : List ResId). if list_any (is_unresolved_for stack device) left then Negative else status) (sym (drop_more ids i d on))
          ∙ before.others;
    }

pub StatusAllBut-end : (stack : List LayerOf) (device : List ℕ) (status : Status) (i : ℕ) (ids : List ResId) → StatusAllBut stack device status i ids → length ids ≤ i
    → status ≡ (if list_any (is_unresolved_for stack device) ids then Negative else Done)
StatusAllBut-end stack device status i ids before past =
    sym (ap (λ (left : List ResId). if list_any (is_unresolved_for stack device) left then Negative else status) (drop_all i ids past)) ∙ before.others

-- ---- whether one of the ids that are left ends at no value

first-left : (test : ResId → Bool) (id : ResId) (ids : List ResId) (missing : Bool) → test id ≡ missing → list_any test (id ∷ ids) ≡ (if missing then true else list_any test ids)
first-left test id ids true given = grind (arith, given)
first-left test id ids false given = grind (arith, given)

left-at : (stack : List LayerOf) (device : List ℕ) (i : ℕ) (ids : List ResId) (d : ResId) (end : End) (missing : Bool) → i < length ids → end ≡ end_for stack device (get_or ids i d)
    → missing ≡ is_unresolved end
    → list_any (is_unresolved_for stack device) (drop i ids) ≡ (if missing then true else list_any (is_unresolved_for stack device) (drop (i + 1) ids))
left-at stack device i ids d end missing on is told =
    ap (list_any (is_unresolved_for stack device)) (drop_more ids i d on)
    ∙ first-left (is_unresolved_for stack device) (get_or ids i d) (drop (i + 1) ids) missing (ap is_unresolved (sym is) ∙ sym told)

pub any-next : (stack : List LayerOf) (device : List ℕ) (i : ℕ) (ids : List ResId) (d : ResId) (end : End) (missing : Bool)
    → list_any (is_unresolved_for stack device) (drop i ids) ≡ list_any (is_unresolved_for stack device) ids → i < length ids → end ≡ end_for stack device (get_or ids i d)
    → missing ≡ is_unresolved end → missing ≡ false → list_any (is_unresolved_for stack device) (drop (i + 1) ids) ≡ list_any (is_unresolved_for stack device) ids
any-next stack device i ids d end missing before on is told not = (rw not at (sym (left-at stack device i ids d end missing on is told))) ∙ before

pub any-found : (stack : List LayerOf) (device : List ℕ) (i : ℕ) (ids : List ResId) (d : ResId) (end : End) (missing : Bool)
    → list_any (is_unresolved_for stack device) (drop i ids) ≡ list_any (is_unresolved_for stack device) ids → i < length ids → end ≡ end_for stack device (get_or ids i d)
    → missing ≡ is_unresolved end → missing ≡ true → true ≡ list_any (is_unresolved_for stack device) ids
any-found stack device i ids d end missing before on is told found = (rw found at (sym (left-at stack device i ids d end missing on is told))) ∙ before

pub ruleset query_steps = (PutsAllBut-none, PutsAllBut-end, StatusAllBut-none, StatusAllBut-end, drop_all)

use Rattle.std.proofs.Common.{ℕ, List, Option, sym, ◌∙◌, subst}
use Rattle.std.proofs.lemmas.Option.{IfSome_then}
use Rattle.std.proofs.lemmas.Result.{IfOk-weaker}
use Rattle.reference_resolver.specs.overlay_map.Layer.{LayerOf}
use Rattle.stack_diff.specs.declared.row_place.RowPlace.{RowPlace}
use Rattle.stack_diff.specs.LayersSeen.{IsLookUp}
use Rattle.stack_diff.specs.Parting.{IsParted, trace_of}
use Rattle.stack_diff.specs.Raising.{cells_of, KeepsReach, rows_more, no_more}
use Rattle.stack_diff.proofs.BareStack.{all-layers}
use Rattle.stack_diff.proofs.RaisedRows.{none-asked, id-raised, bare-reached, some-of}
use Rattle.stack_diff.proofs.LimitSteps.{nothing-asked, some-asked, look-up-parted, id-passed, id-too-large, id-once, id-twice}
use Rattle.stack_diff.proofs.all_uses.raise_id.Goals as goal

pub returns-then-not-has_asked-clause-keeps : goal.returns-then-not-has_asked-clause-keeps
returns-then-not-has_asked-clause-keeps c =
    let stack = c.args.stack.now in
    let is = subst (λ (layers : List LayerOf). IsLookUp layers c.args.id.0 c.in_ok-look_up.look_up) (all-layers stack) c.in_ok-look_up.ensures in
    none-asked stack c.args.members.now c.args.id.0 (cells_of c.args.uses.now) c.deref.result.now (c.deref.ensures.value ∙ is.rows) (sym c.has_asked.ensures ∙ c.if-not-has_asked.true)

pub returns-then-not-has_overlay-clause-keeps : goal.returns-then-not-has_overlay-clause-keeps
returns-then-not-has_overlay-clause-keeps c =
    let stack = c.args.stack.now in
    let sets = c.args.members.now in
    let look_up = c.in_ok-look_up.look_up in
    let is = subst (λ (layers : List LayerOf). IsLookUp layers c.args.id.0 look_up) (all-layers stack) c.in_ok-look_up.ensures in
    let first = subst (λ (rows : List RowPlace). KeepsReach (cells_of c.args.uses.now) (rows_more rows) (cells_of c.raise_each.new.self) no_more) c.deref-2.ensures.value c.raise_each.ensures in
    let second = some-of c.in_ok-raised.raised c.in-Some.left _ c.in-Some.is c.in_ok-raised.ensures.keeps in
    id-raised stack sets c.args.id.0 look_up (cells_of c.args.uses.now) (cells_of c.raise_each.new.self) (cells_of c.raise_loaded.new.uses) (cells_of c.raise_loaded.new.uses) is first second
    (bare-reached stack sets c.args.id.0 look_up (cells_of c.raise_each.new.self) (cells_of c.raise_loaded.new.uses) is (sym c.has_overlay.ensures ∙ c.if-not-has_overlay.true) second)

pub returns-clause-keeps : goal.returns-clause-keeps
returns-clause-keeps c =
    let stack = c.args.stack.now in
    let sets = c.args.members.now in
    let look_up = c.in_ok-look_up.look_up in
    let is = subst (λ (layers : List LayerOf). IsLookUp layers c.args.id.0 look_up) (all-layers stack) c.in_ok-look_up.ensures in
    let first = subst (λ (rows : List RowPlace). KeepsReach (cells_of c.args.uses.now) (rows_more rows) (cells_of c.raise_each.new.self) no_more) c.deref-2.ensures.value c.raise_each.ensures in
    let second = some-of c.in_ok-raised.raised c.in-Some.left _ c.in-Some.is c.in_ok-raised.ensures.keeps in
    IfOk-weaker c.raise_overlaid.result _ _ (λ found given. IfSome_then found given (λ left third.
    id-raised stack sets c.args.id.0 look_up (cells_of c.args.uses.now) (cells_of c.raise_each.new.self) (cells_of c.raise_loaded.new.uses) (cells_of c.raise_overlaid.new.uses) is first second third)) c.raise_overlaid.ensures.keeps

pub returns-then-not-has_asked-clause-tree : goal.returns-then-not-has_asked-clause-tree
returns-then-not-has_asked-clause-tree c =
    let stack = c.args.stack.now in
    let is = subst (λ (layers : List LayerOf). IsLookUp layers c.args.id.0 c.in_ok-look_up.look_up) (all-layers stack) c.in_ok-look_up.ensures in
    id-passed stack c.args.members.now c.args.id.0 (cells_of c.args.uses.now) c.args.left
    (nothing-asked stack c.args.id.0 (cells_of c.args.uses.now) c.deref.result.now (c.deref.ensures.value ∙ is.rows) (sym c.has_asked.ensures ∙ c.if-not-has_asked.true))

pub returns-in_default-clause-tree : goal.returns-in_default-clause-tree
returns-in_default-clause-tree c =
    let stack = c.args.stack.now in
    let sets = c.args.members.now in
    let cells = cells_of c.args.uses.now in
    let look_up = c.in_ok-look_up.look_up in
    let is = subst (λ (layers : List LayerOf). IsLookUp layers c.args.id.0 look_up) (all-layers stack) c.in_ok-look_up.ensures in
    let some = some-asked stack c.args.id.0 cells c.deref.result.now (c.deref.ensures.value ∙ is.rows) (sym c.has_asked.ensures ∙ c.if-not-has_asked.false) in
    let parted = look-up-parted stack sets c.args.id.0 stack look_up c.args.left c.in_ok-raised.raised is c.in_ok-raised.ensures.tree in
    id-too-large stack sets c.args.id.0 cells some c.args.left (subst (λ (found : Option ℕ). IsParted (trace_of stack c.args.id.0) sets c.args.left found) c.in_default.is parted)

pub returns-then-not-has_overlay-clause-tree : goal.returns-then-not-has_overlay-clause-tree
returns-then-not-has_overlay-clause-tree c =
    let stack = c.args.stack.now in
    let sets = c.args.members.now in
    let cells = cells_of c.args.uses.now in
    let look_up = c.in_ok-look_up.look_up in
    let is = subst (λ (layers : List LayerOf). IsLookUp layers c.args.id.0 look_up) (all-layers stack) c.in_ok-look_up.ensures in
    let some = some-asked stack c.args.id.0 cells c.deref.result.now (c.deref.ensures.value ∙ is.rows) (sym c.has_asked.ensures ∙ c.if-not-has_asked.false) in
    let parted = look-up-parted stack sets c.args.id.0 stack look_up c.args.left c.in_ok-raised.raised is c.in_ok-raised.ensures.tree in
    id-once stack sets c.args.id.0 cells some c.args.left c.in-Some.left (subst (λ (found : Option ℕ). IsParted (trace_of stack c.args.id.0) sets c.args.left found) c.in-Some.is parted)

pub returns-clause-tree : goal.returns-clause-tree
returns-clause-tree c =
    let stack = c.args.stack.now in
    let sets = c.args.members.now in
    let cells = cells_of c.args.uses.now in
    let look_up = c.in_ok-look_up.look_up in
    let is = subst (λ (layers : List LayerOf). IsLookUp layers c.args.id.0 look_up) (all-layers stack) c.in_ok-look_up.ensures in
    let some = some-asked stack c.args.id.0 cells c.deref.result.now (c.deref.ensures.value ∙ is.rows) (sym c.has_asked.ensures ∙ c.if-not-has_asked.false) in
    let parted = look-up-parted stack sets c.args.id.0 stack look_up c.args.left c.in_ok-raised.raised is c.in_ok-raised.ensures.tree in
    IfOk-weaker c.raise_overlaid.result _ _ (λ found second.
    id-twice stack sets c.args.id.0 cells some c.args.left c.in-Some.left found (subst (λ (found : Option ℕ). IsParted (trace_of stack c.args.id.0) sets c.args.left found) c.in-Some.is parted) second) c.raise_overlaid.ensures.tree

use Rattle.std.proofs.Common.{ℕ, List, ◌+◌, take, get_or, set, subst, sym}
use Rattle.std.proofs.lemmas.List.{take_all, take_more}
use Rattle.overlay_map.specs.type_chunks.Row.{row_of}
use Rattle.names.specs.declared.sought.Sought.{Sought}
use Rattle.names.specs.Sought.{IsNotedAt}
use Rattle.names.proofs.SoughtSteps.{IsNotedAt-next, IsNotedAt-past}
use Rattle.names.proofs.search.note_at.Goals as goal
use Rattle.names.proofs.search.note_at.Goals.{then-place-sought+in_ok-note, else-place-sought}

pub loop-place-preserved : goal.loop-place-preserved
loop-place-preserved c =
    let table = c.args.table.now in
    let row = row_of c.args.row.now in
    let places = c.args.places.now in
    let old = c.args.sought.now in
    let count = c.loop-place.place-index in
    let more = take_more places count 0 c.loop-place-test.true in
    elim c.if-place-sought.branch [
      | then-place-sought+in_ok-note w ↦
          subst (λ (now : List Sought). IsNotedAt table row (take (count + 1) places) old now) (sym w.sought-is)
          (subst (λ (so_far : List ℕ). IsNotedAt table row so_far old (set c.loop-place.sought (get_or places count 0) w.note.new.self)) (sym more)
          (IsNotedAt-next table row (take count places) _ old c.loop-place.sought w.note.new.self _ c.loop-place.invariant w.if-place-sought.true w.in_ok-note.ensures))
      | else-place-sought w ↦
          subst (λ (now : List Sought). IsNotedAt table row (take (count + 1) places) old now) (sym w.sought-is)
          (subst (λ (so_far : List ℕ). IsNotedAt table row so_far old c.loop-place.sought) (sym more)
          (IsNotedAt-past table row (take count places) _ old c.loop-place.sought c.loop-place.invariant w.if-place-sought.false))
    ]

pub returns : goal.returns
returns c =
    subst (λ (places : List ℕ). IsNotedAt c.args.table.now (row_of c.args.row.now) places c.args.sought.now c.loop-place.sought)
    (take_all c.loop-place.place-index c.args.places.now c.loop-place-test.false) c.loop-place.invariant

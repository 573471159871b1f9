use Rattle.std.proofs.Common.{◌≡◌, ◌<◌, [], map, length, bytes_eq, get_or, true, false, sym, ap, ◌∙◌, arith}
use Rattle.std.proofs.lemmas.List.{length-map, get_or-map}
use Rattle.json_tokens.proofs.Slots.{FillsAllBut-same, FillsAllBut-other, FillsAllBut-end, among-same, among-other, among-end}
use Rattle.json_tokens.proofs.fields.fill.Goals.{then-eq, else-eq}
use Rattle.json_tokens.proofs.fields.fill.Goals as goal

pub names-preserved : goal.names-preserved
names-preserved c =
    let l = c.names in
    let names = map (λ name. name.now) c.args.names.now in
    let on : l.place < length names = simp length-map c.names-test.true in
    let has : l.place < length l.slots = omega (arith, c.requires, c.names-test.true, l.auto.slots) in
    elim c.if-eq.branch [
      | then-eq w ↦
          let is : bytes_eq (get_or names l.place []) c.args.name.now ≡ true =
          ap (λ known. bytes_eq known c.args.name.now) (get_or-map (λ name. name.now) c.args.names.now l.place _ [] c.names-test.true) ∙ sym w.if-eq.ensures in
          rw (w.known-is, w.slots-is) (
            among-same names c.args.name.now [] l.place l.known _ on is l.invariant.0,
            FillsAllBut-same names c.args.name.now c.args.kind c.args.slots.now l.slots l.place [] l.invariant.1 on has is,
          )
      | else-eq w ↦
          let is : bytes_eq (get_or names l.place []) c.args.name.now ≡ false =
          ap (λ known. bytes_eq known c.args.name.now) (get_or-map (λ name. name.now) c.args.names.now l.place _ [] c.names-test.true) ∙ sym w.if-eq.ensures in
          rw (w.known-is, w.slots-is) (
            among-other names c.args.name.now [] l.place l.known _ on is l.invariant.0,
            FillsAllBut-other names c.args.name.now c.args.kind c.args.slots.now l.slots l.place [] l.invariant.1 on has is,
          )
    ]

pub returns-clause-known : goal.returns-clause-known
returns-clause-known c =
    let names = map (λ name. name.now) c.args.names.now in
    among-end names c.args.name.now c.names.place c.names.known _ (simp length-map c.names-test.false) c.names.invariant.0

pub returns-clause-filled : goal.returns-clause-filled
returns-clause-filled c =
    let l = c.names in
    let names = map (λ name. name.now) c.args.names.now in
    FillsAllBut-end names c.args.name.now c.args.kind c.args.slots.now l.slots l.place l.invariant.1 (simp length-map c.names-test.false) (omega (arith, c.requires, c.names-test.false, l.auto.slots))

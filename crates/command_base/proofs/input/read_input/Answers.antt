-- What was read, where too much came or the end did not.
use Rattle.std.proofs.Common.{ℕ, List, ◌<◌, ◌++◌, length, take, rules, arith, length-append, vec_len, sym, ◌∙◌, ap, subst, ◌≤◌}
use Rattle.std.specs.Io.KnownBytes.{Consumes}
use Rattle.std.proofs.KnownBytes.{Consumes-kept, Consumes-trans}
use Rattle.command_base.proofs.input.read_input.Goals as goal
use Rattle.command_base.proofs.input.read_input.Goals.{else-loop-test, then-loop-test+else-counter-limit, in-Ok-2+in_ok-extend_from_slice-in-Ok-2, in-Err}

pub returns-in-Ok : goal.returns-in-Ok
returns-in-Ok g c =
    let read = take c.in-Ok.count c.read.new.buf in
    let more : c.args.limit < length (c.loop.input.items ++ read) = simp length-append (omega (arith, c.in-Ok.ensures.bound, c.loop.input.ok)) in
    (c.loop.input.items ++ read, Consumes-trans _ _ _ _ _ c.loop.invariant.given c.in-Ok.ensures.bytes.0, more)

pub loop-preserved : goal.loop-preserved
loop-preserved g c = elim c.match-read.branch [
  | in-Ok-2+in_ok-extend_from_slice-in-Ok-2 w ↦ record {
    given =
        subst (λ (items : List ℕ). Consumes (g.R.Read.remaining c.args.reader.now) (g.R.Read.remaining c.read.new.self) items) (sym (ap (λ input. input.items) w.input-is ∙ w.in_ok-extend_from_slice-in-Ok-2.ensures.items))
        (Consumes-trans _ _ _ _ _ c.loop.invariant.given w.in-Ok.ensures.bytes.0);
    within = omega (arith, ap vec_len w.input-is, w.in_ok-extend_from_slice-in-Ok-2.ensures.len, w.if-count-limit.false, w.in-Ok.ensures.bound);
  }
  | in-Err w ↦ search rules
]

pub returns : goal.returns
returns g c =
    let items = c.loop.input.items in
    let left = g.R.Read.remaining in
    let few : length items ≤ c.args.limit = omega (arith, c.loop.invariant.within, c.loop.input.ok) in
    elim c.loop-test.branch [
      | else-loop-test w ↦ (items, subst (λ reader. Consumes (left c.args.reader.now) (left reader) items) (sym w.reader-is) c.loop.invariant.given, few)
      | then-loop-test+else-counter-limit w ↦
          elim w.match-read.branch [
            | in-Ok-2+in_ok-extend_from_slice-in-Ok-2 v ↦
                let read = take v.in-Ok.count w.read.new.buf in
                let given = Consumes-trans _ _ _ _ _ c.loop.invariant.given v.in-Ok.ensures.bytes.0 in
                let all : length (items ++ read) ≤ c.args.limit = simp length-append (omega (arith, v.if-count-limit.false, v.in-Ok.ensures.bound, c.loop.invariant.within, c.loop.input.ok)) in
                (items ++ read, subst (λ reader. Consumes (left c.args.reader.now) (left reader) (items ++ read)) (sym w.reader-is) given, all)
            | in-Err v ↦
                let given = Consumes-kept _ _ _ _ c.loop.invariant.given v.in-Err.ensures.bytes in
                (items, subst (λ reader. Consumes (left c.args.reader.now) (left reader) items) (sym w.reader-is) given, few)
          ]
    ]

pub returns-in-Err-2 : goal.returns-in-Err-2
returns-in-Err-2 g c =
    let few : length c.loop.input.items ≤ c.args.limit = omega (arith, c.loop.invariant.within, c.loop.input.ok) in
    (c.loop.input.items, Consumes-kept _ _ _ _ c.loop.invariant.given c.in-Err.ensures.bytes, few)

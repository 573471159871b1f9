use Rattle.std.proofs.Common.{◌≡◌, ◌<◌, [], ◌∷◌, Some, None, inl, inr, ap, ap₂, ◌∙◌, arith}
use Rattle.std.specs.Option.{option_map}
use Rattle.json.specs.Json.{parse_map}
use Rattle.json.specs.Reads.{token_of}
use Rattle.json_tokens.specs.json_input.Each.{list_of}
use Rattle.serde_json.specs.Find.{as_u64}
use Rattle.serde_json.specs.Read.{number_of}
use Rattle.json_tokens.specs.Standing.{value_at}
use Rattle.json_tokens.proofs.Standing.{at-list, at-object, at-string, at-boolean, at-null, at-number, at-huge_number, at-end_array, at-end_object, at-key, at-bad, at-nothing, at-list-too_deep, at-object-too_deep, kinds}
use Rattle.json_tokens.proofs.tokens.Tokens.begin.Goals.{in-BeginArray+else-depth-eq0, in-BeginObject+else-depth-eq0-2, in-Number+in-Ok-Some, in-Number+in-Ok-None, in-Number+in-Err, in-String, in-Bool, in-EndArray}
use Rattle.json_tokens.proofs.tokens.Tokens.begin.Goals as goal

pub returns-in_default-clause-value : goal.returns-in_default-clause-value
returns-in_default-clause-value c =
    let empty : c.args.self.now ≡ [] = grind arith in
    ap (value_at c.args.depth) empty ∙ at-nothing c.args.depth

pub returns-then-depth-eq0-clause-value : goal.returns-then-depth-eq0-clause-value
returns-then-depth-eq0-clause-value c =
    let first : c.args.self.now ≡ token_of c.in-Some.token ∷ c.next.new.self = grind arith in
    let none : c.args.depth ≡ 0 = omega arith in
    ap₂ value_at none (first ∙ ap (λ k. token_of k ∷ c.next.new.self) c.in-BeginArray.is) ∙ at-list-too_deep c.next.new.self

pub returns-then-depth-eq0-2-clause-value : goal.returns-then-depth-eq0-2-clause-value
returns-then-depth-eq0-2-clause-value c =
    let first : c.args.self.now ≡ token_of c.in-Some.token ∷ c.next.new.self = grind arith in
    let none : c.args.depth ≡ 0 = omega arith in
    ap₂ value_at none (first ∙ ap (λ k. token_of k ∷ c.next.new.self) c.in-BeginObject.is) ∙ at-object-too_deep c.next.new.self

pub returns-clause-value : goal.returns-clause-value
returns-clause-value c =
    let first : c.args.self.now ≡ token_of c.in-Some.token ∷ c.next.new.self = grind arith in
    let depth = c.args.depth in
    let r = c.next.new.self in
    elim c.match-token.branch [
      | in-BeginArray+else-depth-eq0 w ↦
          let some : 0 < depth = omega (arith, w.if-depth-eq0) in
          rw w.result-is (some, ap (λ ts. parse_map list_of (value_at depth ts)) (first ∙ ap (λ k. token_of k ∷ r) w.in-BeginArray.is) ∙ at-list depth r some)
      | in-BeginObject+else-depth-eq0-2 w ↦
          let some : 0 < depth = omega (arith, w.if-depth-eq0-2) in
          rw w.result-is (some, ap (value_at depth) (first ∙ ap (λ k. token_of k ∷ r) w.in-BeginObject.is) ∙ at-object depth r some)
      | in-Number+in-Ok-Some w ↦
          let number : option_map as_u64 (number_of w.in-Number.text.now) ≡ Some (Some w.in-Ok-Some.n) = grind arith in
          rw w.result-is (ap (λ ts. kinds (value_at depth ts)) (first ∙ ap (λ k. token_of k ∷ r) w.in-Number.is) ∙ at-number depth r w.in-Number.text.now (Some w.in-Ok-Some.n) number)
      | in-Number+in-Ok-None w ↦
          let number : option_map as_u64 (number_of w.in-Number.text.now) ≡ Some None = grind arith in
          rw w.result-is (ap (λ ts. kinds (value_at depth ts)) (first ∙ ap (λ k. token_of k ∷ r) w.in-Number.is) ∙ at-number depth r w.in-Number.text.now None number)
      | in-Number+in-Err w ↦
          rw w.result-is (ap (value_at depth) (first ∙ ap (λ k. token_of k ∷ r) w.in-Number.is) ∙ at-huge_number depth r w.in-Number.text.now w.in-Err.ensures)
      | in-String w ↦
          rw w.result-is (ap (λ ts. kinds (value_at depth ts)) (first ∙ ap (λ k. token_of k ∷ r) w.in-String.is) ∙ at-string depth r w.in-String.text.now)
      | in-Bool w ↦ elim w.in-Bool.is [
        | inl h ↦ rw w.result-is (ap (λ ts. kinds (value_at depth ts)) (first ∙ ap (λ k. token_of k ∷ r) h.1) ∙ at-boolean depth r h.0)
        | inr h ↦ rw w.result-is (ap (λ ts. kinds (value_at depth ts)) (first ∙ ap (λ k. token_of k ∷ r) h) ∙ at-null depth r)
      ]
      | in-EndArray w ↦ elim w.in-EndArray.is [
        | inl h ↦ rw w.result-is (ap (value_at depth) (first ∙ ap (λ k. token_of k ∷ r) h) ∙ at-end_array depth r)
        | inr others ↦ elim others [
          | inl h ↦ rw w.result-is (ap (value_at depth) (first ∙ ap (λ k. token_of k ∷ r) h) ∙ at-end_object depth r)
          | inr others ↦ elim others [
            | inl h ↦ rw w.result-is (ap (value_at depth) (first ∙ ap (λ k. token_of k ∷ r) h.1) ∙ at-key depth r _)
            | inr h ↦ rw w.result-is (ap (value_at depth) (first ∙ ap (λ k. token_of k ∷ r) h) ∙ at-bad depth r)
          ]
        ]
      ]
    ]

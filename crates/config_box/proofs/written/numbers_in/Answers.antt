use Rattle.std.proofs.Common.{◌≡◌, ◌-◌, List, Some, Ok, inl, inr, ap, subst, ◌∙◌}
use Rattle.json.specs.Json.{parse_map}
use Rattle.serde_json.specs.Data.{Data, object, no_members}
use Rattle.json_input.specs.Each.{list_of}
use Rattle.json_tokens.specs.Standing.{value_at, items_at, members_at}
use Rattle.json_tokens.specs.Kind.{Whole, Text, Other, Begins}
use Rattle.json_tokens.proofs.Standing.{read_some, object-read}
use Rattle.config_box.specs.Written.{numbers_in}
use Rattle.config_box.specs.Kept.{keep, numbers_kept, range_kept}
use Rattle.config_box.specs.BoxSeen.{read_seen}
use Rattle.config_box.proofs.TokenSteps.{list-reads, numbers-in_list, range-in_object, other-read}
use Rattle.config_box.proofs.written.numbers_in.Goals as goal

pub returns-in-List-clause-value : goal.returns-in-List-clause-value
returns-in-List-clause-value c =
    let depth = c.args.depth in
    let ts = c.args.tokens.now in
    let s = c.begin.new.self in
    let entered : parse_map list_of (value_at depth ts) ≡ parse_map {A = List Data} Some (items_at (depth - 1) s) = (subst (λ k. Begins depth ts (Ok k) s) c.in-List.is c.in_ok-begin.ensures.value).1 in
    list-reads read_seen (λ value. keep (numbers_in value)) numbers_kept numbers-in_list depth (depth - 1) ts s c.number_items.new.tokens c.number_items.result entered c.number_items.ensures.value

pub returns-in_ok-range_members-in-Object-clause-value : goal.returns-in_ok-range_members-in-Object-clause-value
returns-in_ok-range_members-in-Object-clause-value c =
    let depth = c.args.depth in
    let ts = c.args.tokens.now in
    let s = c.begin.new.self in
    let r = c.range_members.new.tokens in
    let entered : value_at depth ts ≡ parse_map object (members_at (depth - 1) no_members s) = (subst (λ k. Begins depth ts (Ok k) s) c.in-Object.is c.in_ok-begin.ensures.value).1 in
    let found = read_some range_kept (members_at (depth - 1) no_members s) (read_seen c.in_ok-range_members-in-Object.field-0) r c.in_ok-range_members-in-Object.ensures.value in
    object-read (λ value. keep (numbers_in value)) depth (depth - 1) ts s r found.0 entered found.1 ∙ ap (λ y. Some (y, r)) (range-in_object found.0 ∙ found.2)

pub returns-in-Number-clause-value : goal.returns-in-Number-clause-value
returns-in-Number-clause-value c =
    let depth = c.args.depth in
    let ts = c.args.tokens.now in
    let r = c.begin.new.self in
    elim c.in-Number.is [
      | inl h ↦ other-read (value_at depth ts) (Whole h.0) r (λ e. cc) (λ e. cc) (subst (λ k. Begins depth ts (Ok k) r) h.1 c.in_ok-begin.ensures.value)
      | inr others ↦ elim others [
        | inl h ↦ other-read (value_at depth ts) (Text h.0.now) r (λ e. cc) (λ e. cc) (subst (λ k. Begins depth ts (Ok k) r) h.1 c.in_ok-begin.ensures.value)
        | inr h ↦ other-read (value_at depth ts) Other r (λ e. cc) (λ e. cc) (subst (λ k. Begins depth ts (Ok k) r) h c.in_ok-begin.ensures.value)
      ]
    ]

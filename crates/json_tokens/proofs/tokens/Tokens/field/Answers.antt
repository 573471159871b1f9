use Rattle.std.proofs.Common.{List, map, Option, Some, sym, ap, ◌∙◌}
use Rattle.json.specs.Json.{parse_map}
use Rattle.json_tokens.specs.Standing.{value_at}
use Rattle.json_tokens.specs.Kind.{KindOf, kind_of}
use Rattle.json_tokens.specs.Fields.{with_field, slots_seen}
use Rattle.json_tokens.proofs.Standing.{mapped-twice}
use Rattle.json_tokens.proofs.Slots.{with_field-seen}
use Rattle.json_tokens.proofs.tokens.Tokens.field.Goals as goal

pub returns-clause-filled : goal.returns-clause-filled
returns-clause-filled c =
    let names = map (λ name. name.now) c.args.names.now in
    let name = c.args.name.now in
    let old = c.args.slots.now in
    let kind = c.in_ok-kind.kind in
    let filling : KindOf → List (Option KindOf) = λ k. with_field names name k (slots_seen old) in
    sym (mapped-twice filling kind_of (value_at c.args.depth c.args.self.now))
    ∙ ap (parse_map filling) c.in_ok-kind.ensures.value
    ∙ ap (λ slots. Some (slots, c.kind.new.self)) (sym (with_field-seen names name kind old) ∙ ap slots_seen (sym c.fill.ensures.filled))

use Rattle.std.proofs.Common.{◌≡◌, map, Some, None, ap, ◌∙◌, arith}
use Rattle.json.specs.Json.{parse_map}
use Rattle.serde_json.specs.Find.{as_object}
use Rattle.json_tokens.specs.Standing.{value_at}
use Rattle.json_tokens.specs.Fields.{fields}
use Rattle.json_tokens.proofs.Standing.{read_some}
use Rattle.json_tokens.proofs.Members.{not_object}
use Rattle.json_tokens.proofs.tokens.Tokens.fields.Goals as goal

pub returns-then-not-branch-clause-value : goal.returns-then-not-branch-clause-value
returns-then-not-branch-clause-value c =
    let names = map (λ name. name.now) c.args.names.now in
    let r = c.enter_object.new.self in
    let other : parse_map as_object (value_at c.args.depth c.args.self.now) ≡ Some (None, r) = grind arith in
    let d = read_some as_object (value_at c.args.depth c.args.self.now) None r other in
    ap (parse_map (fields names)) d.1 ∙ rw (not_object names d.0 d.2)

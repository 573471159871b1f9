use Rattle.std.proofs.Common.{◌≡◌, ◌-◌, List, Some, None, ap, ◌∙◌, arith}
use Rattle.json.specs.Json.{parse_map}
use Rattle.serde_json.specs.Data.{Data}
use Rattle.json_input.specs.Each.{list_of}
use Rattle.json_tokens.specs.Standing.{value_at, items_at}
use Rattle.json_tokens.proofs.Standing.{read_some}
use Rattle.config_box.specs.Written.{texts_in}
use Rattle.config_box.specs.Kept.{keep, texts_kept}
use Rattle.config_box.specs.BoxSeen.{read_seen}
use Rattle.config_box.proofs.TokenSteps.{list-reads, texts-in_list, texts-no_list}
use Rattle.config_box.proofs.written.texts_in.Goals as goal

pub returns-then-not-branch-clause-value : goal.returns-then-not-branch-clause-value
returns-then-not-branch-clause-value c =
    let r = c.enter_list.new.self in
    let other : parse_map list_of (value_at c.args.depth c.args.tokens.now) ≡ Some (None, r) = grind arith in
    let d = read_some list_of (value_at c.args.depth c.args.tokens.now) None r other in
    ap (parse_map (λ value. keep (texts_in value))) d.1 ∙ ap (λ y. Some (y, r)) (texts-no_list d.0 d.2)

pub returns-clause-value : goal.returns-clause-value
returns-clause-value c =
    let depth = c.args.depth in
    let ts = c.args.tokens.now in
    let s = c.enter_list.new.self in
    let entered : parse_map list_of (value_at depth ts) ≡ parse_map {A = List Data} Some (items_at (depth - 1) s) = grind arith in
    list-reads read_seen (λ value. keep (texts_in value)) texts_kept texts-in_list depth (depth - 1) ts s c.text_items.new.tokens c.text_items.result entered c.text_items.ensures.value

use Rattle.std.proofs.Common.{◌≡◌, Some, None, option_map, ap, sym, ◌∙◌}
use Rattle.std.proofs.KnownBytes.{Appends-nil}
use Rattle.resource_tool.specs.UnusedOutput.{use_lines, word_of}
use Rattle.resource_tool.proofs.unused_rows.write_use.Goals as goal

pub returns-in_default : goal.returns-in_default
unfolding use_lines
returns-in_default g c =
    let none : word_of c.args.row_use ≡ None = sym c.word_of.ensures ∙ ap (option_map (λ word. word.now)) c.in_default.is in
    rw none (Appends-nil _)

pub returns-in-Text : goal.returns-in-Text
unfolding use_lines
returns-in-Text g c =
    let word : word_of c.args.row_use ≡ Some c.in-Some.word.now = sym c.word_of.ensures ∙ ap (option_map (λ word. word.now)) c.in-Some.is in
    rw (word, c.in-Text.is) c.write_row_line.ensures

pub returns-in-Json : goal.returns-in-Json
unfolding use_lines
returns-in-Json g c =
    let word : word_of c.args.row_use ≡ Some c.in-Some.word.now = sym c.word_of.ensures ∙ ap (option_map (λ word. word.now)) c.in-Some.is in
    rw (word, c.in-Json.is) c.write_row_json.ensures

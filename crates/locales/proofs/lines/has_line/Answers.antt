use Rattle.std.proofs.Common.{rules, ◌==◌, ◌&&◌, ap, sym, ◌∙◌, is_some}
use Rattle.std.proofs.lemmas.List.Sorted.{answers_always}
use Rattle.locales.specs.declared.lines.ScriptLine.{ScriptLine}
use Rattle.locales.specs.Lines.{key_of}
use Rattle.locales.proofs.Rising.{is_some-find, list_any-find}
use Rattle.locales.proofs.Keys.{find-key}
use Rattle.locales.proofs.lines.has_line.Goals as goal

pub returns : goal.returns
returns c =
    let key = λ (line : ScriptLine). key_of line.script line.locale in
    let lines = c.args.lines.now in
    let facts = c.binary_search_by_key.ensures in
    let by_key = facts.position key (answers_always _ _ _ (λ f a r g called. search rules)) in
    let found = is_some-find key c.key-sought.result lines c.binary_search_by_key.result c.requires.rising facts.bound by_key in
    let same = find-key (λ line. line.script) (λ line. line.locale) c.args.script c.args.locale c.ranges.locale.fits c.key-sought.result lines c.key-sought.ensures c.requires.fit in
    let any = list_any-find (λ line. line.script == c.args.script && line.locale == c.args.locale) lines in
    c.is_ok.ensures.value ∙ found ∙ ap is_some same ∙ sym any

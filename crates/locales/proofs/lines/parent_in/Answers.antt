use Rattle.std.proofs.Common.{rules, ap, sym, ◌∙◌, option_map}
use Rattle.std.proofs.lemmas.List.Sorted.{answers_always}
use Rattle.locales.specs.declared.lines.ParentLine.{ParentLine}
use Rattle.locales.specs.Lines.{key_of}
use Rattle.locales.proofs.Rising.{find-at_found, find-at_gap}
use Rattle.locales.proofs.Keys.{find-key}
use Rattle.locales.proofs.lines.parent_in.Goals as goal

pub returns-in-Ok : goal.returns-in-Ok
returns-in-Ok c =
    let key = λ (line : ParentLine). key_of line.script line.locale in
    let lines = c.args.lines.now in
    let by_key = c.in-Ok.ensures.position key (answers_always _ _ _ (λ f a r g called. search rules)) in
    let found = find-at_found key c.key-sought.result lines c.in-Ok.place (record { script = 0; locale = 0; parent = 0 }) c.requires.rising c.in-Ok.ensures.bound by_key in
    let same = find-key (λ line. line.script) (λ line. line.locale) c.args.script c.args.locale c.ranges.locale.fits c.key-sought.result lines c.key-sought.ensures c.requires.fit in
    ap (option_map (λ line. line.parent)) (sym found ∙ same)

pub returns-in-Err : goal.returns-in-Err
returns-in-Err c =
    let key = λ (line : ParentLine). key_of line.script line.locale in
    let lines = c.args.lines.now in
    let by_key = c.in-Err.ensures.position key (answers_always _ _ _ (λ f a r g called. search rules)) in
    let missing = find-at_gap key c.key-sought.result lines c.in-Err.field-0 c.requires.rising by_key in
    let same = find-key (λ line. line.script) (λ line. line.locale) c.args.script c.args.locale c.ranges.locale.fits c.key-sought.result lines c.key-sought.ensures c.requires.fit in
    ap (option_map (λ line. line.parent)) (sym missing ∙ same)

use Rattle.std.proofs.Common.{rules, ap, sym, option_map}
use Rattle.std.proofs.lemmas.List.Sorted.{answers_always}
use Rattle.locales.specs.declared.lines.ScriptLine.{ScriptLine}
use Rattle.locales.proofs.Rising.{find-at_found, find-at_gap}
use Rattle.locales.proofs.lines.script_in.Goals as goal

pub returns-in-Ok : goal.returns-in-Ok
returns-in-Ok c =
    let locale = λ (line : ScriptLine). line.locale in
    let by_locale = c.in-Ok.ensures.position locale (answers_always _ _ _ (λ f a r g called. search rules)) in
    sym (ap (option_map (λ line. line.script)) (find-at_found locale c.args.locale c.args.lines.now c.in-Ok.place (record { locale = 0; script = 0 }) c.requires c.in-Ok.ensures.bound by_locale))

pub returns-in-Err : goal.returns-in-Err
returns-in-Err c =
    let locale = λ (line : ScriptLine). line.locale in
    let by_locale = c.in-Err.ensures.position locale (answers_always _ _ _ (λ f a r g called. search rules)) in
    sym (ap (option_map (λ line. line.script)) (find-at_gap locale c.args.locale c.args.lines.now c.in-Err.field-0 c.requires by_locale))

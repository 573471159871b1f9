-- What candidates do, and the rules of precedence, in words.
use Rattle.std.specs.Prelude.{ℕ, ◌==◌, List, [], ◌++◌, codes, Option, Some, None, if◌then◌else◌}
use Rattle.std.specs.Fmt.{decimal}
use Rattle.answer_text.specs.NamedText.{named_coord}
use Rattle.reference_resolver.specs.declared.decision.Decision.{Decision}
use Rattle.reference_resolver.specs.declared.decision.Decision.TheVariants.{SetAside, NoMatch, First, TookOver, TookOverEqual, KeptOut}

-- what the rule of a number compares (Rules.antt of config_precedence)
unfoldable pub rule_words : ℕ → List ℕ
rule_words rule =
    if rule == 1 then codes "mobile country code"
    else if rule == 2 then codes "mobile network code"
    else if rule == 3 then codes "locale"
    else if rule == 4 then codes "layout direction"
    else if rule == 5 then codes "smallest width"
    else if rule == 6 then codes "available width and height"
    else if rule == 7 then codes "screen size"
    else if rule == 8 then codes "long screen"
    else if rule == 9 then codes "round screen"
    else if rule == 10 then codes "wide colors"
    else if rule == 11 then codes "dynamic range"
    else if rule == 12 then codes "orientation"
    else if rule == 13 then codes "UI mode"
    else if rule == 14 then codes "night mode"
    else if rule == 15 then codes "density"
    else if rule == 16 then codes "touchscreen"
    else if rule == 17 then codes "hidden keys"
    else if rule == 18 then codes "hidden navigation"
    else if rule == 19 then codes "keyboard"
    else if rule == 20 then codes "navigation"
    else if rule == 21 then codes "width and height in pixels"
    else if rule == 22 then codes "platform version"
    else if rule == 23 then codes "minor version"
    else []

-- `WORDS (Pn)`
unfoldable pub rule_notation : ℕ → List ℕ
rule_notation rule = rule_words rule ++ codes " (P" ++ decimal rule ++ codes ")"

-- what is done, and by which rule; or otherwise why
abbrev pub by_rule : List ℕ → List ℕ → Option ℕ → List ℕ
by_rule what otherwise None = what ++ otherwise
by_rule what otherwise (Some rule) = what ++ codes ": " ++ rule_notation rule

unfoldable pub decision_notation : Decision → List ℕ
decision_notation SetAside = codes "no match: script or variant"
decision_notation (NoMatch coord) = named_coord (codes "no match:") coord
decision_notation First = codes "first"
decision_notation (TookOver rule) = by_rule (codes "took over") [] rule
decision_notation TookOverEqual = codes "took over: same configuration, of an overlay"
decision_notation (KeptOut rule) = by_rule (codes "kept out") (codes ": not better") rule

use Rattle.std.proofs.Common.{◌≡◌, List, ℕ, length, drop, sym, ap, subst, ◌∙◌}
use Rattle.std.specs.List.{position_or_len}
use Rattle.locales.specs.Text.{is_dash, behind_language}
use Rattle.locales.proofs.TextLemmas.{no_dash_before, behind_script}
use Rattle.locales.proofs.text.with_script.Goals as goal

pub read_pieces-requires-clause-no_dash : goal.read_pieces-requires-clause-no_dash
read_pieces-requires-clause-no_dash c =
    subst (λ (text : List ℕ). position_or_len is_dash text ≡ length text) (sym c.language_part-language.ensures) (no_dash_before c.args.text.now)

pub read_pieces-requires-clause-dash : goal.read_pieces-requires-clause-dash
read_pieces-requires-clause-dash c =
    subst (λ (text : List ℕ). position_or_len is_dash text ≡ 0) (sym (c.split_at.ensures.back ∙ ap (drop 4) c.behind_language.ensures))
    (behind_script (behind_language c.args.text.now) c.args.script c.requires)

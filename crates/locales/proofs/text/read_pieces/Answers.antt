use Rattle.std.proofs.Common.{◌≡◌, List, ℕ, ◌∷◌, ◌++◌, sym, ap, subst, ◌∙◌}
use Rattle.std.specs.List.{position_or_len}
use Rattle.std.proofs.lemmas.List.{nil_from_length}
use Rattle.locales.specs.Locale.{locale_of}
use Rattle.locales.specs.Text.{is_dash}
use Rattle.locales.proofs.TextLemmas.{language_alone_is, language_and_region_is}
use Rattle.locales.proofs.text.read_pieces.Goals as goal

pub returns-in-None : goal.returns-in-None
returns-in-None c =
    let language = c.args.language.now in
    c.of_parts-in-None.ensures
    ∙ sym (language_alone_is language c.requires.no_dash)
    ∙ ap (λ (region : List ℕ). locale_of (language ++ region)) (sym (nil_from_length c.args.region.now c.in-None.ensures.cases))

pub returns-in-Some : goal.returns-in-Some
returns-in-Some c =
    let language = c.args.language.now in
    let first = c.in-Some.field-0-0.now in
    let others = c.in-Some.region.now in
    let all : c.args.region.now ≡ first ∷ others = c.in-Some.ensures.cases.0 in
    c.of_parts.ensures
    ∙ sym (language_and_region_is language first others c.requires.no_dash (subst (λ (region : List ℕ). position_or_len is_dash region ≡ 0) all c.requires.dash))
    ∙ ap (λ (region : List ℕ). locale_of (language ++ region)) (sym all)

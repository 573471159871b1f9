use Rattle.std.proofs.Common.{ℕ, List, ◌++◌, IsUtf8, sym, ap, subst, ◌∙◌}
use Rattle.config_box.specs.config_record.locales.Text.{locale_text}
use Rattle.cert_tree.proofs.TextLemmas.{locale_text-utf8}
use Rattle.cert_tree.proofs.texts.locale_value.Goals as goal

pub text_value-requires : goal.text_value-requires
text_value-requires c =
    subst (λ (t : List ℕ). IsUtf8 t) (sym (c.in-Ok.ensures ∙ ap (λ (t : List ℕ). t ++ locale_text c.args.locale) c.new-text.ensures.items)) (locale_text-utf8 c.args.locale)

use Rattle.std.proofs.Common.{sym, ap, ◌∙◌, arith}
use Rattle.bags_themes.specs.Theme.{value_of}
use Rattle.bags_themes.specs.Attribute.{step_of}
use Rattle.bags_themes.proofs.ThemeSteps.{slot_of-reaches, slot_of-long, slot_of-follows}
use Rattle.bags_themes.proofs.theme.Theme.slot.Goals as goal

pub returns-in-Reaches : goal.returns-in-Reaches
returns-in-Reaches c =
    let attr = c.attributes.attr.0 in
    let step = ap (λ theme. step_of attr (value_of theme attr)) (sym c.self.view_is) ∙ ap (λ set. step_of attr set) (sym c.get.ensures.value) ∙ sym c.of.ensures ∙ c.in-Reaches.is in
    slot_of-reaches (value_of c.args.self.now) c.attributes.left attr c.in-Reaches.slot step ∙ c.attributes.invariant

pub returns-in-Follows : goal.returns-in-Follows
returns-in-Follows c =
    let attr = c.attributes.attr.0 in
    let step = ap (λ theme. step_of attr (value_of theme attr)) (sym c.self.view_is) ∙ ap (λ set. step_of attr set) (sym c.get.ensures.value) ∙ sym c.of.ensures ∙ c.in-Follows.is in
    slot_of-long (value_of c.args.self.now) c.attributes.left attr c.in-Follows.target step c.if-left-eq0.true ∙ c.attributes.invariant

pub attributes-preserved : goal.attributes-preserved
attributes-preserved c =
    let attr = c.attributes.attr.0 in
    let step = ap (λ theme. step_of attr (value_of theme attr)) (sym c.self.view_is) ∙ ap (λ set. step_of attr set) (sym c.get.ensures.value) ∙ sym c.of.ensures ∙ c.in-Follows.is in
    slot_of-follows (value_of c.args.self.now) c.attributes.left attr c.in-Follows.target step (omega (arith, c.if-left-eq0.false)) ∙ c.attributes.invariant

use Rattle.std.proofs.Common.{◌≡◌, ◌==◌, true, false, is_some, refl, sym, ap, ◌∙◌}
use Rattle.std.specs.List.{list_any}
use Rattle.indexmap.proofs.CallerLemmas.{insert_entry-new}
use Rattle.overlay_map.specs.IdMap.{check_target}
use Rattle.overlay_map.proofs.CheckSteps.{has_target, none_where, same_number_as, other_number}
use Rattle.overlay_map.proofs.checked_pairs.put.Goals as goal

pub returns-then-is_some-clause-checked : goal.returns-then-is_some-clause-checked
unfolding check_target
returns-then-is_some-clause-checked c =
    let target = c.args.pair.0.0 in
    let entries = c.args.map.now.entries in
    let stands : list_any (λ pair. target == pair.0.0) entries ≡ true = sym (has_target target entries) ∙ ap is_some (sym c.in-Ok.ensures.old) ∙ sym c.is_some.ensures ∙ c.if-is_some.true in
    rw stands refl

pub returns-then-package-first_package-clause-checked : goal.returns-then-package-first_package-clause-checked
unfolding check_target
returns-then-package-first_package-clause-checked c =
    let target = c.args.pair.0.0 in
    let entries = c.args.map.now.entries in
    let new : list_any (λ pair. target == pair.0.0) entries ≡ false = sym (has_target target entries) ∙ ap is_some (sym c.in-Ok.ensures.old) ∙ sym c.is_some.ensures ∙ c.if-is_some.false in
    rw (new, other_number (λ same. c.if-package-first_package.true (c.package.ensures ∙ same))) refl

pub returns-clause-checked : goal.returns-clause-checked
unfolding check_target
returns-clause-checked c =
    let target = c.args.pair.0.0 in
    let entries = c.args.map.now.entries in
    let new : list_any (λ pair. target == pair.0.0) entries ≡ false = sym (has_target target entries) ∙ ap is_some (sym c.in-Ok.ensures.old) ∙ sym c.is_some.ensures ∙ c.if-is_some.false in
    rw (new, same_number_as (sym c.package.ensures ∙ c.if-package-first_package.false)) refl

pub returns-clause-put : goal.returns-clause-put
returns-clause-put c =
    let new = none_where _ (ap is_some (sym c.in-Ok.ensures.old) ∙ sym c.is_some.ensures ∙ c.if-is_some.false) in
    c.in-Ok.ensures.entries ∙ insert_entry-new _ c.args.map.now c.args.pair.0 c.args.pair.1 new

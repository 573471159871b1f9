use Rattle.std.proofs.Common.{List, map, ap, subst, ◌∙◌}
use Rattle.names.specs.declared.wanted.Wanted.{Wanted}
use Rattle.names.specs.Names.{WantedOf, wanted_of}
use Rattle.names.specs.Finder.{Tells}
use Rattle.names.proofs.named_ids.ids_named.Goals as goal

pub returns : goal.returns
returns c =
    c.ids_found-ids.ensures c.args.stack.now
    (subst (λ (names : List WantedOf). Tells c.args.stack.now names c.in_ok-finder.finder) (ap (λ (names : List Wanted). map wanted_of names) c.deref.ensures.value ∙ c.in_ok-names.ensures) c.in_ok-finder.ensures)

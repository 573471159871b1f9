use Rattle.std.proofs.Common.{◌≡◌, ℕ, ◌<◌, get_or, sym, subst}
use Rattle.config_precedence.specs.config_record.Coord.{place_of}
use Rattle.box_answers.proofs.Coords.{place_of-below}
use Rattle.box_answers.proofs.Sets.{set-found}
use Rattle.box_answers.proofs.members.set_at.Goals as goal

pub returns : goal.returns
returns c =
    let sets = c.args.sets.now in
    let set = c.index-sets-place.result in
    set-found sets c.args.at set (subst (λ (n : ℕ). place_of c.args.at < n) (sym c.requires) (place_of-below c.args.at))
    (subst (λ (n : ℕ). set ≡ get_or sets n set) c.place.ensures.value c.index-sets-place.is)

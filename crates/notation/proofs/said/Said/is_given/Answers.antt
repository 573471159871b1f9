use Rattle.std.proofs.Common.{ℕ, get_or, false, ap, sym, ◌∙◌}
use Rattle.std.proofs.lemmas.Option.{unwrap_or-slice_get}
use Rattle.config_record.specs.Coord.{place_of}
use Rattle.notation.specs.Said.{is_given}
use Rattle.notation.proofs.said.Said.is_given.Goals as goal

pub returns : goal.returns
unfolding is_given
returns c =
    ap (λ (n : ℕ). get_or c.args.self.now.given n false) c.place.ensures.value
    ∙ sym (unwrap_or-slice_get c.args.self.now.given (place_of c.args.coord) false)

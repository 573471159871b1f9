use Rattle.std.proofs.Common.{◌≡◌, map, drop}
use Rattle.notation.specs.Forms.{form_of, form_for}
use Rattle.notation.proofs.forms.form_among.Given as goal

-- no form so far is of the coordinate
abbrev pub invariant-forms : goal.invariant-forms
invariant-forms l = form_for (map form_of (drop l.form-index l.forms)) l.coord ≡ form_for (map form_of l.forms) l.coord

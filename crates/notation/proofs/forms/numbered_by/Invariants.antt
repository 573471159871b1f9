use Rattle.std.proofs.Common.{◌≡◌, map, drop}
use Rattle.notation.specs.Forms.{form_of, numbered_by}
use Rattle.notation.proofs.forms.numbered_by.Given as goal

-- the text has no form so far
abbrev pub invariant-forms : goal.invariant-forms
invariant-forms l = numbered_by (map form_of (drop l.form-index l.forms)) l.text ≡ numbered_by (map form_of l.forms) l.text

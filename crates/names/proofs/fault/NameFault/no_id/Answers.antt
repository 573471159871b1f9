use Rattle.std.proofs.Common.{ℕ, List, ◌++◌, IsUtf8, sym, ap, subst, ◌∙◌}
use Rattle.res_value.specs.ResId.{id_text}
use Rattle.res_value.proofs.IdText.{id_text-utf8}
use Rattle.names.proofs.fault.NameFault.no_id.Goals as goal

pub of_bytes-requires : goal.of_bytes-requires
of_bytes-requires c =
    subst (λ (t : List ℕ). IsUtf8 t) (sym (c.in-Ok.ensures.text ∙ ap (λ (t : List ℕ). t ++ id_text c.args.id.0) c.new-text.ensures.items)) (id_text-utf8 c.args.id.0)

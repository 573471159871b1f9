use Rattle.std.proofs.Common.{List, Option, ap, subst, ◌∙◌}
use Rattle.std.proofs.KnownBytes.{Appends-trans}
use Rattle.std.proofs.lemmas.Result.{on_ok_weaker}
use Rattle.std.specs.Io.KnownBytes.{Appends}
use Rattle.bags_themes.specs.overlay_map.Layer.{LayerOf}
use Rattle.bags_themes.specs.string_pool.Pool.{PoolOf}
use Rattle.answer_text.specs.EndText.{end_with_name}
use Rattle.answer_text.specs.QueryText.{query_line, strings_of_end}
use Rattle.answer_text.proofs.query.query_line.Goals as goal

pub returns : goal.returns
unfolding query_line
returns g c =
    let contents = g.W.Write.contents in
    let end = subst (λ (strings : Option PoolOf). Appends (contents c.write_all.new.self) (contents c.write_end_with_name.new.out) (end_with_name c.args.names.now.stack strings c.args.end c.args.names.now.asked))
    (c.strings_of_end-strings.ensures ∙ ap (λ (layers : List LayerOf). strings_of_end layers c.args.end) c.stack.ensures) c.in_ok-write_end_with_name.ensures in
    let front = Appends-trans _ _ _ _ _ c.in_ok-write_id.ensures.text c.in_ok-write.ensures in
    let behind = Appends-trans _ _ _ _ _ front c.in_ok-write_all.ensures.bytes in
    on_ok_weaker c.write_all-2.result (λ last. Appends-trans _ _ _ _ _ (Appends-trans _ _ _ _ _ behind end) last) c.write_all-2.ensures.bytes

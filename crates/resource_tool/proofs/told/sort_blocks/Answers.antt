use Rattle.std.proofs.Common.{rules}
use Rattle.std.proofs.lemmas.List.Sorted.{answers_always}
use Rattle.resource_tool.proofs.Blocks.{comes_before, blocks_ranked, sorted_blocks}
use Rattle.resource_tool.proofs.told.sort_blocks.Goals as goal

pub returns : goal.returns
returns c =
    sorted_blocks c.args.blocks.now.items c.sort_by.new.self.items
    (c.in_ok-sort_by.ensures.sorted comes_before blocks_ranked (answers_always _ _ _ (λ f a r g h. search rules)))
    (c.sort_by.ensures.stable comes_before blocks_ranked (answers_always _ _ _ (λ f a r g h. search rules)))

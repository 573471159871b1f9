-- How a loop writes one pair after the other.
use Rattle.std.proofs.Common.{ℕ, ◌+◌, ◌<◌, List, Option, ap, length, drop, get_or}
use Rattle.std.specs.Io.KnownBytes.{Appends}
use Rattle.std.proofs.lemmas.List.{drop_more}
use Rattle.contract_words.proofs.TextSteps.{PutsAllBut, PutsAllBut-next}
use Rattle.command_base.specs.overlay_map.IdMap.{IdPair, pairs_of}
use Rattle.command_base.specs.MapText.{next_pair_text}
use Rattle.command_base.specs.PairSeen.{pair_seen}

pub pair-next : (old mid new : Option (List ℕ)) (pairs : List IdPair) (i : ℕ) (d : IdPair) → PutsAllBut next_pair_text old mid (pairs_of pairs) (pairs_of (drop i pairs))
    → i < length pairs → Appends mid new (next_pair_text (pair_seen (get_or pairs i d))) → PutsAllBut next_pair_text old new (pairs_of pairs) (pairs_of (drop (i + 1) pairs))
pair-next old mid new pairs i d before on put =
    PutsAllBut-next next_pair_text old mid new (pairs_of pairs) (pairs_of (drop i pairs)) (pairs_of (drop (i + 1) pairs)) (pair_seen (get_or pairs i d)) before
    (ap (λ (t : List IdPair). pairs_of t) (drop_more pairs i d on)) put

-- How contracts see a layer of such a list.
use Rattle.command_base.specs.declared.list_word.ListedLayer as lent
use Rattle.command_base.specs.ListWord.{ListedLayer}

-- by its path, not where that lies in memory
abbrev pub listed_of : lent.ListedLayer → ListedLayer
listed_of layer = record { path = layer.path.now; base = layer.base }

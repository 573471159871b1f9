-- How contracts see references that go astray, and the search for them.
use Rattle.command_base.specs.overlay_map.IdMap.{MapOf, pairs_of}
use Rattle.command_base.specs.answer_text.overlay_map.Table.{TableOf}
use Rattle.command_base.specs.answer_text.type_chunks.Row.{row_of}
use Rattle.command_base.specs.declared.astray.Astray.{Astray}
use Rattle.command_base.specs.declared.astray.AstraySearch.{AstraySearch}
use Rattle.command_base.specs.MadeMap.{AstrayOf}

-- by their content, not their address
abbrev pub astray_of : Astray → AstrayOf
astray_of found = record { from = row_of found.from; to = row_of found.to }

-- the overlay that is searched
abbrev pub overlay_of : AstraySearch → TableOf
overlay_of search = search.first.now.table.now

-- the map whose references go astray
abbrev pub map_of : AstraySearch → MapOf
map_of search = pairs_of search.mapped.now.pairs.now

-- What lexes among lists of tokens.
use Rattle.std.specs.Prelude.{◌≡◌, length}
use Rattle.ts_core.specs.declared.flat.FlatGrammar.{FlatGrammar}
use Rattle.ts_automata.specs.Walks.{walk_room}
use Rattle.ts_lexer.specs.declared.engine.Engine.{Engine}
use Rattle.ts_lexer.specs.Ahead.{contents_of}
use Rattle.ts_lexer.specs.Ways.{IsWayOf, HavePairsOn}

-- all that it keeps was made for the grammar
pub record IsEngine (g : FlatGrammar) (e : Engine) : Type 0 where
  pub way : IsWayOf g e.way (walk_room e.walk)
  pub marks : length e.view.marks.items ≡ length g.tokens
  pub count : length e.pairs.items ≡ length e.lists.keys
  pub pairs : HavePairsOn g e.way (contents_of e.lists.keys) e.pairs.items

-- What the queries of a script find in a text.
use Rattle.std.specs.Prelude.{◌≡◌, ℕ, ◌≤◌, List, [], length, map, slice_get, unwrap_or, Some}
use Rattle.ts_base.specs.Bytes.{Bytes}
use Rattle.ts_core.specs.declared.flat.FlatGrammar.{FlatGrammar}
use Rattle.spec_trees.specs.declared.tree.Tree.{Tree as ParseTree}
use Rattle.spec_trees.specs.declared.visible.VisibleNode.{VisibleNode}
use Rattle.spec_trees.specs.VisibleNodes.{visible_nodes}
use Rattle.spec_runs.specs.Outcomes.{tree_outcome, Fresh}
use Rattle.ts_query_syntax.specs.declared.read_query.ReadQuery.{ReadQuery}
use Rattle.spec_matches.specs.declared.found.Capture.{Capture}
use Rattle.spec_matches.specs.declared.found.Match.{Match}
use Rattle.spec_matches.specs.Matches.{AreMatches, AreTooMany, most_matches}
use Rattle.ts_predicate.specs.Predicates.{IsKept}
use Rattle.ts_replies.specs.declared.reply.ShownCapture.{ShownCapture}
use Rattle.ts_replies.specs.declared.reply.ShownMatch.{ShownMatch}
use Rattle.ts_replies.specs.declared.reply.ShownResult.{ShownResult}
use Rattle.ts_replies.specs.declared.reply.ShownResult.TheVariants.{Many, Found}

-- ---- one query

-- a captured node, under its capture's name
abbrev pub shown_capture : ReadQuery → Capture → ShownCapture
shown_capture query c = record {
  name = unwrap_or (slice_get query.captures c.name) [];
  start = c.start;
  end = c.end;
}

-- a match: its pattern and its captures
abbrev pub shown_match : ReadQuery → Match → ShownMatch
shown_match query m = record {
  pattern = m.pattern;
  captures = map (shown_capture query) m.captures;
}

-- what is shown is the query's matches in a visible tree that are kept, all of them, each once and
-- in order, and they are not too many
pub record ShowsMatches (query : ReadQuery) (nodes : List VisibleNode) (kept : Match → Type 0)
    (shown : List ShownMatch) : Type 0 where
  pub matches : List Match
  pub are_matches : AreMatches query nodes kept matches
  pub few : length matches ≤ most_matches
  pub shown_is : shown ≡ map (shown_match query) matches

-- what the query comes to in a visible tree: its matches that are kept, or that they are too many
abbrev pub IsResult : ReadQuery → List VisibleNode → (Match → Type 0) → ShownResult → Type 0
IsResult query nodes kept Many = AreTooMany query nodes kept
IsResult query nodes kept (Found shown) = ShowsMatches query nodes kept shown

-- ---- the queries of a script

-- What the query of this number comes to in a visible tree of the text. Those of its matches are
-- kept of which the predicates hold, by the text and by which texts a host accepts.
pub record IsResultOf (queries : List ReadQuery) (host : ℕ → Bytes → Type 0) (text : Bytes)
    (nodes : List VisibleNode) (number : ℕ) (result : ShownResult) : Type 0 where
  pub query : ReadQuery
  pub query_is : slice_get queries number ≡ Some query
  pub result_is : IsResult query nodes (IsKept host query text) result

-- what queries of these numbers come to in a tree of the text, one after another
pub record AreResults (g : FlatGrammar) (queries : List ReadQuery) (host : ℕ → Bytes → Type 0)
    (text : Bytes) (t : ParseTree) (numbers : List ℕ) (results : List ShownResult)
    : Type 0 where
  pub count : length results ≡ length numbers
  pub each : (place number : ℕ) (result : ShownResult) → slice_get numbers place ≡ Some number
      → slice_get results place ≡ Some result
      → IsResultOf queries host text (visible_nodes g t) number result

-- What queries of these numbers find in a text: what they come to in the tree that parsing the
-- whole text from its start comes to.
pub record Finds (g : FlatGrammar) (queries : List ReadQuery) (host : ℕ → Bytes → Type 0)
    (text : Bytes) (numbers : List ℕ) (results : List ShownResult) : Type 0 where
  pub tree : ParseTree
  pub fresh : Fresh g text (tree_outcome tree)
  pub results_are : AreResults g queries host text tree numbers results

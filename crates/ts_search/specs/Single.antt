-- The matches of a pattern of one plain item, node by node.
use Rattle.std.specs.Prelude.{◌≡◌, ◌↔◌, ℕ, List, [], ◌∷◌, false}
use Rattle.std.specs.List.{Contains}
use Rattle.std.specs.List.Sorted.{IsStrictlySortedBy}
use Rattle.ts_query_syntax.specs.declared.read_query.Item.{Item}
use Rattle.ts_query_syntax.specs.declared.read_query.Pattern.{Pattern}
use Rattle.spec_matches.specs.declared.found.Capture.{Capture}
use Rattle.spec_matches.specs.declared.found.Match.{Match}
use Rattle.spec_matches.specs.declared.scene.Scene.{Scene}
use Rattle.spec_matches.specs.Matches.{capture_cmp}
use Rattle.ts_search.specs.Lone.{IsOnce}
use Rattle.ts_search.specs.Ways.{ItemTakes, slot_of}

-- an item takes one sibling, with no anchor before it
pub record IsSingle (i : Item) : Type 0 where
  pub loose : (slot_of i).tied ≡ false
  pub once : IsOnce i

-- a pattern is an item that takes one sibling, and no anchor stands by it
pub record IsAlone (i : Item) (pattern : Pattern) : Type 0 where
  pub is_it : pattern.items ≡ i ∷ []
  pub unclosed : pattern.closed ≡ false
  pub single : IsSingle i

-- the match at a node with these captures, where it is kept
pub record HitAt (kept : Match → Type 0) (k n : ℕ) (captures : List Capture) (m : Match)
    : Type 0 where
  pub pattern : m.pattern ≡ k
  pub root : m.root ≡ n
  pub members : (c : Capture) → Contains m.captures c ↔ Contains captures c
  pub order : IsStrictlySortedBy capture_cmp m.captures
  pub keeps : kept m

-- .. in one of the ways in which an item takes the node
abbrev pub HitsAt : Scene → (Match → Type 0) → ℕ → Item → ℕ → Match → Type 0
HitsAt scene kept k i n m = (c : List Capture) × ItemTakes scene i 0 n c × HitAt kept k n c m

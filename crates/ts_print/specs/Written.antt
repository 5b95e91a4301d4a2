-- Values as a writer of JSON has put them down, and visible nodes that are lent.
use Rattle.std.specs.Prelude.{◌≡◌, List, ◌++◌}
use Rattle.json.specs.Token.{Token}
use Rattle.json.specs.Tree.{json_tokens, members_tokens}
use Rattle.json.specs.Written.{Written}
use Rattle.serde_json.specs.Data.{Data, Members}
use Rattle.serde_json.specs.Written.{outline, members_outline}
use Rattle.spec_trees.specs.declared.visible.VisibleNode.{VisibleNode}
use Rattle.ts_print.specs.declared.tree.Row.{Row}

-- the tokens of a value
abbrev pub tokens_of : Data → List Token
tokens_of value = json_tokens (outline value)

-- these tokens come to those before, and what stood before all tokens stays
pub record AddsTokens (more : List Token) (old new : Written) : Type 0 where
  pub tokens : new.tokens ≡ old.tokens ++ more
  pub before : new.before ≡ old.before

-- a value comes to what is written before
abbrev pub AddsValue : Data → Written → Written → Type 0
AddsValue value = AddsTokens (tokens_of value)

-- the tokens of an object's members, and of its end
abbrev pub tokens_of_members : Members → List Token
tokens_of_members members = members_tokens (members_outline members)

-- What is written stands in an object before members that come after it: with these it comes to all
-- the members, however what is written then ends.
abbrev pub AddsBefore : Members → Members → Written → Written → Type 0
AddsBefore after all old new = (end : Written) → AddsTokens (tokens_of_members after) new end
    → AddsTokens (tokens_of_members all) old end

-- the visible node that is lent
abbrev pub lent_node : Row → VisibleNode
lent_node row = record {
  depth = row.depth;
  name = row.name.now;
  named = row.named;
  fields = row.fields.now;
  start = row.start;
  end = row.end;
}

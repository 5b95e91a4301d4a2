-- The trees of a grammar's rules by numbers, as the code has them. Serves private clauses and
-- proofs alone.
use Rattle.std.specs.Prelude.{◌≡◌, List, map}
use Rattle.ts_core.specs.declared.flat.Alias.{Alias}
use Rattle.ts_rules.specs.Numbers.{Lists, Numbers, tree_of}
use Rattle.ts_productions.specs.Grammars.{rule_tree}
use Rattle.ts_flat.specs.declared.trees.RuleTrees.{RuleTrees}

-- the trees of all rules, of all contents of repetitions and of all inlined rules, and the aliases
pub record AreTreesOf (n : Numbers) (x : Lists) (aliases : List Alias)
    (t : RuleTrees) : Type 0 where
  pub rules : t.rules.items ≡ map (rule_tree n) x.rules
  pub contents : t.contents.items ≡ map (tree_of n) x.contents
  pub inlined : t.inlined.items ≡ map (rule_tree n) x.inlined
  pub aliases_are : t.aliases.items ≡ aliases

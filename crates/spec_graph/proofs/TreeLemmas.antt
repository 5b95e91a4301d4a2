-- Trees that moves make, said both ways.
use Rattle.std.proofs.Common.{ℕ, Bool, true, false, List, [], ◌∷◌, ◌++◌}
use Rattle.ts_core.specs.declared.flat.FlatGrammar.{FlatGrammar}
use Rattle.spec_grammar.specs.Symbols.{is_repetition}
use Rattle.spec_trees.specs.declared.tree.Tree.{Tree}
use Rattle.spec_packing.proofs.CodeLemmas.{Words, nothing, a_node, an_element}
use Rattle.spec_packing.proofs.MadeLemmas.{IsMade, AllMade}
use Rattle.spec_graph.specs.Grounded.{Spells, nothing_more, a_tree, one_part, IsMadeTree, AreMadeTrees}
use Rattle.spec_graph.proofs.LayLemmas.{IsRuled, AreRuled}

words_spelled : (g : FlatGrammar) (b : Bool) (n : ℕ) (xs : List ℕ) → Words g b n xs → Spells g b n xs
words_spelled g _ _ _ (nothing b) = nothing_more b
words_spelled g _ _ _ (a_node n s p d z k xs ys w v) = a_tree n s p d z k xs ys (words_spelled g (is_repetition g s) k xs w) (words_spelled g false n ys v)
words_spelled g _ _ _ (an_element n a k xs ys w v) = one_part n a k xs ys (words_spelled g false k xs w) (words_spelled g true n ys v)

spelled_words : (g : FlatGrammar) (b : Bool) (n : ℕ) (xs : List ℕ) → Spells g b n xs → Words g b n xs
spelled_words g _ _ _ (nothing_more b) = nothing b
spelled_words g _ _ _ (a_tree n s p d z k xs ys w v) = a_node n s p d z k xs ys (spelled_words g (is_repetition g s) k xs w) (spelled_words g false n ys v)
spelled_words g _ _ _ (one_part n a k xs ys w v) = an_element n a k xs ys (spelled_words g false k xs w) (spelled_words g true n ys v)

made_tree : (g : FlatGrammar) (t : Tree) → IsMade g t → IsRuled g t → IsMadeTree g t
made_tree g t m ruled = record {
  spelled = words_spelled g false 1 _ m.spelled;
  form = m.form;
  counted = m.counted;
  numberless = m.numberless;
  whole = λ h. let w = m.whole h in record { pad = w.pad; span = w.span };
  rule = ruled;
  some = m.some;
  extra = λ h. let p = m.extra h in record { production = p.production; elements = p.elements; children = p.children };
}

tree_made : (g : FlatGrammar) (t : Tree) → IsMadeTree g t → IsMade g t
tree_made g t m = record {
  spelled = spelled_words g false 1 _ m.spelled;
  form = m.form;
  counted = m.counted;
  numberless = m.numberless;
  whole = λ h. let w = m.whole h in record { pad = w.pad; span = w.span };
  some = m.some;
  extra = λ h. let p = m.extra h in record { production = p.production; elements = p.elements; children = p.children };
}

pub made_trees : (g : FlatGrammar) (ts : List Tree) → AllMade g ts → AreRuled g ts → AreMadeTrees g ts
made_trees g [] a r = tt
made_trees g (t ∷ ts) a r = (made_tree g t a.0 r.0, made_trees g ts a.1 r.1)

pub trees_made : (g : FlatGrammar) (ts : List Tree) → AreMadeTrees g ts → AllMade g ts
trees_made g [] a = tt
trees_made g (t ∷ ts) a = (tree_made g t a.0, trees_made g ts a.1)

pub trees_ruled : (g : FlatGrammar) (above : List Tree) (t : Tree) (below : List Tree) → AreMadeTrees g (above ++ t ∷ below) → IsRuled g t
trees_ruled g [] t below a = a.0.rule
trees_ruled g (x ∷ above) t below a = trees_ruled g above t below a.1

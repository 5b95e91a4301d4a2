-- What acceptance makes of the only stack: the root is sound, and so are the nodes in it.
use Rattle.std.proofs.Common.{◌≡◌, ◌∙◌, sym, ap, subst, ℕ, suc, List, [], ◌∷◌, ◌++◌, length, reverse, None, arith}
use Rattle.std.proofs.lemmas.List.{reverse-reverse}
use Rattle.ts_base.specs.Bytes.{Bytes}
use Rattle.spec_trees.specs.declared.tree.Tree.{Tree}
use Rattle.spec_trees.specs.declared.tree.Tree.TheOpen.{Tree-F}
use Rattle.spec_trees.specs.declared.tree.Tree.TheViews.{out-roll-Tree}
use Rattle.spec_trees.specs.Trees.{symbol_of, production_of, total_of, state_of, children_of, span_of, all_spans}
use Rattle.spec_trees.specs.Made.{accepted}
use Rattle.spec_forced.specs.Sound.{States, IsSound, StandOnStack}
use Rattle.ts_table.specs.declared.view.ParseTable.{ParseTable}
use Rattle.ts_gss.specs.declared.layer.Layer.{Layer}
use Rattle.ts_gss.specs.Stacks.{trees_on}
use Rattle.ts_steps.specs.MoveLaws.{Laws}
use Rattle.ts_steps.specs.Good.{EachTree, IsGoodTree, AreGoodTrees}
use Rattle.ts_steps.proofs.NodeLemmas.{over_layer, each_append, each_left, each_right, each_turned}
use Rattle.ts_steps.proofs.AcceptLemmas.{Taken, whole, ready, same_accepted}
use Rattle.ts_steps.specs.Laws.{SoundLaws}
use Rattle.ts_steps.specs.Accepting.{IsWholeRoot}
use Rattle.ts_steps.specs.Heads.{IsOwnWithin}
use Rattle.ts_steps.proofs.OwnLemmas.{own_children, own_self}

module _ (laws : Laws) (t : ParseTable) (size place : ℕ) (stack under low rest : List Layer) (lifted lowest before after : List Tree) (root : Tree) where
  abbrev IsRoot : Type 0
  IsRoot = Taken laws t size place stack under low rest lifted lowest before after root

  accepted_is : (bs cs : List Tree) (extent : ℕ) → bs ≡ before → cs ≡ after → extent ≡ suc size → accepted root bs cs extent ≡ accepted root before after (suc size)
  accepted_is bs cs extent b a e = same_accepted laws t size place stack under low rest lifted lowest before after root bs cs extent b a e

  trees_are : IsRoot → trees_on stack ≡ reverse after ++ root ∷ reverse before
  trees_are k = (whole laws t size place stack under low rest lifted lowest before after root k).trees

  own_all : IsRoot → EachTree (IsOwnWithin t.grammar) (trees_on stack) → EachTree (IsOwnWithin t.grammar) (reverse after ++ root ∷ reverse before)
  own_all k own = subst (λ (l : List Tree). EachTree (IsOwnWithin t.grammar) l) (trees_are k) own

  filled : IsRoot → EachTree (IsOwnWithin t.grammar) (trees_on stack) → span_of root ≡ all_spans (children_of root)
  filled k own =
      let good : AreGoodTrees t.grammar (reverse after ++ root ∷ reverse before) = subst (λ (l : List Tree). AreGoodTrees t.grammar l) (trees_are k) k.good.good in
      let settled = (each_right (IsGoodTree t.grammar) (reverse after) (root ∷ reverse before) good).0.settled in
      let all = own_all k own in
      (own_self t.grammar root (each_right (IsOwnWithin t.grammar) (reverse after) (root ∷ reverse before) all).0 settled).filled (ready laws t size place stack under low rest lifted lowest before after root k).rule

  pub root_made : (bs cs : List Tree) (extent : ℕ) (u : Tree) → bs ≡ before → cs ≡ after → extent ≡ suc size → u ≡ accepted root bs cs extent → IsRoot → IsWholeRoot size (trees_on stack) u
  root_made bs cs extent u b a e is k =
      let w = whole laws t size place stack under low rest lifted lowest before after root k in
      record {
        before = before;
        root = root;
        after = after;
        stack_is = w.trees;
        before_extras = w.before_extras;
        root_fills = w.fills;
        after_extras = w.after_extras;
        node_is = is ∙ accepted_is bs cs extent b a e;
      }

  pub root_state : (bs cs : List Tree) (extent : ℕ) (u : Tree) → u ≡ accepted root bs cs extent → state_of u ≡ None
  root_state bs cs extent u is =
      ap state_of is ∙ ap (λ (x : Tree-F Tree). x.state) (out-roll-Tree (over_layer (symbol_of root) (production_of root) (total_of root) extent None [] ((bs ++ children_of root) ++ cs)))

  pub root_own : (bs cs : List Tree) (extent : ℕ) (u : Tree) → bs ≡ before → cs ≡ after → extent ≡ suc size → u ≡ accepted root bs cs extent → IsRoot → EachTree (IsOwnWithin t.grammar) (trees_on stack) → EachTree (IsOwnWithin t.grammar) (children_of u)
  root_own bs cs extent u b a e is k own =
      let all = own_all k own in
      let P : Tree → Type 0 = IsOwnWithin t.grammar in
      let back : EachTree P after = subst (λ (l : List Tree). EachTree P l) (reverse-reverse after) (each_turned P (reverse after) (each_left P (reverse after) (root ∷ reverse before) all)) in
      let mine = each_right P (reverse after) (root ∷ reverse before) all in
      let front : EachTree P before = subst (λ (l : List Tree). EachTree P l) (reverse-reverse before) (each_turned P (reverse before) mine.1) in
      let kids : children_of u ≡ (before ++ children_of root) ++ after =
      ap children_of (is ∙ accepted_is bs cs extent b a e)
      ∙ ap (λ (x : Tree-F Tree). x.children) (out-roll-Tree (over_layer (symbol_of root) (production_of root) (total_of root) (suc size) None [] ((before ++ children_of root) ++ after))) in
      subst (λ (l : List Tree). EachTree P l) (sym kids) (each_append P (before ++ children_of root) after (each_append P before (children_of root) front (own_children t.grammar root mine.0)) back)

  pub root_sound : (sound : SoundLaws) (states : States) (text : Bytes) (bs cs : List Tree) (extent : ℕ) (u : Tree) → bs ≡ before → cs ≡ after → extent ≡ suc size → u ≡ accepted root bs cs extent → length text ≡ size → IsRoot
      → EachTree (IsOwnWithin t.grammar) (trees_on stack) → StandOnStack t.grammar states text (trees_on stack) → IsSound t.grammar states text u
  root_sound sound states text bs cs extent u b a e is long k own stand =
      let spans : all_spans (trees_on stack) ≡ all_spans (reverse after ++ root ∷ reverse before) = ap all_spans (trees_are k) in
      let placed = k.good.spans in
      let within = k.good.within in
      subst (λ (x : Tree). IsSound t.grammar states text x) (sym (is ∙ accepted_is bs cs extent b a e))
      (sound.root t.grammar states text before after root (suc size) (filled k own) (subst (λ (l : List Tree). StandOnStack t.grammar states text l) (trees_are k) stand) (omega arith))

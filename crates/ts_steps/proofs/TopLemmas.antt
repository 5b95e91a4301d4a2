-- The node on top of a good stack, as the only child of a reduction.
use Rattle.std.proofs.Common.{◌≡◌, ◌∙◌, sym, ap, refl, subst, ℕ, suc, ◌+◌, ◌^◌, ◌<◌, ◌≤◌, false, List, [], ◌∷◌, length, Some, None, arith}
use Rattle.spec_trees.specs.declared.tree.Tree.{Tree}
use Rattle.spec_trees.specs.Trees.{all_spans, is_extra_node}
use Rattle.spec_trees.specs.Made.{filling, EndBy, most_span}
use Rattle.ts_table.specs.declared.view.ParseTable.{ParseTable}
use Rattle.ts_gss.specs.declared.layer.Layer.{Layer}
use Rattle.ts_gss.specs.Stacks.{trees_on, tree_on, depth_on, under_top, begins_with_extra}
use Rattle.ts_gss.specs.Paths.{IsLifted, IsTakenOff, depths_of, AreDepthsOf}
use Rattle.ts_steps.specs.LiveHeads.{IsGoodStack}
use Rattle.ts_steps.specs.Making.{IsSeenOf}
use Rattle.ts_steps.specs.Reducing.{IsTopSeen}
use Rattle.ts_steps.specs.declared.making.Seen.{Seen}
use Rattle.ts_steps.specs.declared.topmost.TopSeen.{TopSeen}
use Rattle.ts_steps.proofs.LayerLemmas.{layers_taken}
use Rattle.ts_steps.proofs.GatherLemmas.{Parts, parts, gathered, room_for}

-- a stack on which something can be read has a layer
pub some_read : (stack : List Layer) → 1 ≤ length (filling (trees_on stack)) → 0 < length stack
some_read [] one = absurd (omega (arith, one))
some_read (l ∷ stack) one = omega arith

-- the tree on top
pub top_tree : (stack : List Layer) → 1 ≤ length (filling (trees_on stack)) → (t : Tree) × (Some t ≡ tree_on stack)
top_tree [] one = absurd (omega (arith, one))
top_tree (l ∷ stack) one = (l.tree, refl)

top_lifted : (stack : List Layer) → begins_with_extra stack ≡ false → IsLifted stack [] stack
top_lifted [] plain = record { trees = refl; all_extras = tt; no_more = tt; rest = refl }
top_lifted (l ∷ stack) plain = record { trees = refl; all_extras = tt; no_more = plain; rest = refl }

top_taken : (stack below : List Layer) (t : Tree) → Some t ≡ tree_on stack → begins_with_extra stack ≡ false → below ≡ under_top stack → IsTakenOff stack 1 (t ∷ []) below
top_taken [] below t top plain under = absurd (let h : Some t ≡ None = top in cc)
top_taken (l ∷ stack) below t top plain under =
    let same : t ≡ l.tree = let h : Some t ≡ Some l.tree = top in cc in
    let fills : is_extra_node t ≡ false = ap is_extra_node same ∙ plain in
    record {
      trees_are = ap (λ (x : Tree). x ∷ trees_on stack) (sym same) ∙ ap (λ (ls : List Layer). t ∷ trees_on ls) (sym under);
      filled = rw fills refl;
      begins = fills;
      rest = under;
    }

top_depths : (stack : List Layer) (depth : ℕ) → Some depth ≡ depth_on stack → AreDepthsOf (depths_of 1 stack) depth 0
top_depths [] depth top = absurd (let h : Some depth ≡ None = top in cc)
top_depths (l ∷ stack) depth top =
    let same : depth ≡ l.depth = let h : Some depth ≡ Some l.depth = top in cc in
    ((omega (arith, same)), (omega arith))

module _ (t : ParseTable) (size place : ℕ) (stack below : List Layer) (child : Tree) where
  top_parts : IsGoodStack t size stack place → Some child ≡ tree_on stack → begins_with_extra stack ≡ false → below ≡ under_top stack → Parts t size stack place 1 [] (child ∷ []) below
  top_parts good top plain under = parts t size place 1 stack stack below [] [] (child ∷ []) good (top_lifted stack plain) (top_taken stack below child top plain under) refl

  -- there is room for what was examined
  pub top_room : (ahead : ℕ) → IsGoodStack t size stack place → Some child ≡ tree_on stack → begins_with_extra stack ≡ false → below ≡ under_top stack → place + ahead ≤ suc size → size ≤ most_span
      → (limit start : ℕ) × (limit < 2 ^ 31) × EndBy limit start (child ∷ []) × (start + (all_spans (child ∷ []) + ahead) ≤ limit)
  top_room ahead good top plain under room short =
      let r = room_for t size place 1 stack stack below [] [] (child ∷ []) ahead (top_parts good top plain under) room short in
      let sum = r.5 in
      (r.0, r.1, r.2, r.3, omega (arith, sum))

  -- what is known of it
  pub top_seen : (ahead : ℕ) (k : Seen) (s : TopSeen) → IsGoodStack t size stack place → Some child ≡ tree_on stack → begins_with_extra stack ≡ false → below ≡ under_top stack → Some s.depth ≡ depth_on stack
      → place + ahead ≤ suc size → 0 < ahead → IsSeenOf (child ∷ []) ahead k → s.extent ≡ k.extent → s.stated ≡ k.stated → (count : ℕ) → count ≡ 1 → IsTopSeen t size stack place count ahead child s below
  top_seen ahead k s good top plain under depth room some seen extent stated count one =
      let most : (start limit : ℕ) → start + (all_spans (child ∷ []) + ahead) ≤ limit → EndBy limit start (child ∷ []) → start + s.extent ≤ limit = λ start limit sum own. let m = seen.most start limit sum own in omega (arith, m, extent) in
      let covers : EndBy s.extent 0 (child ∷ []) = subst (λ (n : ℕ). EndBy n 0 (child ∷ [])) (sym extent) seen.covers in
      let past : all_spans (child ∷ []) + ahead ≤ s.extent = omega (arith, extent, seen.past) in
      subst (λ (n : ℕ). IsTopSeen t size stack place n ahead child s below) (sym one) (record {
        gathered = gathered t size place 1 stack stack below [] [] (child ∷ []) s.extent ahead (top_parts good top plain under) room covers (omega (arith, past, some)) (λ start limit sum own behind. most start limit (omega (arith, sum)) own);
        covers = record {
          inner = covers;
          lifted = tt;
          reach = omega (arith, past);
          least = λ limit own behind all. let m = most 0 limit (omega (arith, all)) own in omega (arith, m);
        };
        stated = (
          (λ h. (seen.stated.0 (sym stated ∙ h), tt)),
          (λ all. stated ∙ seen.stated.1 all.0),
        );
        layers = layers_taken stack stack below [] [] (child ∷ []) 1 s.depth 0 good.depths (top_lifted stack plain) (top_taken stack below child top plain under) refl (top_depths stack s.depth depth);
      })

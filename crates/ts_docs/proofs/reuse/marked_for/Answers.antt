use Rattle.std.proofs.Common.{refl, sym, subst}
use Rattle.ts_base.specs.Bytes.{Bytes}
use Rattle.ts_text.specs.Edit.{apply_of}
use Rattle.ts_text.specs.Text.{IsText}
use Rattle.spec_trees.specs.declared.tree.Tree.{Tree}
use Rattle.ts_table.specs.declared.view.ParseTable.{ParseTable}
use Rattle.ts_docs.specs.Reuse.{IsReusable}
use Rattle.ts_docs.proofs.ReuseLemmas.{kept_marked}
use Rattle.ts_docs.proofs.reuse.marked_for.Goals as goal

pub mark-requires : goal.mark-requires
mark-requires g c =
    let named = c.states_are_named.ensures.names c.args.table.now c.stands.ensures in
    let kept = subst (λ (t : ParseTable). IsReusable t c.args.base.now.text c.in-Some.tree.now) (sym c.requires.table) (c.in-Some.ensures c.in-Some.tree.now refl) in
    let is_text = subst (λ (bytes : Bytes). IsText bytes) c.text.ensures c.stands-2.ensures in
    c.marked_trees_are_sound.ensures.may_be_marked c.args.table.now.grammar named.0 c.args.base.now.text c.args.edit.now c.in-Some.tree.now is_text c.requires.in_range c.requires.fits (kept.sound named.0 named.1)

pub returns-in_ok-marked-in-Some : goal.returns-in_ok-marked-in-Some
returns-in_ok-marked-in-Some g c =
    let named = c.states_are_named.ensures.names c.args.table.now c.stands.ensures in
    let kept = subst (λ (t : ParseTable). IsReusable t c.args.base.now.text c.in-Some.tree.now) (sym c.requires.table) (c.in-Some.ensures c.in-Some.tree.now refl) in
    let is_text = subst (λ (bytes : Bytes). IsText bytes) c.text.ensures c.stands-2.ensures in
    let over = c.marked_trees_are_sound.ensures.may_be_marked c.args.table.now.grammar named.0 c.args.base.now.text c.args.edit.now c.in-Some.tree.now is_text c.requires.in_range c.requires.fits (kept.sound named.0 named.1) in
    subst (λ (tree : Tree). IsReusable c.args.table.now (apply_of c.args.base.now.text c.args.edit.now) tree) (sym c.in_ok-marked-in-Some.ensures)
    (kept_marked c.marked_trees_are_sound.ensures.sound c.settled_nodes_were_clear.ensures c.args.table.now c.args.base.now.text c.args.edit.now c.in-Some.tree.now is_text c.requires.in_range c.requires.fits c.nodes.ensures.whole over kept)

use Rattle.std.proofs.Common.{◌≡◌, ℕ, ◌<◌, List, length, set, subst, sym, refl, arith}
use Rattle.std.proofs.lemmas.List.{length-set}
use Rattle.spec_trees.specs.declared.visible.VisibleNode.{VisibleNode}
use Rattle.spec_trees.specs.Family.{depth_at, IsFirstChild}
use Rattle.ts_cursor.specs.Linked.{AreShallow}
use Rattle.ts_cursor.proofs.PathLemmas.{path_down}
use Rattle.ts_cursor.proofs.cursor.Cursor.first_child.Goals as goal

pub invariant_of-self : goal.invariant_of-self
invariant_of-self c =
    let nodes : List VisibleNode = c.self.inside.nodes in
    let number : ℕ = c.self.inside.number in
    let path : List ℕ = c.self.inside.path.items in
    let goes : IsFirstChild nodes number c.in-Some.child = c.in-Some.ensures in
    let deep : depth_at nodes number < length path = c.self.invariant.shallow number c.self.invariant.within in
    let is : c.depth-depth.result ≡ depth_at nodes number = c.depth-depth.ensures in
    record {
      few = c.self.invariant.few;
      within = goes.within;
      rise = c.self.invariant.rise;
      shallow = subst (λ (n : ℕ). AreShallow n nodes) (sym (length-set path c.depth-depth.result number)) c.self.invariant.shallow;
      pasts_are = c.self.invariant.pasts_are;
      path_is = path_down nodes number c.in-Some.child c.depth-depth.result path (set path c.depth-depth.result number) c.self.invariant.rise c.self.invariant.path_is goes is (omega (arith, deep, is)) refl;
    }

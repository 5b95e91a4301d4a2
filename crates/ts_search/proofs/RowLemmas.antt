-- A visible node by its parts.
use Rattle.std.proofs.Common.{◌≡◌, ℕ, Bool, List, Option, Some, None, option_map}
use Rattle.spec_trees.specs.declared.visible.VisibleNode.{VisibleNode}

some_is : {A : Type 0} (a b : A) → Some a ≡ Some b → a ≡ b
some_is a b e = cc

none_is : {A : Type 0} (a : A) → None ≡ Some a → ⊥
none_is a e = cc

pub node_is : (o : Option VisibleNode) (depth : ℕ) (name : List ℕ) (named : Bool) (fields : List ℕ) (start end : ℕ)
    → option_map (λ (n : VisibleNode). n.depth) o ≡ Some depth → option_map (λ (n : VisibleNode). n.name) o ≡ Some name → option_map (λ (n : VisibleNode). n.named) o ≡ Some named
    → option_map (λ (n : VisibleNode). n.fields) o ≡ Some fields → option_map (λ (n : VisibleNode). n.start) o ≡ Some start → option_map (λ (n : VisibleNode). n.end) o ≡ Some end
    → o ≡ Some (record { depth = depth; name = name; named = named; fields = fields; start = start; end = end })
node_is None depth name named fields start end d n m f s e = absurd (none_is depth d)
node_is (Some node) depth name named fields start end d n m f s e =
    let dd = some_is node.depth depth d in
    let nn = some_is node.name name n in
    let mm = some_is node.named named m in
    let ff = some_is node.fields fields f in
    let ss = some_is node.start start s in
    let ee = some_is node.end end e in
    λ i. Some (record { depth = dd i; name = nn i; named = mm i; fields = ff i; start = ss i; end = ee i })

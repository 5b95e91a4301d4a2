-- Lists of operands by their length.
use Rattle.std.proofs.Common.{◌≡◌, ◌≢◌, ap, refl, List, [], ◌∷◌, length, slice_get, drop, Some, arith}
use Rattle.std.specs.Prelude.{Option, None, true, false}
use Rattle.ts_query_tree.specs.declared.tree.Operand.{Operand}
use Rattle.ts_query_tree.specs.Trees.{is_nil}
use Rattle.ts_query_names.specs.declared.asking.Relation.{Relation}
use Rattle.ts_query_names.specs.Asking.{AskedForm, alone, form_from, form_of_operands}

pub alone_one : (f : Operand → Option AskedForm) (os : List Operand) (o : Operand) → length os ≡ 1 → slice_get os 0 ≡ Some o → alone f os ≡ f o
alone_one f [] o n at = absurd (omega (arith, n))
alone_one f (x ∷ []) o n at = let e : Some x ≡ Some o = at in ap f (let d : x ≡ o = cc in d)
alone_one f (x ∷ y ∷ os) o n at = absurd (omega (arith, n))

pub alone_none : (f : Operand → Option AskedForm) (os : List Operand) → length os ≢ 1 → alone f os ≡ None
alone_none f [] n = refl
alone_none f (x ∷ []) n = absurd (n refl)
alone_none f (x ∷ y ∷ os) n = refl

pub form_split : (r : Relation) (os : List Operand) (o : Operand) → is_nil os ≡ false → slice_get os 0 ≡ Some o → form_from r o (drop 1 os) ≡ form_of_operands r os
form_split r [] o n at = let e : true ≡ false = n in cc
form_split r (x ∷ os) o n at = let e : Some x ≡ Some o = at in let d : o ≡ x = cc in ap (λ (y : Operand). form_from r y os) d

pub ruleset alone_laws = (alone_one, alone_none)

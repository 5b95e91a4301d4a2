-- A rule from its shape, and how deep what stands inside it nests.
use Rattle.std.proofs.Common.{◌≡◌, ◌≢◌, ◌∙◌, sym, ap, subst, ℕ, zero, suc, ◌≤◌, ◌<◌, List, [], ◌∷◌, length, get_or, Some, Result, arith}
use Rattle.ts_ojson.specs.declared.value.OJson.{OJson}
use Rattle.ts_ojson.specs.Json.{Json, json_of, null, boolean, number, string, array, object, Members, depth, members_depth, items_depth}
use Rattle.ts_core.specs.declared.rule.Rule.{Rule}
use Rattle.ts_grammar_json.specs.declared.fault.GFault.{GFault}
use Rattle.ts_grammar_json.specs.declared.fault.GFault.TheVariants.{Memory}
use Rattle.ts_grammar_json.specs.declared.shape.Shape.{Shape}
use Rattle.ts_grammar_json.specs.Members.{items_json}
use Rattle.ts_grammar_json.specs.Kinds.{object_of}
use Rattle.ts_grammar_json.specs.Faults.{first}
use Rattle.ts_grammar_json.specs.Rules.{rule_faults, rule_of}
use Rattle.ts_grammar_json.specs.Found.{Gives}
use Rattle.ts_grammar_json.specs.Shape.{IsShape, faults_in, tree_in, height}

pub object_is : (j : Json) (ms : Members) → Some ms ≡ object_of j → j ≡ object ms
object_is null ms is = cc
object_is (boolean b) ms is = cc
object_is (number s) ms is = cc
object_is (string s) ms is = cc
object_is (array js) ms is = cc
object_is (object ns) ms is = let same : ms ≡ ns = cc in ap object (sym same)

pub rule_stops : (j : Json) (ms : Members) (fault : GFault) → Some ms ≡ object_of j → (fault ≢ Memory → first (rule_faults (object ms)) ≡ Some fault) → fault ≢ Memory → first (rule_faults j) ≡ Some fault
rule_stops j ms fault is gives other = ap (λ (i : Json). first (rule_faults i)) (object_is j ms is) ∙ gives other

pub rule_gives : (j : Json) (ms : Members) (shape : Shape) (r : Result Rule GFault) → Some ms ≡ object_of j → IsShape ms shape → Gives (faults_in shape) (tree_in shape) r → Gives (rule_faults j) (rule_of j) r
rule_gives j ms shape r is has gives =
    let faults : faults_in shape ≡ rule_faults j = sym has.faults ∙ ap rule_faults (sym (object_is j ms is)) in
    let tree : tree_in shape ≡ rule_of j = sym has.tree ∙ ap rule_of (sym (object_is j ms is)) in
    subst (λ (fs : List GFault). Gives fs (rule_of j) r) faults (subst (λ (t : Rule). Gives (faults_in shape) t r) tree gives)

pub shape_lower : (j : Json) (ms : Members) (shape : Shape) → Some ms ≡ object_of j → IsShape ms shape → height shape < depth j
shape_lower j ms shape is has =
    let low = has.lower in
    let deep : depth j ≡ suc (members_depth ms) = ap depth (object_is j ms is) in
    omega arith

pub item_lower : (all : List OJson) (i : ℕ) (a : OJson) → i < length all → a ≡ get_or all i a → depth (json_of a) ≤ items_depth (items_json all)
item_lower [] i a lt at = absurd (omega arith)
item_lower (b ∷ all) zero a lt at = let same : depth (json_of a) ≡ depth (json_of b) = ap (λ (v : OJson). depth (json_of v)) at in omega arith
item_lower (b ∷ all) (suc i) a lt at = let rest = item_lower all i a (omega arith) at in omega arith

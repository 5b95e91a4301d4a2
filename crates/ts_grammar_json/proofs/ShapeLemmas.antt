-- From the members of an object to the shape of its rule: what stands inside, found by name.
use Rattle.std.proofs.Common.{◌≡◌, ◌∙◌, sym, ap, refl, subst, ◌≤◌, max, Bool, true, false, cond, List, [], ◌∷◌, ◌++◌, Some, None, Result, Ok, Err, codes, arith}
use Rattle.std.specs.Str.{bytes_eq}
use Rattle.ts_base.specs.Bytes.{Bytes}
use Rattle.ts_ojson.specs.Json.{Members, no_members, member, depth, members_depth}
use Rattle.ts_core.specs.declared.rule.Rule.{Rule}
use Rattle.ts_grammar_json.specs.declared.fault.GFault.{GFault}
use Rattle.ts_grammar_json.specs.declared.rule_type.RuleType.{RuleType}
use Rattle.ts_grammar_json.specs.declared.shape.Shape.{Shape}
use Rattle.ts_grammar_json.specs.Pointer.{step}
use Rattle.ts_grammar_json.specs.Members.{find}
use Rattle.ts_grammar_json.specs.Faults.{under, first}
use Rattle.ts_grammar_json.specs.Rules.{Looked, looked, type_of, typed_faults, typed_tree, tree_of, own_faults, inner_faults, rule_faults, rule_of, array_faults, array_rules, faults_at_content, faults_at_members, content_of, rules_of}
use Rattle.ts_grammar_json.specs.Shape.{HasShape, IsShape, GivesShape, GivesIsShape, faults_of_content, faults_of_members, tree_of_content, trees_of_members, depth_of}

content_found : (ms : Members) → faults_at_content ms ≡ faults_of_content (find (codes "content") ms)
content_found no_members = refl
content_found (member name value ms) = by (bytes_eq name (codes "content")) (content_found ms)
  where
    by : (b : Bool) → faults_at_content ms ≡ faults_of_content (find (codes "content") ms)
        → cond b (under (step (codes "content")) (rule_faults value)) (faults_at_content ms) ≡ faults_of_content (cond b (Some value) (find (codes "content") ms))
    by true rest = refl
    by false rest = rest

members_found : (ms : Members) → faults_at_members ms ≡ faults_of_members (find (codes "members") ms)
members_found no_members = refl
members_found (member name value ms) = by (bytes_eq name (codes "members")) (members_found ms)
  where
    by : (b : Bool) → faults_at_members ms ≡ faults_of_members (find (codes "members") ms)
        → cond b (under (step (codes "members")) (array_faults value)) (faults_at_members ms) ≡ faults_of_members (cond b (Some value) (find (codes "members") ms))
    by true rest = refl
    by false rest = rest

tree_found : (ms : Members) → content_of ms ≡ tree_of_content (find (codes "content") ms)
tree_found no_members = refl
tree_found (member name value ms) = by (bytes_eq name (codes "content")) (tree_found ms)
  where
    by : (b : Bool) → content_of ms ≡ tree_of_content (find (codes "content") ms)
        → cond b (rule_of value) (content_of ms) ≡ tree_of_content (cond b (Some value) (find (codes "content") ms))
    by true rest = refl
    by false rest = rest

pub trees_found : (ms : Members) → rules_of ms ≡ trees_of_members (find (codes "members") ms)
trees_found no_members = refl
trees_found (member name value ms) = by (bytes_eq name (codes "members")) (trees_found ms)
  where
    by : (b : Bool) → rules_of ms ≡ trees_of_members (find (codes "members") ms)
        → cond b (array_rules value) (rules_of ms) ≡ trees_of_members (cond b (Some value) (find (codes "members") ms))
    by true rest = refl
    by false rest = rest

depth_found : (wanted : Bytes) (ms : Members) → depth_of (find wanted ms) ≤ members_depth ms
depth_found wanted no_members = omega arith
depth_found wanted (member name value ms) = by (bytes_eq name wanted) (depth_found wanted ms)
  where
    by : (b : Bool) → depth_of (find wanted ms) ≤ members_depth ms → depth_of (cond b (Some value) (find wanted ms)) ≤ max (depth value) (members_depth ms)
    by true rest = omega arith
    by false rest = omega arith

first_of_own : (own inner : List GFault) (fault : GFault) → first own ≡ Some fault → first (own ++ inner) ≡ Some fault
first_of_own [] inner fault is = absurd (let apart : None ≡ Some fault = is in cc)
first_of_own (one ∷ own) inner fault is = is

is_shape : (ms : Members) (t : RuleType) (shape : Shape) → type_of (find (codes "type") ms) ≡ Ok t → HasShape t (looked ms) shape → IsShape ms shape
is_shape ms t shape is has = record {
  faults =
      ap (λ (r : Result RuleType GFault). typed_faults r (looked ms) (faults_at_content ms) (faults_at_members ms)) is
      ∙ ap (λ (own : List GFault). own ++ inner_faults t (faults_at_content ms) (faults_at_members ms)) has.own
      ∙ ap (λ (content : List GFault). inner_faults t content (faults_at_members ms)) (content_found ms)
      ∙ ap (λ (members : List GFault). inner_faults t (faults_of_content (find (codes "content") ms)) members) (members_found ms)
      ∙ has.inner;
  tree =
      ap (λ (r : Result RuleType GFault). typed_tree r (looked ms) (content_of ms) (rules_of ms)) is
      ∙ ap (λ (content : Rule). tree_of t (looked ms) content (rules_of ms)) (tree_found ms)
      ∙ ap (λ (members : List Rule). tree_of t (looked ms) (tree_of_content (find (codes "content") ms)) members) (trees_found ms)
      ∙ has.tree;
  lower = let low = has.lower in let content = depth_found (codes "content") ms in let members = depth_found (codes "members") ms in omega arith;
}

pub gives_is_shape : (ms : Members) (t : RuleType) (m : Looked) (r : Result Shape GFault) → m ≡ looked ms → type_of m.kind ≡ Ok t → GivesShape t m r → GivesIsShape ms r
gives_is_shape ms t m (Ok shape) same is has =
    is_shape ms t shape (ap (λ (l : Looked). type_of l.kind) (sym same) ∙ is) (subst (λ (l : Looked). HasShape t l shape) same has)
gives_is_shape ms t m (Err fault) same is has = λ other.
    ap (λ (r : Result RuleType GFault). first (typed_faults r (looked ms) (faults_at_content ms) (faults_at_members ms))) (ap (λ (l : Looked). type_of l.kind) (sym same) ∙ is)
    ∙ first_of_own (own_faults t (looked ms)) (inner_faults t (faults_at_content ms) (faults_at_members ms)) fault (ap (λ (l : Looked). first (own_faults t l)) (sym same) ∙ has other)

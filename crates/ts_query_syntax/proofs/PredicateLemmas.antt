-- Predicates and patterns that are put at the end of those before them.
use Rattle.std.proofs.Common.{◌≡◌, sym, ap, subst, refl, List, [], ◌∷◌, ◌++◌, length, arith}
use Rattle.ts_base.specs.Bytes.{Bytes}
use Rattle.ts_query_tree.specs.declared.tree.Part.{Part}
use Rattle.ts_query_names.specs.Mentions.{Mention, kind, field, capture, predicate, nested}
use Rattle.ts_query_names.specs.Numbers.{Names}
use Rattle.ts_query_syntax.specs.declared.read_query.Predicate.{Predicate}
use Rattle.ts_query_syntax.specs.declared.read_query.Pattern.{Pattern}
use Rattle.ts_query_syntax.specs.Queries.{ArePredicates, AddsPredicates, IsPattern, ArePatterns}

pub predicates_then : (hosts : List Bytes) (n : Names) (ms more : List Mention) (ps qs : List Predicate)
    → ArePredicates hosts n ms ps → ArePredicates hosts n more qs → ArePredicates hosts n (ms ++ more) (ps ++ qs)
predicates_then hosts n [] more ps qs is next = subst (λ (xs : List Predicate). ArePredicates hosts n more (xs ++ qs)) (sym is) next
predicates_then hosts n (kind name named ∷ ms) more ps qs is next = predicates_then hosts n ms more ps qs is next
predicates_then hosts n (field name ∷ ms) more ps qs is next = predicates_then hosts n ms more ps qs is next
predicates_then hosts n (capture name ∷ ms) more ps qs is next = predicates_then hosts n ms more ps qs is next
predicates_then hosts n (nested at ∷ ms) more ps qs is next = predicates_then hosts n ms more ps qs is next
predicates_then hosts n (predicate name os ∷ ms) more ps qs is next =
    (is.0, is.1 ++ qs, ap (λ (xs : List Predicate). xs ++ qs) is.2, is.3, predicates_then hosts n ms more is.1 qs is.4 next)

-- one more mention
pub predicates_added : (hosts : List Bytes) (n : Names) (ms : List Mention) (m : Mention) (old new : List Predicate)
    → ArePredicates hosts n ms old → AddsPredicates hosts n m old new → ArePredicates hosts n (ms ++ m ∷ []) new
predicates_added hosts n ms m old new is adds =
    subst (λ (xs : List Predicate). ArePredicates hosts n (ms ++ m ∷ []) xs) (sym adds.1) (predicates_then hosts n ms (m ∷ []) old adds.0 is adds.2)

pub patterns_then : (hosts : List Bytes) (n : Names) (xs : List Part) (x : Part) (ps : List Pattern) (p : Pattern)
    → ArePatterns hosts n xs ps → IsPattern hosts n x p → ArePatterns hosts n (xs ++ x ∷ []) (ps ++ p ∷ [])
patterns_then hosts n [] x ps p is one = (p, [], ap (λ (qs : List Pattern). qs ++ p ∷ []) is, one, refl)
patterns_then hosts n (y ∷ xs) x ps p is one =
    (is.0, is.1 ++ p ∷ [], ap (λ (qs : List Pattern). qs ++ p ∷ []) is.2, is.3, patterns_then hosts n xs x is.1 p is.4 one)

-- there are as many patterns as parts
pub as_many : (hosts : List Bytes) (n : Names) (xs : List Part) (ps : List Pattern) → ArePatterns hosts n xs ps → length ps ≡ length xs
as_many hosts n [] ps is = ap (λ (qs : List Pattern). length qs) is
as_many hosts n (x ∷ xs) ps is =
    let rest : length is.1 ≡ length xs = as_many hosts n xs is.1 is.4 in
    let all : length ps ≡ length (is.0 ∷ is.1) = ap (λ (qs : List Pattern). length qs) is.2 in
    omega (arith, rest, all)

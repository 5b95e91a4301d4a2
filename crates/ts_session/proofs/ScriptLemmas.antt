-- What a script loads, and that one may be replayed.
use Rattle.std.proofs.Common.{◌≡◌, ◌∙◌, sym, ap, refl, subst, ℕ, ◌+◌, ◌^◌, ◌<◌, ◌≤◌, ◌⊎◌, inl, inr, List, [], ◌∷◌, ◌++◌, All, length, slice_get, get_or, Some, arith}
use Rattle.std.proofs.lemmas.Bool.{cases_lt}
use Rattle.std.proofs.lemmas.List.{length-append}
use Rattle.std.proofs.lemmas.List.Concat.{flat_map-append}
use Rattle.std.proofs.lemmas.List.Elements.{All-append, All-cons, All-nil}
use Rattle.ts_base.specs.Bytes.{Bytes}
use Rattle.ts_script.specs.declared.plan.Plan.{Plan}
use Rattle.ts_script.specs.declared.plan.ScriptStep.{ScriptStep}
use Rattle.ts_script.specs.declared.plan.ScriptStep.TheVariants as step
use Rattle.ts_script.specs.declared.said.Said.{Said}
use Rattle.ts_script.specs.declared.said.Said.TheVariants.{Text, Path, Load, Step}
use Rattle.ts_script.specs.Rules.{WithinLimits, most_queries, most_query_bytes, queries, query_in}
use Rattle.ts_script.specs.Script.{Follows, blank, says, Reads, at_end, next, IsScript}
use Rattle.ts_replay.specs.Replays.{AsksAmong, MayReplay}
use Rattle.ts_session.specs.Sessions.{IsSomeScript}

-- ---- queries

abbrev pub IsShort : Bytes → Type 0
IsShort text = length text ≤ most_query_bytes

-- what holds of the queries of the lines so far
record AreLoaded (said : List Said) : Type 0 where
  pub few : length (queries said) ≤ most_queries
  pub short : All IsShort (queries said)

few_in : (before : List Said) (s : Said) → WithinLimits before s → length (queries before) ≤ most_queries → length (queries before) + length (query_in s) ≤ most_queries
few_in before (Text t) within few = omega (arith, few)
few_in before (Path t) within few = omega (arith, few)
few_in before (Load t) within few = let lt = within.0 in omega (arith, lt)
few_in before (Step client document act) within few = omega (arith, few)

short_in : (before : List Said) (s : Said) → WithinLimits before s → All IsShort (query_in s)
short_in before (Text t) within = All-nil IsShort
short_in before (Path t) within = All-nil IsShort
short_in before (Load t) within = All-cons IsShort t [] within.1 (All-nil IsShort)
short_in before (Step client document act) within = All-nil IsShort

one_more : (before : List Said) (s : Said) → WithinLimits before s → AreLoaded before → AreLoaded (before ++ s ∷ [])
one_more before s within are = record {
  few =
      let e : length (queries (before ++ s ∷ [])) ≡ length (queries before) + length (query_in s ++ []) = ap length (flat_map-append query_in before (s ∷ [])) ∙ length-append (queries before) (query_in s ++ []) in
      let f : length (query_in s ++ []) ≡ length (query_in s) + 0 = length-append (query_in s) [] in
      let few : length (queries before) + length (query_in s) ≤ most_queries = few_in before s within are.few in
      omega (arith, e, f, few);
  short = subst (All IsShort) (sym (flat_map-append query_in before (s ∷ []))) (All-append IsShort (queries before) (query_in s ++ []) are.short (All-append IsShort (query_in s) [] (short_in before s within) (All-nil IsShort)));
}

followed : (before : List Said) (line : Bytes) (after : List Said) → Follows before line after → AreLoaded before → AreLoaded after
followed before line _ (blank b) are = are
followed before line _ (says {said} filled read order within) are = one_more before said within are

all_read : (before : List Said) (lines : List Bytes) (said : List Said) → Reads before lines said → AreLoaded before → AreLoaded said
all_read before _ _ at_end are = are
all_read before _ said (next {mid = mid} {line = line} {lines = lines} follows reads) are = all_read mid lines said reads (followed before line mid follows are)

loaded : (bytes : Bytes) (plan : Plan) (is : IsScript bytes plan) → AreLoaded is.said
loaded bytes plan is = all_read [] is.lines is.said is.reads (record { few = omega arith; short = All-nil IsShort })

pub queries_short : (bytes : Bytes) (plan : Plan) → IsScript bytes plan → All IsShort plan.queries
queries_short bytes plan is = let asks = is.asks in let are = loaded bytes plan is in subst (All IsShort) (sym asks.loaded) are.short

pub queries_few : (bytes : Bytes) (plan : Plan) → IsScript bytes plan → length plan.queries ≤ 2 ^ 32
queries_few bytes plan is =
    let asks = is.asks in
    let are = loaded bytes plan is in
    let few = are.few in
    let e : length plan.queries ≡ length (queries is.said) = ap length asks.loaded in
    omega (arith, few, e)

-- ---- some script

pub is_some : (plan : Plan) → ((bytes : Bytes) × IsScript bytes plan) → IsSomeScript plan
is_some plan is = λ none. none is.0 is.1

le_stable : (m n : ℕ) → ((m ≤ n → ⊥) → ⊥) → m ≤ n
le_stable m n h = elim (cases_lt n m) [
  | inl above ↦ absurd (h (λ le. omega (arith, above, le)))
  | inr most ↦ most
]

lt_stable : (m n : ℕ) → ((m < n → ⊥) → ⊥) → m < n
lt_stable m n h = elim (cases_lt m n) [
  | inl below ↦ below
  | inr least ↦ absurd (h (λ lt. omega (arith, least, lt)))
]

among_stable : (n : ℕ) (s : ScriptStep) → ((AsksAmong n s → ⊥) → ⊥) → AsksAmong n s
among_stable n (step.Edit document edit) h = tt
among_stable n (step.Look document) h = tt
among_stable n (step.Query document qs) h = λ k d inside. lt_stable (get_or qs k d) n (λ fails. h (λ all. fails (all k d inside)))
among_stable n (step.Tree document) h = tt
among_stable n (step.Await document version) h = tt

module _ (law : (bytes : Bytes) (plan : Plan) → IsScript bytes plan → MayReplay plan) where
  pub may_replay : (plan : Plan) → IsSomeScript plan → MayReplay plan
  may_replay plan some = record {
    documents = le_stable _ _ (λ fails. some (λ bytes is. let may = law bytes plan is in fails may.documents));
    clients = le_stable _ _ (λ fails. some (λ bytes is. let may = law bytes plan is in fails may.clients));
    few = λ client steps at. le_stable _ _ (λ fails. some (λ bytes is. let may = law bytes plan is in fails (may.few client steps at)));
    on = λ client number s at. lt_stable _ _ (λ fails. some (λ bytes is. let may = law bytes plan is in fails (may.on client number s at)));
    asks = λ client number s at. among_stable _ s (λ fails. some (λ bytes is. let may = law bytes plan is in fails (may.asks client number s at)));
  }

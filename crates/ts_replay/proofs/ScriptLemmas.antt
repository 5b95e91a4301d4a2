-- What holds of all that a script says.
use Rattle.std.proofs.Common.{◌≡◌, ◌∙◌, sym, ap, refl, subst, ℕ, zero, suc, ◌+◌, ◌<◌, ◌≤◌, ◌⊎◌, inl, inr, ⊎_elim, max, nat_eq, Bool, true, false, if◌then◌else◌, List, [], ◌∷◌, ◌++◌, All, length, slice_get, get_or, Option, Some, None, arith}
use Rattle.std.specs.Option.{option_and_then}
use Rattle.std.proofs.lemmas.List.{length-append}
use Rattle.std.proofs.lemmas.List.Concat.{flat_map-append}
use Rattle.std.proofs.lemmas.Option.{slice_get_within}
use Rattle.ts_base.specs.Bytes.{Bytes}
use Rattle.ts_script.specs.declared.plan.Plan.{Plan}
use Rattle.ts_script.specs.declared.plan.ScriptStep.{ScriptStep}
use Rattle.ts_script.specs.declared.plan.ScriptStep.TheVariants as step
use Rattle.ts_script.specs.declared.plan.Source.{Source}
use Rattle.ts_script.specs.declared.said.Action.{Action}
use Rattle.ts_script.specs.declared.said.Action.TheVariants as action
use Rattle.ts_script.specs.declared.said.Said.{Said}
use Rattle.ts_script.specs.declared.said.Said.TheVariants.{Text, Path, Load, Step}
use Rattle.ts_script.specs.Rules.{StandsRight, WithinLimits, most_clients, most_documents, most_script_steps, AsksBelow, queries, query_in, sources, source_in, steps, steps_of, step_in, step_of, step_of_client, clients_in, client_count}
use Rattle.ts_script.specs.Script.{Follows, blank, says, Reads, at_end, next, IsScript}
use Rattle.spec_history.specs.Replies.{document_of}
use Rattle.ts_replay.specs.Replays.{AsksAmong, MayReplay}

-- what holds of the lines so far
record AreSaid (said : List Said) : Type 0 where
  pub clients : client_count said ≤ most_clients
  pub documents : length (sources said) ≤ most_documents
  pub few : length (steps said) ≤ most_script_steps
  pub short : (c : ℕ) → length (steps_of c said) ≤ length (steps said)
  pub on : (c k : ℕ) (s : ScriptStep) → slice_get (steps_of c said) k ≡ Some s → document_of s < length (sources said)
  pub asks : (c k : ℕ) (s : ScriptStep) → slice_get (steps_of c said) k ≡ Some s → AsksAmong (length (queries said)) s

document_is : (document : ℕ) (act : Action) → document_of (step_of document act) ≡ document
document_is document (action.Change p) = refl
document_is document (action.Changes ps) = refl
document_is document action.Look = refl
document_is document (action.Query qs) = refl
document_is document action.Tree = refl
document_is document (action.Await version) = refl

-- the queries that a line asks are among those above it
asks_above : (n document : ℕ) (act : Action) → AsksBelow n act → AsksAmong n (step_of document act)
asks_above n document (action.Change p) below = tt
asks_above n document (action.Changes ps) below = tt
asks_above n document action.Look below = tt
asks_above n document (action.Query qs) below = below
asks_above n document action.Tree below = tt
asks_above n document (action.Await version) below = tt

all_lower : (n m : ℕ) → n ≤ m → (qs : List ℕ) → All (λ (q : ℕ). q < n) qs → All (λ (q : ℕ). q < m) qs
all_lower n m le qs all k d lt = let low : get_or qs k d < n = all k d lt in omega (arith, low, le)

among_more : (n m : ℕ) → n ≤ m → (s : ScriptStep) → AsksAmong n s → AsksAmong m s
among_more n m le (step.Edit document edit) among = tt
among_more n m le (step.Look document) among = tt
among_more n m le (step.Query document qs) among = all_lower n m le qs among
among_more n m le (step.Tree document) among = tt
among_more n m le (step.Await document version) among = tt

swapped : (a b c : ℕ) → max a (max b c) ≡ max b (max a c)
swapped a b c = grind arith

counted : (before : List Said) (s : Said) → client_count (before ++ s ∷ []) ≡ max (clients_in s) (client_count before)
counted [] s = refl
counted (x ∷ xs) s = ap (max (clients_in x)) (counted xs s) ∙ swapped (clients_in x) (clients_in s) (client_count xs)

clients_few : (before : List Said) (s : Said) → client_count before ≤ most_clients → clients_in s ≤ most_clients → client_count (before ++ s ∷ []) ≤ most_clients
clients_few before s a b = let e : client_count (before ++ s ∷ []) ≡ max (clients_in s) (client_count before) = counted before s in omega (arith, e, a, b)

own_short : (c : ℕ) (s : Said) → length (step_of_client c s) ≤ length (step_in s)
own_short c (Text t) = omega arith
own_short c (Path t) = omega arith
own_short c (Load t) = omega arith
own_short c (Step client document act) = by (nat_eq c client)
  where
    by : (b : Bool) → length (if b then step_of document act ∷ [] else []) ≤ 1
    by true = omega arith
    by false = omega arith

own_on : (c : ℕ) (before : List Said) (s : Said) → StandsRight before s → (k : ℕ) (x : ScriptStep) → slice_get (step_of_client c s) k ≡ Some x → document_of x < length (sources before)
own_on c before (Text t) order k x h = absurd (let f : None ≡ Some x = h in cc)
own_on c before (Path t) order k x h = absurd (let f : None ≡ Some x = h in cc)
own_on c before (Load t) order k x h = absurd (let f : None ≡ Some x = h in cc)
own_on c before (Step client document act) order k x h = by (nat_eq c client) k h
  where
    by : (b : Bool) (k : ℕ) → slice_get (if b then step_of document act ∷ [] else []) k ≡ Some x → document_of x < length (sources before)
    by true zero e =
        let same : step_of document act ≡ x = (let f : Some (step_of document act) ≡ Some x = e in cc) in
        subst (λ (d : ℕ). d < length (sources before)) (sym (document_is document act) ∙ ap document_of same) order.0
    by true (suc k) e = absurd (let f : None ≡ Some x = e in cc)
    by false k e = absurd (let f : None ≡ Some x = e in cc)

own_asks : (c : ℕ) (before : List Said) (s : Said) → StandsRight before s → (k : ℕ) (x : ScriptStep) → slice_get (step_of_client c s) k ≡ Some x → AsksAmong (length (queries before)) x
own_asks c before (Text t) order k x h = absurd (let f : None ≡ Some x = h in cc)
own_asks c before (Path t) order k x h = absurd (let f : None ≡ Some x = h in cc)
own_asks c before (Load t) order k x h = absurd (let f : None ≡ Some x = h in cc)
own_asks c before (Step client document act) order k x h = by (nat_eq c client) k h
  where
    by : (b : Bool) (k : ℕ) → slice_get (if b then step_of document act ∷ [] else []) k ≡ Some x → AsksAmong (length (queries before)) x
    by true zero e =
        let same : step_of document act ≡ x = (let f : Some (step_of document act) ≡ Some x = e in cc) in
        subst (AsksAmong (length (queries before))) same (asks_above (length (queries before)) document act order.1)
    by true (suc k) e = absurd (let f : None ≡ Some x = e in cc)
    by false k e = absurd (let f : None ≡ Some x = e in cc)

clients_small : (before : List Said) (s : Said) → WithinLimits before s → clients_in s ≤ most_clients
clients_small before (Text t) within = omega arith
clients_small before (Path t) within = omega arith
clients_small before (Load t) within = omega arith
clients_small before (Step client document act) within = within.0

steps_few : (before : List Said) (s : Said) → WithinLimits before s → length (steps before) ≤ most_script_steps → length (steps before) + length (step_in s) ≤ most_script_steps
steps_few before (Text t) within few = omega (arith, few)
steps_few before (Path t) within few = omega (arith, few)
steps_few before (Load t) within few = omega (arith, few)
steps_few before (Step client document act) within few = let lt = within.1 in omega (arith, lt)

documents_few : (before : List Said) (s : Said) → WithinLimits before s → length (sources before) ≤ most_documents → length (sources before) + length (source_in s) ≤ most_documents
documents_few before (Text t) within few = let lt = within.0 in omega (arith, lt)
documents_few before (Path t) within few = omega (arith, within)
documents_few before (Load t) within few = omega (arith, few)
documents_few before (Step client document act) within few = omega (arith, few)

at_either : {X : Type 0} (xs ys : List X) (k : ℕ) (x : X) → slice_get (xs ++ ys) k ≡ Some x → ((j : ℕ) × (slice_get xs j ≡ Some x)) ⊎ ((j : ℕ) × (slice_get ys j ≡ Some x))
at_either [] ys k x h = inr (k, h)
at_either (y ∷ xs) ys zero x h = inl (0, h)
at_either (y ∷ xs) ys (suc k) x h = ⊎_elim (λ w. inl (suc w.0, w.1)) (λ w. inr w) (at_either xs ys k x h)

one_more : (before : List Said) (s : Said) → StandsRight before s → WithinLimits before s → AreSaid before → AreSaid (before ++ s ∷ [])
one_more before s order within are = record {
  clients = clients_few before s are.clients (clients_small before s within);
  documents =
      let e : length (sources (before ++ s ∷ [])) ≡ length (sources before) + length (source_in s ++ []) = ap length (flat_map-append source_in before (s ∷ [])) ∙ length-append (sources before) (source_in s ++ []) in
      let f : length (source_in s ++ []) ≡ length (source_in s) + 0 = length-append (source_in s) [] in
      let few : length (sources before) + length (source_in s) ≤ most_documents = documents_few before s within are.documents in
      omega (arith, e, f, few);
  few = let e = count in let few : length (steps before) + length (step_in s) ≤ most_script_steps = steps_few before s within are.few in omega (arith, e, few);
  short = λ c.
      let e : length (steps_of c (before ++ s ∷ [])) ≡ length (steps_of c before) + length (step_of_client c s ++ []) = ap length (flat_map-append (step_of_client c) before (s ∷ [])) ∙ length-append (steps_of c before) (step_of_client c s ++ []) in
      let f : length (step_of_client c s ++ []) ≡ length (step_of_client c s) + 0 = length-append (step_of_client c s) [] in
      let g = count in
      let old = are.short c in
      let new : length (step_of_client c s) ≤ length (step_in s) = own_short c s in
      omega (arith, e, f, g, old, new);
  on = λ c k x h.
      let e : length (sources (before ++ s ∷ [])) ≡ length (sources before) + length (source_in s ++ []) = ap length (flat_map-append source_in before (s ∷ [])) ∙ length-append (sources before) (source_in s ++ []) in
      ⊎_elim
      (λ w. let lt : document_of x < length (sources before) = are.on c w.0 x w.1 in omega (arith, e, lt))
      (λ w. ⊎_elim
      (λ v. let lt : document_of x < length (sources before) = own_on c before s order v.0 x v.1 in omega (arith, e, lt))
      (λ v. absurd (let f : None ≡ Some x = v.1 in cc))
      (at_either (step_of_client c s) [] w.0 x w.1))
      (at_either (steps_of c before) (step_of_client c s ++ []) k x (ap (λ (l : List ScriptStep). slice_get l k) (sym (flat_map-append (step_of_client c) before (s ∷ []))) ∙ h));
  asks = λ c k x h. among_more (length (queries before)) (length (queries (before ++ s ∷ [])))
      (let e : length (queries (before ++ s ∷ [])) ≡ length (queries before) + length (query_in s ++ []) = ap length (flat_map-append query_in before (s ∷ [])) ∙ length-append (queries before) (query_in s ++ []) in omega (arith, e))
      x
      (⊎_elim
      (λ w. are.asks c w.0 x w.1)
      (λ w. ⊎_elim
      (λ v. own_asks c before s order v.0 x v.1)
      (λ v. absurd (let f : None ≡ Some x = v.1 in cc))
      (at_either (step_of_client c s) [] w.0 x w.1))
      (at_either (steps_of c before) (step_of_client c s ++ []) k x (ap (λ (l : List ScriptStep). slice_get l k) (sym (flat_map-append (step_of_client c) before (s ∷ []))) ∙ h)));
}
  where
    count : length (steps (before ++ s ∷ [])) ≡ length (steps before) + length (step_in s)
    count =
        let e : length (steps (before ++ s ∷ [])) ≡ length (steps before) + length (step_in s ++ []) = ap length (flat_map-append step_in before (s ∷ [])) ∙ length-append (steps before) (step_in s ++ []) in
        let f : length (step_in s ++ []) ≡ length (step_in s) + 0 = length-append (step_in s) [] in
        omega (arith, e, f)

followed : (before : List Said) (line : Bytes) (after : List Said) → Follows before line after → AreSaid before → AreSaid after
followed before line _ (blank b) are = are
followed before line _ (says {said} filled read order within) are = one_more before said order within are

all_read : (before : List Said) (lines : List Bytes) (said : List Said) → Reads before lines said → AreSaid before → AreSaid said
all_read before _ _ at_end are = are
all_read before _ said (next {mid = mid} {line = line} {lines = lines} follows reads) are = all_read mid lines said reads (followed before line mid follows are)

none_said : AreSaid []
none_said = record {
  clients = omega arith;
  documents = omega arith;
  few = omega arith;
  short = λ c. omega arith;
  on = λ c k s h. absurd (let f : None ≡ Some s = h in cc);
  asks = λ c k s h. absurd (let f : None ≡ Some s = h in cc);
}

pub script_may : (bytes : Bytes) (plan : Plan) → IsScript bytes plan → MayReplay plan
script_may bytes plan is = record {
  documents = (let e : length plan.documents ≡ length (sources is.said) = ap length is.asks.documents in let few = are.documents in omega (arith, e, few));
  clients = (let e = is.asks.clients in let few = are.clients in omega (arith, e, few));
  few = λ c steps steps_are.
      let e : length steps ≡ length (steps_of c is.said) = ap length (same c steps steps_are) in
      let short = are.short c in
      let few = are.few in
      omega (arith, e, short, few);
  on = λ c k s asked. on_document c k s (slice_get plan.clients c) refl asked;
  asks = λ c k s asked. asks_loaded c k s (slice_get plan.clients c) refl asked;
}
  where
    are : AreSaid is.said
    are = all_read [] is.lines is.said is.reads none_said

    same : (c : ℕ) (steps : List ScriptStep) → slice_get plan.clients c ≡ Some steps → steps ≡ steps_of c is.said
    same c steps steps_are =
        let lt : c < length plan.clients = slice_get_within plan.clients c steps steps_are in
        let count = is.asks.clients in
        let f : Some steps ≡ Some (steps_of c is.said) = sym steps_are ∙ is.asks.of_each c (omega (arith, lt, count)) in cc

    on_document : (c k : ℕ) (s : ScriptStep) (o : Option (List ScriptStep)) → slice_get plan.clients c ≡ o
        → option_and_then (λ (steps : List ScriptStep). slice_get steps k) o ≡ Some s → document_of s < length plan.documents
    on_document c k s None steps_are asked = absurd (let f : None ≡ Some s = asked in cc)
    on_document c k s (Some steps) steps_are asked =
        let lt : document_of s < length (sources is.said) = are.on c k s (ap (λ (l : List ScriptStep). slice_get l k) (sym (same c steps steps_are)) ∙ asked) in
        subst (λ (l : List Source). document_of s < length l) (sym is.asks.documents) lt

    asks_loaded : (c k : ℕ) (s : ScriptStep) (o : Option (List ScriptStep)) → slice_get plan.clients c ≡ o
        → option_and_then (λ (steps : List ScriptStep). slice_get steps k) o ≡ Some s → AsksAmong (length plan.queries) s
    asks_loaded c k s None steps_are asked = absurd (let f : None ≡ Some s = asked in cc)
    asks_loaded c k s (Some steps) steps_are asked =
        subst (λ (l : List Bytes). AsksAmong (length l) s) (sym is.asks.loaded)
        (are.asks c k s (ap (λ (l : List ScriptStep). slice_get l k) (sym (same c steps steps_are)) ∙ asked))

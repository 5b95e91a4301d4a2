-- The steps of going through what patterns name.
use Rattle.std.proofs.Common.{◌≡◌, ◌∙◌, sym, ap, subst, refl, ℕ, ◌+◌, ◌<◌, ◌≤◌, List, [], ◌∷◌, ◌++◌, length, get_or, take, Some}
use Rattle.std.specs.Prelude.{Bool, not, ◌&&◌, Option, None, Result, Ok, Err, IsErrAnd}
use Rattle.std.specs.List.{flat_map}
use Rattle.std.proofs.lemmas.List.{take_more, map-append}
use Rattle.ts_base.specs.Bytes.{Bytes}
use Rattle.ts_core.specs.declared.flat.FlatGrammar.{FlatGrammar}
use Rattle.ts_query_tree.specs.declared.tree.Part.{Part}
use Rattle.ts_query_tree.specs.declared.tree.Written.{Written}
use Rattle.ts_query_tree.specs.declared.tree.Operand.{Operand}
use Rattle.ts_query_names.specs.declared.flaw.Flaw.{Flaw}
use Rattle.ts_query_names.specs.declared.mention.Mention.{Mention as Lent}
use Rattle.ts_query_names.specs.Asking.{asking_of, asked_form}
use Rattle.ts_query_names.specs.Checks.{Check, mention_checks, pattern_checks, checks, form_checks}
use Rattle.ts_query_names.specs.Given.{BeginWith}
use Rattle.ts_query_names.specs.Lent.{mention_told, mentions_told}
use Rattle.ts_query_names.specs.Mentions.{Mention, mentioned_by, item_captures}
use Rattle.ts_query_names.specs.Kinds.{first_sights}
use Rattle.std.specs.Str.{bytes_eq}
use Rattle.ts_query_tree.specs.Trees.{is_nil}
use Rattle.ts_query_syntax.specs.declared.level.Level.{Level}
use Rattle.ts_query_syntax.specs.Items.{pieces}
use Rattle.ts_query_syntax.specs.Levels.{empty_level, after}
use Rattle.ts_query_syntax.proofs.PieceLemmas.{after_is}
use Rattle.ts_query_names.specs.Mentions as mention
use Rattle.ts_query_names.specs.Numbers.{Names}
use Rattle.ts_query_syntax.specs.declared.fault.QueryFault.{QueryFault}
use Rattle.ts_query_syntax.specs.declared.fault.QueryFault.TheVariants as fault
use Rattle.ts_query_syntax.specs.declared.read_query.Predicate.{Predicate}
use Rattle.ts_query_syntax.specs.declared.read_query.Pattern.{Pattern}
use Rattle.ts_query_syntax.specs.Judging.{Kept, Runs, ends, flaw_fault, fault_in}
use Rattle.ts_query_syntax.specs.Queries.{ArePredicates, AddsPredicates, IsPattern, ArePatterns}
use Rattle.ts_query_syntax.proofs.JudgingLemmas.{runs_starved, runs_memory, runs_none, runs_wrong}
use Rattle.ts_query_syntax.proofs.LoopLemmas.{runs_more, runs_end, runs_halt, runs_out, flat_told}
use Rattle.ts_query_syntax.proofs.PredicateLemmas.{predicates_added, patterns_then}

-- ---- how an answer ends

pub at_fault : {A : Type 0} (cs : List Check) (s t : Kept) (e : QueryFault) (r : Result A QueryFault) → IsErrAnd r (λ y. y ≡ e) → Runs cs s t (Some e) → Runs cs s t (fault_in r)
at_fault cs s t e (Ok x) is run = absurd is
at_fault cs s t e (Err y) is run = subst (λ (z : QueryFault). Runs cs s t (Some z)) (sym is) run

-- memory runs out at once
pub out_at_once : {A : Type 0} (cs : List Check) (s : Kept) (r : Result A QueryFault) → IsErrAnd r (λ y. y ≡ fault.Memory) → Runs cs s s (fault_in r)
out_at_once cs s r is = at_fault cs s s fault.Memory r is (runs_memory cs s)

-- memory runs out where all is gone through
pub out_behind : {A : Type 0} (cs : List Check) (s t : Kept) (r : Result A QueryFault) → IsErrAnd r (λ y. y ≡ fault.Memory) → Runs cs s t None → Runs cs s t (fault_in r)
out_behind cs s t r is run = at_fault cs s t fault.Memory r is (runs_starved cs s t None run refl)

-- a flaw comes first
pub flawed : {A : Type 0} (cs : List Check) (s : Kept) (f : Flaw) (r : Result A QueryFault) → IsErrAnd r (λ y. y ≡ flaw_fault f) → BeginWith cs f → Runs cs s s (fault_in r)
flawed cs s f r is h = at_fault cs s s (flaw_fault f) r is (runs_wrong cs h.0 f s h.1)

-- ---- what a pattern names

module _ (g : FlatGrammar) (hosts own : List Bytes) (names : Names) (ms : List Lent) where
  abbrev checks_at : Lent → List Check
  checks_at m = mention_checks g hosts own (mention_told m)

  abbrev pub Sofar : Kept → Kept → ℕ → List Predicate → Type 0
  Sofar s t i found =
      Runs (flat_map (λ (m : Lent). mention_checks g hosts own (mention_told m)) (take i ms)) s t None
      × ArePredicates hosts names (mentions_told (take i ms)) found

  pub sofar_init : (s : Kept) (found : List Predicate) → found ≡ [] → Sofar s s 0 found
  sofar_init s found is = (ends s, is)

  pub sofar_more : (i : ℕ) (x : Lent) (s m t : Kept) (found new : List Predicate) → i < length ms → x ≡ get_or ms i x → Sofar s m i found
      → Runs (mention_checks g hosts own (mention_told x)) m t None → AddsPredicates hosts names (mention_told x) found new → Sofar s t (i + 1) new
  sofar_more i x s m t found new lt is before next adds = (
    runs_more checks_at ms i x s m t None lt is before.0 next,
    subst (λ (us : List Mention). ArePredicates hosts names us new) step (predicates_added hosts names (mentions_told (take i ms)) (mention_told x) found new before.1 adds),
  )
    where
      step : mentions_told (take i ms) ++ mention_told x ∷ [] ≡ mentions_told (take (i + 1) ms)
      step = sym (map-append mention_told (take i ms) (x ∷ [])) ∙ ap mentions_told (ap (λ (y : Lent). take i ms ++ y ∷ []) is ∙ sym (take_more ms i x lt))

  pub sofar_runs : (i : ℕ) (s t : Kept) (found : List Predicate) → length ms ≤ i → Sofar s t i found
      → Runs (flat_map (mention_checks g hosts own) (mentions_told ms)) s t None
  sofar_runs i s t found le h =
      subst (λ (cs : List Check). Runs cs s t None) (flat_told (mention_checks g hosts own) mention_told ms) (runs_end checks_at ms i s t le h.0)

  pub sofar_halt : (i : ℕ) (x : Lent) (s m t : Kept) (e : QueryFault) (found : List Predicate) → i < length ms → x ≡ get_or ms i x → Sofar s m i found
      → Runs (mention_checks g hosts own (mention_told x)) m t (Some e) → Runs (flat_map (mention_checks g hosts own) (mentions_told ms)) s t (Some e)
  sofar_halt i x s m t e found lt is before next =
      subst (λ (cs : List Check). Runs cs s t (Some e)) (flat_told (mention_checks g hosts own) mention_told ms) (runs_halt checks_at ms i x s m t e lt is before.0 next)

-- ---- patterns

module _ (g : FlatGrammar) (hosts : List Bytes) (names : Names) (parts : List Part) where
  abbrev pub Done : Kept → Kept → ℕ → List Pattern → Type 0
  Done s t i found = Runs (checks g hosts (take i parts)) s t None × ArePatterns hosts names (take i parts) found

  pub done_init : (s : Kept) (found : List Pattern) → found ≡ [] → Done s s 0 found
  done_init s found is = (ends s, is)

  pub done_more : (i : ℕ) (x : Part) (s m t : Kept) (found new : List Pattern) (p : Pattern) → i < length parts → x ≡ get_or parts i x → Done s m i found
      → Runs (pattern_checks g hosts x) m t None → IsPattern hosts names x p → new ≡ found ++ p ∷ [] → Done s t (i + 1) new
  done_more i x s m t found new p lt is before next one pushed = (
    runs_more (pattern_checks g hosts) parts i x s m t None lt is before.0 next,
    subst (λ (us : List Part). ArePatterns hosts names us new) (ap (λ (y : Part). take i parts ++ y ∷ []) is ∙ sym (take_more parts i x lt))
        (subst (λ (ps : List Pattern). ArePatterns hosts names (take i parts ++ x ∷ []) ps) (sym pushed) (patterns_then hosts names (take i parts) x found p before.1 one)),
  )

  pub done_halt : (i : ℕ) (x : Part) (s m t : Kept) (e : QueryFault) (found : List Pattern) → i < length parts → x ≡ get_or parts i x → Done s m i found
      → Runs (pattern_checks g hosts x) m t (Some e) → Runs (checks g hosts parts) s t (Some e)
  done_halt i x s m t e found lt is before next = runs_halt (pattern_checks g hosts) parts i x s m t e lt is before.0 next

  pub done_out : (i : ℕ) (x : Part) (s m t : Kept) (found : List Pattern) → i < length parts → x ≡ get_or parts i x → Done s m i found
      → Runs (pattern_checks g hosts x) m t None → Runs (checks g hosts parts) s t (Some fault.Memory)
  done_out i x s m t found lt is before next = runs_out (pattern_checks g hosts) parts i x s m t lt is before.0 next

-- ---- one mention

module _ (g : FlatGrammar) (hosts own : List Bytes) (names : Names) (m x : Lent) (is : m ≡ x) where
  pub told_runs : (s t : Kept) (a : Option QueryFault) → Runs (mention_checks g hosts own (mention_told x)) s t a → Runs (mention_checks g hosts own (mention_told m)) s t a
  told_runs s t a run = subst (λ (y : Lent). Runs (mention_checks g hosts own (mention_told y)) s t a) (sym is) run

  -- nothing is wrong
  pub told_none : (s : Kept) → mention_checks g hosts own (mention_told x) ≡ [] → Runs (mention_checks g hosts own (mention_told m)) s s None
  told_none s none = told_runs s s None (runs_none (mention_checks g hosts own (mention_told x)) s none)

  pub told_flawed : {A : Type 0} (s : Kept) (f : Flaw) (r : Result A QueryFault) → IsErrAnd r (λ y. y ≡ flaw_fault f) → BeginWith (mention_checks g hosts own (mention_told x)) f
      → Runs (mention_checks g hosts own (mention_told m)) s s (fault_in r)
  told_flawed s f r at h = told_runs s s (fault_in r) (flawed (mention_checks g hosts own (mention_told x)) s f r at h)

pub asked_runs : (g : FlatGrammar) (hosts own : List Bytes) (name : Written) (os us : List Operand) (s t : Kept) (a : Option QueryFault) → us ≡ os
    → Runs (form_checks own name.at (asked_form (asking_of hosts name.text) us)) s t a → Runs (mention_checks g hosts own (mention.predicate name os)) s t a
asked_runs g hosts own name os us s t a same run =
    subst (λ (xs : List Operand). Runs (form_checks own name.at (asked_form (asking_of hosts name.text) xs)) s t a) same run

-- ---- a whole pattern, and a whole query

module _ (g : FlatGrammar) (hosts : List Bytes) (part : Part) where
  pub pattern_runs : (own : List Bytes) (us vs : List Mention) (s t : Kept) (a : Option QueryFault) → us ≡ mentioned_by part → vs ≡ mentioned_by part
      → own ≡ first_sights bytes_eq (item_captures vs) → Runs (flat_map (mention_checks g hosts own) us) s t a → Runs (pattern_checks g hosts part) s t a
  pattern_runs own us vs s t a here there seen run =
      subst (λ (os : List Bytes). Runs (flat_map (mention_checks g hosts os) (mentioned_by part)) s t a) (seen ∙ ap (λ (ms : List Mention). first_sights bytes_eq (item_captures ms)) there)
      (subst (λ (ms : List Mention). Runs (flat_map (mention_checks g hosts own) ms) s t a) here run)

pub pattern_is : (hosts : List Bytes) (n : Names) (part : Part) (level : Level) (closed : Bool) (us : List Mention) (ps : List Predicate)
    → level ≡ after empty_level (pieces n part) → closed ≡ (level.tied && not (is_nil level.items)) → us ≡ mentioned_by part → ArePredicates hosts n us ps
    → IsPattern hosts n part (record { items = level.items; closed = closed; predicates = ps })
pattern_is hosts n part level closed us ps within shut here are =
    let all = within ∙ after_is empty_level (pieces n part) in
    record {
      items = ap (λ (l : Level). l.items) all;
      closed = shut ∙ ap (λ (l : Level). l.tied && not (is_nil l.items)) all;
      predicates = subst (λ (ms : List Mention). ArePredicates hosts n ms ps) here are;
    }

pub query_runs : (g h : FlatGrammar) (hosts others : List Bytes) (parts again : List Part) (s t : Kept) (a : Option QueryFault) → g ≡ h → hosts ≡ others → parts ≡ again
    → Runs (checks g hosts parts) s t a → Runs (checks h others again) s t a
query_runs g h hosts others parts again s t a e f d run =
    subst (λ (x : FlatGrammar). Runs (checks x others again) s t a) e
    (subst (λ (x : List Bytes). Runs (checks g x again) s t a) f
    (subst (λ (x : List Part). Runs (checks g hosts x) s t a) d run))

-- What a text is whose checks are gone through, and what its faults are.
use Rattle.std.proofs.Common.{◌≡◌, ◌≢◌, ◌∙◌, sym, ap, subst, refl, ℕ, ◌≤◌, ◌⊎◌, inl, inr, List, length, Some}
use Rattle.std.specs.Prelude.{Option, None, Result, Ok, Err, IfOk, IfErr, IsErrAnd}
use Rattle.ts_base.specs.Bytes.{Bytes}
use Rattle.ts_core.specs.declared.flat.FlatGrammar.{FlatGrammar}
use Rattle.ts_query_tree.specs.declared.fault.TreeFault.{TreeFault}
use Rattle.ts_query_tree.specs.declared.fault.TreeFault.TheVariants as tree
use Rattle.ts_query_tree.specs.declared.tree.Part.{Part}
use Rattle.ts_query_tree.specs.Reads.{Reads, IsFault}
use Rattle.ts_query_names.specs.declared.flaw.Flaw.{Flaw}
use Rattle.ts_query_names.specs.declared.flaw.Flaw.TheVariants as flaw
use Rattle.ts_query_names.specs.Checks.{Check, checks, first_wrong}
use Rattle.ts_query_syntax.specs.declared.fault.QueryFault.{QueryFault}
use Rattle.ts_query_syntax.specs.declared.fault.QueryFault.TheVariants as fault
use Rattle.ts_query_syntax.specs.declared.read_query.ReadQuery.{ReadQuery}
use Rattle.ts_query_syntax.specs.Judging.{Kept, Runs, flaw_fault, fault_in}
use Rattle.ts_query_syntax.specs.Queries.{tree_fault, names_of, IsFirst, IsQueryFault, IsRegex, IsQuery, IsNumbered, GrewByAll, GrewWith}
use Rattle.ts_query_syntax.specs.Refusals.{HasRisen}
use Rattle.ts_query_syntax.proofs.JudgingLemmas.{Whole, whole, Stopped, by_flaw, by_refusal, by_memory, stopped, runs_later}
use Rattle.ts_query_syntax.proofs.PredicateLemmas.{as_many}

abbrev pub Answered : Type 0
Answered = Result ReadQuery QueryFault

flaw_no_regex : (f : Flaw) → IsRegex (flaw_fault f) → ⊥
flaw_no_regex (flaw.UnknownNode at) h = let no : fault.UnknownNode at ≡ fault.Regex h.0 = h.1 in cc
flaw_no_regex (flaw.UnknownField at) h = let no : fault.UnknownField at ≡ fault.Regex h.0 = h.1 in cc
flaw_no_regex (flaw.UnknownCapture at) h = let no : fault.UnknownCapture at ≡ fault.Regex h.0 = h.1 in cc
flaw_no_regex (flaw.UnknownPredicate at) h = let no : fault.UnknownPredicate at ≡ fault.Regex h.0 = h.1 in cc
flaw_no_regex (flaw.NestedQuantifier at) h = let no : fault.NestedQuantifier at ≡ fault.Regex h.0 = h.1 in cc

pub stopped_rose : (cs : _) (s t : Kept) (e : QueryFault) → Stopped cs s t e → IsRegex e → HasRisen s.refusals t.refusals
stopped_rose cs s t e (by_flaw f is first grew) h = absurd (flaw_no_regex f (h.0, sym is ∙ h.1))
stopped_rose cs s t e (by_refusal n w is at grew rose) h = rose
stopped_rose cs s t e (by_memory n is grew) h = let no : fault.Memory ≡ fault.Regex h.0 = sym is ∙ h.1 in cc

-- ---- where there are parts

module _ (g : FlatGrammar) (hosts : List Bytes) (w : Bytes) (parts : List Part) (reads : Reads w parts) where
  flaw_is : (f : Flaw) → first_wrong (checks g hosts parts) ≡ Some f → IsQueryFault g hosts w (flaw_fault f)
  flaw_is (flaw.UnknownNode at) h = (parts, reads, h)
  flaw_is (flaw.UnknownField at) h = (parts, reads, h)
  flaw_is (flaw.UnknownCapture at) h = (parts, reads, h)
  flaw_is (flaw.UnknownPredicate at) h = (parts, reads, h)
  flaw_is (flaw.NestedQuantifier at) h = (parts, reads, h)

  fault_is : (s t : Kept) (e : QueryFault) → Stopped (checks g hosts parts) s t e → IsQueryFault g hosts w e
  fault_is s t e (by_flaw f is first grew) = subst (λ (x : QueryFault). IsQueryFault g hosts w x) (sym is) (flaw_is f first)
  fault_is s t e (by_refusal n v is at grew rose) = subst (λ (x : QueryFault). IsQueryFault g hosts w x) (sym is) (parts, n, v, reads, at, refl)
  fault_is s t e (by_memory n is grew) = subst (λ (x : QueryFault). IsQueryFault g hosts w x) (sym is) tt

  flaw_grew : (f : Flaw) (old new : List Bytes) → GrewByAll g hosts w old new → GrewWith g hosts w old new (flaw_fault f)
  flaw_grew (flaw.UnknownNode at) old new h = h
  flaw_grew (flaw.UnknownField at) old new h = h
  flaw_grew (flaw.UnknownCapture at) old new h = h
  flaw_grew (flaw.UnknownPredicate at) old new h = h
  flaw_grew (flaw.NestedQuantifier at) old new h = h

  grew_is : (s t : Kept) (e : QueryFault) → Stopped (checks g hosts parts) s t e → GrewWith g hosts w s.sources t.sources e
  grew_is s t e (by_flaw f is first grew) = subst (λ (x : QueryFault). GrewWith g hosts w s.sources t.sources x) (sym is) (flaw_grew f s.sources t.sources (parts, reads, grew))
  grew_is s t e (by_refusal n v is at grew rose) = subst (λ (x : QueryFault). GrewWith g hosts w s.sources t.sources x) (sym is) (parts, n, v, reads, at, refl, grew)
  grew_is s t e (by_memory n is grew) = subst (λ (x : QueryFault). GrewWith g hosts w s.sources t.sources x) (sym is) (inr (parts, n, reads, grew))

  module _ (s t : Kept) where
    pub ok_from : (r : Answered) → Runs (checks g hosts parts) s t (fault_in r) → IfOk r (IsNumbered g hosts parts) → IfOk r (IsQuery g hosts w)
    ok_from (Ok q) runs is = record {
      parts = parts;
      reads = reads;
      is = record { right = (whole (checks g hosts parts) s t None runs refl).right; patterns = is.patterns; captures = is.captures; kinds = is.kinds };
    }
    ok_from (Err e) runs is = tt

    pub grew_from : (r : Answered) → Runs (checks g hosts parts) s t (fault_in r) → IfOk r (λ _. GrewByAll g hosts w s.sources t.sources)
    grew_from (Ok q) runs = (parts, reads, (whole (checks g hosts parts) s t None runs refl).grew)
    grew_from (Err e) runs = tt

    pub refused_from : (r : Answered) → Runs (checks g hosts parts) s t (fault_in r) → IfErr r (IsQueryFault g hosts w)
    refused_from (Ok q) runs = tt
    refused_from (Err e) runs = fault_is s t e (stopped (checks g hosts parts) s t e (Some e) runs refl)

    pub before_from : (r : Answered) → Runs (checks g hosts parts) s t (fault_in r) → IfErr r (GrewWith g hosts w s.sources t.sources)
    before_from (Ok q) runs = tt
    before_from (Err e) runs = grew_is s t e (stopped (checks g hosts parts) s t e (Some e) runs refl)

    pub rose_in : (r : Answered) → Runs (checks g hosts parts) s t (fault_in r) → IfErr r (λ e. IsRegex e → HasRisen s.refusals t.refusals)
    rose_in (Ok q) runs = tt
    rose_in (Err e) runs = stopped_rose (checks g hosts parts) s t e (stopped (checks g hosts parts) s t e (Some e) runs refl)

-- ---- one fault

-- a fault that is neither of memory nor of an expression
data Sorted (g : FlatGrammar) (hosts : List Bytes) (w : Bytes) (f : QueryFault) : Type 0 where
  of_tree : (e : TreeFault) → f ≡ tree_fault e → e ≢ tree.Memory → IsFault w e → Sorted g hosts w f
  of_flaw : (x : Flaw) → f ≡ flaw_fault x → IsFirst g hosts w x → Sorted g hosts w f

sorted : (g : FlatGrammar) (hosts : List Bytes) (w : Bytes) (f : QueryFault) → f ≢ fault.Memory → (IsRegex f → ⊥) → IsQueryFault g hosts w f → Sorted g hosts w f
sorted g hosts w (fault.Syntax at) m r h = of_tree (tree.Syntax at) refl (λ e. let no : tree.Syntax at ≡ tree.Memory = e in cc) h
sorted g hosts w (fault.Deep at) m r h = of_tree (tree.Deep at) refl (λ e. let no : tree.Deep at ≡ tree.Memory = e in cc) h
sorted g hosts w (fault.UnknownNode at) m r h = of_flaw (flaw.UnknownNode at) refl h
sorted g hosts w (fault.UnknownField at) m r h = of_flaw (flaw.UnknownField at) refl h
sorted g hosts w (fault.UnknownCapture at) m r h = of_flaw (flaw.UnknownCapture at) refl h
sorted g hosts w (fault.UnknownPredicate at) m r h = of_flaw (flaw.UnknownPredicate at) refl h
sorted g hosts w (fault.NestedQuantifier at) m r h = of_flaw (flaw.NestedQuantifier at) refl h
sorted g hosts w (fault.Regex at) m r h = absurd (r (at, refl))
sorted g hosts w fault.Memory m r h = absurd (m refl)

-- the laws of the text alone
pub record Laws : Type 0 where
  pub one : (x y : List Part) (w : Bytes) → Reads w x → Reads w y → x ≡ y
  pub apart : (e : TreeFault) (x : List Part) (w : Bytes) → e ≢ tree.Memory → IsFault w e → Reads w x → ⊥
  pub single : (e f : TreeFault) (w : Bytes) → e ≢ tree.Memory → f ≢ tree.Memory → IsFault w e → IsFault w f → e ≡ f

-- the fault, or one that may come at any time
abbrev pub Or : QueryFault → QueryFault → Type 0
Or f e = (e ≡ f) ⊎ (IsRegex e ⊎ (e ≡ fault.Memory))

module _ (laws : Laws) (g : FlatGrammar) (hosts : List Bytes) (w : Bytes) where
  module _ (parts : List Part) (reads : Reads w parts) (s t : Kept) where
    same_first : (x : Flaw) → IsFirst g hosts w x → first_wrong (checks g hosts parts) ≡ Some x
    same_first x h = subst (λ (ps : List Part). first_wrong (checks g hosts ps) ≡ Some x) (laws.one h.0 parts w h.1 reads) h.2

    exact_whole : (f : QueryFault) → Sorted g hosts w f → Whole (checks g hosts parts) s t → ⊥
    exact_whole f (of_tree e is ne h) all = laws.apart e parts w ne h reads
    exact_whole f (of_flaw x is h) all = let no : Some x ≡ None = sym (same_first x h) ∙ all.right in cc

    exact_stopped : (f e : QueryFault) → Sorted g hosts w f → Stopped (checks g hosts parts) s t e → Or f e
    exact_stopped f e (of_tree x is ne h) stop = absurd (laws.apart x parts w ne h reads)
    exact_stopped f e (of_flaw x is h) (by_flaw y same first grew) =
        let both : Some x ≡ Some y = sym (same_first x h) ∙ first in
        let d : x ≡ y = cc in
        inl (same ∙ ap flaw_fault (sym d) ∙ sym is)
    exact_stopped f e (of_flaw x is h) (by_refusal n v same at grew rose) = inr (inl (v.at, same))
    exact_stopped f e (of_flaw x is h) (by_memory n same grew) = inr (inr same)

    exact_answer : (f : QueryFault) (r : Answered) → Sorted g hosts w f → Runs (checks g hosts parts) s t (fault_in r) → IsErrAnd r (λ e. Or f e)
    exact_answer f (Ok q) h runs = absurd (exact_whole f h (whole (checks g hosts parts) s t None runs refl))
    exact_answer f (Err e) h runs = exact_stopped f e h (stopped (checks g hosts parts) s t e (Some e) runs refl)

    pub exact_from : (f : QueryFault) (r : Answered) → f ≢ fault.Memory → (IsRegex f → ⊥) → IsQueryFault g hosts w f
        → Runs (checks g hosts parts) s t (fault_in r) → IsErrAnd r (λ e. Or f e)
    exact_from f r m x h runs = exact_answer f r (sorted g hosts w f m x h) runs

    no_query : (e : QueryFault) → Stopped (checks g hosts parts) s t e → e ≢ fault.Memory → (IsRegex e → ⊥) → (q : ReadQuery) → IsQuery g hosts w q → ⊥
    no_query e (by_flaw f is first grew) m r q h =
        let none : first_wrong (checks g hosts parts) ≡ None = subst (λ (ps : List Part). first_wrong (checks g hosts ps) ≡ None) (laws.one h.parts parts w h.reads reads) h.is.right in
        let no : Some f ≡ None = sym first ∙ none in cc
    no_query e (by_refusal n v is at grew rose) m r q h = absurd (r (v.at, is))
    no_query e (by_memory n is grew) m r q h = absurd (m is)

    pub complete_from : (r : Answered) → Runs (checks g hosts parts) s t (fault_in r)
        → IfErr r (λ e. e ≢ fault.Memory → (IsRegex e → ⊥) → (q : ReadQuery) → IsQuery g hosts w q → ⊥)
    complete_from (Ok q) runs = tt
    complete_from (Err e) runs = no_query e (stopped (checks g hosts parts) s t e (Some e) runs refl)

  -- ---- where the text is no query of any grammar

  pub tree_complete : (e : TreeFault) → IsFault w e → tree_fault e ≢ fault.Memory → (q : ReadQuery) → IsQuery g hosts w q → ⊥
  tree_complete (tree.Syntax at) h m q is = laws.apart (tree.Syntax at) is.parts w (λ e. let no : tree.Syntax at ≡ tree.Memory = e in cc) h is.reads
  tree_complete (tree.Deep at) h m q is = laws.apart (tree.Deep at) is.parts w (λ e. let no : tree.Deep at ≡ tree.Memory = e in cc) h is.reads
  tree_complete tree.Memory h m q is = absurd (m refl)

  exact_text : (f : QueryFault) (e : TreeFault) → e ≢ tree.Memory → IsFault w e → Sorted g hosts w f → tree_fault e ≡ f
  exact_text f e ne there (of_tree x is nx h) = ap tree_fault (laws.single e x w ne nx there h) ∙ sym is
  exact_text f e ne there (of_flaw x is h) = absurd (laws.apart e h.0 w ne there h.1)

  exact_by : (f : QueryFault) (e : TreeFault) → IsFault w e → Sorted g hosts w f → Or f (tree_fault e)
  exact_by f (tree.Syntax at) there h = inl (exact_text f (tree.Syntax at) (λ e. let no : tree.Syntax at ≡ tree.Memory = e in cc) there h)
  exact_by f (tree.Deep at) there h = inl (exact_text f (tree.Deep at) (λ e. let no : tree.Deep at ≡ tree.Memory = e in cc) there h)
  exact_by f tree.Memory there h = inr (inr refl)

  pub tree_exact : (f : QueryFault) (e : TreeFault) → f ≢ fault.Memory → (IsRegex f → ⊥) → IsQueryFault g hosts w f → IsFault w e → Or f (tree_fault e)
  tree_exact f e m r h there = exact_by f e there (sorted g hosts w f m r h)

pub later_from : (cs : List Check) (s t : Kept) (a : Option QueryFault) → Runs cs s t a → s.refusals ≤ t.refusals
later_from cs s t a run = runs_later cs s t a run

pub few_from : (g : FlatGrammar) (hosts : List Bytes) (parts : List Part) (n : ℕ) → length parts ≤ n → (r : Answered) → IfOk r (IsNumbered g hosts parts) → IfOk r (λ q. length q.patterns ≤ n)
few_from g hosts parts n le (Ok q) is = subst (λ (k : ℕ). k ≤ n) (sym (as_many hosts (names_of g parts) parts q.patterns is.patterns)) le
few_from g hosts parts n le (Err e) is = tt

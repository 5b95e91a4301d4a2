-- Reading the queries of texts one by one.
use Rattle.std.proofs.Common.{◌≡◌, ◌≢◌, ◌∙◌, sym, ap, subst, refl, ℕ, zero, suc, ◌+◌, ◌-◌, ◌^◌, ◌<◌, ◌≤◌, ◌⊎◌, inl, inr, min, List, [], ◌∷◌, ◌++◌, All, length, take, slice_get, get_or, Option, Some, None, arith}
use Rattle.std.proofs.lemmas.List.{length-append, take_more, take_all}
use Rattle.std.proofs.lemmas.List.Elements.{All-append, All-cons, All-nil}
use Rattle.std.proofs.lemmas.Option.{slice_get_within, get_or_from_slice_get}
use Rattle.ts_base.specs.Bytes.{Bytes}
use Rattle.ts_core.specs.declared.flat.FlatGrammar.{FlatGrammar}
use Rattle.ts_query_syntax.specs.Queries.{most_query_bytes, IsQuery, IsQueryFault, IsRegex, GrewByAll, GrewWith}
use Rattle.ts_query_syntax.specs.Refusals.{HasRisen}
use Rattle.ts_query_syntax.specs.declared.fault.QueryFault.{QueryFault}
use Rattle.ts_query_syntax.specs.declared.fault.QueryFault.TheVariants as fault
use Rattle.ts_query_syntax.specs.declared.read_query.ReadQuery.{ReadQuery}
use Rattle.ts_loading.specs.Loads.{AreQueries, HasNoFault, IsOfText, IsFirstFault, GrewByEach, IsRegexAt, IsCause, of_text, of_patterns, HasLoadCause, load_fault}
use Rattle.ts_loading.specs.Reading.{HasFew, AreLoadedAs}
use Rattle.ts_loading.proofs.FaultLemmas.{none_there, same_some, some_at}

at_end : {A : Type 0} (xs : List A) (x y : A) (n : ℕ) → slice_get (xs ++ x ∷ []) n ≡ Some y → (slice_get xs n ≡ Some y) ⊎ ((n ≡ length xs) × (x ≡ y))
at_end [] x y zero e = inr (refl, same_some (Some x) x y refl e)
at_end [] x y (suc n) e = absurd (none_there y None refl e)
at_end (z ∷ xs) x y zero e = inl e
at_end (z ∷ xs) x y (suc n) e = elim (at_end xs x y n e) [
  | inl before ↦ inl before
  | inr last ↦ inr (ap suc last.0, last.1)
]

grew_more : (g : FlatGrammar) (called ws : List Bytes) (w : Bytes) (old mid new : List Bytes) → GrewByEach g called ws old mid → GrewByAll g called w mid new → GrewByEach g called (ws ++ w ∷ []) old new
grew_more g called [] w old mid new before more = (new, subst (λ (m : List Bytes). GrewByAll g called w m new) before more, refl)
grew_more g called (x ∷ ws) w old mid new before more = (before.0, before.1, grew_more g called ws w before.0 mid new before.2 more)

taken_more : (texts : List Bytes) (i : ℕ) (w : Bytes) → slice_get texts i ≡ Some w → take (i + 1) texts ≡ take i texts ++ w ∷ []
taken_more texts i w at = take_more texts i w (slice_get_within texts i w at) ∙ ap (λ (y : Bytes). take i texts ++ y ∷ []) (get_or_from_slice_get texts i w w at)

pub read_none : (g : FlatGrammar) (called texts old : List Bytes) → AreLoadedAs g called texts 0 [] old old
read_none g called texts old = record {
  count_is = refl;
  each = λ k text query at there. absurd (none_there query None refl there);
  few = All-nil HasFew;
  grew = refl;
}

pub read_more : (g : FlatGrammar) (called texts : List Bytes) (i : ℕ) (queries pushed : List ReadQuery) (old mid new : List Bytes) (text : Bytes) (query : ReadQuery) → slice_get texts i ≡ Some text
    → AreLoadedAs g called texts i queries old mid → IsQuery g called text query → length query.patterns ≤ most_query_bytes → GrewByAll g called text mid new → pushed ≡ queries ++ query ∷ [] → AreLoadedAs g called texts (i + 1) pushed old new
read_more g called texts i queries pushed old mid new text query at are is few more same =
    let count = are.count_is in
    subst (λ (qs : List ReadQuery). AreLoadedAs g called texts (i + 1) qs old new) (sym same) (record {
      count_is = length-append queries (query ∷ []) ∙ ap (λ (n : ℕ). n + 1) count;
      each = λ k other found d there. elim (at_end queries query found k there) [
        | inl before ↦ are.each k other found d before
        | inr last ↦
            let here : slice_get texts k ≡ Some text = ap (slice_get texts) (last.0 ∙ count) ∙ at in
            subst (λ (q : ReadQuery). IsQuery g called other q) last.1 (subst (λ (w : Bytes). IsQuery g called w query) (same_some (slice_get texts k) text other here d) is)
      ];
      few = All-append HasFew queries (query ∷ []) are.few (All-cons HasFew query [] (omega (arith, few)) (All-nil HasFew));
      grew = subst (λ (ws : List Bytes). GrewByEach g called ws old new) (sym (taken_more texts i text at)) (grew_more g called (take i texts) text old mid new are.grew more);
    })

pub all_read : (g : FlatGrammar) (called texts : List Bytes) (queries : List ReadQuery) (old new : List Bytes) → AreLoadedAs g called texts (length texts) queries old new → AreQueries g called texts queries
all_read g called texts queries old new are = record { count = are.count_is; each = are.each }

pub all_grew : (g : FlatGrammar) (called texts : List Bytes) (queries : List ReadQuery) (old new : List Bytes) → AreLoadedAs g called texts (length texts) queries old new → GrewByEach g called texts old new
all_grew g called texts queries old new are = subst (λ (ws : List Bytes). GrewByEach g called ws old new) (take_all (length texts) texts (omega arith)) are.grew

-- ---- faults

no_fault_before : (g : FlatGrammar) (called texts : List Bytes) (i : ℕ) (queries : List ReadQuery) (old new : List Bytes) → AreLoadedAs g called texts i queries old new → (k : ℕ) (other : Bytes) → k < i → slice_get texts k ≡ Some other → HasNoFault g called other
no_fault_before g called texts i queries old new are k other below at =
    let count = are.count_is in
    let query = some_at queries k (omega (arith, below, count)) in
    let is : IsQuery g called other query.0 = are.each k other query.0 at query.1 in
    let of = is.is in
    (is.parts, is.reads, of.right)

pub rose_more : (a b c : ℕ) → a ≤ b → HasRisen b c → HasRisen a c
rose_more a b c le h =
    let up : min (b + 1) (2 ^ 64 - 1) ≤ c = h in
    grind (arith, le, up)

module _ (g : FlatGrammar) (called texts : List Bytes) (i : ℕ) (queries : List ReadQuery) (old mid new : List Bytes) (text : Bytes) (rose : Type 0) where
  -- a fault that the text decides
  by_text : (f : QueryFault) → slice_get texts i ≡ Some text → AreLoadedAs g called texts i queries old mid → IsOfText f → IsQueryFault g called text f → IsCause g called texts rose old new i f
  by_text f at are of is = of_text f (record {
    text = text;
    text_is = at;
    of_text = of;
    fault_is = is;
    before = no_fault_before g called texts i queries old mid are;
  })

  pub cause_of : (f : QueryFault) → slice_get texts i ≡ Some text → AreLoadedAs g called texts i queries old mid → IsQueryFault g called text f → GrewWith g called text mid new f → (IsRegex f → rose)
      → HasLoadCause g called texts rose old new (load_fault i f)
  cause_of (fault.Syntax at) here are is grew rises = by_text (fault.Syntax at) here are (record { no_memory = λ e. (let never : ⊥ = cc in never); no_regex = λ r. (let e = r.1 in let never : ⊥ = cc in never) }) is
  cause_of (fault.Deep at) here are is grew rises = by_text (fault.Deep at) here are (record { no_memory = λ e. (let never : ⊥ = cc in never); no_regex = λ r. (let e = r.1 in let never : ⊥ = cc in never) }) is
  cause_of (fault.UnknownNode at) here are is grew rises = by_text (fault.UnknownNode at) here are (record { no_memory = λ e. (let never : ⊥ = cc in never); no_regex = λ r. (let e = r.1 in let never : ⊥ = cc in never) }) is
  cause_of (fault.UnknownField at) here are is grew rises = by_text (fault.UnknownField at) here are (record { no_memory = λ e. (let never : ⊥ = cc in never); no_regex = λ r. (let e = r.1 in let never : ⊥ = cc in never) }) is
  cause_of (fault.UnknownCapture at) here are is grew rises = by_text (fault.UnknownCapture at) here are (record { no_memory = λ e. (let never : ⊥ = cc in never); no_regex = λ r. (let e = r.1 in let never : ⊥ = cc in never) }) is
  cause_of (fault.UnknownPredicate at) here are is grew rises = by_text (fault.UnknownPredicate at) here are (record { no_memory = λ e. (let never : ⊥ = cc in never); no_regex = λ r. (let e = r.1 in let never : ⊥ = cc in never) }) is
  cause_of (fault.NestedQuantifier at) here are is grew rises = by_text (fault.NestedQuantifier at) here are (record { no_memory = λ e. (let never : ⊥ = cc in never); no_regex = λ r. (let e = r.1 in let never : ⊥ = cc in never) }) is
  cause_of (fault.Regex at) here are is grew rises = of_patterns at (rises (at, refl)) (record {
    text = text;
    text_is = here;
    before = no_fault_before g called texts i queries old mid are;
    mid = mid;
    grew_before = are.grew;
    grew = grew;
  })
  cause_of fault.Memory here are is grew rises = tt

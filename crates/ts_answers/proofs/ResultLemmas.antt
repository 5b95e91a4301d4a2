-- What queries come to, one after another.
use Rattle.std.proofs.Common.{◌≡◌, ◌∙◌, sym, ap, subst, ℕ, ◌+◌, ◌<◌, ◌⊎◌, inl, inr, All, List, [], ◌∷◌, ◌++◌, length, take, get_or, slice_get, Some, Result, Ok, Err, arith}
use Rattle.std.specs.Result.{IfOk}
use Rattle.std.proofs.lemmas.List.{length-append, take_more}
use Rattle.std.proofs.lemmas.List.Elements.{All-get_or}
use Rattle.std.proofs.lemmas.Option.{slice_get-get_or}
use Rattle.ts_base.specs.Bytes.{Bytes}
use Rattle.ts_base.proofs.PlaceLemmas.{push_cases}
use Rattle.ts_core.specs.declared.flat.FlatGrammar.{FlatGrammar}
use Rattle.spec_trees.specs.declared.tree.Tree.{Tree as ParseTree}
use Rattle.spec_trees.specs.declared.visible.VisibleNode.{VisibleNode}
use Rattle.spec_trees.specs.VisibleNodes.{visible_nodes}
use Rattle.spec_runs.specs.Outcomes.{tree_outcome, Fresh}
use Rattle.ts_query_syntax.specs.declared.read_query.ReadQuery.{ReadQuery}
use Rattle.ts_predicate.specs.Predicates.{IsKept}
use Rattle.ts_replies.specs.declared.reply.ShownResult.{ShownResult}
use Rattle.spec_history.specs.Queries.{IsResult, IsResultOf, AreResults, Finds}

-- what queries come to in the tree of a text is what they find in it
pub found_in_tree : {E : Type 0} (g : FlatGrammar) (queries : List ReadQuery) (host : ℕ → Bytes → Type 0) (text : Bytes) (t : ParseTree) (numbers : List ℕ) (r : Result (List ShownResult) E)
    → Fresh g text (tree_outcome t) → IfOk r (AreResults g queries host text t numbers) → IfOk r (Finds g queries host text numbers)
found_in_tree g queries host text t numbers (Ok results) fresh are = record { tree = t; fresh = fresh; results_are = are }
found_in_tree g queries host text t numbers (Err e) fresh are = tt

-- what the query at a place comes to is what the query of that number does
pub of_number : {E : Type 0} (queries : List ReadQuery) (host : ℕ → Bytes → Type 0) (text : Bytes) (nodes : List VisibleNode) (number : ℕ) (d : ReadQuery) (r : Result ShownResult E)
    → number < length queries → IfOk r (IsResult (get_or queries number d) nodes (IsKept host (get_or queries number d) text)) → IfOk r (IsResultOf queries host text nodes number)
of_number queries host text nodes number d (Ok result) there found = record {
  query = get_or queries number d;
  query_is = slice_get-get_or queries number d there;
  result_is = found;
}
of_number queries host text nodes number d (Err e) there found = tt

module _ (g : FlatGrammar) (queries : List ReadQuery) (host : ℕ → Bytes → Type 0) (text : Bytes) (t : ParseTree) where
  -- one more result, behind those of the numbers before
  one_more : (numbers : List ℕ) (results : List ShownResult) (n : ℕ) (r : ShownResult) → AreResults g queries host text t numbers results → IsResultOf queries host text (visible_nodes g t) n r
      → AreResults g queries host text t (numbers ++ n ∷ []) (results ++ r ∷ [])
  one_more numbers results n r are found = record {
    count = length-append results (r ∷ []) ∙ ap (λ (k : ℕ). k + 1) are.count ∙ sym (length-append numbers (n ∷ []));
    each = λ place number result number_is result_is. by place number result (push_cases numbers n place number number_is) (push_cases results r place result result_is);
  }
    where
      by : (place number : ℕ) (result : ShownResult)
          → ((place < length numbers) × (slice_get numbers place ≡ Some number)) ⊎ ((place ≡ length numbers) × (n ≡ number))
          → ((place < length results) × (slice_get results place ≡ Some result)) ⊎ ((place ≡ length results) × (r ≡ result))
          → IsResultOf queries host text (visible_nodes g t) number result
      by place number result (inl a) (inl b) = are.each place number result a.1 b.1
      by place number result (inl a) (inr b) = absurd (let f : ⊥ = omega (arith, a.0, b.0, are.count) in f)
      by place number result (inr a) (inl b) = absurd (let f : ⊥ = omega (arith, a.0, b.0, are.count) in f)
      by place number result (inr a) (inr b) =
          subst (λ (k : ℕ). IsResultOf queries host text (visible_nodes g t) k result) a.1
          (subst (λ (x : ShownResult). IsResultOf queries host text (visible_nodes g t) n x) b.1 found)

  -- a turn of the loop over the numbers
  pub next_result : (numbers : List ℕ) (i d : ℕ) (results new : List ShownResult) (r : ShownResult) (q : ReadQuery) (nodes : List VisibleNode)
      → i < length numbers → All (λ (number : ℕ). number < length queries) numbers → nodes ≡ visible_nodes g t
      → q ≡ get_or queries (get_or numbers i d) q
      → AreResults g queries host text t (take i numbers) results
      → IsResult q nodes (IsKept host q text) r
      → new ≡ results ++ r ∷ []
      → AreResults g queries host text t (take (i + 1) numbers) new
  next_result numbers i d results new r q nodes within there nodes_are query_is are found new_is =
      let n = get_or numbers i d in
      let here : n < length queries = All-get_or (λ (number : ℕ). number < length queries) numbers i d within there in
      let result_is : IsResultOf queries host text nodes n r = record {
        query = q;
        query_is = slice_get-get_or queries n q here ∙ ap Some (sym query_is);
        result_is = found;
      } in
      subst (λ (ns : List ℕ). AreResults g queries host text t ns new) (sym (take_more numbers i d within))
      (subst (λ (rs : List ShownResult). AreResults g queries host text t (take i numbers ++ n ∷ []) rs) (sym new_is)
      (one_more (take i numbers) results n r are
      (subst (λ (ns : List VisibleNode). IsResultOf queries host text ns n r) nodes_are result_is)))

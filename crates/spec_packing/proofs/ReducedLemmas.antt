-- Nodes over children that replace others replace the nodes over those.
use Rattle.std.proofs.Common.{◌≡◌, ◌∙◌, sym, refl, subst, ℕ, ◌+◌, ◌-◌, ◌<◌, inl, inr, false, List, [], ◌∷◌, ◌++◌, length, map, Option, Some, None, unwrap_or, arith}
use Rattle.std.specs.List.{concat}
use Rattle.std.proofs.lemmas.List.{length-map}
use lib.IntN.{ℤ, ◌+ℤ◌}
use Rattle.ts_core.specs.declared.flat.FlatGrammar.{FlatGrammar}
use Rattle.ts_core.specs.declared.flat.Production.{Production}
use Rattle.spec_trees.specs.declared.tree.Tree.{Tree}
use Rattle.spec_trees.specs.declared.tree.Element.{Element}
use Rattle.spec_trees.specs.Trees.{pad_of, size_of, elements_of, children_of, total_of, all_totals, span_of, all_spans, first_pad}
use Rattle.spec_trees.specs.Made.{node_over, element, Form, of_rule, of_first, of_next, form_of, made_by, value_of, reduced}
use Rattle.spec_trees.specs.Choice.{code_of, inner_code, element_codes}
use Rattle.spec_packing.specs.Replacing.{Replaces, AllReplace}
use Rattle.spec_packing.proofs.CodeLemmas.{Leads, leads_head, leads_tail, leads_raised, words_sorted}
use Rattle.spec_packing.proofs.RankLemmas.{Ranks, ranks_tree, ranks_not, ranks_join, ranks_value, ranks_by}
use Rattle.spec_packing.proofs.ReplaceLemmas.{same_length, same_spans, same_pad, same_span}
use Rattle.spec_packing.proofs.MadeLemmas.{IsMade, AllMade, Over, over_says, CanMake, IsLawful, first_some, first_codes, next_codes, before_flat, next_is_flat, no_children, left_is, all_spans_append}

-- ---- children

pub tree_ranks : (g : FlatGrammar) (t u : Tree) → IsMade g t → IsMade g u → Replaces t u → Ranks (total_of t) (code_of t) (total_of u) (code_of u)
tree_ranks g t u m n s = ranks_tree t u (words_sorted g false 1 (code_of t) (code_of u) m.spelled n.spelled) s.no_better

pub all_ranks : (g : FlatGrammar) (ts us : List Tree) → AllMade g ts → AllMade g us → AllReplace ts us → Ranks (all_totals ts) (concat (map code_of ts)) (all_totals us) (concat (map code_of us))
all_ranks g [] [] m n a = inr (refl, inl refl)
all_ranks g [] (u ∷ us) m n a = absurd a
all_ranks g (t ∷ ts) [] m n a = absurd a
all_ranks g (t ∷ ts) (u ∷ us) m n a =
    ranks_join (total_of t) (total_of u) (all_totals ts) (all_totals us) (code_of t) (code_of u) (concat (map code_of ts)) (concat (map code_of us))
    (tree_ranks g t u m.0 n.0 a.0) (all_ranks g ts us m.1 n.1 a.1)

-- ---- a node over children

pub replaces_over : (symbol : ℕ) (production : Option ℕ) (d e : ℤ) (es fs : List Element) (ks ms : List Tree) (t u : Tree) → Over symbol production d es ks t → Over symbol production e fs ms u → first_pad ks ≡ first_pad ms → all_spans ks ≡ all_spans ms
    → Ranks d (inner_code es (map code_of ks)) e (inner_code fs (map code_of ms)) → Replaces t u
replaces_over symbol production d e es fs ks ms t u o q pads spans ranks =
    let sizes : all_spans ks - first_pad ks ≡ all_spans ms - first_pad ms = omega (arith, pads, spans) in
    let number = unwrap_or production 0 in
    let xs = inner_code es (map code_of ks) in
    let ys = inner_code fs (map code_of ms) in
    record {
      symbol = o.symbol_is ∙ sym q.symbol_is;
      extra = o.extra_is ∙ sym q.extra_is;
      pad = o.pad_is ∙ pads ∙ sym q.pad_is;
      size = o.size_is ∙ sizes ∙ sym q.size_is;
      no_better = ranks_not t u d e (symbol ∷ number ∷ first_pad ks ∷ (all_spans ks - first_pad ks) ∷ xs) (symbol ∷ number ∷ first_pad ms ∷ (all_spans ms - first_pad ms) ∷ ys)
          o.total_is q.total_is o.code_is q.code_is
          (ranks_by d e xs ys (symbol ∷ number ∷ first_pad ks ∷ (all_spans ks - first_pad ks) ∷ xs) (symbol ∷ number ∷ first_pad ms ∷ (all_spans ms - first_pad ms) ∷ ys)
          (λ l. leads_head symbol symbol (number ∷ first_pad ks ∷ (all_spans ks - first_pad ks) ∷ xs) (number ∷ first_pad ms ∷ (all_spans ms - first_pad ms) ∷ ys) refl
          (leads_head number number (first_pad ks ∷ (all_spans ks - first_pad ks) ∷ xs) (first_pad ms ∷ (all_spans ms - first_pad ms) ∷ ys) refl
          (leads_head (first_pad ks) (first_pad ms) ((all_spans ks - first_pad ks) ∷ xs) ((all_spans ms - first_pad ms) ∷ ys) pads
          (leads_head (all_spans ks - first_pad ks) (all_spans ms - first_pad ms) xs ys sizes l)))) ranks);
    }

ranks_same : (a b : ℤ) (xs ys vs ws : List ℕ) → xs ≡ vs → ys ≡ ws → Ranks a vs b ws → Ranks a xs b ys
ranks_same a b xs ys vs ws e f r = subst (λ (l : List ℕ). Ranks a l b ys) (sym e) (subst (λ (l : List ℕ). Ranks a vs b l) (sym f) r)

pub pad_append : (xs ys : List Tree) → 0 < all_spans xs → first_pad (xs ++ ys) ≡ first_pad xs
pad_append [] ys some = absurd (omega (arith, some))
pad_append (x ∷ xs) ys some = refl

-- the code of a repetition behind its first four numbers
flat_leads : (s p d z d' z' : ℕ) (xs ys : List ℕ) → d ≡ d' → z ≡ z' → Leads (s ∷ p ∷ d ∷ z ∷ xs) (s ∷ p ∷ d' ∷ z' ∷ ys) → Leads xs ys
flat_leads s p d z d' z' xs ys pads sizes l =
    leads_tail z z' xs ys sizes (leads_tail d d' (z ∷ xs) (z' ∷ ys) pads (leads_tail p p (d ∷ z ∷ xs) (d' ∷ z' ∷ ys) refl (leads_tail s s (p ∷ d ∷ z ∷ xs) (p ∷ d' ∷ z' ∷ ys) refl l)))

module _ (g : FlatGrammar) (number left : ℕ) (p : Production) (lawful : IsLawful g number left p) where
  replaces_rule : (ts us : List Tree) → CanMake g number left p ts → CanMake g number left p us → AllReplace ts us → Replaces (made_by of_rule left number (value_of g number) 0 None ts) (made_by of_rule left number (value_of g number) 0 None us)
  replaces_rule ts us c b a =
      let v = value_of g number in
      let d = v +ℤ all_totals ts in
      let e = v +ℤ all_totals us in
      let many : length (map code_of ts) ≡ length (map code_of us) = length-map ts code_of ∙ same_length ts us a ∙ sym (length-map us code_of) in
      replaces_over left (Some number) d e [] [] ts us (node_over left (Some number) d 0 None [] ts) (node_over left (Some number) e 0 None [] us)
      (over_says left (Some number) d [] ts) (over_says left (Some number) e [] us) (same_pad ts us a) (same_spans ts us a)
      (ranks_by d e (concat (map code_of ts)) (concat (map code_of us)) (length (map code_of ts) ∷ concat (map code_of ts)) (length (map code_of us) ∷ concat (map code_of us))
      (λ l. leads_head (length (map code_of ts)) (length (map code_of us)) (concat (map code_of ts)) (concat (map code_of us)) many l)
      (ranks_value v (all_totals ts) (all_totals us) (concat (map code_of ts)) (concat (map code_of us)) (all_ranks g ts us c.made b.made a)))

  -- the codes of an element's children behind its number and how many they are
  element_leads : (a n m : ℕ) (xs ys : List ℕ) → n ≡ m → Leads xs ys → Leads (a ∷ n ∷ xs) (a ∷ m ∷ ys)
  element_leads a n m xs ys e l = leads_head a a (n ∷ xs) (m ∷ ys) refl (leads_head n m xs ys e l)

  replaces_first : (k : ℕ) (ts us : List Tree) → CanMake g number left p ts → CanMake g number left p us → AllReplace ts us → Replaces (made_by (of_first k) left number (value_of g number) 0 None ts) (made_by (of_first k) left number (value_of g number) 0 None us)
  replaces_first k ts us c b a =
      let v = value_of g number in
      let d = v +ℤ all_totals ts in
      let e = v +ℤ all_totals us in
      let es : List Element = element k (length ts) v 0 ∷ [] in
      let fs : List Element = element k (length us) v 0 ∷ [] in
      let xs : List ℕ = concat (map code_of ts) in
      let ys : List ℕ = concat (map code_of us) in
      replaces_over left None d e es fs ts us (node_over left None d 0 None es ts) (node_over left None e 0 None fs us)
      (over_says left None d es ts) (over_says left None e fs us) (same_pad ts us a) (same_spans ts us a)
      (ranks_same d e (inner_code es (map code_of ts)) (inner_code fs (map code_of us)) (1 ∷ k ∷ length ts ∷ xs) (1 ∷ k ∷ length us ∷ ys) (first_codes k v 0 ts) (first_codes k v 0 us)
      (ranks_by d e xs ys (1 ∷ k ∷ length ts ∷ xs) (1 ∷ k ∷ length us ∷ ys)
      (λ l. leads_head 1 1 (k ∷ length ts ∷ xs) (k ∷ length us ∷ ys) refl (element_leads k (length ts) (length us) xs ys (same_length ts us a) l))
      (ranks_value v (all_totals ts) (all_totals us) xs ys (all_ranks g ts us c.made b.made a))))

  replaces_next : (k : ℕ) (t u : Tree) (ts us : List Tree) → form_of g left number ≡ of_next k → CanMake g number left p (t ∷ ts) → CanMake g number left p (u ∷ us) → AllReplace (t ∷ ts) (u ∷ us)
      → Replaces (made_by (of_next k) left number (value_of g number) 0 None (t ∷ ts)) (made_by (of_next k) left number (value_of g number) 0 None (u ∷ us))
  replaces_next k t u ts us form c b a =
      let rep = next_is_flat g number left p lawful k form in
      let x = before_flat g number left p lawful k t ts form rep c in
      let y = before_flat g number left p lawful k u us form rep b in
      let v = value_of g number in
      let d = v +ℤ (total_of t +ℤ all_totals ts) in
      let e = v +ℤ (total_of u +ℤ all_totals us) in
      let es : List Element = elements_of t ++ element k (length ts) v (0 - span_of t) ∷ [] in
      let fs : List Element = elements_of u ++ element k (length us) v (0 - span_of u) ∷ [] in
      let ks : List Tree = children_of t ++ ts in
      let ms : List Tree = children_of u ++ us in
      let some_t : 0 < all_spans (children_of t) = omega (arith, first_some g number left p t ts c, x.whole.span) in
      let some_u : 0 < all_spans (children_of u) = omega (arith, first_some g number left p u us b, y.whole.span) in
      let pads : first_pad ks ≡ first_pad ms = pad_append (children_of t) ts some_t ∙ sym x.whole.pad ∙ a.0.pad ∙ y.whole.pad ∙ sym (pad_append (children_of u) us some_u) in
      let spans : all_spans ks ≡ all_spans ms =
      omega (arith, all_spans_append (children_of t) ts, all_spans_append (children_of u) us, x.whole.span, y.whole.span, same_span t u a.0, same_spans ts us a.1) in
      let n = length (elements_of t) in
      let m = length (elements_of u) in
      let xs : List ℕ = element_codes (elements_of t) (map code_of (children_of t)) in
      let ys : List ℕ = element_codes (elements_of u) (map code_of (children_of u)) in
      let vs : List ℕ = concat (map code_of ts) in
      let ws : List ℕ = concat (map code_of us) in
      let own : Ranks (total_of t) (n ∷ xs) (total_of u) (m ∷ ys) =
      ranks_by (total_of t) (total_of u) (left ∷ 0 ∷ pad_of t ∷ size_of t ∷ n ∷ xs) (left ∷ 0 ∷ pad_of u ∷ size_of u ∷ m ∷ ys) (n ∷ xs) (m ∷ ys)
      (λ l. flat_leads left 0 (pad_of t) (size_of t) (pad_of u) (size_of u) (n ∷ xs) (m ∷ ys) a.0.pad a.0.size l)
      (ranks_same (total_of t) (total_of u) (left ∷ 0 ∷ pad_of t ∷ size_of t ∷ n ∷ xs) (left ∷ 0 ∷ pad_of u ∷ size_of u ∷ m ∷ ys) (code_of t) (code_of u) (sym x.code_is) (sym y.code_is)
      (tree_ranks g t u c.made.0 b.made.0 a.0)) in
      let added : Ranks (all_totals ts) (k ∷ length ts ∷ vs) (all_totals us) (k ∷ length us ∷ ws) =
      ranks_by (all_totals ts) (all_totals us) vs ws (k ∷ length ts ∷ vs) (k ∷ length us ∷ ws)
      (λ l. element_leads k (length ts) (length us) vs ws (same_length ts us a.1) l) (all_ranks g ts us c.made.1 b.made.1 a.1) in
      let both : Ranks (total_of t +ℤ all_totals ts) (n ∷ (xs ++ k ∷ length ts ∷ vs)) (total_of u +ℤ all_totals us) (m ∷ (ys ++ k ∷ length us ∷ ws)) =
      ranks_join (total_of t) (total_of u) (all_totals ts) (all_totals us) (n ∷ xs) (m ∷ ys) (k ∷ length ts ∷ vs) (k ∷ length us ∷ ws) own added in
      replaces_over left None d e es fs ks ms (node_over left None d 0 None es ks) (node_over left None e 0 None fs ms)
      (over_says left None d es ks) (over_says left None e fs ms) pads spans
      (ranks_same d e (inner_code es (map code_of ks)) (inner_code fs (map code_of ms)) ((1 + n) ∷ (xs ++ k ∷ length ts ∷ vs)) ((1 + m) ∷ (ys ++ k ∷ length us ∷ ws))
      (next_codes g left k v (0 - span_of t) t ts x) (next_codes g left k v (0 - span_of u) u us y)
      (ranks_by d e (n ∷ (xs ++ k ∷ length ts ∷ vs)) (m ∷ (ys ++ k ∷ length us ∷ ws)) ((1 + n) ∷ (xs ++ k ∷ length ts ∷ vs)) ((1 + m) ∷ (ys ++ k ∷ length us ∷ ws))
      (λ l. leads_raised 1 n m (xs ++ k ∷ length ts ∷ vs) (ys ++ k ∷ length us ∷ ws) l)
      (ranks_value v (total_of t +ℤ all_totals ts) (total_of u +ℤ all_totals us) (n ∷ (xs ++ k ∷ length ts ∷ vs)) (m ∷ (ys ++ k ∷ length us ∷ ws)) both)))

  replaces_by_form : (f : Form) (ts us : List Tree) → form_of g left number ≡ f → CanMake g number left p ts → CanMake g number left p us → AllReplace ts us
      → Replaces (made_by f left number (value_of g number) 0 None ts) (made_by f left number (value_of g number) 0 None us)
  replaces_by_form of_rule ts us e c b a = replaces_rule ts us c b a
  replaces_by_form (of_first k) ts us e c b a = replaces_first k ts us c b a
  replaces_by_form (of_next k) [] us e c b a = absurd (no_children g number left p lawful k e c)
  replaces_by_form (of_next k) (t ∷ ts) [] e c b a = absurd a
  replaces_by_form (of_next k) (t ∷ ts) (u ∷ us) e c b a = replaces_next k t u ts us e c b a

  pub replaces_reduced : (ts us : List Tree) → CanMake g number left p ts → CanMake g number left p us → AllReplace ts us → Replaces (reduced g number 0 None ts) (reduced g number 0 None us)
  replaces_reduced ts us c b a =
      subst (λ (s : ℕ). Replaces (made_by (form_of g s number) s number (value_of g number) 0 None ts) (made_by (form_of g s number) s number (value_of g number) 0 None us))
      (sym (left_is g number left p lawful c.at))
      (replaces_by_form (form_of g left number) ts us refl c b a)

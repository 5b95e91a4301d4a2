-- Of two roots of which one replaces the other, with extras before and after them, the accepted trees stand in their order.
use Rattle.std.proofs.Common.{◌≡◌, ◌∙◌, sym, ap, refl, subst, ℕ, ◌+◌, ◌-◌, ◌<◌, ◌⊎◌, inl, inr, ⊎_elim, Bool, true, false, true≢false, List, [], ◌∷◌, ◌++◌, length, length-append, map, Option, unwrap_or, arith}
use Rattle.std.specs.List.{concat}
use Rattle.std.proofs.lemmas.List.{length-map}
use Rattle.std.proofs.lemmas.List.Folds.{concat-append}
use Rattle.ts_core.specs.declared.flat.FlatGrammar.{FlatGrammar}
use Rattle.spec_grammar.specs.Symbols.{start_symbol, is_repetition}
use Rattle.spec_trees.specs.declared.tree.Tree.{Tree}
use Rattle.spec_trees.specs.declared.tree.Element.{Element}
use Rattle.spec_trees.specs.Trees.{symbol_of, production_of, pad_of, size_of, elements_of, children_of, total_of, span_of, all_spans, first_pad}
use Rattle.spec_trees.specs.Made.{accepted}
use Rattle.spec_trees.specs.Choice.{code_of, inner_code, has_form, Better}
use Rattle.spec_runs.specs.Configurations.{AreExtras}
use Rattle.spec_packing.specs.Replacing.{Replaces, AllReplace}
use Rattle.spec_packing.proofs.CodeLemmas.{Leads, leads_head, leads_tail, leads_step, leads_raised, leads_join}
use Rattle.spec_packing.proofs.RankLemmas.{ranks_not, ranks_by}
use Rattle.spec_packing.proofs.ReplaceLemmas.{same_length, same_spans, same_pad, same_span}
use Rattle.spec_packing.proofs.MadeLemmas.{IsMade, AllMade, IsPlain, IsWhole, over_says, code_is, map_append, all_spans_append}
use Rattle.spec_packing.proofs.ReducedLemmas.{tree_ranks}

-- ---- extras

plain_code : (t : Tree) → IsPlain t → code_of t ≡ symbol_of t ∷ 0 ∷ pad_of t ∷ size_of t ∷ 0 ∷ []
plain_code t p =
    code_is t
    ∙ ap (λ (o : Option ℕ). symbol_of t ∷ unwrap_or o 0 ∷ pad_of t ∷ size_of t ∷ inner_code (elements_of t) (map code_of (children_of t))) p.production
    ∙ ap (λ (es : List Element). symbol_of t ∷ 0 ∷ pad_of t ∷ size_of t ∷ inner_code es (map code_of (children_of t))) p.elements
    ∙ ap (λ (ks : List Tree). symbol_of t ∷ 0 ∷ pad_of t ∷ size_of t ∷ inner_code [] (map code_of ks)) p.children

same_four : (a b c d x y : ℕ) → a ≡ b → c ≡ d → x ≡ y → a ∷ 0 ∷ c ∷ x ∷ 0 ∷ [] ≡ b ∷ 0 ∷ d ∷ y ∷ 0 ∷ []
same_four a b c d x y e f h = cc

extra_codes : (g : FlatGrammar) (ts us : List Tree) → AllMade g ts → AllMade g us → AreExtras ts → AreExtras us → AllReplace ts us → map code_of ts ≡ map code_of us
extra_codes g [] [] m n x y a = refl
extra_codes g [] (u ∷ us) m n x y a = absurd a
extra_codes g (t ∷ ts) [] m n x y a = absurd a
extra_codes g (t ∷ ts) (u ∷ us) m n x y a =
    let here : code_of t ≡ code_of u =
    plain_code t (m.0.extra x.0) ∙ same_four (symbol_of t) (symbol_of u) (pad_of t) (pad_of u) (size_of t) (size_of u) a.0.symbol a.0.pad a.0.size ∙ sym (plain_code u (n.0.extra y.0)) in
    let rest : map code_of ts ≡ map code_of us = extra_codes g ts us m.1 n.1 x.1 y.1 a.1 in
    let whole : code_of t ∷ map code_of ts ≡ code_of u ∷ map code_of us = cc in whole

-- ---- the root alone

no_elements : (b : Bool) (es : List Element) → b ≡ false → has_form b es ≡ true → es ≡ []
no_elements b [] plain form = refl
no_elements true (e ∷ es) plain form = absurd (true≢false plain)
no_elements false (e ∷ es) plain form = absurd (true≢false (sym form))

-- the first pad of a root's children between extras
root_pads : (bt ct at bu cu au : List Tree) → AllReplace bt bu → AllReplace at au → (first_pad ct ≡ first_pad cu) → ((ct ≡ []) → (cu ≡ [])) → ((cu ≡ []) → (ct ≡ [])) → first_pad ((bt ++ ct) ++ at) ≡ first_pad ((bu ++ cu) ++ au)
root_pads [] [] at [] [] au b a pads there back = same_pad at au a
root_pads [] [] at [] (u ∷ cu) au b a pads there back = absurd (let h : u ∷ cu ≡ [] = there refl in cc)
root_pads [] (t ∷ ct) at [] [] au b a pads there back = absurd (let h : t ∷ ct ≡ [] = back refl in cc)
root_pads [] (t ∷ ct) at [] (u ∷ cu) au b a pads there back = pads
root_pads [] ct at (y ∷ bu) cu au b a pads there back = absurd b
root_pads (x ∷ bt) ct at [] cu au b a pads there back = absurd b
root_pads (x ∷ bt) ct at (y ∷ bu) cu au b a pads there back = b.0.pad

-- where a node has as many bytes as another, both have children or neither has
childless : (t u : Tree) → IsWhole t → span_of t ≡ span_of u → (0 < span_of u) ⊎ (children_of u ≡ []) → children_of t ≡ [] → children_of u ≡ []
childless t u w spans (inr none) e = none
childless t u w spans (inl some) e = absurd (let z : all_spans (children_of t) ≡ 0 = ap all_spans e in omega (arith, w.span, spans, some, z))

-- ---- the accepted trees

module _ (g : FlatGrammar) (plain : is_repetition g (start_symbol g) ≡ false) (t u : Tree) (bt at bu au : List Tree) (mt : IsMade g t) (mu : IsMade g u) (start : symbol_of u ≡ start_symbol g) (s : Replaces t u)
    (mbt : AllMade g bt) (mbu : AllMade g bu) (mat : AllMade g at) (mau : AllMade g au) (xbt : AreExtras bt) (xbu : AreExtras bu) (xat : AreExtras at) (xau : AreExtras au) (b : AllReplace bt bu) (a : AllReplace at au) where
  start_t : symbol_of t ≡ start_symbol g
  start_t = s.symbol ∙ start

  elements_t : elements_of t ≡ []
  elements_t = no_elements (is_repetition g (symbol_of t)) (elements_of t) (ap (is_repetition g) start_t ∙ plain) mt.form

  elements_u : elements_of u ≡ []
  elements_u = no_elements (is_repetition g (symbol_of u)) (elements_of u) (ap (is_repetition g) start ∙ plain) mu.form

  whole_t : IsWhole t
  whole_t = mt.whole (omega (arith, start_t))

  whole_u : IsWhole u
  whole_u = mu.whole (omega (arith, start))

  abbrev kids_t : List Tree
  kids_t = (bt ++ children_of t) ++ at

  abbrev kids_u : List Tree
  kids_u = (bu ++ children_of u) ++ au

  pads : first_pad kids_t ≡ first_pad kids_u
  pads = root_pads bt (children_of t) at bu (children_of u) au b a (sym whole_t.pad ∙ s.pad ∙ whole_u.pad)
      (childless t u whole_t (same_span t u s) (⊎_elim (λ h. inl h) (λ h. inr h.1) mu.some))
      (childless u t whole_u (sym (same_span t u s)) (⊎_elim (λ h. inl h) (λ h. inr h.1) mt.some))

  spans : all_spans kids_t ≡ all_spans kids_u
  spans = omega (
    arith,
    all_spans_append (bt ++ children_of t) at,
    all_spans_append bt (children_of t),
    all_spans_append (bu ++ children_of u) au,
    all_spans_append bu (children_of u),
    whole_t.span,
    whole_u.span,
    same_span t u s,
    same_spans bt bu b,
    same_spans at au a,
  )

  sizes : all_spans kids_t - first_pad kids_t ≡ all_spans kids_u - first_pad kids_u
  sizes = omega (arith, pads, spans)

  -- the code of children between extras
  split_code : (before ks after : List Tree) → concat (map code_of ((before ++ ks) ++ after)) ≡ (concat (map code_of before) ++ concat (map code_of ks)) ++ concat (map code_of after)
  split_code before ks after =
      ap concat (map_append (before ++ ks) after ∙ ap (λ (l : List (List ℕ)). l ++ map code_of after) (map_append before ks))
      ∙ concat-append (map code_of before ++ map code_of ks) (map code_of after)
      ∙ ap (λ (l : List ℕ). l ++ concat (map code_of after)) (concat-append (map code_of before) (map code_of ks))

  abbrev own : Tree → List ℕ
  own x = concat (map code_of (children_of x))

  -- the code of a root
  root_code : (x : Tree) → elements_of x ≡ [] → symbol_of x ≡ start_symbol g → code_of x ≡ start_symbol g ∷ unwrap_or (production_of x) 0 ∷ pad_of x ∷ size_of x ∷ length (children_of x) ∷ own x
  root_code x none is =
      code_is x
      ∙ ap (λ (n : ℕ). n ∷ unwrap_or (production_of x) 0 ∷ pad_of x ∷ size_of x ∷ inner_code (elements_of x) (map code_of (children_of x))) is
      ∙ ap (λ (es : List Element). start_symbol g ∷ unwrap_or (production_of x) 0 ∷ pad_of x ∷ size_of x ∷ inner_code es (map code_of (children_of x))) none
      ∙ ap (λ (n : ℕ). start_symbol g ∷ unwrap_or (production_of x) 0 ∷ pad_of x ∷ size_of x ∷ n ∷ own x) (length-map (children_of x) code_of)

  -- what follows the size in the code of an accepted root
  inner_is : (before ks after : List Tree) → inner_code [] (map code_of ((before ++ ks) ++ after))
      ≡ ((length before + length after) + length ks) ∷ ((concat (map code_of before) ++ concat (map code_of ks)) ++ concat (map code_of after))
  inner_is before ks after =
      ap (λ (n : ℕ). n ∷ concat (map code_of ((before ++ ks) ++ after)))
      (length-map ((before ++ ks) ++ after) code_of ∙ omega (arith, length-append (before ++ ks) after, length-append before ks))
      ∙ ap (λ (l : List ℕ). ((length before + length after) + length ks) ∷ l) (split_code before ks after)

  abbrev between_t : List ℕ
  between_t = (concat (map code_of bt) ++ own t) ++ concat (map code_of at)

  abbrev between_u : List ℕ
  between_u = (concat (map code_of bu) ++ own u) ++ concat (map code_of au)

  many : length bt + length at ≡ length bu + length au
  many = omega (arith, same_length bt bu b, same_length at au a)

  inner_leads : Leads (length (children_of t) ∷ own t) (length (children_of u) ∷ own u) → Leads (inner_code [] (map code_of kids_t)) (inner_code [] (map code_of kids_u))
  inner_leads l =
      let raised : Leads (((length bt + length at) + length (children_of t)) ∷ own t) (((length bt + length at) + length (children_of u)) ∷ own u) =
      leads_raised (length bt + length at) (length (children_of t)) (length (children_of u)) (own t) (own u) l in
      let wide : Leads (((length bt + length at) + length (children_of t)) ∷ between_t) (((length bt + length at) + length (children_of u)) ∷ between_u) =
      leads_step ((length bt + length at) + length (children_of t)) ((length bt + length at) + length (children_of u)) (own t) (own u) between_t between_u raised (λ e h.
      leads_join (concat (map code_of bt) ++ own t) (concat (map code_of bu) ++ own u) (concat (map code_of at)) (concat (map code_of au))
      (leads_join (concat (map code_of bt)) (concat (map code_of bu)) (own t) (own u) (inl (ap concat (extra_codes g bt bu mbt mbu xbt xbu b))) h)
      (inl (ap concat (extra_codes g at au mat mau xat xau a)))) in
      subst (λ (x : List ℕ). Leads x (inner_code [] (map code_of kids_u))) (sym (inner_is bt (children_of t) at))
      (subst (λ (x : List ℕ). Leads (((length bt + length at) + length (children_of t)) ∷ between_t) x) (sym (inner_is bu (children_of u) au))
      (subst (λ (n : ℕ). Leads (((length bt + length at) + length (children_of t)) ∷ between_t) ((n + length (children_of u)) ∷ between_u)) many wide))

  abbrev number_of : Tree → ℕ
  number_of x = unwrap_or (production_of x) 0

  accepted_leads : Leads (code_of t) (code_of u)
      → Leads (symbol_of t ∷ number_of t ∷ first_pad kids_t ∷ (all_spans kids_t - first_pad kids_t) ∷ inner_code [] (map code_of kids_t)) (symbol_of u ∷ number_of u ∷ first_pad kids_u ∷ (all_spans kids_u - first_pad kids_u) ∷ inner_code [] (map code_of kids_u))
  accepted_leads l =
      let both : Leads (start_symbol g ∷ number_of t ∷ pad_of t ∷ size_of t ∷ length (children_of t) ∷ own t) (start_symbol g ∷ number_of u ∷ pad_of u ∷ size_of u ∷ length (children_of u) ∷ own u) =
      subst (λ (x : List ℕ). Leads x (start_symbol g ∷ number_of u ∷ pad_of u ∷ size_of u ∷ length (children_of u) ∷ own u)) (root_code t elements_t start_t)
      (subst (λ (x : List ℕ). Leads (code_of t) x) (root_code u elements_u start) l) in
      leads_head (symbol_of t) (symbol_of u) (number_of t ∷ first_pad kids_t ∷ (all_spans kids_t - first_pad kids_t) ∷ inner_code [] (map code_of kids_t)) (number_of u ∷ first_pad kids_u ∷ (all_spans kids_u - first_pad kids_u) ∷ inner_code [] (map code_of kids_u)) s.symbol
      (leads_step (number_of t) (number_of u) (pad_of t ∷ size_of t ∷ length (children_of t) ∷ own t) (pad_of u ∷ size_of u ∷ length (children_of u) ∷ own u)
      (first_pad kids_t ∷ (all_spans kids_t - first_pad kids_t) ∷ inner_code [] (map code_of kids_t)) (first_pad kids_u ∷ (all_spans kids_u - first_pad kids_u) ∷ inner_code [] (map code_of kids_u))
      (leads_tail (start_symbol g) (start_symbol g) (number_of t ∷ pad_of t ∷ size_of t ∷ length (children_of t) ∷ own t) (number_of u ∷ pad_of u ∷ size_of u ∷ length (children_of u) ∷ own u) refl both)
      (λ e h.
      leads_head (first_pad kids_t) (first_pad kids_u) ((all_spans kids_t - first_pad kids_t) ∷ inner_code [] (map code_of kids_t)) ((all_spans kids_u - first_pad kids_u) ∷ inner_code [] (map code_of kids_u)) pads
      (leads_head (all_spans kids_t - first_pad kids_t) (all_spans kids_u - first_pad kids_u) (inner_code [] (map code_of kids_t)) (inner_code [] (map code_of kids_u)) sizes
      (inner_leads
      (leads_tail (size_of t) (size_of u) (length (children_of t) ∷ own t) (length (children_of u) ∷ own u) s.size
      (leads_tail (pad_of t) (pad_of u) (size_of t ∷ length (children_of t) ∷ own t) (size_of u ∷ length (children_of u) ∷ own u) s.pad h))))))

  -- the accepted tree of the second is not better
  pub accepted_replaces : Better (accepted u bu au 0) (accepted t bt at 0) → ⊥
  accepted_replaces =
      let o = over_says (symbol_of t) (production_of t) (total_of t) [] kids_t in
      let q = over_says (symbol_of u) (production_of u) (total_of u) [] kids_u in
      ranks_not (accepted t bt at 0) (accepted u bu au 0) (total_of t) (total_of u)
      (symbol_of t ∷ number_of t ∷ first_pad kids_t ∷ (all_spans kids_t - first_pad kids_t) ∷ inner_code [] (map code_of kids_t))
      (symbol_of u ∷ number_of u ∷ first_pad kids_u ∷ (all_spans kids_u - first_pad kids_u) ∷ inner_code [] (map code_of kids_u))
      o.total_is q.total_is o.code_is q.code_is
      (ranks_by (total_of t) (total_of u) (code_of t) (code_of u)
      (symbol_of t ∷ number_of t ∷ first_pad kids_t ∷ (all_spans kids_t - first_pad kids_t) ∷ inner_code [] (map code_of kids_t))
      (symbol_of u ∷ number_of u ∷ first_pad kids_u ∷ (all_spans kids_u - first_pad kids_u) ∷ inner_code [] (map code_of kids_u))
      accepted_leads (tree_ranks g t u mt mu s))

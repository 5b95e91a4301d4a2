-- The tokens and separators of a normal form are fit.
use Rattle.std.proofs.Common.{◌≡◌, ◌∙◌, sym, ap, subst, refl, ℕ, ◌^◌, ◌<◌, ⊎_elim, Bool, true, false, List, [], ◌∷◌, map, length, slice_get, Some, None, option_map, All, arith, chars, IsUtf8}
use Rattle.std.specs.List.{Contains}
use Rattle.std.proofs.lemmas.List.{length-map}
use Rattle.std.proofs.lemmas.List.Elements.{All-contains, Contains-append_left, Contains-append_right}
use Rattle.std.proofs.lemmas.Str.{scalars-chars}
use lib.Utf8.{scalar, scalars, scalar_cases}
use Rattle.ts_base.specs.Bytes.{Bytes}
use Rattle.ts_core.specs.declared.flat.FlatGrammar.{FlatGrammar}
use Rattle.ts_core.specs.declared.flat.TokenDef.{TokenDef}
use Rattle.ts_core.specs.declared.re.Re.{Re}
use Rattle.ts_core.specs.declared.rule.Grammar.{Grammar}
use Rattle.ts_core.specs.declared.rule.Rule.{Rule}
use Rattle.ts_core.specs.declared.rule.Rule.TheBlock.{the_family, member-Rule}
use Rattle.ts_core.specs.declared.rule.Rule.TheFolds.{ind-Rule, map-Rule, claims, para-roll-Rule, fold-roll-Rule}
use Rattle.ts_core.specs.declared.rule.Rule.TheOpen.{Rule-F}
use Rattle.ts_core.specs.declared.rule.Rule.TheVariants as rule
use Rattle.ts_core.specs.declared.rule.Rule.TheVariants.{rolls-Literal}
use Rattle.ts_core.specs.declared.rule.Rule.TheViews.{roll-Rule, out-Rule, out-roll-Rule}
use Rattle.spec_tables.specs.Fit.{Never, IsShort, IsFitRe, IsFitToken}
use Rattle.ts_pattern.specs.Reads.{Reads}
use Rattle.ts_rules.specs.FileGrammar.{IsFileGrammar, IsSmallLayer, IsSmallSight}
use Rattle.ts_rules.specs.FirstSights.{Not}
use Rattle.ts_rules.specs.Normal.{IsNormal, IsTokenExtra}
use Rattle.ts_rules.specs.Productions.{symbol}
use Rattle.ts_rules.specs.Sights.{NamedRule, Sight, SeenBelow, seen_all, below, below_step, sights, sights_within, rule_sights, extra_sights, walk, tokens_in, patterns_in, pattern_layer}
use Rattle.ts_rules.specs.Tokens.{Patterns, Core, text, core, core_step, core_name, is_text, IsTokenDef, tree_re, re_step, cat_of, alt_of, one_char}
use Rattle.ts_normalise.specs.Texts.{IsFitText, HasFitText, HasFitTexts}
use Rattle.ts_normalise.proofs.UsedLemmas.{walk_has}
use Rattle.ts_normalise.proofs.InsideLemmas.{token_seen}
use Rattle.ts_normalise.proofs.ListLemmas.{there, at_of, head_in, tail_in, flat_in, picked}
use Rattle.ts_normalise.proofs.FitLimitLemmas.{few_positions}
use Rattle.ts_normalise.proofs.FitListLemmas.{picks_length}
use Rattle.ts_normalise.proofs.FitPatternLemmas.{Formed, AllFormed, empty_formed, set_formed, cat_formed, alt_formed, repeat_formed, formed_fit, chars_short, reads_formed, SpellingLaw}
use Rattle.ts_normalise.proofs.FitPlaceLemmas.{each_at}
use Rattle.ts_normalise.proofs.FitRefusalLemmas.{IsUnrefused}
use Rattle.ts_normalise.proofs.FitRuleLemmas.{no_empty_token}
use Rattle.ts_normalise.proofs.FitSetLemmas.{and_true, one_fit}
use Rattle.ts_normalise.proofs.FitSightLemmas.{mapped_in}
use Rattle.ts_normalise.proofs.FitStepLemmas.{all_of}
use denote.Hole.Holds.{Such}

abbrev seen_below : Rule → SeenBelow
seen_below r = (r, below r)

-- ---- texts

chars_formed : (cs : List ℕ) → scalars cs ≡ true → AllFormed (map one_char cs)
chars_formed [] e = tt
chars_formed (c ∷ cs) e = let w = and_true (scalar c) (scalars cs) e in (set_formed ((c, c) ∷ []) (one_fit c (scalar_cases c w.0)), chars_formed cs w.1)

cat_of_formed : (rs : List Re) → length rs < 2 ^ 32 → AllFormed rs → Formed (cat_of rs)
cat_of_formed [] few all = empty_formed
cat_of_formed (r ∷ []) few all = all.0
cat_of_formed (r ∷ s ∷ rs) few all = cat_formed (r ∷ s ∷ rs) few all

alt_of_formed : (rs : List Re) → length rs < 2 ^ 32 → AllFormed rs → Formed (alt_of rs)
alt_of_formed [] few all = alt_formed [] few all
alt_of_formed (r ∷ []) few all = all.0
alt_of_formed (r ∷ s ∷ rs) few all = alt_formed (r ∷ s ∷ rs) few all

text_formed : (bytes : Bytes) → IsShort bytes → IsUtf8 bytes → Formed (cat_of (map one_char (chars bytes)))
text_formed bytes short utf8 =
    let fewer = chars_short bytes in
    let same : length (map one_char (chars bytes)) ≡ length (chars bytes) = length-map (chars bytes) one_char in
    cat_of_formed (map one_char (chars bytes)) (omega (arith, short, fewer, same)) (chars_formed (chars bytes) (scalars-chars bytes utf8))

-- ---- the expression of a rule tree

module _ (pattern : Patterns) where
  -- what a rule type holds itself gives an expression that is fit
  abbrev pub IsReady : Rule-F Rule → Type 0
  IsReady Rule-F.Blank = Unit {0}
  IsReady (Rule-F.Literal value) = IsShort value × IsUtf8 value
  IsReady (Rule-F.Pattern value ignore_case) = Formed (pattern value ignore_case)
  IsReady (Rule-F.Symbol name) = Unit {0}
  IsReady (Rule-F.Seq members) = IsShort members
  IsReady (Rule-F.Choice members) = IsShort members
  IsReady (Rule-F.Repeat content) = Unit {0}
  IsReady (Rule-F.Repeat1 content) = Unit {0}
  IsReady (Rule-F.Token content) = Unit {0}
  IsReady (Rule-F.ImmediateToken content) = Unit {0}
  IsReady (Rule-F.Field name content) = Unit {0}
  IsReady (Rule-F.Alias content named value) = Unit {0}
  IsReady (Rule-F.Prec value content) = Unit {0}
  IsReady (Rule-F.PrecLeft value content) = Unit {0}
  IsReady (Rule-F.PrecRight value content) = Unit {0}
  IsReady (Rule-F.PrecDynamic value content) = Unit {0}

  abbrev pub AreReady : List Sight → Type 0
  AreReady all = (s : Sight) → Contains all s → IsReady (out-Rule s.tree)

  abbrev IsTold : Rule → Type 0
  IsTold t = (inside : Bool) → AreReady (sights_within t inside) → Formed (tree_re pattern t)

  abbrev Child : Type 0
  Child = Such the_family (claims IsTold) member-Rule

  abbrev inner : Child → Rule
  inner child = child.0

  told_of : (e : Child) (inside : Bool) → AreReady (sights_within (inner e) inside) → Formed (tree_re pattern (inner e))
  told_of e inside h = let k : IsTold e.0 = e.1 in k inside h

  all_told : (es : List Child) (inside : Bool) → AreReady (seen_all (map seen_below (map inner es)) inside) → AllFormed (map (tree_re pattern) (map inner es))
  all_told [] inside h = tt
  all_told (e ∷ es) inside h = (
    told_of e inside (λ s w. h s (Contains-append_left (sights_within (inner e) inside) (seen_all (map seen_below (map inner es)) inside) s w)),
    all_told es inside (λ s w. h s (Contains-append_right (sights_within (inner e) inside) (seen_all (map seen_below (map inner es)) inside) s w)),
  )

  short_parts : (trees : List Rule) → IsShort trees → length (map (tree_re pattern) trees) < 2 ^ 32
  short_parts trees short = let same : length (map (tree_re pattern) trees) ≡ length trees = length-map trees (tree_re pattern) in omega (arith, short, same)

  layer_told : (y : Rule-F Child) (inside : Bool) → IsReady (map-Rule Child Rule inner y) → AreReady (below_step (map-Rule Rule SeenBelow seen_below (map-Rule Child Rule inner y)) inside)
      → Formed (re_step pattern (map-Rule Rule Re (tree_re pattern) (map-Rule Child Rule inner y)))
  layer_told Rule-F.Blank inside h k = empty_formed
  layer_told (Rule-F.Literal value) inside h k = text_formed value h.0 h.1
  layer_told (Rule-F.Pattern value ignore_case) inside h k = h
  layer_told (Rule-F.Symbol name) inside h k = empty_formed
  layer_told (Rule-F.Seq es) inside h k = cat_of_formed (map (tree_re pattern) (map inner es)) (short_parts (map inner es) h) (all_told es inside k)
  layer_told (Rule-F.Choice es) inside h k = alt_of_formed (map (tree_re pattern) (map inner es)) (short_parts (map inner es) h) (all_told es inside k)
  layer_told (Rule-F.Repeat e) inside h k = repeat_formed (tree_re pattern (inner e)) 0 None tt (told_of e inside k)
  layer_told (Rule-F.Repeat1 e) inside h k = repeat_formed (tree_re pattern (inner e)) 1 None tt (told_of e inside k)
  layer_told (Rule-F.Token e) inside h k = told_of e true k
  layer_told (Rule-F.ImmediateToken e) inside h k = told_of e true k
  layer_told (Rule-F.Field name e) inside h k = told_of e inside k
  layer_told (Rule-F.Alias e named value) inside h k = told_of e inside k
  layer_told (Rule-F.Prec value e) inside h k = told_of e inside k
  layer_told (Rule-F.PrecLeft value e) inside h k = told_of e inside k
  layer_told (Rule-F.PrecRight value e) inside h k = told_of e inside k
  layer_told (Rule-F.PrecDynamic value e) inside h k = told_of e inside k

  rolled_told : (y : Rule-F Child) → IsTold (roll-Rule (map-Rule Child Rule inner y))
  rolled_told y inside h =
      let x = map-Rule Child Rule inner y in
      let top : Sight = record { tree = roll-Rule x; inside = inside } in
      let seen : below (roll-Rule x) inside ≡ below_step (map-Rule Rule SeenBelow seen_below x) inside
      = ap (λ (f : Bool → List Sight). f inside) (para-roll-Rule (Bool → List Sight) below_step x) in
      let here : IsReady x = subst (λ (z : Rule-F Rule). IsReady z) (out-roll-Rule x) (h top (head_in top (below (roll-Rule x) inside))) in
      let rest : AreReady (below_step (map-Rule Rule SeenBelow seen_below x) inside)
      = λ s w. h s (tail_in top s (below (roll-Rule x) inside) (subst (λ (all : List Sight). Contains all s) (sym seen) w)) in
      subst Formed (sym (fold-roll-Rule Re (re_step pattern) x)) (layer_told y inside here rest)

  pub tree_formed : (t : Rule) → AreReady (sights t) → Formed (tree_re pattern t)
  tree_formed t h = ind-Rule IsTold (λ x y e. subst (λ (z : Rule-F Rule). IsTold (roll-Rule z)) e (rolled_told y)) t false h

-- ---- the name of a token that no rule names

abbrev AreSmall : List Sight → Type 0
AreSmall all = (s : Sight) → Contains all s → IsSmallSight s

abbrev HasShortCore : Rule → Type 0
HasShortCore t = (inside : Bool) → AreSmall (sights_within t inside) → IsShort (core_name (core t))

abbrev CoreChild : Type 0
CoreChild = Such the_family (claims HasShortCore) member-Rule

abbrev core_inner : CoreChild → Rule
core_inner child = child.0

core_of : (e : CoreChild) (inside : Bool) → AreSmall (sights_within (core_inner e) inside) → IsShort (core_name (core (core_inner e)))
core_of e inside h = let k : HasShortCore e.0 = e.1 in k inside h

no_name : IsShort {X = ℕ} []
no_name = omega arith

core_layer : (y : Rule-F CoreChild) (inside : Bool) → IsSmallLayer (map-Rule CoreChild Rule core_inner y) → AreSmall (below_step (map-Rule Rule SeenBelow seen_below (map-Rule CoreChild Rule core_inner y)) inside)
    → IsShort (core_name (core_step (map-Rule Rule Core core (map-Rule CoreChild Rule core_inner y))))
core_layer Rule-F.Blank inside h k = no_name
core_layer (Rule-F.Literal value) inside h k = h
core_layer (Rule-F.Pattern value ignore_case) inside h k = h
core_layer (Rule-F.Symbol name) inside h k = no_name
core_layer (Rule-F.Seq es) inside h k = no_name
core_layer (Rule-F.Choice es) inside h k = no_name
core_layer (Rule-F.Repeat e) inside h k = no_name
core_layer (Rule-F.Repeat1 e) inside h k = no_name
core_layer (Rule-F.Token e) inside h k = core_of e true k
core_layer (Rule-F.ImmediateToken e) inside h k = core_of e true k
core_layer (Rule-F.Field name e) inside h k = no_name
core_layer (Rule-F.Alias e named value) inside h k = no_name
core_layer (Rule-F.Prec value e) inside h k = core_of e inside k
core_layer (Rule-F.PrecLeft value e) inside h k = core_of e inside k
core_layer (Rule-F.PrecRight value e) inside h k = core_of e inside k
core_layer (Rule-F.PrecDynamic value e) inside h k = core_of e inside k

core_rolled : (y : Rule-F CoreChild) → HasShortCore (roll-Rule (map-Rule CoreChild Rule core_inner y))
core_rolled y inside h =
    let x = map-Rule CoreChild Rule core_inner y in
    let top : Sight = record { tree = roll-Rule x; inside = inside } in
    let seen : below (roll-Rule x) inside ≡ below_step (map-Rule Rule SeenBelow seen_below x) inside
    = ap (λ (f : Bool → List Sight). f inside) (para-roll-Rule (Bool → List Sight) below_step x) in
    let here : IsSmallLayer x = subst (λ (z : Rule-F Rule). IsSmallLayer z) (out-roll-Rule x) (h top (head_in top (below (roll-Rule x) inside))) in
    let rest : AreSmall (below_step (map-Rule Rule SeenBelow seen_below x) inside)
    = λ s w. h s (tail_in top s (below (roll-Rule x) inside) (subst (λ (all : List Sight). Contains all s) (sym seen) w)) in
    subst (λ (c : Core). IsShort (core_name c)) (sym (fold-roll-Rule Core core_step x)) (core_layer y inside here rest)

core_short : (t : Rule) → AreSmall (sights t) → IsShort (core_name (core t))
core_short t h = ind-Rule HasShortCore (λ x y e. subst (λ (z : Rule-F Rule). HasShortCore (roll-Rule z)) e (core_rolled y)) t false h

core_literal : (value : Bytes) → core (rule.Literal value) ≡ text value
core_literal value = ap core (sym (rolls-Literal value)) ∙ fold-roll-Rule Core core_step (Rule-F.Literal value)

-- ---- tokens and separators

module _ (law : SpellingLaw) (g : Grammar) (f : FlatGrammar) (normal : IsNormal Reads g f) (file : IsFileGrammar g) (texts : HasFitTexts g) where
  small_at : (s : Sight) (layer : Rule-F Rule) → Contains (walk g) s → out-Rule s.tree ≡ layer → IsSmallLayer layer
  small_at s layer w e = subst (λ (z : Rule-F Rule). IsSmallLayer z) e (All-contains IsSmallSight (walk g) s file.small w)

  text_at : (s : Sight) (layer : Rule-F Rule) → Contains (walk g) s → out-Rule s.tree ≡ layer → IsFitText layer
  text_at s layer w e = subst (λ (z : Rule-F Rule). IsFitText z) e (All-contains HasFitText (walk g) s texts w)

  ready : (s : Sight) (layer : Rule-F Rule) → Contains (walk g) s → out-Rule s.tree ≡ layer → IsReady normal.pattern layer
  ready s Rule-F.Blank w e = tt
  ready s (Rule-F.Literal value) w e = (small_at s (Rule-F.Literal value) w e, text_at s (Rule-F.Literal value) w e)
  ready s (Rule-F.Pattern value ignore_case) w e =
      let here : Contains (pattern_layer (out-Rule s.tree)) (value, ignore_case)
      = subst (λ (z : Rule-F Rule). Contains (pattern_layer z) (value, ignore_case)) (sym e) (head_in (value, ignore_case) []) in
      let seen : Contains (patterns_in (walk g)) (value, ignore_case) = flat_in (λ (v : Sight). pattern_layer (out-Rule v.tree)) (walk g) s (value, ignore_case) w here in
      reads_formed law value ignore_case (normal.pattern value ignore_case) (normal.are_patterns (value, ignore_case) seen) (text_at s (Rule-F.Pattern value ignore_case) w e)
  ready s (Rule-F.Symbol name) w e = tt
  ready s (Rule-F.Seq members) w e = small_at s (Rule-F.Seq members) w e
  ready s (Rule-F.Choice members) w e = (small_at s (Rule-F.Choice members) w e).0
  ready s (Rule-F.Repeat c) w e = tt
  ready s (Rule-F.Repeat1 c) w e = tt
  ready s (Rule-F.Token c) w e = tt
  ready s (Rule-F.ImmediateToken c) w e = tt
  ready s (Rule-F.Field name c) w e = tt
  ready s (Rule-F.Alias c named value) w e = tt
  ready s (Rule-F.Prec value c) w e = tt
  ready s (Rule-F.PrecLeft value c) w e = tt
  ready s (Rule-F.PrecRight value c) w e = tt
  ready s (Rule-F.PrecDynamic value c) w e = tt

  fit_tree : (t : Rule) → ((s : Sight) → Contains (sights t) s → Contains (walk g) s) → IsFitRe (tree_re normal.pattern t)
  fit_tree t seen = formed_fit (tree_re normal.pattern t) (tree_formed normal.pattern t (λ s w. ready s (out-Rule s.tree) (seen s w) refl))

  token_walked : (t : Rule) → Contains (tokens_in (rule_sights g)) t → (s : Sight) → Contains (sights t) s → Contains (walk g) s
  token_walked t w s v = walk_has g s (token_seen g t w s v)

  extra_walked : (t : Rule) → Contains g.extras t → (s : Sight) → Contains (sights t) s → Contains (walk g) s
  extra_walked t w s v = Contains-append_right (rule_sights g) (extra_sights g) s (flat_in sights g.extras t s w v)

  abbrev IsSeparator : Rule → Type 0
  IsSeparator t = Not (IsTokenExtra g t)

  pub fit_separators : IsShort f.separators × All IsFitRe f.separators
  fit_separators =
      let x = normal.separators in
      let a = picks_length IsSeparator g.extras x.0 x.1 in
      let b : length f.separators ≡ length x.0 = ap (λ (rs : List Re). length rs) x.2 ∙ length-map x.0 (tree_re normal.pattern) in
      let c = file.extras in (
        omega (arith, a, b, c),
        all_of IsFitRe f.separators (λ r w.
            let m = mapped_in (tree_re normal.pattern) x.0 r (subst (λ (rs : List Re). Contains rs r) x.2 w) in
            let p = picked IsSeparator g.extras x.0 m.0 x.1 m.1 in
            subst IsFitRe m.2 (fit_tree m.0 (extra_walked m.0 p.0))),
      )

  module _ (sane : IsUnrefused g) where
    keyword_literal : (t : Rule) (d : TokenDef) → IsTokenDef normal.pattern g t d → d.keyword ≡ true → d.literal ≡ true
    keyword_literal t d h e = let k = h.keyword.0 e in h.literal ∙ ap (λ (z : Rule). is_text (core z)) k.is_string ∙ ap is_text (core_literal k.text)

    keyword_word : (t : Rule) (d : TokenDef) → IsTokenDef normal.pattern g t d → d.keyword ≡ true → Never (f.word ≡ None)
    keyword_word t d h e none =
        let k = h.keyword.0 e in
        let same : Some (symbol (normal.numbers.rule k.word)) ≡ None = ap (option_map (λ (name : Bytes). symbol (normal.numbers.rule name))) (sym k.is_word) ∙ sym normal.word ∙ none in
        cc

    fit_token : (k : ℕ) (d : TokenDef) → slice_get f.tokens k ≡ Some d → IsFitToken f d
    fit_token k d at =
        let t = each_at (IsTokenDef normal.pattern g) normal.lists.tokens f.tokens normal.tokens k d at in
        let h = t.2 in
        let seen : Contains (tokens_in (rule_sights g)) t.0 = normal.are_lists.tokens.only t.0 (there normal.lists.tokens k t.0 t.1) in
        record {
          name = ⊎_elim
              (λ named. All-contains (λ (r : NamedRule). IsShort r.0) g.rules (d.name, t.0) file.names named.rule.is)
              (λ unnamed. subst (λ (name : Bytes). IsShort name) (sym unnamed.name) (core_short t.0 (λ s w. All-contains IsSmallSight (walk g) s file.small (token_walked t.0 seen s w))))
              h.named;
          re = subst IsFitRe (sym h.re) (fit_tree t.0 (token_walked t.0 seen));
          few = few_positions g f normal sane d (there f.tokens k d at);
          filled = λ word. no_empty_token g f normal file sane k (d, at, word);
          literal = keyword_literal t.0 d h;
          word = keyword_word t.0 d h;
        }

    pub fit_tokens : All (IsFitToken f) f.tokens
    fit_tokens = all_of (IsFitToken f) f.tokens (λ d w. fit_token w.0 d (at_of f.tokens d w))
